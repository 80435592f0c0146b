use Rattle.std.proofs.Common.{◌≡◌, ℕ, ◌+◌, List, [], ◌++◌, take, sym, ap, ◌∙◌, arith}
use Rattle.std.specs.Prelude.{unwrap_or}
use Rattle.extent_bytes.specs.Bytes.{range_of}
use Rattle.replay_report.specs.Sums.{held}
use Rattle.replay_report.proofs.SumLemmas.{one_piece_more}
use Rattle.replay_report.proofs.sums.sum_from.Goals as goal

pub loop-done-preserved : goal.loop-done-preserved
loop-done-preserved c =
    let all : List ℕ = unwrap_or (held c.args.world.now c.args.holder) [] in
    let next : ℕ = c.loop-done.done + c.min.result in
    let piece : c.in_ok-piece.piece.items ≡ range_of all c.loop-done.done next = c.in_ok-piece.ensures in
    let more : take next all ≡ take c.loop-done.done all ++ c.in_ok-piece.piece.items =
    one_piece_more all c.loop-done.done next (omega arith) ∙ ap (λ bytes. take c.loop-done.done all ++ bytes) (sym piece) in
    record {
      within = omega arith;
      holds = rw more (c.update.ensures (take c.loop-done.done all) c.loop-done.invariant.holds);
    }
