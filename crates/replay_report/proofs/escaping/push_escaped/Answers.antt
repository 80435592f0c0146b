use Rattle.std.proofs.Common.{◌≡◌, ℕ, ◌+◌, ◌-◌, ◌≤◌, List, ◌++◌, take, drop, arith, append_assoc, ap, sym, ◌∙◌}
use Rattle.std.proofs.lemmas.Grind.{flat_map-append}
use Rattle.extent_bytes.specs.Bytes.{range_of}
use Rattle.replay_report.specs.Report.{escaped, escaped_byte}
use Rattle.replay_report.proofs.SumLemmas.{one_piece_more}
use Rattle.replay_report.proofs.escaping.push_escaped.Goals as goal

-- a path up to a byte, and from there on
escaped_more : (path : List ℕ) (low high : ℕ) → low ≤ high → escaped (take high path) ≡ escaped (take low path) ++ escaped (take (high - low) (drop low path))
unfolding range_of
escaped_more path low high le = ap escaped (one_piece_more path low high le) ∙ flat_map-append escaped_byte (take low path) (take (high - low) (drop low path))

pub loop-done-preserved : goal.loop-done-preserved
loop-done-preserved c =
    let path : List ℕ = c.args.path.now in
    let old : List ℕ = c.args.text.now.items in
    let low : ℕ = c.loop-done.done in
    let high : ℕ = c.loop-done.done + c.min.result in
    let piece : List ℕ = escaped (take (high - low) (drop low path)) in
    record {
      within = omega (arith, c.min.ensures);
      made = c.in_ok-push_block.ensures ∙ ap (λ text. text ++ piece) c.loop-done.invariant.made ∙ append_assoc old (escaped (take low path)) piece ∙ ap (λ text. old ++ text) (sym (escaped_more path low high (omega arith)));
    }
