use Rattle.std.proofs.Common.{◌≡◌, ℕ, List, [], length, replicate, take, arith, sym, ap, subst, ◌∙◌}
use Rattle.std.specs.Prelude.{unwrap_or}
use Rattle.world_parts.specs.World.{buffer}
use Rattle.world_parts.proofs.ByteWords.{size-some}
use Rattle.replay_report.proofs.SumLemmas.{whole_range}
use Rattle.replay_report.proofs.sums.zeros_of_buffer.Goals as goal

pub returns-clause-within : goal.returns-clause-within
returns-clause-within c =
    let all : List ℕ = unwrap_or (buffer c.args.world.now c.args.ring c.args.index) [] in
    let long : length all ≡ c.args.len = size-some (buffer c.args.world.now c.args.ring c.args.index) c.args.len (sym c.requires) in
    let same : c.in_ok-bytes.bytes ≡ all = c.in_ok-bytes.ensures ∙ whole_range all c.args.len long in
    omega (arith, c.zeros_ahead.ensures.within, ap length same, long)

pub returns-clause-zeros : goal.returns-clause-zeros
returns-clause-zeros c =
    let all : List ℕ = unwrap_or (buffer c.args.world.now c.args.ring c.args.index) [] in
    let long : length all ≡ c.args.len = size-some (buffer c.args.world.now c.args.ring c.args.index) c.args.len (sym c.requires) in
    let same : c.in_ok-bytes.bytes ≡ all = c.in_ok-bytes.ensures ∙ whole_range all c.args.len long in
    subst (λ (xs : List ℕ). take c.zeros_ahead.result xs ≡ replicate c.zeros_ahead.result 0) same c.zeros_ahead.ensures.zeros
