use Rattle.std.proofs.Common.{◌==◌, sym, arith}
use Rattle.std.proofs.lemmas.List.Sums.{position_or_len_is}
use Rattle.std.proofs.lemmas.Bool.Decides.{nat_tests}
use Rattle.json_lines.proofs.lines.first_place.Goals as goal

pub returns-then-byte-wanted-clause-place : goal.returns-then-byte-wanted-clause-place
returns-then-byte-wanted-clause-place c = sym (position_or_len_is (λ b. b == c.args.wanted) c.args.bytes.now c.loop-place.place 0
    (omega arith) c.loop-place.invariant (λ lt. grind (arith, nat_tests)))

pub returns-clause-place : goal.returns-clause-place
returns-clause-place c = sym (position_or_len_is (λ b. b == c.args.wanted) c.args.bytes.now _ 0 (omega arith) (λ k lt. c.loop-place.invariant k (omega arith))
    (λ lt. absurd (omega arith)))
