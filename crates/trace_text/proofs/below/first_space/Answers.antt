use Rattle.std.proofs.Common.{◌==◌, sym, arith}
use Rattle.std.proofs.lemmas.List.Sums.{position_or_len_is}
use Rattle.std.proofs.lemmas.Bool.Decides.{nat_tests}
use Rattle.trace_text.proofs.below.first_space.Goals as goal

pub returns-then-byte-eq32-clause-place : goal.returns-then-byte-eq32-clause-place
returns-then-byte-eq32-clause-place c = sym (position_or_len_is (λ b. b == 32) c.args.bytes.now c.loop-place.place 0
    (omega arith) c.loop-place.invariant (λ lt. grind (arith, nat_tests)))

pub returns-clause-place : goal.returns-clause-place
returns-clause-place c = sym (position_or_len_is (λ b. b == 32) c.args.bytes.now _ 0 (omega arith) (λ k lt. c.loop-place.invariant k (omega arith))
    (λ lt. absurd (omega arith)))
