use Rattle.std.proofs.Common.{◌==◌, sym, arith}
use Rattle.std.proofs.lemmas.List.Sums.{position_or_len_is}
use Rattle.std.proofs.lemmas.Bool.Decides.{nat_tests}
use Rattle.text_lines.proofs.lines.feed_place.Goals as goal

pub returns-then-byte-eq10 : goal.returns-then-byte-eq10
returns-then-byte-eq10 c = sym (position_or_len_is (λ b. b == 10) c.args.bytes.now c.loop-place.place 0
    (omega arith) c.loop-place.invariant (λ lt. grind (arith, nat_tests)))

pub returns : goal.returns
returns c = sym (position_or_len_is (λ b. b == 10) c.args.bytes.now _ 0 (omega arith) (λ k lt. c.loop-place.invariant k (omega arith))
    (λ lt. absurd (omega arith)))
