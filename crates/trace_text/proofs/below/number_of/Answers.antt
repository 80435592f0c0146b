use Rattle.std.proofs.Common.{◌+◌, ap, arith, refl, subst, sym}
use Rattle.std.specs.Prelude.{Some}
use Rattle.trace_text.proofs.Digits.{begins_well, digit_of, not_so, read_all, read_is, AreRead, read_more, read_within}
use Rattle.trace_text.proofs.below.number_of.Goals as goal

pub returns-then-not-begins-clause-all : goal.returns-then-not-begins-clause-all
returns-then-not-begins-clause-all c = λ k lt is. not_so (c.if-not-begins.ensures.1 (begins_well _ k lt is))

pub returns-then-not-is_digit-clause-all : goal.returns-then-not-is_digit-clause-all
returns-then-not-is_digit-clause-all c = λ k lt is. not_so (c.if-not-is_digit.ensures.1 (digit_of _ k c.loop-byte.byte-index lt is c.loop-byte-test.true))

pub returns-in_err-number-clause-all : goal.returns-in_err-number-clause-all
returns-in_err-number-clause-all c = λ k lt is.
    let d = c.if-not-is_digit.ensures.0 refl in
    let few = read_within _ k _ _ lt is (read_more _ _ _ c.loop-byte-test.true d.0 d.1 c.loop-byte.invariant.read) in
    absurd (c.in_err-number.ensures (omega (arith, few)))

pub loop-byte-preserved : goal.loop-byte-preserved
loop-byte-preserved c =
    let d = c.if-not-is_digit.ensures.0 refl in
    let more = read_more _ _ _ c.loop-byte-test.true d.0 d.1 c.loop-byte.invariant.read in
    record {
      read = subst (AreRead c.args.word.now (c.loop-byte.byte-index + 1)) (sym c.in_ok-number.ensures.1) more;
      fits = rw c.in_ok-number.ensures.1 c.in_ok-number.ensures.0;
    }

pub returns-clause-number : goal.returns-clause-number
returns-clause-number c = let b = c.if-not-begins.ensures.0 refl in read_all _ _ _ c.loop-byte-test.false c.loop-byte.invariant.fits b.0 b.1 c.loop-byte.invariant.read

pub returns-clause-all : goal.returns-clause-all
returns-clause-all c = λ k lt is. ap Some (read_is _ k _ _ lt is c.loop-byte-test.false c.loop-byte.invariant.read)
