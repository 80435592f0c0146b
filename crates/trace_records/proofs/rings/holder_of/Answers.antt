use Rattle.std.proofs.Common.{◌≡◌, false, refl}
use Rattle.std.specs.Prelude.{◌==◌}
use Rattle.std.proofs.lemmas.Bool.{eq-eqb, ne_eqb}
use Rattle.trace_records.specs.Sources.{with_rest}
use Rattle.trace_records.specs.Records.{holder}
use Rattle.trace_records.proofs.Exits.{goes_out}
use Rattle.trace_records.proofs.rings.holder_of.Goals as goal

pub returns-in_err-what : goal.returns-in_err-what
unfolding holder
returns-in_err-what c =
    goes_out with_rest _ _ _ _ c.from_residual.ensures.1 c.in_err-what.ensures (λ f e. rw e refl)

pub returns-then-what-eq0 : goal.returns-then-what-eq0
unfolding holder
returns-then-what-eq0 c = rw (c.in_ok-what.ensures, eq-eqb _ _ c.if-what-eq0.true) c.slot_holder_of.ensures

pub returns-in_err-number : goal.returns-in_err-number
unfolding holder
returns-in_err-number c =
    let some : (c.in_ok-what.what == 0) ≡ false = ne_eqb _ _ c.if-what-eq0.false in
    goes_out with_rest _ _ _ _ c.from_residual-in_err-number.ensures.1 (rw c.others-count.ensures at c.in_err-number.ensures) (λ f e. rw (c.in_ok-what.ensures, some, e) refl)

pub returns : goal.returns
unfolding holder
returns c =
    let some : (c.in_ok-what.what == 0) ≡ false = ne_eqb _ _ c.if-what-eq0.false in
    let number = rw c.others-count.ensures at c.in_ok-number.ensures in
    rw (c.in_ok-what.ensures, some, number, c.other.ensures) refl
