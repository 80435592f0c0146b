use Rattle.std.proofs.Common.{refl}
use Rattle.std.proofs.lemmas.Bool.{eq-eqb, ne_eqb}
use Rattle.trace_records.specs.Sources.{with_rest}
use Rattle.trace_records.specs.Records.{file_at}
use Rattle.trace_records.proofs.Exits.{goes_out}
use Rattle.trace_records.proofs.sets.file_at_of.Goals as goal

pub returns-in_err-what : goal.returns-in_err-what
unfolding file_at
returns-in_err-what c =
    goes_out with_rest _ _ _ _ c.from_residual.ensures.1 c.in_err-what.ensures (λ f e. rw e refl)

pub returns-then-what-eq0 : goal.returns-then-what-eq0
unfolding file_at
returns-then-what-eq0 c = rw (c.in_ok-what.ensures, eq-eqb _ _ c.if-what-eq0.true) c.slot_at_of.ensures

pub returns : goal.returns
unfolding file_at
returns c = rw (c.in_ok-what.ensures, ne_eqb _ _ c.if-what-eq0.false) c.descriptor_at_of.ensures
