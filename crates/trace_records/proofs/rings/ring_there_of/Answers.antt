use Rattle.std.proofs.Common.{refl}
use Rattle.trace_records.specs.Sources.{with_rest}
use Rattle.trace_records.proofs.Exits.{goes_out}
use Rattle.trace_records.proofs.rings.ring_there_of.Goals as goal

pub returns-in_err-ring : goal.returns-in_err-ring
returns-in_err-ring c =
    goes_out with_rest _ _ _ _ c.from_residual.ensures.1 c.in_err-ring.ensures (λ f e. rw e refl)

pub returns-in-Some : goal.returns-in-Some
returns-in-Some c = rw (c.in_ok-ring.ensures, c.in-Some.ensures.some) refl

pub returns-in-None : goal.returns-in-None
returns-in-None c = rw (c.refused.ensures, c.in_ok-ring.ensures, c.in-None.ensures.none) refl
