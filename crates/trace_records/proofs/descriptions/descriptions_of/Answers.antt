use Rattle.trace_records.specs.Sources.{with_rest}
use Rattle.trace_records.proofs.Exits.{no_memory}
use Rattle.trace_records.proofs.Loops.{goes_on, ends, is_done}
use Rattle.trace_records.proofs.descriptions.descriptions_of.Goals as goal

pub returns-in_err-push : goal.returns-in_err-push
returns-in_err-push c = no_memory (λ x. with_rest (x.0.items, x.1)) _ _ c.from_residual-in_err-push.ensures.1

pub returns-in_err-description : goal.returns-in_err-description
returns-in_err-description c = ends _ _ _ c.from_residual.ensures.1 c.loop-test.true c.in_err-description.ensures c.loop.invariant

pub loop-preserved : goal.loop-preserved
loop-preserved c = rw c.in_ok-push.ensures.items (goes_on c.loop-test.true c.in_ok-description.ensures c.loop.invariant)

pub returns : goal.returns
returns c = is_done c.loop-test.false c.loop.invariant
