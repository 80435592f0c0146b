use Rattle.std.proofs.Common.{[], ◌∷◌, arith, length-append}
use Rattle.trace_format.specs.Sources.{with_rest}
use Rattle.trace_format.proofs.Exits.{no_memory}
use Rattle.trace_format.proofs.Loops.{goes_on, ends}
use Rattle.trace_format.proofs.Sums.{places_in-push}
use Rattle.trace_format.proofs.records.records_of.Goals as goal

pub returns-in_err-push : goal.returns-in_err-push
returns-in_err-push c =
    no_memory with_rest _ _ c.from_residual-in_err-push.ensures.1

pub returns-in_err-from_vec : goal.returns-in_err-from_vec
returns-in_err-from_vec c =
    no_memory with_rest _ _ c.from_residual-in_err-from_vec.ensures.1

pub returns-in_err-record : goal.returns-in_err-record
returns-in_err-record c = ends _ _ _ c.from_residual.ensures.1 c.loop-test.true (rw c.loop.invariant.used at c.in_err-record.ensures.read) c.loop.invariant.read

pub loop-preserved : goal.loop-preserved
loop-preserved c = rw c.in_ok-push.ensures.items (record {
  used = omega (arith, places_in-push c.loop.records.items c.in_ok-record.record, c.loop.invariant.used, c.step_count.ensures);
  within = omega (arith, c.in_ok-record.ensures.within, c.step_count.ensures);
  counted = omega (arith, length-append c.loop.records.items (c.in_ok-record.record ∷ []), c.loop.invariant.counted);
  read = goes_on c.loop-test.true (rw c.loop.invariant.used at c.in_ok-record.ensures.read) c.loop.invariant.read;
})
