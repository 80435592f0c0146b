use Rattle.std.proofs.Common.{sym, ◌∙◌}
use Rattle.trace_records.specs.Sources.{with_rest}
use Rattle.trace_records.specs.Start.{range_end}
use Rattle.trace_records.proofs.Ends.{end_of-push}
use Rattle.trace_records.proofs.Exits.{no_memory}
use Rattle.trace_records.proofs.Loops.{goes_on, ends, is_done}
use Rattle.trace_records.proofs.items.ranges_of.Goals as goal

pub returns-in_err-push : goal.returns-in_err-push
returns-in_err-push c = no_memory (λ x. with_rest (x.0.items, x.1)) _ _ c.from_residual-in_err-push.ensures.1

pub returns-in_err-range : goal.returns-in_err-range
returns-in_err-range c =
    ends _ _ _ c.from_residual.ensures.1 c.loop-test.true (c.in_err-range.ensures.read c.loop.ranges.items c.loop.invariant.low) c.loop.invariant.read

pub loop-preserved : goal.loop-preserved
loop-preserved c =
    let here = c.in_ok-range.ensures.read c.loop.ranges.items c.loop.invariant.low in
    rw c.in_ok-push.ensures.items (record {
      read = goes_on c.loop-test.true here c.loop.invariant.read;
      low = end_of-push range_end 0 c.loop.ranges.items c.in_ok-range.range ∙ sym c.in_ok-range.ensures.end;
    })

pub returns : goal.returns
returns c = is_done c.loop-test.false c.loop.invariant.read
