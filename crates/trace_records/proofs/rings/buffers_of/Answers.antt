use Rattle.trace_format.proofs.KnownSpans.{KnowsSpans-push}
use Rattle.trace_records.specs.Sources.{with_rest}
use Rattle.trace_records.proofs.Exits.{no_memory}
use Rattle.trace_records.proofs.Loops.{goes_on, ends}
use Rattle.trace_records.proofs.rings.buffers_of.Goals as goal

pub returns-in_err-add_span : goal.returns-in_err-add_span
returns-in_err-add_span c = no_memory (λ x. with_rest (x.0.items, x.1)) _ _ c.from_residual-in_err-add_span.ensures.1

pub returns-in_err-push : goal.returns-in_err-push
returns-in_err-push c = no_memory (λ x. with_rest (x.0.items, x.1)) _ _ c.from_residual-in_err-push.ensures.1

pub returns-in_err-buffer : goal.returns-in_err-buffer
returns-in_err-buffer c =
    let failed = c.in_err-buffer.ensures.read c.loop.buffers.items c.loop.invariant.known in
    ends _ _ _ c.from_residual.ensures.1 c.loop-test.true failed c.loop.invariant.read

pub loop-preserved : goal.loop-preserved
loop-preserved c =
    let here = c.in_ok-buffer.ensures.read c.loop.buffers.items c.loop.invariant.known in
    let apart = c.in_ok-buffer.ensures.apart c.loop.buffers.items c.loop.invariant.known in
    rw c.in_ok-push.ensures.items (record {
      read = goes_on c.loop-test.true here c.loop.invariant.read;
      known = KnowsSpans-push _ _ _ _ c.loop.invariant.known c.in_ok-add_span.ensures apart;
    })
