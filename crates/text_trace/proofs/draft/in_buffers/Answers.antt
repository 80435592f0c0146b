use Rattle.std.proofs.Common.{refl, sym, ◌∙◌}
use Rattle.trace_format.specs.Spelling.{buffer_bytes}
use Rattle.text_trace.specs.Found.{found_in}
use Rattle.text_trace.proofs.Looks.{passes_even}
use Rattle.text_trace.proofs.draft.in_buffers.Goals as goal

pub loop-buffer-preserved : goal.loop-buffer-preserved
loop-buffer-preserved c = record {
  passed = passes_even buffer_bytes 12 c.args.buffers.now c.loop-buffer.buffer-index (found_in c.loop-buffer.search) (found_in c.passed-search.result)
      (found_in c.args.search) (λ y. refl) c.loop-buffer-test.true
      (λ bytes more e. c.passed-search.ensures bytes more (e ∙ sym c.buffer_len.ensures)) c.loop-buffer.invariant.passed;
}
