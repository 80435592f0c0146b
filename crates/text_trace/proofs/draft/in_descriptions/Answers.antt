use Rattle.std.proofs.Common.{refl, sym, ◌∙◌}
use Rattle.trace_format.specs.Spelling.{description_bytes}
use Rattle.text_trace.specs.Found.{found_in}
use Rattle.text_trace.proofs.Looks.{passes_even}
use Rattle.text_trace.proofs.draft.in_descriptions.Goals as goal

pub loop-description-preserved : goal.loop-description-preserved
loop-description-preserved c = record {
  passed = passes_even description_bytes 14 c.args.descriptions.now c.loop-description.description-index (found_in c.loop-description.search)
      (found_in c.passed-search.result) (found_in c.args.search) (λ y. refl) c.loop-description-test.true
      (λ bytes more e. c.passed-search.ensures bytes more (e ∙ sym c.description_len.ensures)) c.loop-description.invariant.passed;
}
