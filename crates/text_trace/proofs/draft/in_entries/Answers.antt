use Rattle.std.proofs.Common.{◌∷◌, [], map, arith, refl, sym}
use Rattle.std.proofs.lemmas.Option.{get_or_from_slice_get}
use Rattle.trace_format.specs.Spelling.{entry_text}
use Rattle.text_trace.specs.Found.{found_in}
use Rattle.text_trace.proofs.Looks.{passes}
use Rattle.text_trace.proofs.draft.in_entries.Goals as goal

pub loop-number-preserved : goal.loop-number-preserved
loop-number-preserved c = record {
  passed = passes (map entry_text) (λ y. entry_text y ∷ []) c.args.entries.now c.loop-number.number c.at.result (found_in c.loop-number.search)
      (found_in c.passed-search.result) (found_in c.args.search) (λ y ys. refl)
      (omega (arith, c.loop-number-test.true, c.len-number-end.ensures))
      (sym (get_or_from_slice_get c.args.entries.now c.loop-number.number c.at.result c.at.result c.at.ensures))
      (λ more. c.passed-search.ensures (entry_text c.at.result) more (sym c.entry_len.ensures)) c.loop-number.invariant.passed;
}
