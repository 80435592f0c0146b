use Rattle.std.proofs.Common.{◌∙◌, sym, rules, tests, eqb}
use Rattle.std.specs.List.{slice_split}
use Rattle.std.proofs.lemmas.Iterator.Search.{any_from_yields_List}
use Rattle.std.proofs.lemmas.Iterator.Splits.{YieldsList-from_slice_split}
use Rattle.trace_records.specs.Opens.{is_dots}
use Rattle.trace_records.proofs.Words.{dots-filtered}
use Rattle.trace_records.proofs.opens.has_dots.Goals as goal

pub returns : goal.returns
returns c =
    any_from_yields_List is_dots _ _ _ c.any.ensures.ran (YieldsList-from_slice_split _ (λ b. eqb b 47) c.args.path.now c.split.ensures.rest c.split.ensures.done c.split.ensures.closure (λ x b q k. search (rules, tests))) (λ x b q k. search (rules, tests)) ∙ sym (dots-filtered (slice_split (λ b. eqb b 47) c.args.path.now))
