use Rattle.std.proofs.Common.{◌∙◌, refl, rules, tests}
use Rattle.std.proofs.lemmas.Iterator.Consumers.{YieldsList-from_rest}
use Rattle.std.proofs.lemmas.Iterator.Search.{any_from_yields_List}
use Rattle.item_index.specs.Spans.{has_some}
use Rattle.item_index.proofs.Keyed.{any_below}
use Rattle.item_index.proofs.range_set.RangeSet.has_below.Goals as goal

pub returns : goal.returns
returns c =
    any_from_yields_List (λ f. has_some f.1) _ _ c.any.result c.any.ensures.ran (YieldsList-from_rest c.range.result refl) (λ x b q k. search (rules, tests))
    ∙ any_below has_some c.args.end c.self.inside.files.entries c.args.self.now c.range.result c.self.view_is (c.range.ensures.between tt)
