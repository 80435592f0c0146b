use Rattle.std.proofs.Common.{ℕ, Bool, sym, ◌∙◌, rules}
use Rattle.std.specs.Prelude.{slice_get}
use Rattle.std.specs.List.{list_any}
use Rattle.std.proofs.lemmas.Iterator.Adapters.{YieldsList-from_rev_slice}
use Rattle.std.proofs.lemmas.Iterator.Search.{any_from_yields_List}
use Rattle.std.proofs.lemmas.List.Sorted.{IsPermutation-reverse, list_any-IsPermutation}
use Rattle.item_index.specs.Ahead.{at_place}
use Rattle.item_index.specs.Touching.{writes_item}
use Rattle.world_parts.specs.Uses.{item_meant}
use Rattle.item_index.proofs.behind.one_writes_some.Goals as goal

pub returns : goal.returns
returns c =
    let ks = c.args.places.now in
    let test : ℕ → Bool = λ k. at_place (λ f. list_any (λ u. writes_item f (item_meant u.item)) c.args.uses.now) (slice_get c.args.reaches.now k) in
    any_from_yields_List test _ _ _ c.any.ensures.ran (YieldsList-from_rev_slice ks cc) (λ x b q k. search rules)
    ∙ sym (list_any-IsPermutation test ks _ (IsPermutation-reverse ks))
