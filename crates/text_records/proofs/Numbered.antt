-- The numbers of items by their paths, with one item more.
use mathlib.Core.Path.{fun_ext}
use Rattle.std.proofs.Common.{◌≡◌, ℕ, ◌+◌, List, [], ◌∷◌, ◌++◌, length, Option, BTreeMap, sym, ap, ◌∙◌}
use Rattle.std.specs.Prelude.{Vec}
use Rattle.std.specs.Str.{bytes_eq}
use Rattle.trace_records.specs.declared.start.Item.{Item}
use Rattle.text_trace.specs.Named.{KnowsOneMore, named}
use Rattle.text_trace.proofs.Numbered.{more_is}
use Rattle.text_records.specs.Start.{number_of}

-- the names have one item more
pub has_more : {Z : Type 0} (old new : BTreeMap (Vec ℕ Z) ℕ) (items : List Item) (x : Item) (path : List ℕ) (number : ℕ)
    → named old ≡ number_of items → KnowsOneMore old new path number → x.path ≡ path → 1 + length items ≡ number → named new ≡ number_of (items ++ x ∷ [])
has_more old new items x path number known adds same is =
    fun_ext (λ p. adds p ∙ rw (ap (λ (f : List ℕ → Option ℕ). f p) known, ← same) (sym (more_is (λ i. bytes_eq i.path p) 1 items x number is)))
