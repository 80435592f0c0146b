-- The map of names after one more item.
use Rattle.std.proofs.Common.{◌≡◌, ℕ, Bool, true, false, cond, List, [], ◌∷◌, ◌++◌, Option, Some, refl, subst, arith}
use Rattle.std.specs.Prelude.{◌||◌, ◌&&◌, is_some, unwrap_or}
use Rattle.std.specs.List.{list_any}
use Rattle.std.specs.Str.{bytes_eq}
use Rattle.std.proofs.lemmas.List.Folds.{list_any-append}
use Rattle.std.proofs.lemmas.Bool.Decides.{nat_tests}
use Rattle.std.proofs.lemmas.Slice.Eq.{bytes_eq-Decides}
use Rattle.trace_records.specs.declared.start.Item.{Item}
use Rattle.trace_records.specs.Start.{has_name, is_directory_at, is_directory}
use Rattle.trace_format.specs.Names.{Names, kind_at, AddsName}
use Rattle.trace_records.specs.Names.{KnowsNames}

-- no name, so no directory
none_there : (items : List Item) (p : List ℕ) → has_name items p ≡ false → list_any (is_directory_at p) items ≡ false
none_there [] p h = refl
none_there (i ∷ items) p h = grind (arith, nat_tests, none_there items p)

has_more : (b d : Bool) (k : Option Bool) (x : Bool) → is_some k ≡ x → is_some (cond b (Some d) k) ≡ (x || (b || false))
has_more b d k x e = grind (arith, nat_tests)

is_more : (b d : Bool) (k : Option Bool) (x : Bool) → unwrap_or k false ≡ x → (b ≡ true → x ≡ false) → unwrap_or (cond b (Some d) k) false ≡ (x || ((d && b) || false))
is_more b d k x e f = grind (arith, nat_tests)

pub KnowsNames-push : (old new : Names) (items : List Item) (i : Item) → KnowsNames old items → AddsName old new i.path (is_directory i.node) → has_name items i.path ≡ false → KnowsNames new (items ++ i ∷ [])
KnowsNames-push old new items i known adds fresh = record {
  all = λ p. rw (adds p, list_any-append (λ (j : Item). bytes_eq j.path p) items (i ∷ [])) (has_more (bytes_eq i.path p) (is_directory i.node) (kind_at old p) (has_name items p) (known.all p));
  directories = λ p. rw (adds p, list_any-append (is_directory_at p) items (i ∷ [])) (is_more (bytes_eq i.path p) (is_directory i.node) (kind_at old p) (list_any (is_directory_at p) items) (known.directories p) (λ same. none_there items p (subst (λ (q : List ℕ). has_name items q ≡ false) ((bytes_eq-Decides i.path p).0 same) fresh)));
}
