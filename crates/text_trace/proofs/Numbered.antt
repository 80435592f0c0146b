-- The numbers of items by their paths, with one item more.
use mathlib.Core.Path.{fun_ext}
use Rattle.std.proofs.Common.{◌≡◌, ℕ, ◌+◌, Bool, true, false, cond, List, [], ◌∷◌, ◌++◌, length, Option, None, Some, BTreeMap, refl, sym, ap, subst, ◌∙◌, arith}
use Rattle.std.specs.Prelude.{is_some, Vec}
use Rattle.std.specs.BTreeMap.{UpdatesBy}
use Rattle.std.specs.Cmp.{eq_by_cmp_equiv}
use Rattle.std.specs.Cmp.Lexicographic.{nat_list_cmp_total, nat_list_eq_equiv, slice_cmp}
use Rattle.std.specs.List.{position_from}
use Rattle.std.specs.Map.{KeepsOthers}
use Rattle.std.specs.Option.{option_or}
use Rattle.std.specs.Ordering.{is_eq, nat_cmp}
use Rattle.std.specs.Str.{bytes_eq}
use Rattle.std.proofs.lemmas.Map.Text.{is_eq-slice_cmp}
use Rattle.std.proofs.lemmas.Slice.Eq.{bytes_eq-Decides}
use Rattle.trace_format.specs.declared.trace.Item.{Item}
use Rattle.text_trace.specs.Items.{number_of}
use Rattle.text_trace.specs.Named.{KnowsOneMore, named}

kept : (o : Option ℕ) (b : Bool) (n : ℕ) → (b ≡ true → is_some o ≡ true) → o ≡ option_or o (cond b (Some n) None)
kept None true n h = let e = h refl in absurd cc
kept None false n h = refl
kept (Some m) b n h = refl

-- a path that is there stays
pub kept_one : {Z : Type 0} (names : BTreeMap (Vec ℕ Z) ℕ) (path : List ℕ) (number : ℕ) → is_some (named names path) ≡ true
    → KnowsOneMore names names path number
kept_one names path number there p =
    kept (named names p) (bytes_eq path p) number (λ same. subst (λ (q : List ℕ). is_some (named names q) ≡ true) ((bytes_eq-Decides path p).0 same) there)

added : (o new : Option ℕ) (b : Bool) (n : ℕ) → (b ≡ true → new ≡ Some n) → (b ≡ false → new ≡ o) → (b ≡ true → is_some o ≡ false)
    → new ≡ option_or o (cond b (Some n) None)
added None new true n here other none = here refl
added None new false n here other none = other refl
added (Some m) new true n here other none = let e = none refl in absurd cc
added (Some m) new false n here other none = other refl

apart : (path p key : List ℕ) → bytes_eq path p ≡ false → is_eq (slice_cmp nat_cmp path key) ≡ true → is_eq (slice_cmp nat_cmp p key) ≡ false
apart path p key n y = is_eq-slice_cmp p key ∙ nat_list_eq_equiv.symm p key ∙ sym (nat_list_eq_equiv.congr path key p (sym (is_eq-slice_cmp path key) ∙ y)) ∙ n

other_names : {Z : Type 0} (old new : BTreeMap (Vec ℕ Z) ℕ) (path : List ℕ) (number : ℕ) (p : List ℕ)
    → UpdatesBy (λ x y. slice_cmp nat_cmp x.items y.items) (λ k. slice_cmp nat_cmp path k.items) old new (Some number) → bytes_eq path p ≡ false
    → named new p ≡ named old p
unfolding KeepsOthers
other_names old new path number p updates n =
    updates.3 (λ k. is_eq (slice_cmp nat_cmp p k.items)) (λ x y. (eq_by_cmp_equiv nat_list_cmp_total).congr p x.items y.items) (λ k. apart path p k.items n)

-- a path that is not there is added, with a key of the same bytes
pub added_one : {Z : Type 0} (old new : BTreeMap (Vec ℕ Z) ℕ) (key path : List ℕ) (number : ℕ) → key ≡ path
    → UpdatesBy (λ x y. slice_cmp nat_cmp x.items y.items) (λ k. slice_cmp nat_cmp key k.items) old new (Some number) → is_some (named old path) ≡ false
    → KnowsOneMore old new path number
added_one old new key path number is updates fresh p =
    let at : UpdatesBy (λ x y. slice_cmp nat_cmp x.items y.items) (λ k. slice_cmp nat_cmp path k.items) old new (Some number) =
    subst (λ (l : List ℕ). UpdatesBy (λ x y. slice_cmp nat_cmp x.items y.items) (λ k. slice_cmp nat_cmp l k.items) old new (Some number)) is updates in
    added (named old p) (named new p) (bytes_eq path p) number
    (λ same. subst (λ (q : List ℕ). named new q ≡ Some number) ((bytes_eq-Decides path p).0 same) at.1)
    (other_names old new path number p at)
    (λ same. subst (λ (q : List ℕ). is_some (named old q) ≡ false) ((bytes_eq-Decides path p).0 same) fresh)

first_at : {X : Type 0} (t : X → Bool) (i n : ℕ) (x : X) → i ≡ n → cond (t x) (Some i) None ≡ cond (t x) (Some n) None
first_at t i n x e = ap (λ (k : ℕ). cond (t x) (Some k) None) e

later : (b : Bool) (i : ℕ) (all rest last : Option ℕ) → all ≡ option_or rest last → cond b (Some i) all ≡ option_or (cond b (Some i) rest) last
later true i all rest last e = refl
later false i all rest last e = e

-- the first of some items with one more
pub more_is : {X : Type 0} (t : X → Bool) (i : ℕ) (items : List X) (x : X) (n : ℕ) → i + length items ≡ n
    → position_from t i (items ++ x ∷ []) ≡ option_or (position_from t i items) (cond (t x) (Some n) None)
more_is t i [] x n e = first_at t i n x (omega (arith, e))
more_is t i (y ∷ items) x n e = later (t y) i _ _ _ (more_is t (i + 1) items x n (omega (arith, e)))

-- the names have one item more
pub has_more : {Z : Type 0} (old new : BTreeMap (Vec ℕ Z) ℕ) (items : List Item) (x : Item) (path : List ℕ) (number : ℕ)
    → named old ≡ number_of items → KnowsOneMore old new path number → x.path ≡ path → 1 + length items ≡ number → named new ≡ number_of (items ++ x ∷ [])
has_more old new items x path number known adds same is =
    fun_ext (λ p. adds p ∙ rw (ap (λ (f : List ℕ → Option ℕ). f p) known, ← same) (sym (more_is (λ i. bytes_eq i.path p) 1 items x number is)))
