-- A tree whose keys are seen by a function, and the finite map that it stands for.
use Rattle.std.proofs.Common.{◌≡◌, List, [], ◌∷◌, Some, sym, ◌∙◌, ap, refl}
use Rattle.std.specs.Prelude.{Bool, true, false, cond, Option}
use Rattle.std.specs.Map.{lookup}
use Rattle.std.specs.declared.cmp.Ordering.{Ordering}
use Rattle.std.specs.declared.cmp.Ordering.TheVariants.{Less, Equal, Greater}
use Rattle.std.specs.Ordering.{eq_by_cmp, is_eq, match_ordering}
use Rattle.std.specs.Cmp.{tied_itself, Equal-is}
use Rattle.std.specs.BTreeMap.{is_at, insert_entry}
use Rattle.finite_maps.specs.Table.{Table, IsKeyOrder, get, insert, get-insert, same_table}
use Rattle.finite_maps.specs.Maps.{seen_table}

absorbed : {X : Type 0} (b : Bool) (x y z : X) → cond b x z ≡ cond b x (cond b y z)
absorbed true x y z = refl
absorbed false x y z = refl

pub swapped : {X : Type 0} (b c : Bool) (x y z : X) → (b ≡ true → c ≡ true → ⊥) → cond b x (cond c y z) ≡ cond c y (cond b x z)
swapped true true x y z n = absurd (n refl refl)
swapped true false x y z n = refl
swapped false c x y z n = refl

-- a new value comes to stand before, in place of, or behind the first one
chosen : {A : Type 0} (r : Ordering) (b c : Bool) (v y rest behind : A) → (r ≡ Equal → b ≡ c) → (r ≡ Greater → b ≡ true → c ≡ true → ⊥) → behind ≡ cond c v rest
    → match_ordering r (cond c v (cond b y rest)) (cond b v rest) (cond b y behind) ≡ cond c v (cond b y rest)
chosen Less b c v y rest behind one apart e = refl
chosen Equal b c v y rest behind one apart e = absorbed b v y rest ∙ ap (λ d. cond d v (cond b y rest)) (one refl)
chosen Greater b c v y rest behind one apart e = ap (λ z. cond b y z) e ∙ swapped b c y v rest (apart refl)

chosen_ap : {A B : Type 0} (f : A → B) (r : Ordering) (x y z : A) → f (match_ordering r x y z) ≡ match_ordering r (f x) (f y) (f z)
chosen_ap f Less x y z = refl
chosen_ap f Equal x y z = refl
chosen_ap f Greater x y z = refl

module _ {L : Type 0} {R : L → L → Ordering} (o : IsKeyOrder R) where
  apart : (q : L) (k l : L) → R k l ≡ Greater → R q l ≡ Equal → R q k ≡ Equal → ⊥
  apart q k l h a b =
      let e : R q q ≡ R k l = λ i. R (o.same q k b i) (o.same q l a i) in
      let same : R q q ≡ Equal = tied_itself o.total q in
      cc

module _ {K L X : Type 0} {R : L → L → Ordering} (o : IsKeyOrder R) (f : K → L) where
  -- what the map has at a key
  pub get-seen_table : (es : List (K × X)) (q : L) → get (seen_table o.total f es) q ≡ lookup (is_at (λ k. R q (f k))) es
  get-seen_table [] q = refl
  get-seen_table (e ∷ es) q = get-insert o.total (seen_table o.total f es) (f e.0) e.1 q ∙ ap (λ r. cond (is_eq (R q (f e.0))) (Some e.1) r) (get-seen_table es q)

  -- what a tree has at a key once a value was put into it
  lookup-insert_entry : (es : List (K × X)) (k : K) (v : X) (q : L) → lookup (is_at (λ j. R q (f j))) (insert_entry (λ a b. R (f a) (f b)) es k v) ≡ cond (eq_by_cmp R q (f k)) (Some v) (lookup (is_at (λ j. R q (f j))) es)
  lookup-insert_entry [] k v q = refl
  lookup-insert_entry (e ∷ es) k v q =
      let found : List (K × X) → Option X = λ xs. lookup (is_at (λ j. R q (f j))) xs in
      chosen_ap found (R (f k) (f e.0)) ((k, v) ∷ e ∷ es) ((e.0, v) ∷ es) (e ∷ insert_entry (λ a b. R (f a) (f b)) es k v)
      ∙ chosen (R (f k) (f e.0)) (is_eq (R q (f e.0))) (is_eq (R q (f k))) (Some v) (Some e.1) (found es) (found (insert_entry (λ a b. R (f a) (f b)) es k v))
      (λ h. ap (λ x. is_eq (R q x)) (sym (o.same (f k) (f e.0) h)))
      (λ h a b. apart o q (f k) (f e.0) h ((Equal-is (R q (f e.0))).0 a) ((Equal-is (R q (f k))).0 b))
      (lookup-insert_entry es k v q)

  -- a value that is put into the tree is put into the map
  pub seen-insert_entry : (es ns : List (K × X)) (t : Table R X) (k : K) (v : X) → seen_table o.total f es ≡ t → ns ≡ insert_entry (λ a b. R (f a) (f b)) es k v
      → seen_table o.total f ns ≡ insert o.total t (f k) v
  seen-insert_entry es ns t k v is e =
      ap (seen_table o.total f) e
      ∙ same_table o _ _ (λ q. get-seen_table (insert_entry (λ a b. R (f a) (f b)) es k v) q ∙ lookup-insert_entry es k v q
      ∙ ap (λ r. cond (eq_by_cmp R q (f k)) (Some v) r) (sym (get-seen_table es q)) ∙ sym (get-insert o.total (seen_table o.total f es) (f k) v q))
      ∙ ap (λ (m : Table R X). insert o.total m (f k) v) is
