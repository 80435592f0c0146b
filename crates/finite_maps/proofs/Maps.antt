-- A tree of entries and the finite map that it stands for.
use Rattle.std.proofs.Common.{◌≡◌, List, [], ◌∷◌, Some, sym, ◌∙◌, ap, refl, subst}
use Rattle.std.specs.Prelude.{cond, Option, None, IsSome, Result, OnOk, OnErr}
use Rattle.std.specs.Option.{option_map}
use Rattle.std.specs.Map.{lookup}
use Rattle.std.specs.declared.cmp.Ordering.{Ordering}
use Rattle.std.specs.declared.cmp.Ordering.TheVariants.{Less, Equal, Greater}
use Rattle.std.specs.Ordering.{eq_by_cmp, is_eq}
use Rattle.std.specs.Cmp.{eq_by_cmp_equiv}
use Rattle.std.specs.BTreeMap.{BTreeMap, UpdatesBy, WritesThrough, is_at}
use Rattle.finite_maps.specs.Table.{Table, IsKeyOrder, get, assign, get-insert, get-assign, same_table}
use Rattle.finite_maps.specs.Maps.{table_of}
use Rattle.std.proofs.lemmas.Result.{on_ok_weaker, on_err_weaker}

module _ {K X : Type 0} {R : K → K → Ordering} (o : IsKeyOrder R) where
  -- what the map has at a key
  pub get-table_of : (es : List (K × X)) (q : K) → get (table_of o.total es) q ≡ lookup (is_at (R q)) es
  get-table_of [] q = refl
  get-table_of (e ∷ es) q = get-insert o.total (table_of o.total es) e.0 e.1 q ∙ ap (λ r. cond (is_at (R q) e.0) (Some e.1) r) (get-table_of es q)

  -- other entries: another value at a key, or none, and at each other key what was there
  abbrev pub Changed : List (K × X) → List (K × X) → K → Option X → Type 0
  Changed es fs k w = (q : K) → lookup (is_at (R q)) fs ≡ cond (is_at (R k) q) w (lookup (is_at (R q)) es)

  -- a value that is put among the entries, or taken out, is put into the map, or taken out
  pub seen-changed : (es fs : List (K × X)) (t : Table R X) (k : K) (w : Option X) → table_of o.total es ≡ t → Changed es fs k w → table_of o.total fs ≡ assign o.total t k w
  seen-changed es fs t k w is u = same_table o _ _ (λ q.
      get-table_of fs q ∙ u q ∙ ap (λ b. cond b w (lookup (is_at (R q)) es)) ((eq_by_cmp_equiv o.total).symm k q)
      ∙ ap (λ r. cond (eq_by_cmp R q k) w r) (sym (get-table_of es q))
      ∙ sym (get-assign o.total (table_of o.total es) k w q)) ∙ ap (λ t. assign o.total t k w) is

  -- what is put where it is already changes nothing
  pub same-assign : (t : Table R X) (k : K) (v : Option X) → get t k ≡ v → assign o.total t k v ≡ t
  same-assign t k v e = same_table o _ _ (λ q. get-assign o.total t k v q ∙ at q (R q k) refl)
    where
      at : (q : K) (r : Ordering) → R q k ≡ r → cond (is_eq r) v (get t q) ≡ get t q
      at q Less h = refl
      at q Greater h = refl
      at q Equal h = sym (ap (λ x. get t x) (o.same q k h) ∙ e)

  pub seen-assign : (m n : BTreeMap K X) (t : Table R X) (k : K) (w : Option X) → table_of o.total m.entries ≡ t → UpdatesBy R (R k) m n w → table_of o.total n.entries ≡ assign o.total t k w
  seen-assign m n t k w is u = seen-changed m.entries n.entries t k w is u.0

  pub get-of : (es : List (K × X)) (t : Table R X) (q : K) → table_of o.total es ≡ t → get t q ≡ lookup (is_at (R q)) es
  get-of es t q e = ap (λ n. get n q) (sym e) ∙ get-table_of es q

  -- a change of what isn't there changes nothing
  pub absent-rewrite : (f : X → X) (es : List (K × X)) (t : Table R X) (k : K) → table_of o.total es ≡ t → None ≡ lookup (is_at (R k)) es → assign o.total t k (option_map f (get t k)) ≡ t
  absent-rewrite f es t k is e =
      let none = get-of es t k is ∙ sym e in
      ap (λ d. assign o.total t k (option_map f d)) none ∙ same-assign t k None none

  -- entries in which the value of a key is another
  module _ (es fs : List (K × X)) (t : Table R X) (k : K) (v w : X) (is : table_of o.total es ≡ t) (there : Some v ≡ lookup (is_at (R k)) es) (changed : Changed es fs k (Some w)) where
    -- the value is changed
    pub rewritten : (f : X → X) → w ≡ f v → table_of o.total fs ≡ assign o.total t k (option_map f (get t k))
    rewritten f d =
        seen-changed es fs t k (Some w) is changed ∙ ap (λ x. assign o.total t k (Some x)) d
        ∙ ap (λ y. assign o.total t k (option_map f y)) (there ∙ sym (get-of es t k is))

    -- the value is as it was
    pub left : w ≡ v → table_of o.total fs ≡ t
    left d =
        seen-changed es fs t k (Some w) is changed ∙ ap (λ x. assign o.total t k (Some x)) d
        ∙ same-assign t k (Some v) (get-of es t k is ∙ sym there)

  written : (m n : BTreeMap K X) (k : K) (v w : X) → WritesThrough R (R k) m w n → Some v ≡ lookup (is_at (R k)) m.entries → Changed m.entries n.entries k (Some w)
  written m n k v w h e =
      let P : Option X → Type 0 = λ r. IsSome r in
      (h.3 (subst P e refl)).0

  -- a value that is changed through what `get_mut` lent
  pub rewritten_through : (f : X → X) (m n : BTreeMap K X) (t : Table R X) (k : K) (v w : X) → table_of o.total m.entries ≡ t → WritesThrough R (R k) m w n → Some v ≡ lookup (is_at (R k)) m.entries → w ≡ f v
      → table_of o.total n.entries ≡ assign o.total t k (option_map f (get t k))
  rewritten_through f m n t k v w is h e = rewritten m.entries n.entries t k v w is e (written m n k v w h e) f

  -- a change that changes nothing
  pub rewritten-same : (t : Table R X) (k : K) (f : X → X) → ((x : X) → f x ≡ x) → t ≡ assign o.total t k (option_map f (get t k))
  rewritten-same t k f same = sym (same-assign t k (option_map f (get t k)) (at (get t k)))
    where
      at : (x : Option X) → x ≡ option_map f x
      at None = refl
      at (Some x) = ap Some (sym (same x))

  module _ (m n : BTreeMap K X) (t : Table R X) (k : K) (seen : table_of o.total m.entries ≡ t) where
    -- `get_mut` has found nothing to change
    pub rewritten_none : (f : X → X) → n ≡ m → None ≡ lookup (is_at (R k)) m.entries → table_of o.total n.entries ≡ assign o.total t k (option_map f (get t k))
    rewritten_none f same e = ap (λ (b : BTreeMap K X). table_of o.total b.entries) same ∙ seen ∙ sym (absent-rewrite f m.entries t k seen e)

    -- a call has changed what `get_mut` lent where it succeeds, and has left it where it fails
    module _ (v w : X) (through : WritesThrough R (R k) m w n) (there : Some v ≡ lookup (is_at (R k)) m.entries) {T E : Type 0} (r : Result T E) where
      pub rewritten_ok : (f : X → X) → OnOk r (w ≡ f v) → OnOk r (table_of o.total n.entries ≡ assign o.total t k (option_map f (get t k)))
      rewritten_ok f = on_ok_weaker r (rewritten_through f m n t k v w seen through there)

      pub rewritten_err : OnErr r (w ≡ v) → OnErr r (table_of o.total n.entries ≡ t)
      rewritten_err = on_err_weaker r (left m.entries n.entries t k v w seen there (written m n k v w through there))
