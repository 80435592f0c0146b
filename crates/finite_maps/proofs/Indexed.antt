-- An index map by number and the finite map that it stands for.
use Rattle.std.proofs.Common.{◌≡◌, ℕ, Bool, true, false, List, [], ◌∷◌, Some, sym, ◌∙◌, ap, refl, subst, true≢false, length, suc, ◌+◌, unwrap_or, arith}
use Rattle.std.specs.Prelude.{cond, Option, None, IsSome, Result, OnOk, OnErr, nat_eq, is_some}
use Rattle.std.specs.Bool.{Decides}
use Rattle.std.specs.Option.{option_map, option_eq}
use Rattle.std.specs.Map.{lookup, keys_of}
use Rattle.std.specs.List.{IsDistinct, AllByRecursion}
use Rattle.std.specs.declared.cmp.Ordering.{Ordering}
use Rattle.std.specs.declared.cmp.Ordering.TheVariants.{Less, Equal, Greater}
use Rattle.std.specs.Ordering.{nat_cmp, is_eq}
use Rattle.std.specs.Cmp.{both_ways, nat_cmp_is, nat_eq_equiv, unsigned_Decides}
use Rattle.std.specs.BTreeMap.{is_at}
use Rattle.std.specs.HashMap.{HashMap, IsUnique, UpdatesBy, WritesThrough, hash_map_eq}
use Rattle.std.specs.HashMap.Eq.{get_from_hash_map_eq, hash_map_eq_from_get}
use Rattle.std.specs.FinMap.Entries.{length-put}
use Rattle.std.specs.FinMap.{nat_cmp-IsAntisymmetric}
use Rattle.finite_maps.specs.Table.{Table, get, assign, count, number_keys, same_table}
use Rattle.finite_maps.specs.Maps.{table_of}
use Rattle.finite_maps.proofs.Maps as maps
use Rattle.finite_maps.proofs.Maps.{Changed, absent-rewrite, left, rewritten, seen-changed}
use Rattle.std.proofs.lemmas.Result.{on_ok_weaker, on_err_weaker}

ties : (r : Ordering) → is_eq r ≡ true → r ≡ Equal
ties Less h = absurd (true≢false (sym h))
ties Equal h = refl
ties Greater h = absurd (true≢false (sym h))

-- two numbers are equal where neither is above the other
equal_by_order : (k q : ℕ) → nat_eq k q ≡ is_at (nat_cmp k) q
equal_by_order k q = both_ways (nat_eq k q) (is_at (nat_cmp k) q)
    (λ h. ap is_eq (sym (nat_cmp_is k q Equal ((unsigned_Decides k q).0 h))))
    (λ h. (unsigned_Decides k q).1 (nat_cmp-IsAntisymmetric k q (ties (nat_cmp k q) h)))

module _ {X : Type 0} where
  -- what is looked up at a number, by equality and by order
  looked_up : (q : ℕ) (es : List (ℕ × X)) → lookup (nat_eq q) es ≡ lookup (is_at (nat_cmp q)) es
  looked_up q [] = refl
  looked_up q (e ∷ es) = λ i. cond (equal_by_order q e.0 i) (Some e.1) (looked_up q es i)

  -- what the map has at a number
  pub get-of : (es : List (ℕ × X)) (t : Table nat_cmp X) (q : ℕ) → table_of number_keys.total es ≡ t → get t q ≡ lookup (nat_eq q) es
  get-of es t q e = maps.get-of number_keys es t q e ∙ sym (looked_up q es)

  -- no number comes twice, so there are as many as entries
  absent : (k : ℕ) (es : List (ℕ × X)) → AllByRecursion (λ y. nat_eq k y ≡ false) (keys_of es) → lookup (nat_eq k) es ≡ None
  absent k [] h = refl
  absent k (e ∷ es) h = ap (λ b. cond b (Some e.1) (lookup (nat_eq k) es)) h.0 ∙ absent k es h.1

  -- a number that comes first does not come again
  pub none_again : (e : ℕ × X) (es : List (ℕ × X)) → AllByRecursion (λ y. nat_eq e.0 y ≡ false) (keys_of es) → get (table_of number_keys.total es) e.0 ≡ None
  none_again e es h = get-of es (table_of number_keys.total es) e.0 refl ∙ absent e.0 es h

  count-table_of : (es : List (ℕ × X)) → IsDistinct nat_eq (keys_of es) → length es ≡ count (table_of number_keys.total es)
  unfolding IsDistinct
  count-table_of [] h = refl
  count-table_of (e ∷ es) h =
      let rest = table_of number_keys.total es in
      let none : get rest e.0 ≡ None = none_again e es h.0 in
      let more : suc (length es) ≡ length es + 1 = omega arith in
      more ∙ ap (λ n. n + 1) (count-table_of es h.1)
      ∙ sym (length-put nat_cmp number_keys.total e.0 e.1 rest.entries rest.sorted ∙ ap (λ r. cond (is_some r) (count rest) (count rest + 1)) none)

  module _ {S : Type 0} where
    changed : (m n : HashMap ℕ X S) (k : ℕ) (w : Option X) → UpdatesBy nat_eq (nat_eq k) m n w → Changed number_keys m.entries n.entries k w
    changed m n k w u q = sym (looked_up q n.entries) ∙ u.0 q ∙ (λ i. cond (equal_by_order k q i) w (looked_up q m.entries i))

    -- how many entries the map has
    pub count-of : (m : HashMap ℕ X S) (t : Table nat_cmp X) → IsUnique nat_eq m → table_of number_keys.total m.entries ≡ t → length m.entries ≡ count t
    count-of m t h e = count-table_of m.entries h ∙ ap (λ (n : Table nat_cmp X). count n) e

    -- a value that is put at a number, or taken out there
    pub seen-assign : (m n : HashMap ℕ X S) (t : Table nat_cmp X) (k : ℕ) (w : Option X) → table_of number_keys.total m.entries ≡ t → UpdatesBy nat_eq (nat_eq k) m n w
        → table_of number_keys.total n.entries ≡ assign number_keys.total t k w
    seen-assign m n t k w is u = seen-changed number_keys m.entries n.entries t k w is (changed m n k w u)

    module _ (m n : HashMap ℕ X S) (t : Table nat_cmp X) (k : ℕ) (seen : table_of number_keys.total m.entries ≡ t) where
      -- `get_mut` has found nothing to change
      pub rewritten_none : (f : X → X) → n ≡ m → None ≡ lookup (nat_eq k) m.entries → table_of number_keys.total n.entries ≡ assign number_keys.total t k (option_map f (get t k))
      rewritten_none f same e = ap (λ (b : HashMap ℕ X S). table_of number_keys.total b.entries) same ∙ seen ∙ sym (absent-rewrite number_keys f m.entries t k seen (e ∙ looked_up k m.entries))

      module _ (v w : X) (through : WritesThrough nat_eq (nat_eq k) m w n) (there : Some v ≡ lookup (nat_eq k) m.entries) where
        written : Changed number_keys m.entries n.entries k (Some w)
        written =
            let P : Option X → Type 0 = λ r. IsSome r in
            changed m n k (Some w) (through.3 (subst P there refl))

        -- a value that is changed through what `get_mut` lent
        pub rewritten_through : (f : X → X) → w ≡ f v → table_of number_keys.total n.entries ≡ assign number_keys.total t k (option_map f (get t k))
        rewritten_through = rewritten number_keys m.entries n.entries t k v w seen (there ∙ looked_up k m.entries) written

        -- a call has changed what `get_mut` lent where it succeeds, and has left it where it fails
        module _ {T E : Type 0} (r : Result T E) where
          pub rewritten_ok : (f : X → X) → OnOk r (w ≡ f v) → OnOk r (table_of number_keys.total n.entries ≡ assign number_keys.total t k (option_map f (get t k)))
          rewritten_ok f = on_ok_weaker r (rewritten_through f)

          pub rewritten_err : OnErr r (w ≡ v) → OnErr r (table_of number_keys.total n.entries ≡ t)
          rewritten_err = on_err_weaker r (left number_keys m.entries n.entries t k v w seen (there ∙ looked_up k m.entries) written)

    -- two index maps with the same values at the same numbers
    module _ {E : X → X → Bool} (d : (x y : X) → Decides (E x y) (x ≡ y)) (m n : HashMap ℕ X S) (t u : Table nat_cmp X) (is : table_of number_keys.total m.entries ≡ t) (also : table_of number_keys.total n.entries ≡ u) where
      both_same : (p q : Option X) → Decides (option_eq E p q) (p ≡ q)
      both_same None None = (λ h. refl, λ h. refl)
      both_same None (Some y) = (λ h. absurd (true≢false (sym h)), λ h. ap is_some h)
      both_same (Some x) None = (λ h. absurd (true≢false (sym h)), λ h. sym (ap is_some h))
      both_same (Some x) (Some y) = (λ h. ap Some ((d x y).0 h), λ h. (d x y).1 (ap (λ o. unwrap_or o x) h))

      pub same_maps_decide : (r : Bool) → r ≡ hash_map_eq nat_eq E m n → Decides r (t ≡ u)
      same_maps_decide r e = (
        λ h. same_table number_keys t u (λ q. get-of m.entries t q is ∙ (both_same _ _).0 (get_from_hash_map_eq nat_eq E nat_eq_equiv m n (sym e ∙ h) q) ∙ sym (get-of n.entries u q also)),
        λ h. e ∙ hash_map_eq_from_get nat_eq E m n (λ q. (both_same _ _).1 (sym (get-of m.entries t q is) ∙ ap (λ v. get v q) h ∙ get-of n.entries u q also)),
      )
