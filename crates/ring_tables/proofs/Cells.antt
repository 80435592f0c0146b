-- What cells say of slots stays true where a slot is filled or emptied.
use Rattle.std.specs.Prelude.{◌≡◌, ◌≢◌, ℕ, ◌+◌, ◌*◌, ◌<◌, cond, List, get_or, IfSome, Option, Some, None, T, refl}
use Rattle.std.specs.Cmp.{eq_by_cmp_equiv}
use Rattle.std.specs.Ordering.{is_eq}
use Rattle.std.specs.declared.cmp.Ordering.{Ordering}
use Rattle.std.specs.declared.cmp.Ordering.TheVariants.{Less, Equal, Greater}
use Rattle.finite_maps.specs.Table.{Table, assign, get, get-assign, pair_cmp, pair_cmp_total, pair_keys}
use Rattle.ring_tables.specs.Cells.{AreHeld, cell}
use native.Mathlib.Omega.{arith}
use mathlib.Core.Path.{ap, sym, ◌∙◌, subst}

-- two slots with one cell are one
cell-is : (ring slot c : ℕ) → cell ring slot ≡ Some c → (ring < 512) × (slot < 64) × (ring * 64 + slot ≡ c)
cell-is ring slot c e = grind (arith, e)

cell-same : (ring slot q r c : ℕ) → cell ring slot ≡ Some c → cell q r ≡ Some c → ◌≡◌ {A = ℕ × ℕ} (q, r) (ring, slot)
cell-same ring slot q r c e f =
    let x = cell-is ring slot c e in
    let y = cell-is q r c f in
    let rings : q ≡ ring = omega arith in
    let slots : r ≡ slot = omega arith in
    (λ i. (rings i, slots i))

pub held-in : {s t : Table pair_cmp ℕ} (cells : List (Option ℕ)) → s ≡ t → AreHeld t cells → AreHeld s cells
held-in cells e h = subst (λ t. AreHeld t cells) (sym e) h

module _ (t : Table pair_cmp ℕ) (old new : List (Option ℕ)) (ring slot : ℕ) (d : Option ℕ) (h : AreHeld t old)
    (other : (c : ℕ) → cell ring slot ≢ Some c → get_or new c None ≡ get_or old c None)
    (own : (c : ℕ) → cell ring slot ≡ Some c → IfSome (get_or new c None) (λ number. d ≡ Some number)) where
  -- equal slots compare as equal
  alike : (q r : ℕ) (o : Ordering) → pair_cmp (q, r) (ring, slot) ≡ o → ◌≡◌ {A = ℕ × ℕ} (q, r) (ring, slot) → T (is_eq o)
  alike q r o e same = subst (λ o. T (is_eq o)) e (subst T (sym (ap (λ (p : ℕ × ℕ). is_eq (pair_cmp p (ring, slot))) same ∙ (eq_by_cmp_equiv pair_cmp_total).refl (ring, slot))) tt)

  at : (q r c number : ℕ) (o : Ordering) → pair_cmp (q, r) (ring, slot) ≡ o → cell q r ≡ Some c → get_or new c None ≡ Some number → cond (is_eq o) d (get t (q, r)) ≡ Some number
  at q r c number Equal e there is =
      let same : ◌≡◌ {A = ℕ × ℕ} (q, r) (ring, slot) = pair_keys.same (q, r) (ring, slot) e in
      let mine : cell ring slot ≡ Some c = ap (λ (p : ℕ × ℕ). cell p.0 p.1) (sym same) ∙ there in
      subst (λ o. IfSome o (λ number. d ≡ Some number)) is (own c mine)
  at q r c number Less e there is = h q r c number there (sym (other c (λ mine. alike q r Less e (cell-same ring slot q r c mine there))) ∙ is)
  at q r c number Greater e there is = h q r c number there (sym (other c (λ mine. alike q r Greater e (cell-same ring slot q r c mine there))) ∙ is)

  pub held-after : AreHeld (assign pair_keys.total t (ring, slot) d) new
  held-after q r c number there is = get-assign pair_keys.total t (ring, slot) d (q, r) ∙ at q r c number (pair_cmp (q, r) (ring, slot)) refl there is

-- the same cells, further ones empty
pub held-alike : (t : Table pair_cmp ℕ) (old new : List (Option ℕ)) → ((c : ℕ) → get_or new c None ≡ get_or old c None) → AreHeld t old → AreHeld t new
held-alike t old new same h q r c number there is = h q r c number there (sym (same c) ∙ is)

-- what the cell of a slot says
pub held-known : (t : Table pair_cmp ℕ) (cells : List (Option ℕ)) (ring slot c : ℕ) (said : Option ℕ) → AreHeld t cells → cell ring slot ≡ Some c → get_or cells c None ≡ said → IfSome said (λ number. get t (ring, slot) ≡ Some number)
held-known t cells ring slot c None h there is = tt
held-known t cells ring slot c (Some number) h there is = h ring slot c number there is
