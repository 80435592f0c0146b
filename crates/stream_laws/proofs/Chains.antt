-- What the roles of places in two recordings need of chains.
use Rattle.std.proofs.Common.{◌≡◌, ℕ, zero, suc, ◌+◌, ◌<◌, ◌≤◌, Bool, cond, [], ◌∷◌, ◌++◌, refl, sym, ap, ◌∙◌, arith, inl, inr}
use Rattle.std.specs.Prelude.{◌==◌}
use Rattle.std.specs.List.{list_any}
use Rattle.std.proofs.lemmas.Bool.{eq-eqb, ne_eqb, cases_eq}
use Rattle.std.proofs.lemmas.List.{map-id}
use Rattle.std.proofs.lemmas.List.Folds.{list_any-append}
use Rattle.std.proofs.lemmas.List.FromFn.{filter_of_map_range_with_len_more}
use Rattle.recording.specs.declared.recording.Recording.{Recording}
use Rattle.chain_plan.specs.Chain.{chain_of}
use Rattle.chain_plan.specs.Stretch.{IsApart, chains_ahead}
use Rattle.chain_plan.proofs.Walk.{below, below_other, chain_within}

-- the place n stands in its chain, and in no other
below_more : (t : Recording) (n c : ℕ) → below t (suc n) c ≡ below t n c ++ cond (chain_of t n == c) (n ∷ []) []
below_more t n c =
    let one : n + 1 ≡ suc n = omega arith in
    rw one at (simp map-id at (filter_of_map_range_with_len_more (λ k. chain_of t k == c) (λ k. k) 0 n n (omega arith)))

chain_of-suc : (t : Recording) (k : ℕ) → chain_of t k ≤ chain_of t (suc k)
chain_of-suc t k = grind arith

chain_of-mono : (t : Recording) (k n : ℕ) → k ≤ n → chain_of t k ≤ chain_of t n
chain_of-mono t k zero le =
    let e : k ≡ 0 = omega arith in
    rw e (omega arith)
chain_of-mono t k (suc n) le = elim (cases_eq k (suc n)) [
  | inl e ↦ rw e (omega arith)
  | inr ne ↦ omega (arith, chain_of-mono t k n (omega (arith, ne)), chain_of-suc t n)
]

-- no place below n stands in a chain that comes later
pub below_next : (t : Recording) (n m c : ℕ) → m ≤ n → chains_ahead t n ≤ c → below t m c ≡ []
below_next t n zero c le new = refl
below_next t n (suc m) c le new = below_other t m c (λ e. absurd (omega (arith, e, chain_within t m n (omega arith)))) ∙ below_next t n m c (omega arith) new

-- tests that agree on the places of a chain
pub any_same : (t : Recording) (p q : ℕ → Bool) (n c : ℕ) → ((k : ℕ) → k < n → chain_of t k ≡ c → p k ≡ q k) → list_any p (below t n c) ≡ list_any q (below t n c)
any_same t p q zero c h = refl
any_same t p q (suc n) c h =
    let more = λ (r : ℕ → Bool). ap (list_any r) (below_more t n c) ∙ list_any-append r (below t n c) (cond (chain_of t n == c) (n ∷ []) []) in
    more p ∙ rw (any_same t p q n c (λ k lt. h k (omega arith))) (elim (cases_eq (chain_of t n) c) [
      | inl e ↦ rw (eq-eqb _ _ e, h n (omega arith) e) refl
      | inr ne ↦ rw (ne_eqb _ _ ne) refl
    ]) ∙ sym (more q)

-- the chains ahead of a place are no fewer further on
pub ahead-mono : (t : Recording) (k n : ℕ) → k ≤ n → chains_ahead t k ≤ chains_ahead t n
ahead-mono t zero n le = omega arith
ahead-mono t (suc k) zero le = absurd (omega arith)
ahead-mono t (suc k) (suc n) le = omega (arith, chain_of-mono t k n (omega arith))

-- a place to which none is linked begins a chain, behind those ahead of it
pub apart_above : (t : Recording) (n k : ℕ) → IsApart t n → n ≤ k → chains_ahead t n ≤ chain_of t k
apart_above t zero k apart le = omega arith
apart_above t (suc j) k apart le =
    let next : chain_of t (suc j) ≡ suc (chain_of t j) = rw apart refl in
    omega (arith, next, chain_of-mono t (suc j) k le)

-- so its chains ahead get no further members
pub below_kept : (t : Recording) (n m c : ℕ) → IsApart t n → n ≤ m → c < chains_ahead t n → below t m c ≡ below t n c
below_kept t n zero c apart le lt =
    let e : n ≡ 0 = omega arith in
    rw e refl
below_kept t n (suc m) c apart le lt = elim (cases_eq n (suc m)) [
  | inl e ↦ rw e refl
  | inr ne ↦
      let above = apart_above t n m apart (omega (arith, ne)) in
      below_other t m c (λ e. absurd (omega (arith, e, above, lt))) ∙ below_kept t n m c apart (omega (arith, ne)) lt
]
