-- Whatever clashes with a place is led to by those that come directly before.
use Rattle.std.proofs.Common.{◌≡◌, ℕ, zero, suc, ◌+◌, ◌<◌, ◌≤◌, Bool, true, false, ◌⊎◌, inl, inr, arith}
use Rattle.std.proofs.lemmas.Bool.{cases_Bool, cases_eq, cases_lt}
use Rattle.interleaving.specs.Dependencies.{Leads}
use Rattle.interleaving.specs.Direct.{IsDirect}

pub leads_on : (waits : ℕ → ℕ → Bool) (k i j : ℕ) → Leads waits k i → Leads waits i j → Leads waits k j
leads_on waits k i j (Leads.at_once k₁ i₁ w) rest = Leads.onward k i j w rest
leads_on waits k i j (Leads.onward k₁ h i₁ w more) rest = Leads.onward k h j w (leads_on waits h i j more rest)

module _ (clash : ℕ → ℕ → Bool) where
  abbrev Between : ℕ → ℕ → ℕ → Type 0
  Between k j i = (j < i) × (clash k i ≡ true) × (clash i j ≡ true)

  -- a place below a number that clashes with both, or there is none
  search_between : (k j m : ℕ) → ((i : ℕ) × (i < m) × Between k j i) ⊎ ((i : ℕ) → i < m → j < i → clash k i ≡ true → clash i j ≡ false)
  search_between k j zero = inr (λ i lt. absurd (omega arith))
  search_between k j (suc m) = elim (search_between k j m) [
    | inl f ↦ inl (f.0, omega (arith, f.1), f.2)
    | inr none ↦ elim (cases_lt j m) [
      | inr le ↦ inr (λ i lt more. absurd (omega arith))
      | inl lt ↦ elim (cases_Bool (clash k m)) [
        | inr f ↦ inr (λ i less more c. elim (cases_eq i m) [ inl e ↦ absurd (grind (arith, f)) | inr ne ↦ none i (omega (arith, less, ne)) more c ])
        | inl y ↦ elim (cases_Bool (clash m j)) [
          | inl too ↦ inl (m, omega arith, (lt, y, too))
          | inr f ↦ inr (λ i less more c. elim (cases_eq i m) [ inl e ↦ rw e f | inr ne ↦ none i (omega (arith, less, ne)) more c ])
        ]
      ]
    ]
  ]

  module _ (waits : ℕ → ℕ → Bool) (n : ℕ) (told : (k j : ℕ) → k < n → IsDirect clash k j → waits k j ≡ true) where
    led_within : (d k j : ℕ) → k < n → j < k → k ≤ j + d → clash k j ≡ true → Leads waits k j
    led_within zero k j below lt near c = absurd (omega arith)
    led_within (suc d) k j below lt near c = elim (search_between k j k) [
      | inr none ↦ Leads.at_once k j (told k j below (record { earlier = lt; clashes = c; none_between = λ i more less. none i less more }))
      | inl f ↦
          let i = f.0 in
          let less : i < k = f.1 in
          let more : j < i = f.2.0 in
          leads_on waits k i j (led_within d k i below less (omega (arith, more, near)) f.2.1) (led_within d i j (omega (arith, less, below)) more (omega (arith, less, near)) f.2.2)
    ]

    pub leads_where_clashing : (k j : ℕ) → k < n → j < k → clash k j ≡ true → Leads waits k j
    leads_where_clashing k j below lt c = led_within k k j below lt (omega arith) c
