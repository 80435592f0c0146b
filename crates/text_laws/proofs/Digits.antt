-- The digits of a number write it.
use Rattle.std.proofs.Common.{◌≡◌, ℕ, zero, suc, ◌+◌, ◌-◌, ◌*◌, ◌/◌, ◌%◌, ◌<◌, ◌≤◌, ◌^◌, Bool, true, false, cond, eqb, ltb, leb, List, [], ◌∷◌, length, map, inl, inr, ◌⊎◌, refl, sym, ap, subst, ◌∙◌, arith}
use Rattle.std.specs.Prelude.{nat_lt, nat_eq, ◌&&◌, not}
use Rattle.std.specs.List.{list_all, list_any}
use Rattle.std.specs.Fmt.{digit_glyph, digits, digits_onto}
use Rattle.std.specs.Int.Digits.{number_from_digits, number_from_digits_after}
use Rattle.std.proofs.Math.Nat.{div-add-mod', div-lt_iff_lt-mul, mod-lt, pow-suc, pow-zero}
use Rattle.std.proofs.lemmas.Bool.{agree_below_at, and_from, and_parts, cases_Bool, eqb-true, leb-true, lt-ltb, ltb-true, ne_eqb, not_from_false, or_from}
use Rattle.text_words.specs.Numbers.{are_digits, digit_value, value_of}

-- a digit of a base
abbrev pub is_digit : ℕ → ℕ → Bool
is_digit base b = nat_lt (digit_value b) base

pub glyph_value : (d : ℕ) → d < 16 → digit_value (digit_glyph false d) ≡ d
glyph_value d lt = eqb-true (digit_value (digit_glyph false d)) d (agree_below_at (λ k. nat_eq (digit_value (digit_glyph false k)) k) (λ k. true) 16 d refl lt)

-- where a digit stands among the bytes
pub digit_range : (b : ℕ) → is_digit 16 b ≡ true → ((48 ≤ b) × (b ≤ 57)) ⊎ ((97 ≤ b) × (b ≤ 102))
digit_range b h = elim (cases_Bool (leb 48 b && leb b 57)) [
  | inl low ↦ let parts = and_parts (leb 48 b) (leb b 57) low in inl (leb-true 48 b parts.0, leb-true b 57 parts.1)
  | inr other ↦ elim (cases_Bool (leb 97 b && leb b 102)) [
    | inl high ↦ let parts = and_parts (leb 97 b) (leb b 102) high in inr (leb-true 97 b parts.0, leb-true b 102 parts.1)
    | inr none ↦ let e : false ≡ true = rw (other, none) at h in absurd cc
  ]
]

pub small_range : (b : ℕ) → is_digit 10 b ≡ true → (48 ≤ b) × (b ≤ 57)
small_range b h = elim (cases_Bool (leb 48 b && leb b 57)) [
  | inl low ↦ let parts = and_parts (leb 48 b) (leb b 57) low in (leb-true 48 b parts.0, leb-true b 57 parts.1)
  | inr other ↦ elim (cases_Bool (leb 97 b && leb b 102)) [
    | inl high ↦
        let parts = and_parts (leb 97 b) (leb b 102) high in
        let e : ltb (b - 87) 10 ≡ true = rw (other, high) at h in
        absurd (omega (arith, ltb-true (b - 87) 10 e, leb-true 97 b parts.0))
    | inr none ↦ let e : false ≡ true = rw (other, none) at h in absurd cc
  ]
]

-- what digits are, with others behind them that came before
pub record Onto (base n k : ℕ) (acc all : List ℕ) : Type 0 where
  pub digits : list_all (is_digit base) all ≡ true
  pub value : number_from_digits base (map digit_value all) ≡ number_from_digits_after base n (map digit_value acc)
  pub some : 0 < k → 0 < length all

length_onto : (base k n g : ℕ) (acc : List ℕ) → 0 < length (digits_onto k base false n (g ∷ acc))
length_onto base zero n g acc = omega arith
length_onto base (suc k) n g acc = elim (cases_Bool (eqb (n / base) 0)) [
  | inl last ↦ rw last (omega arith)
  | inr more ↦ rw more (length_onto base k (n / base) (digit_glyph false (n % base)) (g ∷ acc))
]

module _ (base : ℕ) (low : 2 ≤ base) (high : base ≤ 16) where
  onto : (k n : ℕ) (acc : List ℕ) → n < base ^ k → list_all (is_digit base) acc ≡ true → Onto base n k acc (digits_onto k base false n acc)
  onto zero n acc h ds =
      let e : 0 ≡ n = omega (arith, pow-zero base) in
      record { digits = ds; value = ap (λ (m : ℕ). number_from_digits_after base m (map digit_value acc)) e; some = λ l. absurd (omega arith) }
  onto (suc k) n acc h ds = by (eqb (n / base) 0) refl (onto k (n / base) (g ∷ acc) ((div-lt_iff_lt-mul some).1 (omega (arith, pow-suc base k))) front)
    where
      some : 0 < base
      some = omega arith

      part : n % base < base
      part = mod-lt n some

      g : ℕ
      g = digit_glyph false (n % base)

      is : digit_value g ≡ n % base
      is = glyph_value (n % base) (omega (arith, part))

      front : list_all (is_digit base) (g ∷ acc) ≡ true
      front = and_from (is_digit base g) (list_all (is_digit base) acc) (lt-ltb (digit_value g) base (omega (arith, is, part))) ds

      whole : n / base * base + digit_value g ≡ n
      whole = ap (λ (m : ℕ). n / base * base + m) is ∙ div-add-mod' n base

      by : (t : Bool) → eqb (n / base) 0 ≡ t → Onto base (n / base) k (g ∷ acc) (digits_onto k base false (n / base) (g ∷ acc))
          → Onto base n (suc k) acc (cond (eqb (n / base) 0) (g ∷ acc) (digits_onto k base false (n / base) (g ∷ acc)))
      by true e r = subst (λ (b : Bool). Onto base n (suc k) acc (cond b (g ∷ acc) (digits_onto k base false (n / base) (g ∷ acc)))) (sym e) (record {
        digits = front;
        value = ap (λ (m : ℕ). number_from_digits_after base m (map digit_value acc))
            (ap (λ (q : ℕ). q * base + digit_value g) (sym (eqb-true (n / base) 0 e)) ∙ whole);
        some = λ l. omega arith;
      })
      by false e r = subst (λ (b : Bool). Onto base n (suc k) acc (cond b (g ∷ acc) (digits_onto k base false (n / base) (g ∷ acc)))) (sym e) (record {
        digits = r.digits;
        value = r.value ∙ ap (λ (m : ℕ). number_from_digits_after base m (map digit_value acc)) whole;
        some = λ l. length_onto base k (n / base) g acc;
      })

  -- the digits of a number
  pub digits_write : (n : ℕ) → n < base ^ 64 → (list_all (is_digit base) (digits base false n) ≡ true) × (value_of base (digits base false n) ≡ n)
      × (0 < length (digits base false n))
  unfolding digits
  digits_write n h = let r = onto 64 n [] h refl in (r.digits, r.value, r.some (omega arith))

-- a digit of a smaller base is one of a greater
pub all_digits : (base : ℕ) (w : List ℕ) → base ≤ 16 → list_all (is_digit base) w ≡ true → list_all (is_digit 16) w ≡ true
all_digits base [] le h = refl
all_digits base (b ∷ bs) le h =
    let parts = and_parts (is_digit base b) (list_all (is_digit base) bs) h in
    and_from (is_digit 16 b) (list_all (is_digit 16) bs) (lt-ltb (digit_value b) 16 (omega (arith, le, ltb-true (digit_value b) base parts.0)))
    (all_digits base bs le parts.1)

-- no digit passes a test of other bytes
pub none_passes : (p : ℕ → Bool) → ((b : ℕ) → is_digit 16 b ≡ true → p b ≡ false) → (w : List ℕ) → list_all (is_digit 16) w ≡ true → list_any p w ≡ false
none_passes p none [] h = refl
none_passes p none (b ∷ bs) h =
    let parts = and_parts (is_digit 16 b) (list_all (is_digit 16) bs) h in
    or_from (p b) (list_any p bs) (none b parts.0) (none_passes p none bs parts.1)

pub are : (base : ℕ) (w : List ℕ) → list_all (is_digit base) w ≡ true → 0 < length w → are_digits base w ≡ true
are base [] h lt = absurd (omega (arith, lt))
are base (b ∷ bs) h lt = and_from (not (eqb (suc (length bs)) 0)) (list_all (is_digit base) (b ∷ bs))
    (not_from_false (eqb (suc (length bs)) 0) (ne_eqb (suc (length bs)) 0 (λ e. omega (arith, e)))) h
