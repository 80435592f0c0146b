-- The number that digits write grows with each digit.
use Rattle.std.proofs.Common.{◌≡◌, ℕ, suc, ◌+◌, ◌*◌, ◌<◌, List, ◌∷◌, length, drop, get_or, map, ap, ◌∙◌, arith, drop-cons}
use Rattle.std.specs.Int.Digits.{number_from_digits_after}
use Rattle.std.proofs.lemmas.Int.Digits.{number_after_ge}
use Rattle.text_words.specs.Numbers.{digit_value}

pub next_digit : (base n : ℕ) (digits : List ℕ) (i : ℕ) → i < length digits
    → number_from_digits_after base n (map digit_value (drop i digits)) ≡ number_from_digits_after base (n * base + digit_value (get_or digits i 0)) (map digit_value (drop (i + 1) digits))
next_digit base n digits i lt =
    let k : suc i ≡ i + 1 = omega arith in
    ap (λ (l : List ℕ). number_from_digits_after base n (map digit_value l)) (drop-cons digits i 0 lt ∙ ap (λ (m : ℕ). get_or digits i 0 ∷ drop m digits) k)

pub is_above : (base n : ℕ) (digits : List ℕ) (i total last : ℕ) → 0 < base → i < length digits
    → number_from_digits_after base n (map digit_value (drop i digits)) ≡ total → last < n * base + digit_value (get_or digits i 0) → last < total
is_above base n digits i total last b lt same over =
    omega (arith, same, next_digit base n digits i lt, number_after_ge base (n * base + digit_value (get_or digits i 0)) (map digit_value (drop (i + 1) digits)) b)
