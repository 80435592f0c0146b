-- Places in decimal, and from which place on places rise behind one line more.
use Rattle.std.proofs.Common.{◌≡◌, ◌<◌, ◌≤◌, ◌+◌, ◌^◌, ℕ, Bool, true, false, not, ◌&&◌, List, [], ◌∷◌, ◌++◌, length, get_or, None, Some, inl, inr, refl, sym, ◌∙◌, arith, rules, lit<}
use Rattle.std.specs.Prelude.{nat_lt}
use Rattle.std.specs.List.{filter_map, list_all}
use Rattle.std.specs.Char.{is_ascii_digit}
use Rattle.std.specs.Fmt.{decimal}
use Rattle.std.specs.Str.{bytes_eq}
use Rattle.std.specs.Str.Parse.{digits_value}
use Rattle.std.proofs.lemmas.Bool.{cases_Bool, cases_lt, le-leb, ltb-true}
use Rattle.std.proofs.lemmas.Bool.Decides.{nat_tests}
use Rattle.std.proofs.lemmas.Fmt.{decimal-digits_value, decimal_digit, digits_decimal, first_decimal}
use Rattle.std.proofs.lemmas.List.{append-nil}
use Rattle.std.proofs.lemmas.List.Elements.{filter_map-append}
use Rattle.std.proofs.lemmas.List.Folds.{list_all-append}
use Rattle.std.proofs.lemmas.Slice.Eq.{bytes_eq-Decides}
use Rattle.std.proofs.lemmas.Str.Parse.{IsNumeralModel, numerals_by_value}
use Rattle.report_diff.specs.Lines.{line_kind, subject}
use Rattle.report_diff.specs.Places.{RisesFrom, falls, is_entry, line_place, number_of, place_of}

own : IsNumeralModel (λ ds. list_all is_ascii_digit ds ≡ true) (digits_value 10)
own = numerals_by_value (λ ds. list_all is_ascii_digit ds ≡ true) (search rules)

-- a word of digits is the decimal of its number where no zero leads, and no other word is one
is_decimal : (word : List ℕ) → 0 < length word → (get_or word 0 0 ≡ 48 → length word ≡ 1) → digits_value 10 word < 2 ^ 32
    → bytes_eq word (decimal (digits_value 10 word)) ≡ list_all is_ascii_digit word
is_decimal word some plain small = elim (cases_Bool (list_all is_ascii_digit word)) [
  | inl digits ↦ (bytes_eq-Decides word (decimal (digits_value 10 word))).1 (sym (decimal-digits_value own word digits some plain (omega arith))) ∙ sym digits
  | inr other ↦ elim (cases_Bool (bytes_eq word (decimal (digits_value 10 word)))) [
    | inl same ↦ (let digits : list_all is_ascii_digit word ≡ true = rw (← (bytes_eq-Decides word (decimal (digits_value 10 word))).0 same) at (digits_decimal own (digits_value 10 word) (omega arith)) in absurd (search (rules, digits, other)))
    | inr not ↦ not ∙ sym other
  ]
]

pub place_is_number : (word : List ℕ) → 0 < length word → (get_or word 0 0 ≡ 48 → length word ≡ 1) → place_of word ≡ number_of word
unfolding place_of
place_is_number word some plain = elim (cases_Bool (nat_lt (digits_value 10 word) (2 ^ 32))) [
  | inl small ↦ rw (small, is_decimal word some plain (ltb-true _ _ small)) (search rules)
  | inr great ↦ rw great (search rules)
]

pub empty_is_none : (word : List ℕ) → length word ≡ 0 → place_of word ≡ None
unfolding place_of
empty_is_none [] none = rw (decimal_digit 0 (lit< tt)) refl
empty_is_none (b ∷ more) none = absurd (omega arith)

-- no decimal begins with a zero before other digits
pub zero_is_none : (word : List ℕ) → get_or word 0 0 ≡ 48 → 1 < length word → place_of word ≡ None
unfolding place_of
zero_is_none word zero more = elim (cases_Bool (nat_lt (digits_value 10 word) (2 ^ 32) && bytes_eq word (decimal (digits_value 10 word)))) [
  | inl both ↦ absurd (leads (digits_value 10 word) (ltb-true _ _ (and_first _ _ both)) ((bytes_eq-Decides word (decimal (digits_value 10 word))).0 (and_second _ _ both)))
  | inr neither ↦ rw neither refl
]
  where
    and_first : (a b : Bool) → (a && b) ≡ true → a ≡ true
    and_first a b both = grind (arith, both)

    and_second : (a b : Bool) → (a && b) ≡ true → b ≡ true
    and_second a b both = grind (arith, both)

    leads : (n : ℕ) → n < 2 ^ 32 → word ≡ decimal n → ⊥
    leads n small same = elim (cases_lt 0 n) [
      | inl above ↦ (let first = first_decimal n above (omega arith) in let lead : 48 < 48 = rw (← same, zero) at first in omega arith)
      | inr none ↦ (let e : n ≡ 0 = omega arith in let one : length word ≡ 1 = rw (same, e, decimal_digit 0 (lit< tt)) refl in omega arith)
    ]

-- a line of another kind, and the line of an entry whose place is not below
pub rises_still : (earlier : List (List ℕ)) (line : List ℕ) (next : ℕ) → is_entry (line_kind line) ≡ false → RisesFrom next earlier
    → RisesFrom next (earlier ++ line ∷ [])
unfolding line_place
rises_still earlier line next other from = λ place. rw (filter_map-append line_place earlier (line ∷ []), other, append-nil) (from place)

pub rises_above : (earlier : List (List ℕ)) (line : List ℕ) (next place : ℕ) → line_place line ≡ Some place → next ≤ place → RisesFrom next earlier
    → RisesFrom (place + 1) (earlier ++ line ∷ [])
rises_above earlier line next place is above from = λ q.
    rw (filter_map-append line_place earlier (line ∷ []), is, list_all-append (λ one. nat_lt one q) (filter_map line_place earlier) (place ∷ []), from q)
    (grind (arith, nat_tests))

-- the place of an entry that does not fall
pub place_is : (line : List ℕ) → is_entry (line_kind line) ≡ true → line_place line ≡ place_of (subject line)
unfolding line_place
place_is line entry = rw entry refl

pub not_falling : (earlier : List (List ℕ)) (line : List ℕ) (next place : ℕ) → line_place line ≡ Some place → next ≤ place → RisesFrom next earlier
    → falls earlier line ≡ false
unfolding falls
not_falling earlier line next place is above from = rw (is, from place, le-leb next place above) (search rules)
