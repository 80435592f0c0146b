-- The slots of a line are read as they are shown.
use Rattle.std.proofs.Common.{◌≡◌, ℕ, zero, suc, ◌+◌, ◌-◌, ◌<◌, ◌≤◌, ◌^◌, true, false, eqb, ltb, List, [], ◌∷◌, ◌++◌, length, replicate, Option, None, Some, Result, Ok, inl, inr, refl, sym, ap, ◌∙◌, append_assoc, append-nil, arith}
use Rattle.std.proofs.lemmas.Bool.{cases_Bool, ne_eqb, eqb-true, eqb-false, le-ltb, lt-leb, ltb-true, and_parts}
use Rattle.std.proofs.lemmas.List.{length-append, length-replicate}
use Rattle.std.specs.Prelude.{codes, nat_eq}
use Rattle.std.specs.List.{list_all, starts_with}
use Rattle.std.specs.Str.{bytes_eq}
use Rattle.std.specs.Fmt.{decimal}
use Rattle.text_words.specs.declared.fault.Fault.{Fault}
use Rattle.text_words.specs.Read.{Rest, repeated}
use Rattle.text_words.specs.Words.{is_gap, is_at_end}
use Rattle.trace_text.specs.Shown.{empty_slots, slots_from}
use Rattle.text_trace.specs.Lines.{empty_slots as empty_in, full_slot, add_slots, next_slots, more_slots, all_slots, slots_of}
use Rattle.text_laws.specs.Words.{at_gap, is_word, rest, word}
use Rattle.text_laws.proofs.Chains.{Leads, leads_none, leads_one, leads_then, leads_to}
use Rattle.text_laws.proofs.Digits.{is_digit, none_passes, small_range}
use Rattle.text_laws.proofs.Parts.{joined_is, indent_is, next_bytes, next_behind, next_more, first_behind, end_is, feed_is}
use Rattle.text_laws.proofs.Words.{decimal_is_word, digits_free}
use Rattle.text_laws.proofs.Numbers.{digit_gap, decimal_comes_back, decimal_digits, count_comes_back}

-- digits are no dash
no_dash : (w : List ℕ) → list_all (is_digit 10) w ≡ true → (bytes_eq w (codes "-") ≡ false) × (starts_with nat_eq w (codes "-*") ≡ false)
no_dash [] h = (refl, refl)
no_dash (b ∷ bs) h =
    let range = small_range b (and_parts (is_digit 10 b) (list_all (is_digit 10) bs) h).0 in
    let one : eqb b 45 ≡ false = ne_eqb b 45 (λ e. omega (arith, e, range.0)) in
    let other : eqb 45 b ≡ false = ne_eqb 45 b (λ e. omega (arith, e, range.0)) in
    (rw one refl, rw other refl)

-- a word that is a slot
full_is : (slots : List ℕ) (s left : ℕ) → s < 2 ^ 32 - 1 → length slots < 1024 → full_slot slots (word (decimal s) left) ≡ Ok (slots ++ suc s ∷ [])
unfolding full_slot
full_is slots s left lt few =
    let next : s + 1 ≡ suc s = omega arith in
    let last : eqb s (2 ^ 32 - 1) ≡ false = ne_eqb s (2 ^ 32 - 1) (λ e. omega (arith, e, lt)) in
    rw (decimal_comes_back 32 s left (omega (arith, lt)), last, lt-leb 1024 (length slots) few, next) refl

full_adds : (slots : List ℕ) (s left : ℕ) → s < 2 ^ 32 - 1 → length slots < 1024 → add_slots slots (word (decimal s) left) ≡ Ok (slots ++ suc s ∷ [])
unfolding add_slots empty_in
full_adds slots s left lt few =
    let dash = no_dash (decimal s) (decimal_digits s (omega (arith, lt))).0 in
    rw (dash.0, dash.1) (full_is slots s left lt few)

full_step : (slots : List ℕ) (s : ℕ) (more : List ℕ) (room : ℕ) → s < 2 ^ 32 - 1 → length slots < 1024 → at_gap more ≡ true
    → more_slots (slots, rest (32 ∷ decimal s ++ more) room) ≡ Some (Ok (slots ++ suc s ∷ [], rest more room))
unfolding next_slots
full_step slots s more room lt few g =
    let w = decimal_is_word s (omega (arith, lt)) in
    rw (next_more (decimal s) more w g, next_bytes (decimal s) more w g, full_adds slots s _ lt few, next_behind (decimal s) more w g) refl

-- a word that is empty slots
one_adds : (slots : List ℕ) (left : ℕ) → length slots < 1024 → add_slots slots (word (codes "-") left) ≡ Ok (slots ++ 0 ∷ [])
unfolding add_slots empty_in
one_adds slots left few = rw (le-ltb 1024 (length slots + 1) (omega (arith, few))) refl

many_adds : (slots : List ℕ) (n left : ℕ) → 0 < n → length slots + n ≤ 1024
    → add_slots slots (word (codes "-*" ++ decimal n) left) ≡ Ok (slots ++ replicate n 0)
unfolding add_slots empty_in
many_adds slots n left some few =
    rw (count_comes_back n (left - 2) some (omega (arith, few)), le-ltb 1024 (length slots + n) few) refl

word_step : (slots all w more : List ℕ) (room : ℕ) → is_word w ≡ true → at_gap more ≡ true → ((left : ℕ) → add_slots slots (word w left) ≡ Ok all)
    → more_slots (slots, rest (32 ∷ w ++ more) room) ≡ Some (Ok (all, rest more room))
unfolding next_slots
word_step slots all w more room h g adds = rw (next_more w more h g, next_bytes w more h g, adds _, next_behind w more h g) refl

counted_word : (n : ℕ) → n < 2 ^ 64 → is_word (codes "-*" ++ decimal n) ≡ true
counted_word n lt = rw (none_passes is_gap digit_gap (decimal n) (digits_free n lt)) refl

empty_step : (slots : List ℕ) (n : ℕ) (more : List ℕ) (room : ℕ) → 0 < n → length slots + n ≤ 1024 → at_gap more ≡ true
    → more_slots (slots, rest (empty_slots n ++ more) room) ≡ Some (Ok (slots ++ replicate n 0, rest more room))
empty_step slots n more room some few g = elim (cases_Bool (eqb n 1)) [
  | inl one ↦
      let is : n ≡ 1 = eqb-true n 1 one in
      let step = word_step slots (slots ++ 0 ∷ []) (codes "-") more room refl g (λ left. one_adds slots left (omega (arith, few, is))) in
      rw is step
  | inr several ↦
      let none : eqb n 0 ≡ false = ne_eqb n 0 (λ e. omega (arith, e, some)) in
      let whole = counted_word n (omega (arith, few)) in
      rw (none, several) (word_step slots (slots ++ replicate n 0) (codes "-*" ++ decimal n) more room whole g (λ left. many_adds slots n left some few))
]

some_long : (n : ℕ) → 0 < n → 0 < length (empty_slots n)
some_long n some = elim (cases_Bool (eqb n 1)) [
  | inl one ↦ rw (ne_eqb n 0 (λ e. omega (arith, e, some)), one) (omega arith)
  | inr several ↦ rw (ne_eqb n 0 (λ e. omega (arith, e, some)), several) (omega arith)
]

-- some empty slots, or none, lead on
empties_lead : (slots : List ℕ) (n : ℕ) (more : List ℕ) (room : ℕ) → length slots + n ≤ 1024 → at_gap more ≡ true
    → Leads more_slots (slots, rest (empty_slots n ++ more) room) (slots ++ replicate n 0, rest more room) (length (empty_slots n ++ more)) (length more)
empties_lead slots zero more room few g = rw (append-nil slots) (leads_none more_slots (slots, rest more room) (length more))
empties_lead slots (suc n) more room few g =
    leads_one more_slots _ _ _ _ (empty_step slots (suc n) more room (omega arith) few g)
    (omega (arith, length-append (empty_slots (suc n)) more, some_long (suc n) (omega arith)))

-- a gap stands before slots
gap_before : (n : ℕ) (more : List ℕ) → at_gap more ≡ true → at_gap (empty_slots n ++ more) ≡ true
gap_before n more g = elim (cases_Bool (eqb n 0)) [
  | inl none ↦ rw none g
  | inr some ↦ elim (cases_Bool (eqb n 1)) [
    | inl one ↦ rw (some, one) refl
    | inr several ↦ rw (some, several) refl
  ]
]

one_more : (n : ℕ) (ss : List ℕ) → replicate (suc n) 0 ++ ss ≡ replicate n 0 ++ (0 ∷ ss)
one_more zero ss = refl
one_more (suc n) ss = ap (λ (l : List ℕ). 0 ∷ l) (one_more n ss)

full_text : (n s : ℕ) (ss more : List ℕ)
    → (empty_slots n ++ codes " " ++ decimal s) ++ slots_from 0 ss ++ more ≡ empty_slots n ++ (32 ∷ decimal s ++ (slots_from 0 ss ++ more))
full_text n s ss more = joined_is (empty_slots n) (codes " " ∷ decimal s ∷ slots_from 0 ss ∷ []) more

pub slots_gap : (n : ℕ) (ss more : List ℕ) → at_gap (slots_from n ss ++ (10 ∷ more)) ≡ true
slots_gap n [] more = gap_before n (10 ∷ more) refl
slots_gap n (s ∷ ss) more = elim (cases_Bool (eqb s 0)) [
  | inl empty ↦ rw empty (slots_gap (n + 1) ss more)
  | inr full ↦ rw (full, full_text n (s - 1) ss (10 ∷ more)) (gap_before n _ refl)
]

-- the slots that a line has lead to its end
slots_lead : (n : ℕ) (ss slots : List ℕ) (more : List ℕ) (room : ℕ) → list_all (λ s. ltb s (2 ^ 32)) ss ≡ true → length slots + n + length ss ≤ 1024
    → Leads more_slots (slots, rest (slots_from n ss ++ (10 ∷ more)) room) (slots ++ (replicate n 0 ++ ss), rest (10 ∷ more) room)
    (length (slots_from n ss ++ (10 ∷ more))) (length (10 ∷ more))
slots_lead n [] slots more room small few = rw (append-nil {A = ℕ} (replicate n 0)) (empties_lead slots n (10 ∷ more) room (omega (arith, few)) refl)
slots_lead n (s ∷ ss) slots more room small few =
    let parts = and_parts (ltb s (2 ^ 32)) (list_all (λ s. ltb s (2 ^ 32)) ss) small in
    elim (cases_Bool (eqb s 0)) [
      | inl empty ↦
          let next : n + 1 ≡ suc n = omega arith in
          let all : replicate n 0 ++ (s ∷ ss) ≡ replicate (n + 1) 0 ++ ss = ap (λ (k : ℕ). replicate n 0 ++ (k ∷ ss)) (eqb-true s 0 empty)
          ∙ sym (one_more n ss) ∙ ap (λ (k : ℕ). replicate k 0 ++ ss) (sym next) in
          rw (empty, all) (slots_lead (n + 1) ss slots more room parts.1 (omega (arith, few)))
      | inr full ↦
          let some = eqb-false s 0 full in
          let lt = ltb-true s (2 ^ 32) parts.0 in
          let less : s - 1 < 2 ^ 32 - 1 = omega (arith, lt, some) in
          let back : suc (s - 1) ≡ s = omega (arith, some) in
          let t2 : List ℕ = slots_from 0 ss ++ (10 ∷ more) in
          let front : List ℕ = slots ++ replicate n 0 in
          let long : length front ≡ length slots + n = length-append slots (replicate n 0) ∙ ap (λ (k : ℕ). length slots + k) (length-replicate n 0) in
          let first = empties_lead slots n (32 ∷ decimal (s - 1) ++ t2) room (omega (arith, few)) refl in
          let t1 : List ℕ = 32 ∷ decimal (s - 1) ++ t2 in
          let full_one = full_step front (s - 1) t2 room less (omega (arith, long, few)) (slots_gap 0 ss more) in
          let second = leads_one more_slots (front, rest t1 room) (front ++ suc (s - 1) ∷ [], rest t2 room) (length t1) (length t2) full_one
          (omega (arith, length-append (decimal (s - 1)) t2)) in
          let third = slots_lead 0 ss (front ++ suc (s - 1) ∷ []) more room parts.1 (omega (arith, long, few, length-append front (suc (s - 1) ∷ []))) in
          let all : slots ++ (replicate n 0 ++ (s ∷ ss)) ≡ (front ++ suc (s - 1) ∷ []) ++ ss =
          ap (λ (k : ℕ). slots ++ (replicate n 0 ++ (k ∷ ss))) (sym back) ∙ sym (append_assoc slots (replicate n 0) (suc (s - 1) ∷ ss))
          ∙ sym (append_assoc front (suc (s - 1) ∷ []) ss) in
          rw (full, full_text n (s - 1) ss (10 ∷ more), all) (leads_then first (leads_then second third))
    ]

-- where a step is made, the line goes on
goes : (slots : List ℕ) (r : Rest) (x : Result (List ℕ × Rest) Fault) → more_slots (slots, r) ≡ Some x → is_at_end r ≡ false
goes slots r x e = elim (cases_Bool (is_at_end r)) [
  | inl ended ↦ let none : Option (Result (List ℕ × Rest) Fault) = None in let clash : none ≡ Some x = rw ended at e in absurd cc
  | inr more ↦ more
]

slots_go : (n : ℕ) (ss more : List ℕ) → list_all (λ s. ltb s (2 ^ 32)) ss ≡ true → n + length ss ≤ 1024 → 0 < n + length ss
    → is_at_end (rest (slots_from n ss ++ (10 ∷ more)) 0) ≡ false
slots_go n [] more small few some = goes [] _ _ (empty_step [] n (10 ∷ more) 0 (omega (arith, some)) (omega (arith, few)) refl)
slots_go n (s ∷ ss) more small few some =
    let parts = and_parts (ltb s (2 ^ 32)) (list_all (λ s. ltb s (2 ^ 32)) ss) small in
    elim (cases_Bool (eqb s 0)) [
      | inl empty ↦ rw empty (slots_go (n + 1) ss more parts.1 (omega (arith, few)) (omega arith))
      | inr full ↦
          let lt = ltb-true s (2 ^ 32) parts.0 in
          let less : s - 1 < 2 ^ 32 - 1 = omega (arith, lt, eqb-false s 0 full) in
          let t2 : List ℕ = slots_from 0 ss ++ (10 ∷ more) in
          elim (cases_Bool (eqb n 0)) [
            | inl none ↦ rw (full, full_text n (s - 1) ss (10 ∷ more), none) (goes [] _ _ (full_step [] (s - 1) t2 0 less (omega arith) (slots_gap 0 ss more)))
            | inr before ↦ rw (full, full_text n (s - 1) ss (10 ∷ more))
                (goes [] _ _ (empty_step [] n (32 ∷ decimal (s - 1) ++ t2) 0 (omega (arith, eqb-false n 0 before)) (omega (arith, few)) refl))
          ]
    ]

-- the line of slots, by its first word
slots_read : (w : List ℕ) (s : ℕ) (ss more : List ℕ) (room : ℕ) → is_word w ≡ true → list_all (λ s. ltb s (2 ^ 32)) (s ∷ ss) ≡ true → length (s ∷ ss) ≤ 1024
    → slots_of (rest (w ++ (slots_from 0 (s ∷ ss) ++ (10 ∷ more))) room) ≡ Ok (s ∷ ss, rest more room)
unfolding slots_of all_slots
slots_read w s ss more room h small few =
    let t : List ℕ = slots_from 0 (s ∷ ss) ++ (10 ∷ more) in
    let all : repeated (length t) more_slots ([], rest t room) ≡ Ok (s ∷ ss, rest (10 ∷ more) room) =
    leads_to (slots_lead 0 (s ∷ ss) [] more room small (omega (arith, few))) (rw (feed_is more) refl) in
    rw (first_behind w t h (slots_gap 0 (s ∷ ss) more), slots_go 0 (s ∷ ss) more small (omega (arith, few)) (omega arith), all, end_is more room) refl

pub descriptors_come : (s : ℕ) (ss more : List ℕ) (room : ℕ) → list_all (λ s. ltb s (2 ^ 32)) (s ∷ ss) ≡ true → length (s ∷ ss) ≤ 1024
    → slots_of (rest (codes "descriptors" ++ (slots_from 0 (s ∷ ss) ++ (10 ∷ more))) room) ≡ Ok (s ∷ ss, rest more room)
descriptors_come s ss more room small few = slots_read (codes "descriptors") s ss more room refl small few

indented : (text : List ℕ) (room : ℕ) → slots_of (rest (32 ∷ 32 ∷ text) room) ≡ slots_of (rest text room)
unfolding slots_of
indented text room = rw (indent_is text) refl

pub slots_come : (s : ℕ) (ss more : List ℕ) (room : ℕ) → list_all (λ s. ltb s (2 ^ 32)) (s ∷ ss) ≡ true → length (s ∷ ss) ≤ 1024
    → slots_of (rest (codes "  slots" ++ (slots_from 0 (s ∷ ss) ++ (10 ∷ more))) room) ≡ Ok (s ∷ ss, rest more room)
slots_come s ss more room small few = indented (codes "slots" ++ (slots_from 0 (s ∷ ss) ++ (10 ∷ more))) room
    ∙ slots_read (codes "slots") s ss more room refl small few
