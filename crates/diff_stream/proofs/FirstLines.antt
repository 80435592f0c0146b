-- The first line of a text, and the lines of that.
use Rattle.std.proofs.Common.{◌≡◌, ◌<◌, ◌++◌, ◌∷◌, ℕ, true, false, List, [], None, Some, length, get_or, refl, sym, ap, ◌∙◌, inl, inr, arith, append_assoc}
use Rattle.std.specs.List.{after_first, before_first, list_any, position_or_len}
use Rattle.std.proofs.lemmas.Bool.{cases_Bool, cases_lt}
use Rattle.std.proofs.lemmas.List.Folds.{list_any-append, list_any_none}
use Rattle.std.proofs.lemmas.List.Splits.{slice_split_none}
use Rattle.std.proofs.lemmas.List.Sums.{fails_before_first, passes_at_first, split_at_first}
use Rattle.std.proofs.lemmas.Bool.Decides.{nat_tests}
use Rattle.std.proofs.Math.Seq.{take-append-add, take-append_seam}
use Rattle.report_diff.specs.Lines.{lines}
use Rattle.report_diff.specs.Merging.{is_feed, text_of, whole_lines}
use Rattle.report_diff.proofs.EarlyText.{whole_on}
use Rattle.report_diff.proofs.MergeLemmas.{All-from_none, lines_on, text_more}
use Rattle.text_lines.specs.Lines.{first_line}

-- where there is no line feed
none_in : (text : List ℕ) → first_line text ≡ None → list_any is_feed text ≡ false
none_in text none = elim (cases_Bool (list_any is_feed text)) [
  | inl has ↦ (let never : Some (before_first is_feed text) ≡ None = rw has at none in cc)
  | inr not ↦ not
]

pub no_whole : (text : List ℕ) → first_line text ≡ None → whole_lines text ≡ []
no_whole text none = rw (slice_split_none is_feed text (All-from_none text (none_in text none))) refl

-- where there is one
has_feed : (text line : List ℕ) → first_line text ≡ Some line → list_any is_feed text ≡ true
has_feed text line is = elim (cases_Bool (list_any is_feed text)) [
  | inl has ↦ has
  | inr not ↦ (let never : None ≡ Some line = rw not at is in cc)
]

within : (text : List ℕ) → list_any is_feed text ≡ true → position_or_len is_feed text < length text
within text has = elim (cases_lt (position_or_len is_feed text) (length text)) [
  | inl lt ↦ lt
  | inr past ↦ (let none = list_any_none is_feed text (λ k d lt. fails_before_first is_feed text k d (omega arith)) in
      let never : true ≡ false = sym has ∙ none in cc)
]

line_is : (text line : List ℕ) → first_line text ≡ Some line → before_first is_feed text ≡ line
line_is text line is = let same : Some (before_first is_feed text) ≡ Some line = rw (has_feed text line is) at is in cc

pub splits : (text line : List ℕ) → first_line text ≡ Some line → text ≡ line ++ 10 ∷ after_first is_feed text
splits text line is =
    let lt = within text (has_feed text line is) in
    let feed : get_or text (position_or_len is_feed text) 0 ≡ 10 = grind (arith, nat_tests, passes_at_first is_feed text 0 lt) in
    split_at_first is_feed text 0 lt ∙ rw (feed, line_is text line is) refl

none_before : (text : List ℕ) → list_any is_feed (before_first is_feed text) ≡ false
none_before [] = refl
none_before (x ∷ xs) = elim (cases_Bool (is_feed x)) [
  | inl feed ↦ rw feed refl
  | inr other ↦ rw (other, take-append-add (x ∷ []) xs (position_or_len is_feed xs), other) (none_before xs)
]

pub plain_line : (text line : List ℕ) → first_line text ≡ Some line → list_any is_feed line ≡ false
plain_line text line is = rw (← line_is text line is) (none_before text)

first_place : (line rest : List ℕ) → list_any is_feed line ≡ false → position_or_len is_feed (line ++ 10 ∷ rest) ≡ length line
first_place [] rest none = refl
first_place (x ∷ xs) rest none = elim (cases_Bool (is_feed x)) [
  | inl feed ↦ (let never : true ≡ false = rw feed at none in cc)
  | inr other ↦ (let behind = first_place xs rest (rw other at none) in rw other (omega (arith, behind)))
]

first_at : (line rest : List ℕ) → list_any is_feed line ≡ false → first_line (line ++ 10 ∷ rest) ≡ Some line
first_at line rest plain = rw (list_any-append, plain, first_place line rest plain, take-append_seam line (10 ∷ rest)) refl

-- more bytes behind
pub stays : (text more line : List ℕ) → first_line text ≡ Some line → first_line (text ++ more) ≡ Some line
stays text more line is =
    ap first_line (ap (λ x. x ++ more) (splits text line is) ∙ append_assoc line (10 ∷ after_first is_feed text) more)
    ∙ first_at line (after_first is_feed text ++ more) (plain_line text line is)

-- a line that is passed
pub passed_on : (all : List (List ℕ)) (text line : List ℕ) → first_line text ≡ Some line → text_of all ++ text ≡ text_of (all ++ line ∷ []) ++ after_first is_feed text
passed_on all text line is =
    let rest = after_first is_feed text in
    ap (λ x. text_of all ++ x) (splits text line is) ∙ sym (append_assoc (text_of all) line (10 ∷ rest)) ∙ sym (append_assoc (text_of all ++ line) (10 ∷ []) rest)
    ∙ ap (λ x. x ++ rest) (text_more all line)

-- its lines
begins : (text more line : List ℕ) → first_line text ≡ Some line → text ++ more ≡ text_of (line ∷ []) ++ (after_first is_feed text ++ more)
begins text more line is = ap (λ x. x ++ more) (passed_on [] text line is) ∙ append_assoc (text_of (line ∷ [])) (after_first is_feed text) more

pub first_of_lines : (text more line : List ℕ) → first_line text ≡ Some line → (rest : List (List ℕ)) × (lines (text ++ more) ≡ line ∷ rest)
first_of_lines text more line is =
    let rest = after_first is_feed text ++ more in
    (lines rest, ap lines (begins text more line is) ∙ lines_on (line ∷ []) rest (rw (plain_line text line is) refl))

pub first_of_whole : (text more line : List ℕ) → first_line text ≡ Some line → (rest : List (List ℕ)) × (whole_lines (text ++ more) ≡ line ∷ rest)
first_of_whole text more line is =
    let rest = after_first is_feed text ++ more in
    (whole_lines rest, ap whole_lines (begins text more line is) ∙ whole_on (line ∷ []) rest (rw (plain_line text line is) refl))
