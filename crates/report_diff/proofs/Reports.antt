-- The form of a text, by the place of its first end.
use Rattle.std.proofs.Common.{◌≡◌, ◌<◌, ◌≤◌, ◌+◌, ◌++◌, ◌∷◌, ℕ, true, false, not, if◌then◌else◌, List, [], length, take, drop, Some, refl, sym, min, subst, ap, ◌∙◌, inl, inr, arith}
use Rattle.std.specs.List.{after_first, list_any, position_or_len}
use Rattle.std.specs.Option.{option_map}
use Rattle.std.specs.Borrow.{Bor}
use Rattle.std.proofs.lemmas.List.{take-map, length-map, take_all, drop_all}
use Rattle.std.specs.List.{drop-map}
use Rattle.std.specs.Prelude.{nat_lt}
use Rattle.std.proofs.lemmas.Bool.{cases_Bool, cases_lt, le-ltb, lt-ltb}
use Rattle.std.proofs.lemmas.List.Folds.{list_any-append, list_any_at, list_any_none}
use Rattle.std.proofs.Math.Seq.{drop-append-add, take-append-add}
use Rattle.std.proofs.lemmas.List.Sums.{fails_before_first, passes_at_first}
use Rattle.report_diff.specs.declared.refusal.Side.{Side}
use Rattle.report_diff.specs.declared.refusal.Flaw.TheVariants.{End, GoesOn}
use Rattle.report_diff.specs.Lines.{lines, texts}
use Rattle.report_diff.specs.declared.passed.Passed.{Passed}
use Rattle.report_diff.specs.declared.version.Version.TheVariants.{One, Two}
use Rattle.report_diff.specs.Merging.{IsPassed, order_behind}
use Rattle.report_diff.specs.Places.{falls, first_fall}
use Rattle.report_diff.proofs.FirstLemmas.{behind}
use Rattle.report_diff.specs.Inputs.{flaw_behind, is_end, is_nothing, order_of, report_in, first_text, second_text}
use Rattle.report_diff.specs.declared.version.Version.{Version}
use Rattle.report_diff.specs.Refusals.{flaw_text, order_text, shown_subject}

abbrev pub now : Bor (List ℕ) → List ℕ
now s = s.now

pub report_is : (all : List (Bor (List ℕ))) (end : ℕ) → end ≡ position_or_len is_end (texts all) → texts (take end all) ≡ report_in (texts all)
unfolding report_in
report_is all end place = rw (← take-map now end all, place) refl

-- whether some line is the end of a report
no_end : (text : List (List ℕ)) → length text ≤ position_or_len is_end text → list_any is_end text ≡ false
no_end text past = list_any_none is_end text (λ k d lt. fails_before_first is_end text k d (omega arith))

some_end : (text : List (List ℕ)) → position_or_len is_end text < length text → list_any is_end text ≡ true
some_end text lt = list_any_at is_end text (position_or_len is_end text) [] lt (passes_at_first is_end text [] lt)

pub has_end_is : (all : List (Bor (List ℕ))) (end : ℕ) → end ≡ position_or_len is_end (texts all) → nat_lt end (length all) ≡ list_any is_end (texts all)
has_end_is all end place = elim (cases_lt end (length all)) [
  | inl lt ↦ lt-ltb end (length all) lt ∙ sym (some_end (texts all) (omega (arith, place, length-map all now)))
  | inr ge ↦ le-ltb end (length all) ge ∙ sym (no_end (texts all) (omega (arith, place, length-map all now)))
]

-- behind lines of which none is an end
past : (earlier text : List (List ℕ)) → list_any is_end earlier ≡ false → position_or_len is_end (earlier ++ text) ≡ length earlier + position_or_len is_end text
past [] text none = omega arith
past (line ∷ more) text none = elim (cases_Bool (is_end line)) [
  | inl is ↦ (let never : true ≡ false = rw is at none in cc)
  | inr other ↦ (let rest = past more text (rw other at none) in rw other (omega (arith, rest)))
]

pub report_behind : (earlier text : List (List ℕ)) → list_any is_end earlier ≡ false → report_in (earlier ++ text) ≡ earlier ++ report_in text
unfolding report_in
report_behind earlier text none = rw (past earlier text none) (take-append-add earlier text (position_or_len is_end text))

after_behind : (earlier text : List (List ℕ)) → list_any is_end earlier ≡ false → after_first is_end (earlier ++ text) ≡ after_first is_end text
after_behind earlier text none =
    let same : position_or_len is_end (earlier ++ text) + 1 ≡ length earlier + (position_or_len is_end text + 1) = omega (arith, past earlier text none) in
    rw same (drop-append-add earlier text (position_or_len is_end text + 1))

order_is : (side : Side) (version : Version) (passed : Passed) (earlier report : List (List ℕ)) → IsPassed passed earlier
    → order_of side version (earlier ++ report) ≡ order_behind side version earlier report
unfolding first_fall
order_is side One passed earlier report known = refl
order_is side Two passed earlier report known =
    ap (option_map (λ (found : ℕ × List ℕ). order_text side found.0 (shown_subject found.1))) (behind falls [] earlier report known.orderly)

-- what is wrong with a text that has a heading, behind lines that were passed: no end
pub lacks_end : (side : Side) (version : Version) (passed : Passed) (earlier : List (List ℕ)) (all : List (Bor (List ℕ))) (end : ℕ) → IsPassed passed earlier
    → end ≡ position_or_len is_end (texts all) → end ≡ length all → flaw_behind side (earlier ++ texts all) (Some version) ≡ Some (flaw_text side End)
lacks_end side version passed earlier all end known place past =
    let none = no_end (texts all) (omega (arith, length-map all now)) in
    rw (list_any-append, known.unended, none) refl

-- or by what stands behind the end
pub flaw_is : (side : Side) (version : Version) (passed : Passed) (earlier : List (List ℕ)) (all : List (Bor (List ℕ))) (end : ℕ) → IsPassed passed earlier
    → end ≡ position_or_len is_end (texts all) → end < length all
    → flaw_behind side (earlier ++ texts all) (Some version)
    ≡ (if not (is_nothing (texts (drop (end + 1) all))) then Some (flaw_text side GoesOn) else order_behind side version earlier (texts (take end all)))
flaw_is side version passed earlier all end known place lt =
    let some = some_end (texts all) (omega (arith, length-map all now)) in
    rw (
      list_any-append,
      known.unended,
      some,
      after_behind earlier (texts all) known.unended,
      report_behind earlier (texts all) known.unended,
      order_is side version passed earlier (report_in (texts all)) known,
      ← drop-map now (end + 1) all,
      report_is all end place,
      place,
    ) refl

-- the texts of an input of both, by where the second begins
pub first_text_is : (input : List ℕ) (all : List (Bor (List ℕ))) (end second : ℕ) → texts all ≡ lines input → end ≡ position_or_len is_end (texts all)
    → second ≡ min (length all) (end + 1) → texts (take second all) ≡ first_text input
first_text_is input all end second same place cut =
    let whole : take second all ≡ take (end + 1) all = rw cut (least_taken all (end + 1)) in
    ap texts whole ∙ rw (← take-map now (end + 1) all, place, same) refl
  where
    least_taken : (xs : List (Bor (List ℕ))) (n : ℕ) → take (min (length xs) n) xs ≡ take n xs
    least_taken xs n = elim (cases_lt n (length xs)) [
      | inr all ↦ let least : min (length xs) n ≡ length xs = omega arith in rw (least, take_all (length xs) xs (omega arith), take_all n xs all) refl
      | inl more ↦ let least : min (length xs) n ≡ n = omega arith in rw least refl
    ]

pub second_text_is : (input : List ℕ) (all : List (Bor (List ℕ))) (end second : ℕ) → texts all ≡ lines input → end ≡ position_or_len is_end (texts all)
    → second ≡ min (length all) (end + 1) → texts (drop second all) ≡ second_text input
second_text_is input all end second same place cut =
    let whole : drop second all ≡ drop (end + 1) all = rw cut (least_dropped all (end + 1)) in
    ap texts whole ∙ rw (← drop-map now (end + 1) all, place, same) refl
  where
    least_dropped : (xs : List (Bor (List ℕ))) (n : ℕ) → drop (min (length xs) n) xs ≡ drop n xs
    least_dropped xs n = elim (cases_lt n (length xs)) [
      | inr all ↦ let least : min (length xs) n ≡ length xs = omega arith in rw (least, drop_all (length xs) xs (omega arith), drop_all n xs all) refl
      | inl more ↦ let least : min (length xs) n ≡ n = omega arith in rw least refl
    ]

-- what holds of two texts holds of the same texts
pub of_same : (P : List (List ℕ) → List (List ℕ) → Type 0) {a a' b b' : List (List ℕ)} → a ≡ a' → b ≡ b' → P a b → P a' b'
of_same P {b = b} e f p = subst (P _) f (subst (λ x. P x b) e p)
