-- What is told early of two texts, by the entries of both that were passed.
use Rattle.std.proofs.Common.{◌≡◌, ◌+◌, ◌-◌, ◌≤◌, ◌⊎◌, ◌==◌, ℕ, true, false, List, [], ◌∷◌, ◌++◌, None, inl, inr, length, refl, ap, subst, ◌∙◌, arith}
use Rattle.std.specs.List.{flat_map, list_any}
use Rattle.std.proofs.Math.Seq.{take-append-add}
use Rattle.std.proofs.lemmas.Bool.{cases_Bool}
use Rattle.std.proofs.lemmas.Grind.{flat_map-append}
use Rattle.std.proofs.lemmas.List.{append-nil, length-append}
use Rattle.std.proofs.lemmas.List.Splits.{length-slice_split}
use Rattle.report_diff.specs.declared.fronts.Merging.{Merging}
use Rattle.report_diff.specs.Differences.{Found, found_text, of_first}
use Rattle.report_diff.specs.Lines.{lines}
use Rattle.report_diff.specs.Merging.{IsAwaited, Merges, early, early_text_of_two, front_behind, goes_on, heading, is_feed, text_of, whole_lines}
use Rattle.report_diff.proofs.Early.{early_all, early_begins, early_stop, not_reached}
use Rattle.report_diff.proofs.MergeLemmas.{lines_on}
use Rattle.report_diff.proofs.Rising.{front_from}

-- the whole lines of a text behind lines that were passed
pub whole_on : (all : List (List ℕ)) (rest : List ℕ) → list_any (list_any is_feed) all ≡ false → whole_lines (text_of all ++ rest) ≡ all ++ whole_lines rest
whole_on all rest none =
    let some = length-slice_split (λ b. b == 10) rest in
    let count : length (all ++ lines rest) - 1 ≡ length all + (length (lines rest) - 1) = omega (arith, length-append all (lines rest), some) in
    rw (lines_on all rest none, count) (take-append-add all (lines rest) (length (lines rest) - 1))

-- the fronts of two texts of version 2
text_is : (m : Merging) (one other : List (List ℕ)) (taken rest rest2 : List ℕ) → Merges m one other taken
    → list_any (list_any is_feed) one ≡ false → list_any (list_any is_feed) other ≡ false
    → early_text_of_two (text_of (heading ∷ one) ++ rest) (text_of (heading ∷ other) ++ rest2)
    ≡ found_text (early (one ++ front_behind (heading ∷ one) (whole_lines rest)) (other ++ front_behind (heading ∷ other) (whole_lines rest2)))
unfolding early_text_of_two
text_is m one other taken rest rest2 merges plain plain2 =
    rw (whole_on (heading ∷ one) rest plain, whole_on (heading ∷ other) rest2 plain2, merges.front_first (whole_lines rest), merges.front_second (whole_lines rest2)) refl

-- what was told is a beginning of it
pub early_so_far : (m : Merging) (one other : List (List ℕ)) (taken rest rest2 : List ℕ) → Merges m one other taken
    → list_any (list_any is_feed) one ≡ false → list_any (list_any is_feed) other ≡ false
    → (more : List ℕ) × (early_text_of_two (text_of (heading ∷ one) ++ rest) (text_of (heading ∷ other) ++ rest2) ≡ (taken ++ m.told.text.items) ++ more)
early_so_far m one other taken rest rest2 merges plain plain2 =
    let begins = early_begins one (front_behind (heading ∷ one) (whole_lines rest)) other (front_behind (heading ∷ other) (whole_lines rest2)) m.second.next
    merges.reached merges.below_first (front_from (whole_lines rest2) (heading ∷ other) m.second.next merges.is_second.rises) in (
      found_text begins.0,
      text_is m one other taken rest rest2 merges plain plain2 ∙ ap found_text begins.1 ∙ flat_map-append (λ (f : Found). f.text) (flat_map (of_first None other) one) begins.0
          ∙ ap (λ x. x ++ found_text begins.0) merges.text,
    )

-- a front that ends
abbrev pub Ends : List (List ℕ) → List (List ℕ) → Type 0
Ends passed whole = (whole ≡ []) ⊎ ((line : List ℕ) × (more : List (List ℕ)) × (whole ≡ line ∷ more) × (goes_on (heading ∷ passed) line ≡ false))

no_more : (passed whole : List (List ℕ)) → Ends passed whole → front_behind (heading ∷ passed) whole ≡ []
unfolding front_behind
no_more passed whole (inl none) = rw none refl
no_more passed whole (inr (line, more, is, not)) = rw (is, not) refl

head_on : (passed : List (List ℕ)) (a : List ℕ) (rest : List (List ℕ)) → goes_on (heading ∷ passed) a ≡ true
    → front_behind (heading ∷ passed) (a ∷ rest) ≡ a ∷ front_behind (heading ∷ (passed ++ a ∷ [])) rest
unfolding front_behind
head_on passed a rest on = rw on refl

-- where the front of the first ends, all of it was told
pub early_first : (m : Merging) (one other : List (List ℕ)) (taken rest rest2 : List ℕ) → Merges m one other taken
    → list_any (list_any is_feed) one ≡ false → list_any (list_any is_feed) other ≡ false → Ends one (whole_lines rest)
    → early_text_of_two (text_of (heading ∷ one) ++ rest) (text_of (heading ∷ other) ++ rest2) ≡ taken ++ m.told.text.items
early_first m one other taken rest rest2 merges plain plain2 ends =
    let none = no_more one (whole_lines rest) ends in
    let all = early_all one other (front_behind (heading ∷ other) (whole_lines rest2)) m.second.next merges.reached merges.below_first
    (front_from (whole_lines rest2) (heading ∷ other) m.second.next merges.is_second.rises) in
    text_is m one other taken rest rest2 merges plain plain2
    ∙ ap (λ x. found_text (early x (other ++ front_behind (heading ∷ other) (whole_lines rest2)))) (ap (λ x. one ++ x) none ∙ append-nil one)
    ∙ ap found_text all ∙ merges.text

-- and where that of the second does, and none of it reaches the next entry of the first
pub early_second : (m : Merging) (one other : List (List ℕ)) (taken rest rest2 : List ℕ) → Merges m one other taken
    → list_any (list_any is_feed) one ≡ false → list_any (list_any is_feed) other ≡ false → Ends other (whole_lines rest2)
    → m.second.next ≤ m.from → (line : List ℕ) → (more : List (List ℕ)) → whole_lines rest ≡ line ∷ more → IsAwaited m.from line
    → early_text_of_two (text_of (heading ∷ one) ++ rest) (text_of (heading ∷ other) ++ rest2) ≡ taken ++ m.told.text.items
early_second m one other taken rest rest2 merges plain plain2 ends level line more is awaited =
    let none = no_more other (whole_lines rest2) ends in
    let last : early one other ≡ flat_map (of_first None other) one =
    subst (λ x. early one x ≡ flat_map (of_first None other) one) (append-nil other) (early_all one other [] m.second.next merges.reached merges.below_first refl) in
    let far = not_reached other line m.second.next awaited.place merges.below_second awaited.place_is (omega (arith, level, awaited.from_is)) in
    let stops : early (one ++ front_behind (heading ∷ one) (line ∷ more)) other ≡ flat_map (of_first None other) one =
    elim (cases_Bool (goes_on (heading ∷ one) line)) [
      | inl on ↦ rw (head_on one line more on) (early_stop one other (front_behind (heading ∷ (one ++ line ∷ [])) more) line merges.reached far)
      | inr not ↦ rw (no_more one (line ∷ more) (inr (line, more, refl, not)), append-nil one) last
    ] in
    text_is m one other taken rest rest2 merges plain plain2
    ∙ ap (λ x. found_text (early (one ++ front_behind (heading ∷ one) (whole_lines rest)) x)) (ap (λ x. other ++ x) none ∙ append-nil other)
    ∙ ap (λ x. found_text (early (one ++ front_behind (heading ∷ one) x) other)) is
    ∙ ap found_text stops ∙ merges.text
