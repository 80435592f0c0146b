-- Places that rise: from where on the entries of a text are, which lines go on, and what may be passed.
use Rattle.std.proofs.Common.{◌≡◌, ◌<◌, ◌≤◌, ◌+◌, ℕ, true, false, not, List}
use Rattle.std.proofs.Common.{[], ◌∷◌, ◌++◌, length, Option, None, Some, inl, inr, refl, sym, ap, ◌∙◌, arith, append_assoc, length-append}
use Rattle.std.specs.Prelude.{codes, is_some, nat_lt}
use Rattle.std.specs.List.{filter_map, list_all}
use Rattle.std.proofs.lemmas.Bool.{and_from, and_parts, both_ways, cases_Bool, false_from_ne_true}
use Rattle.std.proofs.lemmas.Bool.{le-leb, leb-true, lt-leb, ltb-true, not-false, not_from_false}
use Rattle.std.proofs.lemmas.List.Folds.{list_any-append}
use Rattle.std.proofs.lemmas.Slice.Eq.{bytes_eq-Decides}
use Rattle.report_diff.specs.declared.passed.Passed.{Passed}
use Rattle.report_diff.specs.Inputs.{is_end}
use Rattle.report_diff.specs.Lines.{first_behind, first_words, kind_of, line_kind, subject}
use Rattle.report_diff.specs.Merging.{IsPassed, front_behind, goes_on, is_below, is_from, is_place_from}
use Rattle.report_diff.specs.Places.{RisesFrom, falls, first_fall, is_entry, line_place, rises}
use Rattle.report_diff.proofs.FirstLemmas.{none_more}
use Rattle.report_diff.proofs.PlaceLemmas.{not_falling, rises_above, rises_still}

-- a line of a place is from a lesser one on
from_place : (line : List ℕ) (next place : ℕ) → line_place line ≡ Some place → next ≤ place → is_from next line ≡ true
unfolding is_from
from_place line next place is above = elim (cases_Bool (is_entry (line_kind line))) [
  | inl entry ↦ rw (entry, is) (le-leb next place above)
  | inr other ↦ rw other refl
]

from_other : (line : List ℕ) (next : ℕ) → is_entry (line_kind line) ≡ false → is_from next line ≡ true
unfolding is_from
from_other line next other = rw other refl

-- from one place on is from each lesser one on
place_from_less : (place : Option ℕ) (m n : ℕ) → m ≤ n → is_place_from n place ≡ true → is_place_from m place ≡ true
place_from_less None m n less from = from
place_from_less (Some place) m n less from = let le = leb-true n place from in le-leb m place (omega arith)

line_from_less : (line : List ℕ) (m n : ℕ) → m ≤ n → is_from n line ≡ true → is_from m line ≡ true
unfolding is_from
line_from_less line m n less from = elim (cases_Bool (is_entry (line_kind line))) [
  | inl entry ↦ rw entry (place_from_less (line_place line) m n less (rw entry at from))
  | inr other ↦ rw other refl
]

pub from_less : (text : List (List ℕ)) (m n : ℕ) → m ≤ n → list_all (is_from n) text ≡ true → list_all (is_from m) text ≡ true
from_less [] m n less all = refl
from_less (line ∷ more) m n less all =
    let both = and_parts (is_from n line) (list_all (is_from n) more) all in
    and_from _ _ (line_from_less line m n less both.0) (from_less more m n less both.1)

-- a place that rises behind some lines
place_above : (earlier : List (List ℕ)) (place : Option ℕ) (next : ℕ) → RisesFrom next earlier → rises earlier place ≡ true → is_place_from next place ≡ true
place_above earlier None next from above = above
place_above earlier (Some place) next from above = sym (from place) ∙ above

-- what follows where a line goes on, or does not fall
record Follows (earlier : List (List ℕ)) (line : List ℕ) (next : ℕ) : Type 0 where
  after : ℕ
  above : next ≤ after
  here : is_from next line ≡ true
  rises : RisesFrom after (earlier ++ line ∷ [])

follows_place : (earlier : List (List ℕ)) (line : List ℕ) (next : ℕ) (place : Option ℕ) → line_place line ≡ place → RisesFrom next earlier
    → rises earlier place ≡ true → Follows earlier line next
follows_place earlier line next None is from above = absurd (both_ways false refl above)
follows_place earlier line next (Some place) is from above =
    let le = leb-true next place (place_above earlier (Some place) next from above) in
    record { after = place + 1; above = omega arith; here = from_place line next place is le; rises = rises_above earlier line next place is le from }

follows_entry : (earlier : List (List ℕ)) (line : List ℕ) (next : ℕ) → RisesFrom next earlier → rises earlier (line_place line) ≡ true
    → Follows earlier line next
follows_entry earlier line next from above = follows_place earlier line next (line_place line) refl from above

follows : (earlier : List (List ℕ)) (line : List ℕ) (next : ℕ) → RisesFrom next earlier → falls earlier line ≡ false → Follows earlier line next
unfolding falls
follows earlier line next from still = elim (cases_Bool (is_entry (line_kind line))) [
  | inl entry ↦ follows_entry earlier line next from (not-false _ (rw entry at still))
  | inr other ↦ record { after = next; above = omega arith; here = from_other line next other; rises = rises_still earlier line next other from }
]

-- the lines of which none falls
none_parts : (earlier more : List (List ℕ)) (line : List ℕ) → first_behind falls earlier (line ∷ more) ≡ None
    → (falls earlier line ≡ false) × (first_behind falls (earlier ++ line ∷ []) more ≡ None)
none_parts earlier more line none = elim (cases_Bool (falls earlier line)) [
  | inl falling ↦ (let said : ℕ × List ℕ = (length earlier + 1, subject line) in let never : Some said ≡ None = rw falling at none in cc)
  | inr still ↦ (still, rw still at none)
]

pub rises_on : (text earlier : List (List ℕ)) (next : ℕ) → first_behind falls earlier text ≡ None → RisesFrom next earlier
    → list_all (is_from next) text ≡ true
rises_on [] earlier next none from = refl
rises_on (line ∷ more) earlier next none from =
    let both = none_parts earlier more line none in
    let step = follows earlier line next from both.0 in
    and_from _ _ step.here (from_less more next step.after step.above (rises_on more (earlier ++ line ∷ []) step.after both.1 step.rises))

pub from_first : (a : List ℕ) (text earlier : List (List ℕ)) (next from place : ℕ) → first_behind falls earlier (a ∷ text) ≡ None → RisesFrom next earlier
    → is_entry (line_kind a) ≡ true → line_place a ≡ Some place → from ≤ place → list_all (is_from from) (a ∷ text) ≡ true
unfolding falls
from_first a text earlier next from place none rising entry is above =
    let both = none_parts earlier text a none in
    let here : rises earlier (Some place) ≡ true = rw is at (not-false _ (rw entry at both.0)) in
    let le = leb-true next place (place_above earlier (Some place) next rising here) in
    let behind = rises_on text (earlier ++ a ∷ []) (place + 1) both.1 (rises_above earlier a next place is le rising) in
    and_from _ _ (from_place a from place is above) (from_less text from (place + 1) (omega arith) behind)

-- whether a line goes on
pub goes_on_if : (earlier : List (List ℕ)) (line : List ℕ) (next place : ℕ) → RisesFrom next earlier → is_entry (line_kind line) ≡ true
    → line_place line ≡ Some place → next ≤ place → goes_on earlier line ≡ true
goes_on_if earlier line next place from entry is above = rw (entry, is, from place) (le-leb next place above)

pub goes_not_below : (earlier : List (List ℕ)) (line : List ℕ) (next place : ℕ) → RisesFrom next earlier → is_entry (line_kind line) ≡ true
    → line_place line ≡ Some place → place < next → goes_on earlier line ≡ false
goes_not_below earlier line next place from entry is below = rw (entry, is, from place) (lt-leb next place below)

pub goes_not_other : (earlier : List (List ℕ)) (line : List ℕ) → is_entry (line_kind line) ≡ false → goes_on earlier line ≡ false
goes_not_other earlier line other = rw other refl

pub goes_not_placeless : (earlier : List (List ℕ)) (line : List ℕ) → line_place line ≡ None → goes_on earlier line ≡ false
goes_not_placeless earlier line is = elim (cases_Bool (is_entry (line_kind line))) [
  | inl entry ↦ rw (entry, is) refl
  | inr other ↦ rw other refl
]

-- the front of a text, one line further
pub front_pass : (earlier passed : List (List ℕ)) (a : List ℕ)
    → ((more : List (List ℕ)) → front_behind earlier (passed ++ more) ≡ passed ++ front_behind (earlier ++ passed) more)
    → goes_on (earlier ++ passed) a ≡ true → (more : List (List ℕ))
    → front_behind earlier ((passed ++ a ∷ []) ++ more) ≡ (passed ++ a ∷ []) ++ front_behind (earlier ++ (passed ++ a ∷ [])) more
unfolding front_behind
front_pass earlier passed a so_far on more =
    ap (front_behind earlier) (append_assoc passed (a ∷ []) more) ∙ so_far (a ∷ more)
    ∙ ap (λ rest. passed ++ rest) (front_one (earlier ++ passed) a more on)
    ∙ sym (append_assoc passed (a ∷ []) (front_behind ((earlier ++ passed) ++ a ∷ []) more))
    ∙ ap (λ before. (passed ++ a ∷ []) ++ front_behind before more) (append_assoc earlier passed (a ∷ []))
  where
    front_one : (before : List (List ℕ)) (line : List ℕ) (rest : List (List ℕ)) → goes_on before line ≡ true
        → front_behind before (line ∷ rest) ≡ line ∷ front_behind (before ++ line ∷ []) rest
    front_one before line rest goes = rw goes refl

pub front_from : (text earlier : List (List ℕ)) (next : ℕ) → RisesFrom next earlier → list_all (is_from next) (front_behind earlier text) ≡ true
unfolding front_behind
front_from [] earlier next from = refl
front_from (line ∷ more) earlier next from = elim (cases_Bool (goes_on earlier line)) [
  | inl goes ↦ (let step = follows_entry earlier line next from (and_parts (is_entry (line_kind line)) _ goes).1 in
      rw goes (and_from _ _ step.here (from_less _ next step.after step.above (front_from more (earlier ++ line ∷ []) step.after step.rises))))
  | inr not ↦ rw not refl
]

-- an entry is no end, and may be passed where its place is not below
not_end : (line : List ℕ) → is_entry (line_kind line) ≡ true → is_end line ≡ false
unfolding line_kind kind_of first_words
not_end line entry = false_from_ne_true _ (λ same.
    let is : line ≡ codes "end" = (bytes_eq-Decides line (codes "end")).0 same in
    both_ways (is_entry (line_kind line)) (ap (λ l. is_entry (line_kind l)) is) entry)

pub passes_on : (passed : Passed) (text : List (List ℕ)) (a : List ℕ) (place : ℕ) → IsPassed passed text → is_entry (line_kind a) ≡ true
    → line_place a ≡ Some place → passed.next ≤ place → (more : Passed) → more.lines ≡ passed.lines + 1 → more.next ≡ place + 1 → IsPassed more (text ++ a ∷ [])
unfolding first_fall
passes_on passed text a place is entry at_place above more lines next = record {
  lines = lines ∙ omega (arith, is.lines, length-append text (a ∷ []));
  rises = λ q. rw next (rises_above text a passed.next place at_place above is.rises q);
  orderly = none_more falls text a is.orderly (not_falling text a passed.next place at_place above is.rises);
  unended = rw (list_any-append is_end text (a ∷ []), is.unended, not_end a entry) refl;
}

-- the entries of a text are below the place from which on places rise behind it
pub below_next : (text : List (List ℕ)) (next : ℕ) → RisesFrom next text → list_all (λ line. is_entry (line_kind line)) text ≡ true
    → list_all (λ line. is_some (line_place line)) text ≡ true → list_all (is_below next) text ≡ true
unfolding is_below
below_next text next from entries places = all_below text next entries places (from next ∙ le-leb next next (omega arith))
  where
    one_below : (line : List ℕ) (rest : List (List ℕ)) (next : ℕ) (place : Option ℕ) → line_place line ≡ place → is_entry (line_kind line) ≡ true
        → is_some place ≡ true → list_all (λ one. nat_lt one next) (filter_map line_place (line ∷ rest)) ≡ true
        → (is_below next line ≡ true) × (list_all (λ one. nat_lt one next) (filter_map line_place rest) ≡ true)
    one_below line rest next None is entry some all = absurd (both_ways false refl some)
    one_below line rest next (Some place) is entry some all =
        let both = and_parts (nat_lt place next) (list_all (λ one. nat_lt one next) (filter_map line_place rest)) (rw is at all) in
        let lt = ltb-true place next both.0 in
        (rw (entry, is) (not_from_false _ (lt-leb next place lt)), both.1)

    all_below : (text : List (List ℕ)) (next : ℕ) → list_all (λ line. is_entry (line_kind line)) text ≡ true
        → list_all (λ line. is_some (line_place line)) text ≡ true → list_all (λ one. nat_lt one next) (filter_map line_place text) ≡ true
        → list_all (is_below next) text ≡ true
    all_below [] next entries places all = refl
    all_below (line ∷ more) next entries places all =
        let entry = and_parts (is_entry (line_kind line)) (list_all (λ line. is_entry (line_kind line)) more) entries in
        let place = and_parts (is_some (line_place line)) (list_all (λ line. is_some (line_place line)) more) places in
        let both = one_below line more next (line_place line) refl entry.0 place.0 all in
        and_from _ _ both.0 (all_below more next entry.1 place.1 both.1)
