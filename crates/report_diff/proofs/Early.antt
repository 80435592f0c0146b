-- What is found early of two fronts, when each goes on.
use Rattle.std.proofs.Common.{◌≡◌, ◌<◌, ◌≤◌, ◌+◌, ℕ, Bool, true, false, List, [], ◌∷◌, ◌++◌, Option, None, Some, inl, inr, refl, sym, ap, ◌∙◌, arith}
use Rattle.std.specs.Prelude.{nat_le}
use Rattle.std.specs.List.{find, flat_map, list_all, take_while}
use Rattle.std.proofs.lemmas.List.{append-nil}
use Rattle.std.proofs.Math.Bool.{or-true}
use Rattle.std.specs.Option.{option_or}
use Rattle.std.specs.Str.{bytes_eq}
use Rattle.std.proofs.lemmas.Bool.{cases_Bool, le-leb, leb-false, leb-true, lt-leb}
use Rattle.std.proofs.lemmas.Grind.{flat_map-append}
use Rattle.std.proofs.lemmas.List.Folds.{find-append, list_any-append}
use Rattle.std.proofs.lemmas.List.Sums.{take_while-cons}
use Rattle.report_diff.specs.declared.lines.Kind.{Kind}
use Rattle.report_diff.specs.declared.lines.Kind.TheVariants.{Heading, Entry, Name, Slot, Descriptor, Buffer}
use Rattle.report_diff.specs.declared.lines.Section.TheVariants.{Entries}
use Rattle.report_diff.specs.Differences.{Found, found_beside, found_lacking, has_section, of_first}
use Rattle.report_diff.specs.Lines.{line_about, line_kind, section_of, subject}
use Rattle.report_diff.specs.Merging.{early, is_below, is_from, is_not_below, is_place_below, is_place_from, reaches}
use Rattle.report_diff.specs.Places.{is_entry, line_place}
use Rattle.report_diff.proofs.Apart.{none_off, off_from}

-- a first element passes, and so do those behind it
pub first_passes : (test : List ℕ → Bool) (x : List ℕ) (xs : List (List ℕ)) → list_all test (x ∷ xs) ≡ true → test x ≡ true
first_passes test x xs all = grind (arith, all)

pub others_pass : (test : List ℕ → Bool) (x : List ℕ) (xs : List (List ℕ)) → list_all test (x ∷ xs) ≡ true → list_all test xs ≡ true
others_pass test x xs all = grind (arith, all)

-- what a front reaches, a longer one reaches
pub reaches_more : (front more : List (List ℕ)) (line : List ℕ) → reaches front line ≡ true → reaches (front ++ more) line ≡ true
unfolding reaches
reaches_more front more line reached = rw (list_any-append (λ other. is_not_below (line_place line) (line_place other)) front more, reached) refl

pub all_reach_more : (front more text : List (List ℕ)) → list_all (reaches front) text ≡ true → list_all (reaches (front ++ more)) text ≡ true
all_reach_more front more [] all = refl
all_reach_more front more (x ∷ text) all =
    rw (reaches_more front more x (first_passes (reaches front) x text all), all_reach_more front more text (others_pass (reaches front) x text all)) refl

-- an entry below a place has a place of its own
place_below : (next : ℕ) (place : Option ℕ) → is_place_below next place ≡ true → (p : ℕ) × (place ≡ Some p) × (p < next)
place_below next None below = absurd (cc)
place_below next (Some p) below = (p, refl, leb-false next p (grind (arith, below)))

pub entry_below : (next : ℕ) (line : List ℕ) → is_below next line ≡ true → is_entry (line_kind line) ≡ true
unfolding is_below
entry_below next line below = grind (arith, below)

below_place : (next : ℕ) (line : List ℕ) → is_below next line ≡ true → (p : ℕ) × (line_place line ≡ Some p) × (p < next)
unfolding is_below
below_place next line below = place_below next (line_place line) (grind (arith, below))

-- what comes from a place on comes from an earlier one on
place_from_less : (next least : ℕ) (place : Option ℕ) → least ≤ next → is_place_from next place ≡ true → is_place_from least place ≡ true
place_from_less next least None le from = from
place_from_less next least (Some p) le from = let past = leb-true next p from in le-leb least p (omega arith)

from_less : (next least : ℕ) (line : List ℕ) → least ≤ next → is_from next line ≡ true → is_from least line ≡ true
unfolding is_from
from_less next least line le from = elim (cases_Bool (is_entry (line_kind line))) [
  | inl entry ↦ rw entry (place_from_less next least (line_place line) le (rw entry at from))
  | inr other ↦ rw other refl
]

all_from_less : (next least : ℕ) (text : List (List ℕ)) → least ≤ next → list_all (is_from next) text ≡ true → list_all (is_from least) text ≡ true
all_from_less next least [] le from = refl
all_from_less next least (x ∷ text) le from =
    rw (from_less next least x le (first_passes (is_from next) x text from), all_from_less next least text le (others_pass (is_from next) x text from)) refl

-- so no line that comes from there on has the subject of an entry below it
none_from : (x : List ℕ) (more : List (List ℕ)) (next : ℕ) → is_below next x ≡ true → list_all (is_from next) more ≡ true
    → line_about more (subject x) ≡ None
none_from x more next below from =
    let place = below_place next x below in
    none_off (subject x) more (off_from x more place.0 (entry_below next x below) place.1 (all_from_less next (place.0 + 1) more (omega (arith, place.2)) from))

-- an entry is in the section that each text has
entry_section : (kind : Kind) → is_entry kind ≡ true → section_of kind ≡ Some Entries
entry_section Entry entry = refl
entry_section Heading entry = absurd (cc)
entry_section Name entry = absurd (cc)
entry_section Slot entry = absurd (cc)
entry_section Descriptor entry = absurd (cc)
entry_section Buffer entry = absurd (cc)

beside_more : (front longer : List (List ℕ)) (line : List ℕ) (other : Option (List ℕ))
    → found_beside None longer Entries line other ≡ found_beside None front Entries line other
unfolding found_lacking has_section
beside_more front longer line None = refl
beside_more front longer line (Some other) = refl

about_more : (front more : List (List ℕ)) (about : List ℕ) → line_about more about ≡ None → line_about (front ++ more) about ≡ line_about front about
unfolding line_about
about_more front more about none = find-append (λ l. bytes_eq (subject l) about) front more ∙ rw none (or_none (find (λ l. bytes_eq (subject l) about) front))
  where
    or_none : (x : Option (List ℕ)) → option_or x None ≡ x
    or_none None = refl
    or_none (Some l) = refl

entry_more : (front more : List (List ℕ)) (x : List ℕ) → is_entry (line_kind x) ≡ true → line_about more (subject x) ≡ None
    → of_first None (front ++ more) x ≡ of_first None front x
unfolding of_first
entry_more front more x entry none =
    rw (entry_section (line_kind x) entry, about_more front more (subject x) none) (beside_more front (front ++ more) x (line_about front (subject x)))

-- what is found of entries below a place stays when lines from there on come
pub of_first_more : (front more : List (List ℕ)) (text : List (List ℕ)) (next : ℕ) → list_all (is_below next) text ≡ true → list_all (is_from next) more ≡ true
    → flat_map (of_first None (front ++ more)) text ≡ flat_map (of_first None front) text
of_first_more front more [] next below from = refl
of_first_more front more (x ∷ text) next below from =
    let here = first_passes (is_below next) x text below in
    rw (
      entry_more front more x (entry_below next x here) (none_from x more next here from),
      of_first_more front more text next (others_pass (is_below next) x text below) from,
    ) refl

-- the elements from the front on that pass a test, behind some that all pass
pub while_behind : (test : List ℕ → Bool) (xs more : List (List ℕ)) → list_all test xs ≡ true → take_while test (xs ++ more) ≡ xs ++ take_while test more
while_behind test [] more all = refl
while_behind test (x ∷ xs) more all =
    take_while-cons test x (xs ++ more) ∙ rw (first_passes test x xs all) (ap (λ rest. x ∷ rest) (while_behind test xs more (others_pass test x xs all)))

pub while_all : (test : List ℕ → Bool) (xs : List (List ℕ)) → list_all test xs ≡ true → take_while test xs ≡ xs
while_all test xs all = ap (λ all. take_while test all) (sym (append-nil xs)) ∙ while_behind test xs [] all ∙ append-nil xs

pub while_stop : (test : List ℕ → Bool) (xs : List (List ℕ)) (a : List ℕ) (rest : List (List ℕ)) → list_all test xs ≡ true → test a ≡ false
    → take_while test (xs ++ a ∷ rest) ≡ xs
while_stop test xs a rest all stops = while_behind test xs (a ∷ rest) all ∙ rw (take_while-cons test a rest, stops) (append-nil xs)

-- where the second reaches all of the first, more of the second changes nothing
pub early_all : (first second more : List (List ℕ)) (next : ℕ) → list_all (reaches second) first ≡ true → list_all (is_below next) first ≡ true
    → list_all (is_from next) more ≡ true → early first (second ++ more) ≡ flat_map (of_first None second) first
unfolding early
early_all first second more next all below from =
    rw (while_all (reaches (second ++ more)) first (all_reach_more second more first all)) (of_first_more second more first next below from)

-- nor does more of the first behind a line that the second does not reach
pub early_stop : (first second rest : List (List ℕ)) (a : List ℕ) → list_all (reaches second) first ≡ true → reaches second a ≡ false
    → early (first ++ a ∷ rest) second ≡ flat_map (of_first None second) first
unfolding early
early_stop first second rest a all stops = rw (while_stop (reaches second) first a rest all stops) refl

-- what is found of two fronts is found first when both go on
pub early_begins : (first more second back : List (List ℕ)) (next : ℕ) → list_all (reaches second) first ≡ true → list_all (is_below next) first ≡ true
    → list_all (is_from next) back ≡ true → (rest : List Found) × (early (first ++ more) (second ++ back) ≡ flat_map (of_first None second) first ++ rest)
unfolding early
early_begins first more second back next all below from =
    let behind = take_while (reaches (second ++ back)) more in (
      flat_map (of_first None (second ++ back)) behind,
      rw (
        while_behind (reaches (second ++ back)) first more (all_reach_more second back first all),
        flat_map-append (of_first None (second ++ back)) first behind,
        of_first_more second back first next below from,
      ) refl,
    )

-- entries below a place reach none that is not
pub not_reached : (second : List (List ℕ)) (a : List ℕ) (next place : ℕ) → list_all (is_below next) second ≡ true → line_place a ≡ Some place → next ≤ place
    → reaches second a ≡ false
unfolding reaches
not_reached [] a next place below is past = refl
not_reached (x ∷ second) a next place below is past =
    let own = below_place next x (first_passes (is_below next) x second below) in
    let above : nat_le place own.0 ≡ false = lt-leb place own.0 (omega (arith, own.2)) in
    rw (is, own.1, above) (not_reached second a next place (others_pass (is_below next) x second below) is past)

-- and an entry of the same place or a later one does
pub reached : (front back : List (List ℕ)) (b a : List ℕ) (p q : ℕ) → line_place a ≡ Some p → line_place b ≡ Some q → p ≤ q
    → reaches (front ++ b ∷ back) a ≡ true
unfolding reaches
reached front back b a p q is its le =
    rw (list_any-append (λ other. is_not_below (line_place a) (line_place other)) front (b ∷ back), is, its, le-leb p q le) (or-true _)
