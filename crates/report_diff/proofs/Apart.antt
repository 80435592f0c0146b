-- Lines of different places, and of different kinds, have different subjects.
use Rattle.std.proofs.Common.{◌≡◌, ◌==◌, ◌+◌, ℕ, zero, suc, Bool, true, false, not, ◌&&◌, List, [], ◌∷◌, ◌++◌, None, Some, inl, inr, refl, sym, ap, ◌∙◌, arith}
use Rattle.std.specs.Prelude.{codes, nat_le}
use Rattle.std.specs.List.{list_all}
use Rattle.std.specs.Str.{bytes_eq}
use Rattle.std.proofs.lemmas.Bool.{and_parts, both_ways, cases_Bool, eqb-true, false_from_ne_true, leb-false, leb-true, not-true}
use Rattle.std.proofs.lemmas.List.Folds.{list_all-append}
use Rattle.std.proofs.lemmas.Slice.Eq.{bytes_eq-Decides}
use Rattle.report_diff.specs.declared.lines.Kind.{Kind}
use Rattle.report_diff.specs.declared.lines.Kind.TheVariants.{Heading, Entry, Name, Slot, Descriptor, Buffer}
use Rattle.report_diff.specs.Lines.{first_words, kind_of, line_about, line_kind, subject, subject_words}
use Rattle.report_diff.specs.Merging.{heading, is_below, is_from}
use Rattle.report_diff.specs.Places.{is_entry, line_place}
use Rattle.report_diff.proofs.Words.{last_space, letter, none_left, space}

-- no line of a text has this subject
abbrev pub off : List ℕ → List (List ℕ) → Bool
off p text = list_all (λ line. not (bytes_eq (subject line) p)) text

-- the first words of a line have its first word, and so its subject has its kind
first_kept : (n : ℕ) (y : List ℕ) → first_words 1 (first_words (suc n) y) ≡ first_words 1 y
first_kept n [] = rw (none_left n) refl
first_kept n (b ∷ rest) = elim (cases_Bool (b == 32)) [
  | inl same ↦ rw (eqb-true b 32 same) (of_space n)
  | inr other ↦ rw (letter n b rest other, letter 0 b (first_words (suc n) rest) other, letter 0 b rest other) (ap (λ word. b ∷ word) (first_kept n rest))
]
  where
    of_space : (n : ℕ) → first_words 1 (first_words (suc n) (32 ∷ rest)) ≡ first_words 1 (32 ∷ rest)
    of_space zero = rw (last_space rest) (none_left 0)
    of_space (suc n) = rw (space n rest, last_space (first_words (suc n) rest)) (sym (last_space rest))

kept_by_kind : (kind : Kind) (y : List ℕ) → first_words 1 (first_words (subject_words kind) y) ≡ first_words 1 y
kept_by_kind Heading y = first_kept 0 y
kept_by_kind Entry y = first_kept 0 y
kept_by_kind Name y = first_kept 1 y
kept_by_kind Slot y = first_kept 2 y
kept_by_kind Descriptor y = first_kept 1 y
kept_by_kind Buffer y = first_kept 2 y

pub subject_kind : (y : List ℕ) → line_kind (subject y) ≡ line_kind y
unfolding line_kind subject
subject_kind y = ap kind_of (kept_by_kind (line_kind y) y)

-- lines of one subject are of one kind, and entries of one subject have one place
pub kind_same : (x y : List ℕ) → subject y ≡ subject x → line_kind y ≡ line_kind x
kind_same x y same = sym (subject_kind y) ∙ ap line_kind same ∙ subject_kind x

pub same_kind : (x y : List ℕ) → subject y ≡ subject x → is_entry (line_kind x) ≡ true → is_entry (line_kind y) ≡ true
same_kind x y same entry = ap is_entry (kind_same x y same) ∙ entry

pub place_same : (x y : List ℕ) → subject y ≡ subject x → line_place y ≡ line_place x
unfolding line_place
place_same x y same = rw (kind_same x y same, same) refl

-- the subject of an entry is not that of a line whose place is above or below
from_differs : (x y : List ℕ) (p : ℕ) → is_entry (line_kind x) ≡ true → line_place x ≡ Some p → is_from (p + 1) y ≡ true → subject y ≡ subject x → ⊥
unfolding is_from
from_differs x y p entry place from same =
    let above : nat_le (p + 1) p ≡ true = rw (same_kind x y same entry, place_same x y same, place) at from in
    let le = leb-true _ _ above in omega arith

pub apart_from : (x y : List ℕ) (p : ℕ) → is_entry (line_kind x) ≡ true → line_place x ≡ Some p → is_from (p + 1) y ≡ true
    → bytes_eq (subject y) (subject x) ≡ false
apart_from x y p entry place from =
    false_from_ne_true _ (λ same. from_differs x y p entry place from ((bytes_eq-Decides (subject y) (subject x)).0 same))

below_differs : (x y : List ℕ) (p : ℕ) → is_entry (line_kind x) ≡ true → line_place x ≡ Some p → is_below p y ≡ true → subject y ≡ subject x → ⊥
unfolding is_below
below_differs x y p entry place below same =
    let under : not (nat_le p p) ≡ true = rw (same_kind x y same entry, place_same x y same, place) at below in
    let lt = leb-false _ _ (not-true _ under) in omega arith

pub apart_below : (x y : List ℕ) (p : ℕ) → is_entry (line_kind x) ≡ true → line_place x ≡ Some p → is_below p y ≡ true
    → bytes_eq (subject y) (subject x) ≡ false
apart_below x y p entry place below =
    false_from_ne_true _ (λ same. below_differs x y p entry place below ((bytes_eq-Decides (subject y) (subject x)).0 same))

-- and so no line of a text has it whose places are all above, or all below
pub off_from : (x : List ℕ) (text : List (List ℕ)) (p : ℕ) → is_entry (line_kind x) ≡ true → line_place x ≡ Some p → list_all (is_from (p + 1)) text ≡ true
    → off (subject x) text ≡ true
off_from x [] p entry place all = refl
off_from x (line ∷ more) p entry place all =
    let both = and_parts (is_from (p + 1) line) (list_all (is_from (p + 1)) more) all in
    rw (apart_from x line p entry place both.0) (off_from x more p entry place both.1)

pub off_below : (x : List ℕ) (text : List (List ℕ)) (p : ℕ) → is_entry (line_kind x) ≡ true → line_place x ≡ Some p → list_all (is_below p) text ≡ true
    → off (subject x) text ≡ true
off_below x [] p entry place all = refl
off_below x (line ∷ more) p entry place all =
    let both = and_parts (is_below p line) (list_all (is_below p) more) all in
    rw (apart_below x line p entry place both.0) (off_below x more p entry place both.1)

-- a line that is no entry is not the subject of one
pub other_apart : (h x : List ℕ) → is_entry (line_kind h) ≡ false → is_entry (line_kind x) ≡ true → bytes_eq h (subject x) ≡ false
other_apart h x other entry = false_from_ne_true _ (λ same.
    let is : h ≡ subject x = (bytes_eq-Decides h (subject x)).0 same in
    both_ways (is_entry (line_kind h)) other (ap (λ l. is_entry (line_kind l)) is ∙ ap is_entry (subject_kind x) ∙ entry))

pub tree_apart : (x : List ℕ) → is_entry (line_kind x) ≡ true → bytes_eq (codes "tree") (subject x) ≡ false
unfolding line_kind kind_of first_words
tree_apart x entry = other_apart (codes "tree") x refl entry

pub slots_apart : (x : List ℕ) → is_entry (line_kind x) ≡ true → bytes_eq (codes "slots") (subject x) ≡ false
unfolding line_kind kind_of first_words
slots_apart x entry = other_apart (codes "slots") x refl entry

pub buffers_apart : (x : List ℕ) → is_entry (line_kind x) ≡ true → bytes_eq (codes "buffers") (subject x) ≡ false
unfolding line_kind kind_of first_words
buffers_apart x entry = other_apart (codes "buffers") x refl entry

pub heading_apart : (x : List ℕ) → is_entry (line_kind x) ≡ true → bytes_eq (subject heading) (subject x) ≡ false
unfolding line_kind kind_of first_words
heading_apart x entry = other_apart (subject heading) x (ap is_entry (subject_kind heading)) entry

-- the first line about a subject, behind lines that have others
pub about_off : (p : List ℕ) (front back : List (List ℕ)) → off p front ≡ true → line_about (front ++ back) p ≡ line_about back p
unfolding line_about
about_off p [] back none = refl
about_off p (line ∷ more) back none =
    let both = and_parts (not (bytes_eq (subject line) p)) (off p more) none in
    rw (not-true _ both.0) (about_off p more back both.1)

pub none_off : (p : List ℕ) (text : List (List ℕ)) → off p text ≡ true → line_about text p ≡ None
unfolding line_about
none_off p [] none = refl
none_off p (line ∷ more) none =
    let both = and_parts (not (bytes_eq (subject line) p)) (off p more) none in
    rw (not-true _ both.0) (none_off p more both.1)

pub off_none : (p : List ℕ) (text : List (List ℕ)) → line_about text p ≡ None → off p text ≡ true
unfolding line_about
off_none p [] none = refl
off_none p (line ∷ more) none = elim (cases_Bool (bytes_eq (subject line) p)) [
  | inl same ↦ (let never : Some line ≡ None = rw same at none in cc)
  | inr other ↦ rw other (off_none p more (rw other at none))
]

pub off-append : (p : List ℕ) (xs ys : List (List ℕ)) → off p (xs ++ ys) ≡ (off p xs && off p ys)
off-append p xs ys = list_all-append (λ line. not (bytes_eq (subject line) p)) xs ys

-- and with a line between them that has another
pub about_other : (q : List ℕ) (front back : List (List ℕ)) (x : List ℕ) → bytes_eq (subject x) q ≡ false
    → line_about (front ++ x ∷ back) q ≡ line_about (front ++ back) q
unfolding line_about
about_other q [] back x other = rw other refl
about_other q (line ∷ more) back x other = elim (cases_Bool (bytes_eq (subject line) q)) [
  | inl same ↦ rw same refl
  | inr not ↦ rw not (about_other q more back x other)
]
