-- Entries whose places no other line has, taken out of two reports, leave what is found of the other lines.
use Rattle.std.proofs.Common.{◌≡◌, ℕ, true, false, not, List, [], ◌∷◌, ◌++◌, Option, None, Some, inl, inr, refl, sym, ap, subst, ◌∙◌, codes, arith, rules, append_assoc}
use Rattle.std.specs.Prelude.{is_some}
use Rattle.std.specs.List.{flat_map}
use Rattle.std.specs.Str.{bytes_eq}
use Rattle.std.proofs.lemmas.Bool.{cases_Bool}
use Rattle.std.proofs.lemmas.List.{append-nil}
use Rattle.std.proofs.lemmas.List.Concat.{flat_map-cons}
use Rattle.std.proofs.lemmas.Grind.{flat_map-append}
use Rattle.std.proofs.lemmas.Slice.Eq.{bytes_eq-Decides}
use Rattle.report_diff.specs.declared.lines.Kind.{Kind}
use Rattle.report_diff.specs.declared.lines.Kind.TheVariants.{Heading, Entry, Name, Slot, Descriptor, Buffer}
use Rattle.report_diff.specs.declared.lines.Section.{Section}
use Rattle.report_diff.specs.declared.lines.Section.TheVariants.{Entries, Tree, Slots, Buffers}
use Rattle.report_diff.specs.Differences.{Ends, Found, found, found_beside, found_in_first, found_in_second, found_lacking, found_past, has_section, minus, of_first, of_second, plus}
use Rattle.report_diff.specs.Lines.{line_about, line_kind, section_of, subject}
use Rattle.report_diff.specs.Places.{is_entry}
use Rattle.report_diff.specs.Repeats.{once, once_behind}
use Rattle.report_diff.proofs.Apart.{about_other, buffers_apart, none_off, off, slots_apart, tree_apart}
use Rattle.report_diff.proofs.RepeatLemmas.{once_behind-append}

-- the other order of a test
pub swapped : (x y : List ℕ) → bytes_eq x y ≡ false → bytes_eq y x ≡ false
swapped x y e = grind (arith, e, bytes_eq-Decides x y, bytes_eq-Decides y x)

-- what holds of each line of another subject
each_off : (f g : List ℕ → List Found) (p : List ℕ) (text : List (List ℕ)) → ((line : List ℕ) → bytes_eq (subject line) p ≡ false → f line ≡ g line)
    → off p text ≡ true → flat_map f text ≡ flat_map g text
each_off f g p [] same all = refl
each_off f g p (line ∷ more) same all = elim (cases_Bool (bytes_eq (subject line) p)) [
  | inl is ↦ (let never : false ≡ true = rw is at all in cc)
  | inr not ↦ rw (flat_map-cons f line more, flat_map-cons g line more, same line not, each_off f g p more same (rw not at all)) refl
]

-- a text without a line of an entry has the same sections
has_same : (front back : List (List ℕ)) (x : List ℕ) (section : Section) → is_entry (line_kind x) ≡ true
    → has_section (front ++ x ∷ back) section ≡ has_section (front ++ back) section
unfolding has_section
has_same front back x Entries entry = refl
has_same front back x Tree entry = ap is_some (about_other (codes "tree") front back x (swapped (codes "tree") (subject x) (tree_apart x entry)))
has_same front back x Slots entry = ap is_some (about_other (codes "slots") front back x (swapped (codes "slots") (subject x) (slots_apart x entry)))
has_same front back x Buffers entry = ap is_some (about_other (codes "buffers") front back x (swapped (codes "buffers") (subject x) (buffers_apart x entry)))

-- what is found of a line that the other text lacks
lacking_same : (end : Option ℕ) (sign : ℕ) (front back : List (List ℕ)) (x : List ℕ) (section : Section) (line : List ℕ) → is_entry (line_kind x) ≡ true
    → found_lacking end sign (front ++ x ∷ back) section line ≡ found_lacking end sign (front ++ back) section line
unfolding found_lacking
lacking_same end sign front back x section line entry = rw (has_same front back x section entry) refl

-- what is found of another line does not depend on it
of_first_in : (end : Option ℕ) (front back : List (List ℕ)) (x line : List ℕ) (section : Option Section) → is_entry (line_kind x) ≡ true → bytes_eq (subject line) (subject x) ≡ false
    → found_in_first end (front ++ x ∷ back) line section ≡ found_in_first end (front ++ back) line section
of_first_in end front back x line None entry other = refl
of_first_in end front back x line (Some section) entry other =
    rw (about_other (subject line) front back x (swapped (subject line) (subject x) other)) (beside (line_about (front ++ back) (subject line)))
  where
    beside : (about : Option (List ℕ)) → found_beside end (front ++ x ∷ back) section line about ≡ found_beside end (front ++ back) section line about
    beside None = lacking_same end minus front back x section line entry
    beside (Some y) = refl

first_same : (end : Option ℕ) (front back : List (List ℕ)) (x line : List ℕ) → is_entry (line_kind x) ≡ true → bytes_eq (subject line) (subject x) ≡ false
    → of_first end (front ++ x ∷ back) line ≡ of_first end (front ++ back) line
unfolding of_first
first_same end front back x line entry other = of_first_in end front back x line (section_of (line_kind line)) entry other

of_second_in : (end : Option ℕ) (front back : List (List ℕ)) (x line : List ℕ) (section : Option Section) → is_entry (line_kind x) ≡ true → bytes_eq (subject line) (subject x) ≡ false
    → found_in_second end (front ++ x ∷ back) line section ≡ found_in_second end (front ++ back) line section
of_second_in end front back x line None entry other = refl
of_second_in end front back x line (Some section) entry other =
    rw (about_other (subject line) front back x (swapped (subject line) (subject x) other)) (past (line_about (front ++ back) (subject line)))
  where
    past : (about : Option (List ℕ)) → found_past end (front ++ x ∷ back) section line about ≡ found_past end (front ++ back) section line about
    past None = lacking_same end plus front back x section line entry
    past (Some y) = refl

second_same : (end : Option ℕ) (front back : List (List ℕ)) (x line : List ℕ) → is_entry (line_kind x) ≡ true → bytes_eq (subject line) (subject x) ≡ false
    → of_second end (front ++ x ∷ back) line ≡ of_second end (front ++ back) line
unfolding of_second
second_same end front back x line entry other = of_second_in end front back x line (section_of (line_kind line)) entry other

-- which lines come once
once_off : (p : List ℕ) (earlier text : List (List ℕ)) → off p text ≡ true → off p (once_behind earlier text) ≡ true
once_off p earlier [] all = refl
once_off p earlier (line ∷ more) all = elim (cases_Bool (bytes_eq (subject line) p)) [
  | inl is ↦ (let never : false ≡ true = rw is at all in cc)
  | inr not ↦ (let rest = once_off p (earlier ++ line ∷ []) more (rw not at all) in elim (cases_Bool (is_some (line_about earlier (subject line)))) [
    | inl known ↦ rw known rest
    | inr new ↦ rw (new, not) rest
  ])
]

once_same : (front back text : List (List ℕ)) (x : List ℕ) → off (subject x) text ≡ true → once_behind (front ++ x ∷ back) text ≡ once_behind (front ++ back) text
once_same front back [] x all = refl
once_same front back (line ∷ more) x all = elim (cases_Bool (bytes_eq (subject line) (subject x))) [
  | inl is ↦ (let never : false ≡ true = rw is at all in cc)
  | inr not ↦
      (let rest = once_same front (back ++ line ∷ []) more x (rw not at all) in
      rw (about_other (subject line) front back x (swapped (subject line) (subject x) not), append_assoc, append_assoc, rest) refl)
]

once_is : (text : List (List ℕ)) → once text ≡ once_behind [] text
unfolding once
once_is text = refl

-- the lines behind a heading, with and without an entry
once_two : (h a : List ℕ) (more : List (List ℕ)) → bytes_eq (subject h) (subject a) ≡ false → off (subject a) more ≡ true
    → once (h ∷ a ∷ more) ≡ h ∷ a ∷ once_behind (h ∷ []) more
unfolding once line_about
once_two h a more apart out = rw (apart, once_same (h ∷ []) [] more a out) refl

once_one : (h : List ℕ) (more : List (List ℕ)) → once (h ∷ more) ≡ h ∷ once_behind (h ∷ []) more
unfolding once line_about
once_one h more = refl

-- nothing is found of a heading
of_heading : (end : Option ℕ) (second : List (List ℕ)) (h : List ℕ) → line_kind h ≡ Heading → of_first end second h ≡ []
unfolding of_first
of_heading end second h heading = rw heading refl

-- an entry that only the first report has
pub lone_out : (ends : Ends) (h a : List ℕ) (first second : List (List ℕ)) → line_kind h ≡ Heading → is_entry (line_kind a) ≡ true → bytes_eq (subject h) (subject a) ≡ false
    → off (subject a) first ≡ true → off (subject a) second ≡ true
    → found ends (h ∷ a ∷ first) second ≡ of_first ends.second second a ++ found ends (h ∷ first) second
unfolding found
lone_out ends h a first second heading entry apart out out2 =
    let rest = once_behind (h ∷ []) first in
    let seconds : flat_map (of_second ends.first (h ∷ a ∷ first)) (once second) ≡ flat_map (of_second ends.first (h ∷ first)) (once second) =
    each_off (of_second ends.first (h ∷ a ∷ first)) (of_second ends.first (h ∷ first)) (subject a) (once second)
    (λ line other. second_same ends.first (h ∷ []) first a line entry other) (out_once second out2) in
    rw (
      once_two h a first apart out,
      once_one h first,
      flat_map-cons (of_first ends.second second) h (a ∷ rest),
      flat_map-cons (of_first ends.second second) a rest,
      flat_map-cons (of_first ends.second second) h rest,
      of_heading ends.second second h heading,
      seconds,
    ) (append_assoc (of_first ends.second second a) (flat_map (of_first ends.second second) rest) _)
  where
    out_once : (text : List (List ℕ)) → off (subject a) text ≡ true → off (subject a) (once text) ≡ true
    out_once text all = subst (λ t. off (subject a) t ≡ true) (sym (once_is text)) (once_off (subject a) [] text all)

-- the line of an entry is in that section
pub in_entries : (k : Kind) → is_entry k ≡ true → section_of k ≡ Some Entries
in_entries Heading e = absurd (search (rules, e))
in_entries Entry e = refl
in_entries Name e = absurd (search (rules, e))
in_entries Slot e = absurd (search (rules, e))
in_entries Descriptor e = absurd (search (rules, e))
in_entries Buffer e = absurd (search (rules, e))

-- nothing is found of a line of the second report whose subject the first has
past_known : (end : Option ℕ) (h a b : List ℕ) (first : List (List ℕ)) → is_entry (line_kind b) ≡ true → bytes_eq (subject h) (subject a) ≡ false → subject b ≡ subject a
    → of_second end (h ∷ a ∷ first) b ≡ []
unfolding of_second line_about
past_known end h a b first entry apart same =
    rw (in_entries (line_kind b) entry, same, apart, (bytes_eq-Decides (subject a) (subject a)).1 refl) refl

-- the lines of a text that come once, with an entry between
once_between : (front back : List (List ℕ)) (b : List ℕ) → off (subject b) front ≡ true → off (subject b) back ≡ true
    → once (front ++ b ∷ back) ≡ once front ++ b ∷ once_behind front back
once_between front back b out out2 =
    once_is (front ++ b ∷ back) ∙ once_behind-append [] front (b ∷ back)
    ∙ rw (none_off (subject b) front out, once_same front [] back b out2, append-nil front, once_is front) refl

once_both : (front back : List (List ℕ)) → once (front ++ back) ≡ once front ++ once_behind front back
once_both front back = once_is (front ++ back) ∙ once_behind-append [] front back ∙ rw once_is refl

-- and one that both have
pub pair_out : (ends : Ends) (h a b : List ℕ) (first front back : List (List ℕ)) → line_kind h ≡ Heading → is_entry (line_kind a) ≡ true → bytes_eq (subject h) (subject a) ≡ false
    → subject b ≡ subject a → is_entry (line_kind b) ≡ true
    → off (subject a) first ≡ true → off (subject a) front ≡ true → off (subject a) back ≡ true
    → found ends (h ∷ a ∷ first) (front ++ b ∷ back) ≡ of_first ends.second (front ++ b ∷ back) a ++ found ends (h ∷ first) (front ++ back)
unfolding found
pair_out ends h a b first front back heading entry apart same entry2 out out2 out3 =
    let second = front ++ b ∷ back in
    let rest = once_behind (h ∷ []) first in
    let firsts : flat_map (of_first ends.second second) rest ≡ flat_map (of_first ends.second (front ++ back)) rest =
    each_off (of_first ends.second second) (of_first ends.second (front ++ back)) (subject b) rest (λ line other. first_same ends.second front back b line entry2 other)
    (rw same (once_off (subject a) (h ∷ []) first out)) in
    let f = of_second ends.first (h ∷ a ∷ first) in
    let g = of_second ends.first (h ∷ first) in
    let one : flat_map f (once front) ≡ flat_map g (once front) =
    each_off f g (subject a) (once front) (λ line other. second_same ends.first (h ∷ []) first a line entry other)
    (subst (λ t. off (subject a) t ≡ true) (sym (once_is front)) (once_off (subject a) [] front out2)) in
    let two : flat_map f (once_behind front back) ≡ flat_map g (once_behind front back) =
    each_off f g (subject a) (once_behind front back) (λ line other. second_same ends.first (h ∷ []) first a line entry other) (once_off (subject a) front back out3) in
    let seconds : flat_map f (once second) ≡ flat_map g (once (front ++ back)) =
    rw (
      once_between front back b (rw same out2) (rw same out3),
      once_both front back,
      flat_map-append f (once front) (b ∷ once_behind front back),
      flat_map-append g (once front) (once_behind front back),
      flat_map-cons f b (once_behind front back),
      past_known ends.first h a b first entry2 apart same,
      one,
      two,
    ) refl in
    rw (
      once_two h a first apart out,
      once_one h first,
      flat_map-cons (of_first ends.second second) h (a ∷ rest),
      flat_map-cons (of_first ends.second second) a rest,
      flat_map-cons (of_first ends.second (front ++ back)) h rest,
      of_heading ends.second second h heading,
      of_heading ends.second (front ++ back) h heading,
      firsts,
      seconds,
    )
    (append_assoc (of_first ends.second second a) (flat_map (of_first ends.second (front ++ back)) rest) _)
