-- Entries of two reports that come first, after one step more.
use Rattle.std.proofs.Common.{◌≡◌, ◌≤◌, ◌<◌, ◌+◌, ℕ, ◌&&◌, Bool, true, false, not, get_or, take, ◌==◌, List, [], ◌∷◌, ◌++◌, Option, None, Some, inl, inr, length, refl, sym, ap, ◌∙◌, codes, arith, rules, append_assoc}
use Rattle.std.specs.Prelude.{nat_lt}
use Rattle.std.specs.List.{All, flat_map, list_all, list_any}
use Rattle.std.specs.Fmt.{decimal}
use Rattle.std.specs.Str.{bytes_eq}
use Rattle.std.specs.Str.Parse.{digits_value}
use Rattle.std.proofs.lemmas.Bool.{cases_Bool, le-leb, lt-leb}
use Rattle.std.proofs.lemmas.Bool.Decides.{nat_tests}
use Rattle.std.proofs.lemmas.Grind.{flat_map-append}
use Rattle.std.proofs.lemmas.List.{append-nil, length-append, length-map, take-map}
use Rattle.std.proofs.lemmas.List.Concat.{flat_map-cons}
use Rattle.std.proofs.lemmas.List.Folds.{list_all-append, list_any-append, list_any_at}
use Rattle.std.proofs.lemmas.Slice.Eq.{bytes_eq-Decides}
use Rattle.report_diff.specs.declared.lines.Kind.TheVariants.{Heading}
use Rattle.report_diff.specs.declared.lines.Section.TheVariants.{Entries}
use Rattle.report_diff.specs.declared.fronts.Merging.{Merging}
use Rattle.report_diff.specs.Differences.{Found, found_lacking, found_lone, found_pair, has_section, is_past, is_unchecked, lone_outcome, minus, of_first}
use Rattle.std.specs.Borrow.{Bor}
use Rattle.std.proofs.lemmas.List.Splits.{slice_split_at}
use Rattle.std.proofs.Math.Seq.{take-append_seam}
use Rattle.report_diff.specs.Lines.{first_words, first_behind, kind_of, line_about, line_kind, lines, subject, texts}
use Rattle.report_diff.specs.Merging.{Awaits, AwaitsText, Covers, further, heading, is_below, is_feed, is_from, is_place_below, order_behind, text_of}
use Rattle.report_diff.specs.Places.{RisesFrom, falls, is_entry, line_place, place_of}
use Rattle.report_diff.specs.Repeats.{otherwise, says_otherwise}
use Rattle.report_diff.proofs.Apart.{about_off, heading_apart, none_off, off}
use Rattle.report_diff.proofs.PlaceLemmas.{place_is}
use Rattle.report_diff.proofs.Removing.{in_entries}
use Rattle.report_diff.proofs.Reports.{report_behind}
use Rattle.report_diff.proofs.Rising.{from_first, rises_on}
use Rattle.std.specs.Option.{option_map}
use Rattle.report_diff.specs.declared.refusal.Side.{Side}
use Rattle.report_diff.specs.declared.refusal.Side.TheVariants.{First}
use Rattle.report_diff.specs.declared.version.Version.TheVariants.{Two}
use Rattle.report_diff.specs.Inputs.{is_end, report_in}
use Rattle.report_diff.specs.Refusals.{order_text, shown_subject}
use Rattle.report_diff.proofs.SaysLemmas.{further_twice}

-- a line below a place, and lines below it
pub below_line : (line : List ℕ) (place next : ℕ) → is_entry (line_kind line) ≡ true → line_place line ≡ Some place → place < next → is_below next line ≡ true
unfolding is_below
below_line line place next entry is lt = rw (entry, is, lt-leb next place lt) refl

below_more : (line : List ℕ) (m n : ℕ) → m ≤ n → is_below m line ≡ true → is_below n line ≡ true
unfolding is_below
below_more line m n le below = elim (cases_Bool (is_entry (line_kind line))) [
  | inl entry ↦ rw entry (placed (line_place line) (rw entry at below))
  | inr other ↦ (let never : false ≡ true = rw other at below in cc)
]
  where
    placed : (place : Option ℕ) → is_place_below m place ≡ true → is_place_below n place ≡ true
    placed None none = none
    placed (Some place) lt = grind (arith, nat_tests, le, lt)

pub below_less : (text : List (List ℕ)) (m n : ℕ) → m ≤ n → list_all (is_below m) text ≡ true → list_all (is_below n) text ≡ true
below_less [] m n le all = refl
below_less (line ∷ more) m n le all = elim (cases_Bool (is_below m line)) [
  | inl below ↦ rw (below_more line m n le below) (below_less more m n le (rw below at all))
  | inr not ↦ (let never : false ≡ true = rw not at all in cc)
]

pub one_below_more : (text : List (List ℕ)) (line : List ℕ) (place next : ℕ) → list_all (is_below next) text ≡ true → is_entry (line_kind line) ≡ true
    → line_place line ≡ Some place → place < next → list_all (is_below next) (text ++ line ∷ []) ≡ true
one_below_more text line place next all entry is lt = rw (list_all-append, all, below_line line place next entry is lt) refl

-- an entry, and lines behind it, from a place on
pub from_cons : (line : List ℕ) (more : List (List ℕ)) (place next : ℕ) → is_entry (line_kind line) ≡ true → line_place line ≡ Some place → next ≤ place
    → list_all (is_from next) more ≡ true → list_all (is_from next) (line ∷ more) ≡ true
unfolding is_from
from_cons line more place next entry is le all = rw (entry, is, le-leb next place le) all

pub one_from : (line : List ℕ) (place next : ℕ) → is_entry (line_kind line) ≡ true → line_place line ≡ Some place → next ≤ place → is_from next line ≡ true
unfolding is_from
one_from line place next entry is le = rw (entry, is) (le-leb next place le)

-- a heading has another subject than an entry, and says nothing
pub off_heading : (x : List ℕ) (text : List (List ℕ)) → is_entry (line_kind x) ≡ true → off (subject x) text ≡ true → off (subject x) (heading ∷ text) ≡ true
off_heading x text entry all = rw (heading_apart x entry) all

pub heading_kind : line_kind heading ≡ Heading
unfolding line_kind kind_of first_words
heading_kind = refl

pub heading_says : otherwise (heading ∷ []) ≡ None
unfolding otherwise says_otherwise line_kind kind_of first_words
heading_says = refl

-- one line more in a text, none of which has a line feed
pub text_more : (all : List (List ℕ)) (line : List ℕ) → (text_of all ++ line) ++ 10 ∷ [] ≡ text_of (all ++ line ∷ [])
text_more all line =
    append_assoc (text_of all) line (10 ∷ []) ∙ sym (flat_map-append (λ (l : List ℕ). l ++ 10 ∷ []) all (line ∷ []) ∙ ap (λ rest. text_of all ++ rest) (append-nil (line ++ 10 ∷ [])))

pub any_more : (text : List (List ℕ)) (line : List ℕ) → list_any (list_any is_feed) text ≡ false → list_any is_feed line ≡ false
    → list_any (list_any is_feed) (text ++ line ∷ []) ≡ false
any_more text line none not = rw (list_any-append, none, not) refl

-- what is found of one line more
pub found_more : (f : List ℕ → List Found) (text : List (List ℕ)) (line : List ℕ) → flat_map f (text ++ line ∷ []) ≡ flat_map f text ++ f line
found_more f text line = flat_map-append f text (line ∷ []) ∙ ap (λ rest. flat_map f text ++ rest) (flat_map-cons f line [] ∙ append-nil (f line))

pub of_first_lone : (end : Option ℕ) (text : List (List ℕ)) (a : List ℕ) → is_entry (line_kind a) ≡ true → off (subject a) text ≡ true
    → of_first end text a ≡ found_lone end minus Entries a
unfolding of_first found_lacking has_section
of_first_lone end text a entry out = rw (in_entries (line_kind a) entry, none_off (subject a) text out) refl

-- an entry that the second reaches is not behind its end
pub covers_less : (end : Option ℕ) (m n : ℕ) → m ≤ n → Covers n end → Covers m end
covers_less None m n le covers = covers
covers_less (Some end) m n le covers = omega arith

not_past : (end : Option ℕ) (a : List ℕ) (next place : ℕ) → Covers next end → line_place a ≡ Some place → place < next → is_past end a ≡ false
unfolding is_past
not_past None a next place covers is lt = refl
not_past (Some end) a next place covers is lt = rw is (lt-leb end place (omega arith))

pub lone_within : (end : Option ℕ) (a : List ℕ) (next place : ℕ) → Covers next end → line_place a ≡ Some place → place < next
    → found_lone end minus Entries a ≡ found_lone None minus Entries a
unfolding lone_outcome is_past
lone_within end a next place covers is lt = rw (same end (not_past end a next place covers is lt)) refl
  where
    same : (end : Option ℕ) → is_past end a ≡ false → lone_outcome end a ≡ lone_outcome None a
    same end not = rw not refl

there : (back : List (List ℕ)) (a b : List ℕ) → subject b ≡ subject a → line_about (b ∷ back) (subject a) ≡ Some b
unfolding line_about
there back a b same = rw (same, (bytes_eq-Decides (subject a) (subject a)).1 refl) refl

pub of_first_pair : (end : Option ℕ) (front back : List (List ℕ)) (a b : List ℕ) → is_entry (line_kind a) ≡ true → subject b ≡ subject a → off (subject a) front ≡ true
    → of_first end (front ++ b ∷ back) a ≡ found_pair Entries a b
unfolding of_first
of_first_pair end front back a b entry same out = rw (in_entries (line_kind a) entry, about_off (subject a) front (b ∷ back) out, there back a b same) refl

-- two steps at once
pub chain_on : (all fm mid e rest fm' : List Found) → all ≡ fm ++ mid → mid ≡ e ++ rest → fm' ≡ fm ++ e → all ≡ fm' ++ rest
chain_on all fm mid e rest fm' p q r = p ∙ ap (λ x. fm ++ x) q ∙ sym (append_assoc fm e rest) ∙ ap (λ x. x ++ rest) (sym r)

pub says_on : (all mid rest : Option (ℕ × List ℕ)) (n k : ℕ) → all ≡ further n mid → mid ≡ further 1 rest → k ≡ n + 1 → all ≡ further k rest
says_on all mid rest n k p q r =
    let same : 1 + n ≡ k = omega (arith, r) in
    p ∙ ap (further n) q ∙ further_twice n 1 rest ∙ ap (λ x. further x rest) same

-- two entries of one place have one subject
place_word : (word : List ℕ) (place : ℕ) → place_of word ≡ Some place → word ≡ decimal place
unfolding place_of
place_word word place is = elim (cases_Bool (nat_lt (digits_value 10 word) 4294967296 && bytes_eq word (decimal (digits_value 10 word)))) [
  | inl both ↦
      (let value : Some (digits_value 10 word) ≡ Some place = rw both at is in
      let number : digits_value 10 word ≡ place = cc in
      (bytes_eq-Decides word (decimal (digits_value 10 word))).0 (second_of _ _ both) ∙ ap decimal number)
  | inr neither ↦ (let never : None ≡ Some place = rw neither at is in cc)
]
  where
    second_of : (a b : Bool) → (a && b) ≡ true → b ≡ true
    second_of a b both = grind (arith, both)

pub same_subject : (a b : List ℕ) (place : ℕ) → is_entry (line_kind a) ≡ true → is_entry (line_kind b) ≡ true → line_place a ≡ Some place → line_place b ≡ Some place
    → subject b ≡ subject a
same_subject a b place one other is are =
    place_word (subject b) place (sym (place_is b other) ∙ are) ∙ sym (place_word (subject a) place (sym (place_is a one) ∙ is))

-- what is awaited of a line
pub awaits_from : (m : Merging) (line : List ℕ) (place : ℕ) → Awaits m line → line_place line ≡ Some place → m.first.next ≤ place → m.from ≤ place
awaits_from m line place (inl level) is le = omega (arith, level)
awaits_from m line place (inr known) is le =
    let same : Some known.place ≡ Some place = sym known.place_is ∙ is in
    let equal : known.place ≡ place = cc in
    omega (arith, equal, known.from_is)

-- the lines of a text of lines
pub All-from_none : (line : List ℕ) → list_any is_feed line ≡ false → All (λ b. (b == 10) ≡ false) line
All-from_none line none = λ k d lt. elim (cases_Bool (get_or line k d == 10)) [
  | inl is ↦ (let never : true ≡ false = sym (list_any_at is_feed line k d lt is) ∙ none in cc)
  | inr other ↦ other
]

pub lines_on : (all : List (List ℕ)) (rest : List ℕ) → list_any (list_any is_feed) all ≡ false → lines (text_of all ++ rest) ≡ all ++ lines rest
lines_on [] rest none = refl
lines_on (line ∷ more) rest none = elim (cases_Bool (list_any is_feed line)) [
  | inl has ↦ (let never : true ≡ false = rw has at none in cc)
  | inr whole ↦ (let behind = lines_on more rest (rw whole at none) in
      ap lines (append_assoc (line ++ 10 ∷ []) (text_of more) rest ∙ append_assoc line (10 ∷ []) (text_of more ++ rest))
      ∙ slice_split_at (λ b. b == 10) line 10 (text_of more ++ rest) (All-from_none line whole) refl ∙ ap (λ x. line ∷ x) behind)
]

pub lines_of : (all : List (List ℕ)) → list_any (list_any is_feed) all ≡ false → lines (text_of all) ≡ all ++ [] ∷ []
lines_of [] none = refl
lines_of (line ∷ more) none = elim (cases_Bool (list_any is_feed line)) [
  | inl has ↦ (let never : true ≡ false = rw has at none in cc)
  | inr whole ↦ (let rest = lines_of more (rw whole at none) in
      ap lines (append_assoc line (10 ∷ []) (text_of more)) ∙ slice_split_at (λ b. b == 10) line 10 (text_of more) (All-from_none line whole) refl ∙ ap (λ x. line ∷ x) rest)
]

pub texts_kept : (parts : List (Bor (List ℕ))) (all : List (List ℕ)) (count : ℕ) → texts parts ≡ all ++ [] ∷ [] → count ≡ length all → texts (take count parts) ≡ all
texts_kept parts all count same e = sym (take-map (λ (s : Bor (List ℕ)). s.now) count parts) ∙ rw (same, e) (take-append_seam all ([] ∷ []))

pub kept_count : (parts : List (Bor (List ℕ))) (all : List (List ℕ)) → texts parts ≡ all ++ [] ∷ [] → length parts ≡ length all + 1
kept_count parts all same = sym (length-map parts (λ (s : Bor (List ℕ)). s.now)) ∙ ap length same ∙ length-append all ([] ∷ [])

end_is_none : is_entry (line_kind (codes "end")) ≡ true → ⊥
unfolding line_kind kind_of first_words
end_is_none e = search (rules, e)

-- the lines that are left, and the first report from where on its places rise
no_end_in : (line : List ℕ) → is_entry (line_kind line) ≡ true → is_end line ≡ false
no_end_in line entry = elim (cases_Bool (is_end line)) [
  | inl is ↦ (let same : line ≡ codes "end" = (bytes_eq-Decides line (codes "end")).0 is in absurd (never (rw same at entry)))
  | inr not ↦ not
]
  where
    never : is_entry (line_kind (codes "end")) ≡ true → ⊥
    never e = end_is_none e

pub is_left : (side : Side) (earlier text : List (List ℕ)) → order_behind side Two earlier text ≡ None → first_behind falls earlier text ≡ None
is_left side earlier text none = by (first_behind falls earlier text) none
  where
    by : (found : Option (ℕ × List ℕ)) → option_map (λ said. order_text side said.0 (shown_subject said.1)) found ≡ None → found ≡ None
    by None e = refl
    by (Some x) e = cc

-- what is left of the first report begins where it is awaited
pub left_from : (m : Merging) (earlier rest : List (List ℕ)) → RisesFrom m.first.next earlier → order_behind First Two earlier (report_in rest) ≡ None → AwaitsText m rest
    → list_all (is_from m.from) (report_in rest) ≡ true
left_from m earlier rest rises order (inl level) = rw level (rises_on (report_in rest) earlier m.first.next (is_left First earlier (report_in rest) order) rises)
left_from m earlier rest rises order (inr (line, more, is, known)) =
    let behind : report_in rest ≡ line ∷ report_in more = ap report_in is ∙ report_behind (line ∷ []) more (rw (no_end_in line known.entry) refl) in
    rw behind (from_first line (report_in more) earlier m.first.next m.from known.place (rw behind at (is_left First earlier (report_in rest) order)) rises known.entry known.place_is known.from_is)
