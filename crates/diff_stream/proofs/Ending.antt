-- Two texts that were read to their ends.
use Rattle.std.proofs.Common.{◌≡◌, ◌⊎◌, ◌++◌, ◌∷◌, ℕ, true, false, List, [], Option, Some, inl, inr, refl, sym, ap, subst, ◌∙◌, codes, append_assoc}
use Rattle.std.specs.List.{after_first, take_while}
use Rattle.std.proofs.lemmas.Bool.{cases_Bool}
use Rattle.std.proofs.lemmas.List.Sums.{take_while-cons}
use Rattle.std.specs.Str.{bytes_eq}
use Rattle.std.specs.Io.KnownBytes.{Appends, Consumes}
use Rattle.std.proofs.lemmas.List.{append-nil}
use Rattle.std.proofs.KnownBytes.{Appends-nil, Appends-trans, Consumes-nil, Consumes-trans}
use Rattle.byte_transfer.specs.Transfer.{AppendsSome, Takes}
use Rattle.byte_transfer.proofs.Beginnings.{some_behind, some_of_all, some_of_none}
use Rattle.json_lines.specs.Forms.{written_as}
use Rattle.json_lines.specs.declared.form.Form.{Form}
use Rattle.json_lines.specs.declared.writing.WriteFault.{WriteFault}
use Rattle.json_lines.specs.declared.writing.WriteFault.TheVariants as write
use Rattle.json_lines.proofs.Whole.{empty_whole, written_behind, written_empty}
use Rattle.report_diff.specs.declared.comparing.Comparison.{Comparison}
use Rattle.report_diff.specs.declared.comparing.Terms.{Terms}
use Rattle.report_diff.specs.declared.comparing.DiffFault.{DiffFault}
use Rattle.report_diff.specs.declared.comparing.DiffFault.TheVariants as diff
use Rattle.report_diff.specs.declared.fronts.Merging.{Merging}
use Rattle.report_diff.specs.Differences.{found_text}
use Rattle.report_diff.specs.Inputs.{ComparesTwo, TellsOfLines, TellsOfTwo, differences_of_two}
use Rattle.report_diff.specs.Lines.{lines}
use Rattle.report_diff.specs.Merging.{AwaitsText, ComparesBehind, IsAwaited, early, early_text_of_two, front, heading, is_feed, reaches, text_of, whole_lines}
use Rattle.report_diff.proofs.EarlyText.{Ends, early_first, early_second}
use Rattle.report_diff.proofs.MergeLemmas.{lines_on}
use Rattle.text_lines.specs.Lines.{first_line}
use Rattle.diff_stream.specs.declared.held.Side.{Side}
use Rattle.diff_stream.specs.declared.held.Sides.{Sides}
use Rattle.diff_stream.specs.declared.fault.CompareFault.{CompareFault}
use Rattle.diff_stream.specs.declared.fault.CompareFault.TheVariants.{Refused, Memory, Read, Write}
use Rattle.diff_stream.specs.Compared.{ReadsBoth, WritesComparison, WritesSome, WritesUpTo}
use Rattle.diff_stream.specs.Faults.{IsOutside, of_diff, of_write}
use Rattle.diff_stream.specs.Steps.{Begins, Begun, FrontsEnd, HoldsAll, IsOther, LeavesAll, SideEnds, Stands}
use Rattle.diff_stream.proofs.FirstLines.{first_of_lines, first_of_whole, no_whole, passed_on}

-- a fault that is no reason of the texts
pub up_to : (form : Form) (terms : Terms) (l l' r r' w w' : Option (List ℕ)) (e : CompareFault) → IsOutside e → WritesSome form terms l l' r r' w w' → WritesUpTo form terms l l' r r' w w' e
up_to form terms l l' r r' w w' (Refused why) out some = absurd out
up_to form terms l l' r r' w w' Memory out some = some
up_to form terms l l' r r' w w' Read out some = some
up_to form terms l l' r r' w w' Write out some = some

-- a fault of what writes a text in a form
pub up_to_write : (form : Form) (terms : Terms) (l l' r r' w w' : Option (List ℕ)) (f : WriteFault) → WritesSome form terms l l' r r' w w' → WritesUpTo form terms l l' r r' w w' (of_write f)
up_to_write form terms l l' r r' w w' write.Memory some = some
up_to_write form terms l l' r r' w w' write.Write some = some

-- nothing was written
pub nothing_written : (form : Form) (terms : Terms) (l l' r r' w : Option (List ℕ)) → Takes l l' → Takes r r' → WritesSome form terms l l' r r' w w
nothing_written form terms l l' r r' w first second = record {
  first = first.0;
  second = second.0;
  one = first.1;
  other = second.1;
  text = early_text_of_two first.0 second.0;
  told = inl refl;
  wrote = some_of_none w (written_as form (early_text_of_two first.0 second.0));
}

-- a side that ends, and all of it
ends_all : (passed : List (List ℕ)) (s : Side) (left left' : Option (List ℕ)) (all : List ℕ) → SideEnds passed s → LeavesAll s left left' all → Ends passed (whole_lines all)
ends_all passed s left left' all (inl (none, ended)) (more, taken, at_end, is, no_more) =
    inl (ap whole_lines (is ∙ ap (λ x. s.lines ++ x) (no_more ended) ∙ append-nil s.lines) ∙ no_whole s.lines none)
ends_all passed s left left' all (inr (line, there, not)) (more, taken, at_end, is, no_more) =
    let whole = first_of_whole s.lines more line there in inr (line, whole.0, ap whole_lines is ∙ whole.1, not)

-- all of the first, where its next line is awaited
awaits_all : (m : Merging) (s : Side) (left left' : Option (List ℕ)) (all : List ℕ)
    → ((m.from ≡ m.first.next) ⊎ ((line : List ℕ) × (first_line s.lines ≡ Some line) × IsAwaited m.from line)) → LeavesAll s left left' all → AwaitsText m (lines all)
awaits_all m s left left' all (inl level) leaves = inl level
awaits_all m s left left' all (inr (line, there, known)) (more, taken, at_end, is, no_more) =
    let rest = first_of_lines s.lines more line there in inr (line, rest.0, ap lines is ∙ rest.1, known)

-- what is known of two texts of version 2, read to their ends
pub record Whole (form : Form) (a b : Side) (m : Merging) (l l' r r' w w' : Option (List ℕ)) (all all2 : List ℕ) : Type 0 where
  pub is : Stands form a b m l l' r r' w w'
  pub awaits : AwaitsText m (lines all)
  pub read : (l2 r2 : Option (List ℕ)) → LeavesAll a l' l2 all → LeavesAll b r' r2 all2
      → ReadsBoth l l2 r r2 (text_of (heading ∷ is.one) ++ all) (text_of (heading ∷ is.other) ++ all2)
  pub first_lines : lines (text_of (heading ∷ is.one) ++ all) ≡ heading ∷ is.one ++ lines all
  pub second_lines : lines (text_of (heading ∷ is.other) ++ all2) ≡ heading ∷ is.other ++ lines all2
  pub early_is : m.told.text.items ≡ [] → early_text_of_two (text_of (heading ∷ is.one) ++ all) (text_of (heading ∷ is.other) ++ all2) ≡ is.taken

reads_all : (one : List (List ℕ)) (s : Side) (l l' l2 : Option (List ℕ)) (all : List ℕ) → Consumes l l' (text_of (heading ∷ one) ++ s.lines) → LeavesAll s l' l2 all
    → Consumes l l2 (text_of (heading ∷ one) ++ all)
reads_all one s l l' l2 all taken (more, behind, at_end, is, no_more) =
    subst (Consumes l l2) (append_assoc (text_of (heading ∷ one)) s.lines more ∙ ap (λ x. text_of (heading ∷ one) ++ x) (sym is))
    (Consumes-trans l l' l2 (text_of (heading ∷ one) ++ s.lines) more taken behind)

pub whole_is : (form : Form) (a b : Side) (m : Merging) (l l1 l2 r r1 r2 w w1 : Option (List ℕ)) (all all2 : List ℕ) → (at : Stands form a b m l l1 r r1 w w1)
    → FrontsEnd at.one at.other a b m → LeavesAll a l1 l2 all → LeavesAll b r1 r2 all2 → Whole form a b m l l1 r r1 w w1 all all2
whole_is form a b m l l1 l2 r r1 r2 w w1 all all2 at ends leaves leaves2 = record {
  is = at;
  awaits = awaits_all m a l1 l2 all at.awaits leaves;
  read = λ l3 r3 first second. record {
    one = reads_all at.one a l l1 l3 all at.first_taken first;
    one_ended = first.2;
    other = reads_all at.other b r r1 r3 all2 at.second_taken second;
    other_ended = second.2;
  };
  first_lines = lines_on (heading ∷ at.one) all at.plain;
  second_lines = lines_on (heading ∷ at.other) all2 at.plain_other;
  early_is = λ none. told none ends;
}
  where
    told : m.told.text.items ≡ [] → FrontsEnd at.one at.other a b m
        → early_text_of_two (text_of (heading ∷ at.one) ++ all) (text_of (heading ∷ at.other) ++ all2) ≡ at.taken
    told none (inl first) =
        early_first m at.one at.other at.taken all all2 at.merges at.plain at.plain_other (ends_all at.one a l1 l2 all first leaves)
        ∙ ap (λ x. at.taken ++ x) none ∙ append-nil at.taken
    told none (inr (second, level, (line, there, known))) =
        let whole = first_of_whole a.lines leaves.0 line there in
        early_second m at.one at.other at.taken all all2 at.merges at.plain at.plain_other (ends_all at.other b r1 r2 all2 second leaves2)
        level line whole.0 (ap whole_lines leaves.3 ∙ whole.1) known
        ∙ ap (λ x. at.taken ++ x) none ∙ append-nil at.taken

-- how they are told: refused
pub refused_up_to : (form : Form) (terms : Terms) (a b : Side) (m : Merging) (l l1 l2 r r1 r2 w w1 : Option (List ℕ)) (all all2 : List ℕ) (it : Whole form a b m l l1 r r1 w w1 all all2)
    → LeavesAll a l1 l2 all → LeavesAll b r1 r2 all2 → m.told.text.items ≡ [] → (f : DiffFault)
    → TellsOfLines terms (heading ∷ it.is.one ++ lines all) (heading ∷ it.is.other ++ lines all2) f → WritesUpTo form terms l l2 r r2 w w1 (of_diff f)
refused_up_to form terms a b m l l1 l2 r r1 r2 w w1 all all2 it leaves leaves2 none (diff.Refused why) tells = record {
  first = text_of (heading ∷ it.is.one) ++ all;
  second = text_of (heading ∷ it.is.other) ++ all2;
  read = it.read l2 r2 leaves leaves2;
  refused = rw (it.first_lines, it.second_lines) tells;
  wrote = subst (λ x. Appends w w1 (written_as form x)) (sym (it.early_is none)) it.is.wrote;
}
refused_up_to form terms a b m l l1 l2 r r1 r2 w w1 all all2 it leaves leaves2 none diff.Memory tells =
    let read = it.read l2 r2 leaves leaves2 in
    record {
      first = text_of (heading ∷ it.is.one) ++ all;
      second = text_of (heading ∷ it.is.other) ++ all2;
      one = read.one;
      other = read.other;
      text = it.is.taken;
      told = inl (sym (it.early_is none));
      wrote = some_of_all w w1 (written_as form it.is.taken) it.is.wrote;
    }

-- or compared
differences_are : (form : Form) (terms : Terms) (a b : Side) (m : Merging) (l l1 r r1 w w1 : Option (List ℕ)) (all all2 : List ℕ) (it : Whole form a b m l l1 r r1 w w1 all all2) (comparison : Comparison)
    → ComparesBehind terms it.is.taken (heading ∷ it.is.one ++ lines all) (heading ∷ it.is.other ++ lines all2) comparison
    → differences_of_two terms (text_of (heading ∷ it.is.one) ++ all) (text_of (heading ∷ it.is.other) ++ all2) ≡ it.is.taken ++ comparison.text.items
differences_are form terms a b m l l1 r r1 w w1 all all2 it comparison compares = rw (it.first_lines, it.second_lines) (sym compares.text)

pub compared : (form : Form) (terms : Terms) (a b : Side) (m : Merging) (l l1 l2 r r1 r2 w w1 w2 : Option (List ℕ)) (all all2 : List ℕ) (it : Whole form a b m l l1 r r1 w w1 all all2)
    → LeavesAll a l1 l2 all → LeavesAll b r1 r2 all2 → (comparison : Comparison)
    → ComparesBehind terms it.is.taken (heading ∷ it.is.one ++ lines all) (heading ∷ it.is.other ++ lines all2) comparison
    → Appends w1 w2 (written_as form comparison.text.items) → WritesComparison form terms l l2 r r2 w w2 comparison.passes
compared form terms a b m l l1 l2 r r1 r2 w w1 w2 all all2 it leaves leaves2 comparison compares wrote = record {
  first = text_of (heading ∷ it.is.one) ++ all;
  second = text_of (heading ∷ it.is.other) ++ all2;
  read = it.read l2 r2 leaves leaves2;
  reports = rw (it.first_lines, it.second_lines) compares.reports;
  wrote = subst (Appends w w2)
      (sym (ap (written_as form) (differences_are form terms a b m l l1 r r1 w w1 all all2 it comparison compares) ∙ written_behind form it.is.taken comparison.text.items it.is.whole))
      (Appends-trans w w1 w2 (written_as form it.is.taken) (written_as form comparison.text.items) it.is.wrote wrote);
  decided = rw (it.first_lines, it.second_lines) compares.passes;
}

pub part_compared : (form : Form) (terms : Terms) (a b : Side) (m : Merging) (l l1 l2 r r1 r2 w w1 w2 : Option (List ℕ)) (all all2 : List ℕ) (it : Whole form a b m l l1 r r1 w w1 all all2)
    → LeavesAll a l1 l2 all → LeavesAll b r1 r2 all2 → (comparison : Comparison) → (text : List ℕ) → text ≡ comparison.text.items
    → ComparesBehind terms it.is.taken (heading ∷ it.is.one ++ lines all) (heading ∷ it.is.other ++ lines all2) comparison
    → AppendsSome w1 w2 (written_as form text) → WritesSome form terms l l2 r r2 w w2
part_compared form terms a b m l l1 l2 r r1 r2 w w1 w2 all all2 it leaves leaves2 comparison text same compares part =
    let read = it.read l2 r2 leaves leaves2 in
    record {
      first = text_of (heading ∷ it.is.one) ++ all;
      second = text_of (heading ∷ it.is.other) ++ all2;
      one = read.one;
      other = read.other;
      text = it.is.taken ++ text;
      told = inr (
        rw (it.first_lines, it.second_lines) compares.reports,
        ap (λ x. it.is.taken ++ x) same ∙ sym (differences_are form terms a b m l l1 r r1 w w1 all all2 it comparison compares),
      );
      wrote = subst (AppendsSome w w2) (sym (written_behind form it.is.taken text it.is.whole))
          (some_behind w w1 w2 (written_as form it.is.taken) (written_as form text) it.is.wrote part);
    }

-- texts of which one does not begin as a report of version 2
other_front : (s : Side) (left left' : Option (List ℕ)) (all : List ℕ) → IsOther s → LeavesAll s left left' all → front (whole_lines all) ≡ []
other_front s left left' all (inl (none, ended)) (more, taken, at_end, is, no_more) =
    ap front (ap whole_lines (is ∙ ap (λ x. s.lines ++ x) (no_more ended) ∙ append-nil s.lines) ∙ no_whole s.lines none)
other_front s left left' all (inr (line, there, not)) (more, taken, at_end, is, no_more) =
    let whole = first_of_whole s.lines more line there in
    ap front (ap whole_lines is ∙ whole.1) ∙ elim (cases_Bool (bytes_eq line (codes "uring-report 1"))) [
      | inl one ↦ rw one refl
      | inr other ↦ rw (other, not) refl
    ]

none_reached : (text : List (List ℕ)) → take_while (reaches []) text ≡ []
unfolding reaches
none_reached [] = refl
none_reached (line ∷ more) = take_while-cons (reaches []) line more

nothing_early : (first second : List (List ℕ)) → (first ≡ []) ⊎ (second ≡ []) → early first second ≡ []
unfolding early
nothing_early first second (inl none) = rw none refl
nothing_early first second (inr none) = rw (none, none_reached first) refl

nothing_told : (a b : Side) (l l1 r r1 : Option (List ℕ)) (all all2 : List ℕ) → IsOther a ⊎ IsOther b → LeavesAll a l l1 all → LeavesAll b r r1 all2
    → early_text_of_two all all2 ≡ []
unfolding early_text_of_two
nothing_told a b l l1 r r1 all all2 (inl other) leaves leaves2 =
    ap found_text (nothing_early (front (whole_lines all)) (front (whole_lines all2)) (inl (other_front a l l1 all other leaves)))
nothing_told a b l l1 r r1 all all2 (inr other) leaves leaves2 =
    ap found_text (nothing_early (front (whole_lines all)) (front (whole_lines all2)) (inr (other_front b r r1 all2 other leaves2)))

pub whole_taken : (s : Side) (l l1 l2 : Option (List ℕ)) (all : List ℕ) → HoldsAll s l l1 → LeavesAll s l1 l2 all → Consumes l l2 all
whole_taken s l l1 l2 all whole (more, taken, at_end, is, no_more) = subst (Consumes l l2) (sym is) (Consumes-trans l l1 l2 s.lines more whole.taken taken)

pub both_whole : (a b : Side) (l l1 l2 r r1 r2 : Option (List ℕ)) (all all2 : List ℕ) → HoldsAll a l l1 → HoldsAll b r r1 → LeavesAll a l1 l2 all → LeavesAll b r1 r2 all2
    → ReadsBoth l l2 r r2 all all2
both_whole a b l l1 l2 r r1 r2 all all2 one other leaves leaves2 = record {
  one = whole_taken a l l1 l2 all one leaves;
  one_ended = leaves.2;
  other = whole_taken b r r1 r2 all2 other leaves2;
  other_ended = leaves2.2;
}

pub refused_whole : (form : Form) (terms : Terms) (a b : Side) (l l1 l2 r r1 r2 w : Option (List ℕ)) (all all2 : List ℕ) → HoldsAll a l l1 → HoldsAll b r r1 → LeavesAll a l1 l2 all → LeavesAll b r1 r2 all2
    → IsOther a ⊎ IsOther b → (f : DiffFault) → TellsOfTwo terms all all2 f → WritesUpTo form terms l l2 r r2 w w (of_diff f)
refused_whole form terms a b l l1 l2 r r1 r2 w all all2 one other leaves leaves2 odd (diff.Refused why) tells = record {
  first = all;
  second = all2;
  read = both_whole a b l l1 l2 r r1 r2 all all2 one other leaves leaves2;
  refused = tells;
  wrote = subst (Appends w w) (sym (ap (written_as form) (nothing_told a b l1 l2 r1 r2 all all2 odd leaves leaves2) ∙ written_empty form)) (Appends-nil w);
}
refused_whole form terms a b l l1 l2 r r1 r2 w all all2 one other leaves leaves2 odd diff.Memory tells =
    nothing_written form terms l l2 r r2 w (all, whole_taken a l l1 l2 all one leaves) (all2, whole_taken b r r1 r2 all2 other leaves2)

pub compared_whole : (form : Form) (terms : Terms) (l l2 r r2 w w2 : Option (List ℕ)) (all all2 : List ℕ) → ReadsBoth l l2 r r2 all all2 → (comparison : Comparison) → ComparesTwo terms all all2 comparison
    → Appends w w2 (written_as form comparison.text.items) → WritesComparison form terms l l2 r r2 w w2 comparison.passes
compared_whole form terms l l2 r r2 w w2 all all2 read comparison compares wrote = record {
  first = all;
  second = all2;
  read = read;
  reports = compares.reports;
  wrote = subst (λ x. Appends w w2 (written_as form x)) compares.text wrote;
  decided = compares.passes;
}

pub part_whole : (form : Form) (terms : Terms) (l l2 r r2 w w2 : Option (List ℕ)) (all all2 : List ℕ) → ReadsBoth l l2 r r2 all all2 → (comparison : Comparison) → ComparesTwo terms all all2 comparison
    → (text : List ℕ) → text ≡ comparison.text.items → AppendsSome w w2 (written_as form text) → WritesSome form terms l l2 r r2 w w2
part_whole form terms l l2 r r2 w w2 all all2 read comparison compares text same part = record {
  first = all;
  second = all2;
  one = read.one;
  other = read.other;
  text = text;
  told = inr (compares.reports, same ∙ compares.text);
  wrote = part;
}

-- the headings of both were passed
pub begun_stands : (form : Form) (s : Sides) (a b a' b' : Side) (l l1 r r1 w : Option (List ℕ)) → Begun s → Begins true s.first a l l1 → Begins true s.second b r r1
    → a'.lines ≡ after_first is_feed a.lines → a'.ended ≡ a.ended → b'.lines ≡ after_first is_feed b.lines → b'.ended ≡ b.ended
    → Stands form a' b' s.merging l l1 r r1 w w
begun_stands form s a b a' b' l l1 r r1 w begun first second rest same rest2 same2 = record {
  one = [];
  other = [];
  taken = [];
  merges = begun.merges;
  plain = refl;
  plain_other = refl;
  first_taken = passed s.first a a' l l1 begun.first first rest;
  second_taken = passed s.second b b' r r1 begun.second second rest2;
  first_ended = λ ended. (let never : false ≡ true = sym begun.first_goes_on ∙ sym first.4 ∙ sym same ∙ ended in absurd cc);
  second_ended = λ ended. (let never : false ≡ true = sym begun.second_goes_on ∙ sym second.4 ∙ sym same2 ∙ ended in absurd cc);
  whole = empty_whole;
  wrote = subst (Appends w w) (sym (written_empty form)) (Appends-nil w);
  awaits = inl begun.level;
}
  where
    passed : (s s' t : Side) (left left' : Option (List ℕ)) → s.lines ≡ [] → Begins true s s' left left' → t.lines ≡ after_first is_feed s'.lines
        → Consumes left left' (text_of (heading ∷ []) ++ t.lines)
    passed s s' t left left' none (more, taken, is, there, ended) behind =
        let all : more ≡ text_of (heading ∷ []) ++ t.lines =
        sym (is ∙ ap (λ x. x ++ more) none) ∙ passed_on [] s'.lines heading there ∙ ap (λ x. text_of (heading ∷ []) ++ x) (sym behind) in
        subst (Consumes left left') all taken

-- what began otherwise is held whole
pub begun_whole : (s s' : Side) (left left' : Option (List ℕ)) → s.lines ≡ [] → s.ended ≡ false → Begins false s s' left left' → HoldsAll s' left left'
begun_whole s s' left left' none on (more, taken, is, other, ended) = record {
  taken = subst (Consumes left left') (sym (is ∙ ap (λ x. x ++ more) none)) taken;
  ended = λ at_end. ended at_end on;
}

pub heading_whole : (s s' : Side) (left left' : Option (List ℕ)) → s.lines ≡ [] → s.ended ≡ false → Begins true s s' left left' → HoldsAll s' left left'
heading_whole s s' left left' none on (more, taken, is, there, same) = record {
  taken = subst (Consumes left left') (sym (is ∙ ap (λ x. x ++ more) none)) taken;
  ended = λ at_end. (let never : false ≡ true = sym on ∙ sym same ∙ at_end in absurd cc);
}

pub unread_whole : (s : Side) (left : Option (List ℕ)) → s.lines ≡ [] → s.ended ≡ false → HoldsAll s left left
unread_whole s left none on = record {
  taken = subst (Consumes left left) (sym none) (Consumes-nil left);
  ended = λ at_end. (let never : false ≡ true = sym on ∙ at_end in absurd cc);
}
