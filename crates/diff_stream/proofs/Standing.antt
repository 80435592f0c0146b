-- What stands between two lines, after one step more.
use Rattle.std.proofs.Common.{◌≡◌, ◌≤◌, ◌⊎◌, ◌++◌, ◌∷◌, ℕ, Bool, true, false, List, [], Option, None, Some, inl, inr, sym, ap, subst, ◌∙◌, arith, append_assoc}
use Rattle.std.specs.List.{after_first}
use Rattle.std.specs.Io.KnownBytes.{Consumes, IsAtEnd}
use Rattle.std.proofs.lemmas.List.{append-nil}
use Rattle.std.proofs.KnownBytes.{Consumes-nil, Consumes-trans}
use Rattle.byte_transfer.specs.Transfer.{AppendsSome, Takes}
use Rattle.byte_transfer.proofs.Beginnings.{some_behind, some_more, some_of_none}
use Rattle.json_lines.specs.Forms.{written_as}
use Rattle.json_lines.specs.declared.form.Form.{Form}
use Rattle.json_lines.proofs.Whole.{written_behind}
use Rattle.report_diff.specs.declared.fronts.Merging.{Merging}
use Rattle.report_diff.specs.declared.comparing.Terms.{Terms}
use Rattle.report_diff.specs.Merging.{Awaits, IsAwaited, Merges, early_text_of_two, heading, is_feed, text_of}
use Rattle.report_diff.proofs.EarlyText.{early_so_far}
use Rattle.report_diff.proofs.MergeLemmas.{any_more}
use Rattle.text_lines.specs.Lines.{first_line}
use Rattle.diff_stream.specs.declared.held.Side.{Side}
use Rattle.diff_stream.specs.Compared.{WritesSome}
use Rattle.diff_stream.specs.Steps.{AtEnds, FrontsEnd, HasLine, Moves, Stands, StopsAt}
use Rattle.diff_stream.proofs.FirstLines.{passed_on, plain_line, stays}
use Rattle.diff_stream.proofs.FoundLines.{merged_whole}
use Rattle.diff_stream.proofs.Moving.{moved_whole, moved_wrote}

-- bytes come behind those that are held
comes : (all : List (List ℕ)) (a b c : Option (List ℕ)) (held held' more : List ℕ) → Consumes a b (text_of all ++ held) → Consumes b c more → held' ≡ held ++ more
    → Consumes a c (text_of all ++ held')
comes all a b c held held' more before after is =
    subst (Consumes a c) (append_assoc (text_of all) held more ∙ ap (λ x. text_of all ++ x) (sym is)) (Consumes-trans a b c (text_of all ++ held) more before after)

-- what a side has, whether a line is whole or not
pub record Came (s s' : Side) (left left' : Option (List ℕ)) : Type 0 where
  pub more : List ℕ
  pub taken : Consumes left left' more
  pub is : s'.lines ≡ s.lines ++ more
  pub ended : (s.ended ≡ true → IsAtEnd left) → s'.ended ≡ true → IsAtEnd left'

pub came : (some : Bool) (s s' : Side) (left left' : Option (List ℕ)) → HasLine some s s' left left' → Came s s' left left'
came true s s' left left' (more, taken, is, line, ended) = record {
  more = more;
  taken = taken;
  is = is;
  ended = λ before now. subst IsAtEnd (sym (ended now).1) (before (ended now).0);
}
came false s s' left left' (more, taken, is, none, now, inl end) = record { more = more; taken = taken; is = is; ended = λ before it. end }
came false s s' left left' (more, taken, is, none, now, inr (was, same)) = record {
  more = more;
  taken = taken;
  is = is;
  ended = λ before it. subst IsAtEnd (sym same) (before was);
}

-- the next line of the first is the same, where bytes come behind it
pub still : (m m' : Merging) (text text' more : List ℕ) → m'.from ≡ m.from → m'.first ≡ m.first → text' ≡ text ++ more
    → ((m.from ≡ m.first.next) ⊎ ((line : List ℕ) × (first_line text ≡ Some line) × IsAwaited m.from line))
    → (m'.from ≡ m'.first.next) ⊎ ((line : List ℕ) × (first_line text' ≡ Some line) × IsAwaited m'.from line)
still m m' text text' more from first is (inl level) = inl (from ∙ level ∙ ap (λ p. p.next) (sym first))
still m m' text text' more from first is (inr (line, there, known)) =
    inr (line, subst (λ t. first_line t ≡ Some line) (sym is) (stays text more line there), subst (λ f. IsAwaited f line) (sym from) known)

pub first_read : (form : Form) (a b : Side) (m m' : Merging) (a' : Side) (l l1 l2 r r1 w w1 w2 : Option (List ℕ)) → Stands form a b m l l1 r r1 w w1 → Came a a' l1 l2 → Moves form m m' w1 w2
    → Stands form a' b m' l l2 r r1 w w2
first_read form a b m m' a' l l1 l2 r r1 w w1 w2 at came moves = record {
  one = at.one;
  other = at.other;
  taken = at.taken ++ moves.out;
  merges = moves.merges at.one at.other at.taken at.merges;
  plain = at.plain;
  plain_other = at.plain_other;
  first_taken = comes (heading ∷ at.one) l l1 l2 a.lines a'.lines came.more at.first_taken came.taken came.is;
  second_taken = at.second_taken;
  first_ended = came.ended at.first_ended;
  second_ended = at.second_ended;
  whole = moved_whole form m m' w1 w2 at.one at.other at.taken at.merges at.whole moves;
  wrote = moved_wrote form m m' w w1 w2 at.taken at.whole at.wrote moves;
  awaits = still m m' a.lines a'.lines came.more moves.from moves.first came.is at.awaits;
}

pub second_read : (form : Form) (a b : Side) (m m' : Merging) (b' : Side) (l l1 r r1 r2 w w1 w2 : Option (List ℕ)) → Stands form a b m l l1 r r1 w w1 → Came b b' r1 r2 → Moves form m m' w1 w2
    → Stands form a b' m' l l1 r r2 w w2
second_read form a b m m' b' l l1 r r1 r2 w w1 w2 at came moves = record {
  one = at.one;
  other = at.other;
  taken = at.taken ++ moves.out;
  merges = moves.merges at.one at.other at.taken at.merges;
  plain = at.plain;
  plain_other = at.plain_other;
  first_taken = at.first_taken;
  second_taken = comes (heading ∷ at.other) r r1 r2 b.lines b'.lines came.more at.second_taken came.taken came.is;
  first_ended = at.first_ended;
  second_ended = came.ended at.second_ended;
  whole = moved_whole form m m' w1 w2 at.one at.other at.taken at.merges at.whole moves;
  wrote = moved_wrote form m m' w w1 w2 at.taken at.whole at.wrote moves;
  awaits = still m m' a.lines a.lines [] moves.from moves.first (sym (append-nil a.lines)) at.awaits;
}

-- a line of the first is passed
pub first_passed : (form : Form) (a b : Side) (m m' : Merging) (a' : Side) (l l1 r r1 w w1 : Option (List ℕ)) (line : List ℕ) → (at : Stands form a b m l l1 r r1 w w1) → first_line a.lines ≡ Some line
    → Merges m' (at.one ++ line ∷ []) at.other at.taken → m'.from ≡ m'.first.next → a'.lines ≡ after_first is_feed a.lines → a'.ended ≡ a.ended
    → Stands form a' b m' l l1 r r1 w w1
first_passed form a b m m' a' l l1 r r1 w w1 line at there merges level rest same = record {
  one = at.one ++ line ∷ [];
  other = at.other;
  taken = at.taken;
  merges = merges;
  plain = any_more at.one line at.plain (plain_line a.lines line there);
  plain_other = at.plain_other;
  first_taken = subst (Consumes l l1) (passed_on (heading ∷ at.one) a.lines line there ∙ ap (λ x. text_of (heading ∷ (at.one ++ line ∷ [])) ++ x) (sym rest)) at.first_taken;
  second_taken = at.second_taken;
  first_ended = λ ended. at.first_ended (sym same ∙ ended);
  second_ended = at.second_ended;
  whole = at.whole;
  wrote = at.wrote;
  awaits = inl level;
}

-- and one of the second
pub second_passed : (form : Form) (a b : Side) (m m' : Merging) (b' : Side) (l l1 r r1 w w1 : Option (List ℕ)) (line : List ℕ) → (at : Stands form a b m l l1 r r1 w w1) → first_line b.lines ≡ Some line
    → Merges m' at.one (at.other ++ line ∷ []) at.taken → m'.from ≡ m.from → m'.first ≡ m.first → b'.lines ≡ after_first is_feed b.lines → b'.ended ≡ b.ended
    → Stands form a b' m' l l1 r r1 w w1
second_passed form a b m m' b' l l1 r r1 w w1 line at there merges from first rest same = record {
  one = at.one;
  other = at.other ++ line ∷ [];
  taken = at.taken;
  merges = merges;
  plain = at.plain;
  plain_other = any_more at.other line at.plain_other (plain_line b.lines line there);
  first_taken = at.first_taken;
  second_taken = subst (Consumes r r1) (passed_on (heading ∷ at.other) b.lines line there ∙ ap (λ x. text_of (heading ∷ (at.other ++ line ∷ [])) ++ x) (sym rest)) at.second_taken;
  first_ended = at.first_ended;
  second_ended = λ ended. at.second_ended (sym same ∙ ended);
  whole = at.whole;
  wrote = at.wrote;
  awaits = still m m' a.lines a.lines [] from first (sym (append-nil a.lines)) at.awaits;
}

-- the state stays, where only the merging changes
pub remains : (form : Form) (a b : Side) (m m' : Merging) (l l1 r r1 w w1 : Option (List ℕ)) → (at : Stands form a b m l l1 r r1 w w1) → Merges m' at.one at.other at.taken
    → ((m'.from ≡ m'.first.next) ⊎ ((line : List ℕ) × (first_line a.lines ≡ Some line) × IsAwaited m'.from line)) → Stands form a b m' l l1 r r1 w w1
remains form a b m m' l l1 r r1 w w1 at merges awaits = record {
  one = at.one;
  other = at.other;
  taken = at.taken;
  merges = merges;
  plain = at.plain;
  plain_other = at.plain_other;
  first_taken = at.first_taken;
  second_taken = at.second_taken;
  first_ended = at.first_ended;
  second_ended = at.second_ended;
  whole = at.whole;
  wrote = at.wrote;
  awaits = awaits;
}

-- a beginning of what the bytes tell was written
pub some_written : (form : Form) (terms : Terms) (a b : Side) (m : Merging) (l l1 l2 r r1 r2 w w1 w2 : Option (List ℕ)) → Stands form a b m l l1 r r1 w w1 → Takes l1 l2 → Takes r1 r2 → StopsAt form m w1 w2
    → WritesSome form terms l l2 r r2 w w2
some_written form terms a b m l l1 l2 r r1 r2 w w1 w2 at more more2 part =
    let held = text_of (heading ∷ at.one) ++ a.lines in
    let held2 = text_of (heading ∷ at.other) ++ b.lines in
    let begins = early_so_far m at.one at.other at.taken (a.lines ++ more.0) (b.lines ++ more2.0) at.merges at.plain at.plain_other in
    let same : early_text_of_two (held ++ more.0) (held2 ++ more2.0) ≡ (at.taken ++ m.told.text.items) ++ begins.0 =
    rw (append_assoc (text_of (heading ∷ at.one)) a.lines more.0, append_assoc (text_of (heading ∷ at.other)) b.lines more2.0) begins.1 in
    record {
      first = held ++ more.0;
      second = held2 ++ more2.0;
      one = Consumes-trans l l1 l2 held more.0 at.first_taken more.1;
      other = Consumes-trans r r1 r2 held2 more2.0 at.second_taken more2.1;
      text = (at.taken ++ m.told.text.items) ++ begins.0;
      told = inl (sym same);
      wrote = subst (AppendsSome w w2)
          (sym (written_behind form (at.taken ++ m.told.text.items) begins.0 (merged_whole m at.one at.other at.taken at.merges)
          ∙ ap (λ x. x ++ written_as form begins.0) (written_behind form at.taken m.told.text.items at.whole)))
          (some_more w w2 (written_as form at.taken ++ written_as form m.told.text.items) (written_as form begins.0)
          (some_behind w w1 w2 (written_as form at.taken) (written_as form m.told.text.items) at.wrote part));
    }

-- what is awaited of the next line
pub awaits_line : (form : Form) (a b : Side) (m : Merging) (l l1 r r1 w w1 : Option (List ℕ)) (line : List ℕ) → Stands form a b m l l1 r r1 w w1 → first_line a.lines ≡ Some line → Awaits m line
awaits_line form a b m l l1 r r1 w w1 line at there = by at.awaits
  where
    by : ((m.from ≡ m.first.next) ⊎ ((other : List ℕ) × (first_line a.lines ≡ Some other) × IsAwaited m.from other)) → Awaits m line
    by (inl level) = inl level
    by (inr (other, is, known)) = (let same : Some other ≡ Some line = sym is ∙ there in let equal : other ≡ line = cc in inr (subst (IsAwaited m.from) equal known))

-- nothing was read, or written
pub takes_none : (a : Option (List ℕ)) → Takes a a
takes_none a = ([], Consumes-nil a)

pub stops_none : (form : Form) (m : Merging) (w : Option (List ℕ)) → StopsAt form m w w
stops_none form m w = some_of_none w (written_as form m.told.text.items)

-- where no line is ahead, all that was passed of the second is below what may come of the first
pub level_of : (m : Merging) (one other : List (List ℕ)) (taken : List ℕ) → Merges m one other taken → m.ahead ≡ None → m.second.next ≤ m.from
level_of m one other taken merges none = rw none at merges.ahead

pub takes_on : (a b c : Option (List ℕ)) → Takes a b → Takes b c → Takes a c
takes_on a b c before more = (before.0 ++ more.0, Consumes-trans a b c before.0 more.0 before.1 more.1)

-- what was found is written, and nothing is read
abbrev pub found_written : (form : Form) (a b : Side) (m m' : Merging) (l l1 r r1 w w1 w2 : Option (List ℕ)) → Stands form a b m l l1 r r1 w w1 → Moves form m m' w1 w2 → Stands form a b m' l l1 r r1 w w2
found_written form a b m m' l l1 r r1 w w1 w2 at moves = record {
  one = at.one;
  other = at.other;
  taken = at.taken ++ moves.out;
  merges = moves.merges at.one at.other at.taken at.merges;
  plain = at.plain;
  plain_other = at.plain_other;
  first_taken = at.first_taken;
  second_taken = at.second_taken;
  first_ended = at.first_ended;
  second_ended = at.second_ended;
  whole = moved_whole form m m' w1 w2 at.one at.other at.taken at.merges at.whole moves;
  wrote = moved_wrote form m m' w w1 w2 at.taken at.whole at.wrote moves;
  awaits = still m m' a.lines a.lines [] moves.from moves.first (sym (append-nil a.lines)) at.awaits;
}

pub moved_ends : (form : Form) (a b : Side) (m m' : Merging) (l l1 r r1 w w1 w2 : Option (List ℕ)) → (at : AtEnds form a b m l l1 r r1 w w1) → Moves form m m' w1 w2
    → FrontsEnd at.is.one at.is.other a b m'
moved_ends form a b m m' l l1 r r1 w w1 w2 at moves = by at.ends
  where
    by : FrontsEnd at.is.one at.is.other a b m → FrontsEnd at.is.one at.is.other a b m'
    by (inl first) = inl first
    by (inr (second, level, (line, there, known))) =
        inr (second, omega (arith, level, moves.from, moves.second), (line, there, subst (λ f. IsAwaited f line) (sym moves.from) known))
