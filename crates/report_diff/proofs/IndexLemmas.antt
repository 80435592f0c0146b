-- The index of a text, after one line more.
use Rattle.std.proofs.Common.{◌≡◌, ℕ, Bool, true, false, not, cond, List, [], ◌∷◌, ◌++◌, None, Some, sym, ap, ◌∙◌, map, rules, Vec, Global}
use Rattle.std.specs.Prelude.{is_some}
use Rattle.std.specs.Str.{bytes_eq}
use Rattle.std.specs.Borrow.{Bor}
use Rattle.std.specs.BTreeMap.{get_by}
use Rattle.std.specs.Ordering.{nat_cmp}
use Rattle.std.specs.Cmp.Lexicographic.{slice_cmp}
use Rattle.std.proofs.lemmas.List.{map-append}
use Rattle.report_diff.specs.declared.index.Index.{Index}
use Rattle.report_diff.specs.Lines.{line_about, line_kind, section_of, subject}
use Rattle.report_diff.specs.Repeats.{IsIndex, have_same_facts, says_otherwise}
use Rattle.report_diff.proofs.RepeatLemmas.{once_known, once_new}
use Rattle.report_diff.proofs.Subjects.{Knows-known, Knows-new, Table, adds_line}

-- a line about a subject that the text has
pub index_known : (index : Index) (text : List (List ℕ)) (line first : List ℕ) → IsIndex index text → Some first ≡ line_about text (subject line)
    → IsIndex index (text ++ line ∷ [])
index_known index text line first is there =
    let some : is_some (line_about text (subject line)) ≡ true = ap is_some (sym there) in
    record {
      known = Knows-known index.known text line is.known (ap is_some (is.known (subject line)) ∙ some);
      once = is.once ∙ sym (once_known text line some);
    }

-- and one about another
pub index_new : (index : Index) (known : Table) (lines : Vec (Bor (List ℕ)) Global) (line : Bor (List ℕ)) (text : List (List ℕ)) → IsIndex index text
    → None ≡ line_about text (subject line.now) → (about : List ℕ) → about ≡ subject line.now
    → ((q : List ℕ) → get_by (λ k. slice_cmp nat_cmp q k.now) known ≡ cond (bytes_eq about q) (Some line) (get_by (λ k. slice_cmp nat_cmp q k.now) index.known))
    → lines.items ≡ index.lines.items ++ line ∷ [] → IsIndex (record { known = known; lines = lines; end = index.end }) (text ++ line.now ∷ [])
index_new index known lines line text is none about same updates pushed =
    let new : is_some (line_about text (subject line.now)) ≡ false = ap is_some (sym none) in
    record {
      known = Knows-new index.known known text line.now is.known (ap is_some (is.known (subject line.now)) ∙ new) (adds_line index.known known line about same updates);
      once = ap (λ items. map (λ (s : Bor (List ℕ)). s.now) items) pushed ∙ map-append (λ (s : Bor (List ℕ)). s.now) index.lines.items (line ∷ [])
          ∙ ap (λ front. front ++ line.now ∷ []) is.once ∙ sym (once_new text line.now new);
    }

-- whether a line agrees with the first about its subject
pub agrees_if : (text : List (List ℕ)) (line first : List ℕ) (same : Bool) → Some first ≡ line_about text (subject line) → is_some (section_of (line_kind line)) ≡ true
    → same ≡ have_same_facts first line → same ≡ not (says_otherwise text line)
unfolding says_otherwise
agrees_if text line first same there in_section e = rw (in_section, ← there, ← e) (search rules)
