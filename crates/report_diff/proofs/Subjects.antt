-- The map of a text's subjects, after one line more.
use Rattle.std.proofs.Common.{◌≡◌, ℕ, true, false, cond, List, [], ◌∷◌, ◌++◌, None, Some, arith}
use Rattle.std.specs.Prelude.{is_some}
use Rattle.std.specs.Option.{option_or}
use Rattle.std.specs.Str.{bytes_eq}
use Rattle.std.specs.Borrow.{Bor}
use Rattle.std.specs.BTreeMap.{BTreeMap, get_by}
use Rattle.std.specs.Ordering.{nat_cmp}
use Rattle.std.specs.Cmp.Lexicographic.{slice_cmp}
use Rattle.std.proofs.lemmas.List.Folds.{find-append}
use Rattle.std.proofs.lemmas.Slice.Eq.{bytes_eq-Decides}
use Rattle.report_diff.specs.Lines.{Knows, line_about, line_at, subject}

one_more : (text : List (List ℕ)) (line about : List ℕ)
    → line_about (text ++ line ∷ []) about ≡ option_or (line_about text about) (cond (bytes_eq (subject line) about) (Some line) None)
unfolding line_about
one_more text line about = find-append (λ l. bytes_eq (subject l) about) text (line ∷ [])

abbrev pub Table : Type 0
Table = BTreeMap (Bor (List ℕ)) (Bor (List ℕ))

pub Knows-known : (known : Table) (text : List (List ℕ)) (line : List ℕ) → Knows known text → is_some (line_at known (subject line)) ≡ true
    → Knows known (text ++ line ∷ [])
Knows-known known text line knows some =
    λ about. grind (arith, one_more text line about, knows about, (bytes_eq-Decides (subject line) about).0)

pub Knows-new : (old new : Table) (text : List (List ℕ)) (line : List ℕ) → Knows old text → is_some (line_at old (subject line)) ≡ false
    → ((about : List ℕ) → line_at new about ≡ cond (bytes_eq (subject line) about) (Some line) (line_at old about)) → Knows new (text ++ line ∷ [])
Knows-new old new text line knows none adds =
    λ about. grind (arith, one_more text line about, knows about, adds about, (bytes_eq-Decides (subject line) about).0)

-- whether a map has a line, by what its `contains_key` says
pub is_known : (known : Table) (line about : List ℕ) → about ≡ subject line
    → is_some (line_at known (subject line)) ≡ is_some (get_by (λ k. slice_cmp nat_cmp about k.now) known)
is_known known line about same = grind arith

-- a map after an insertion
pub adds_line : (old new : Table) (line : Bor (List ℕ)) (about : List ℕ) → about ≡ subject line.now
    → ((q : List ℕ) → get_by (λ k. slice_cmp nat_cmp q k.now) new ≡ cond (bytes_eq about q) (Some line) (get_by (λ k. slice_cmp nat_cmp q k.now) old))
    → (q : List ℕ) → line_at new q ≡ cond (bytes_eq (subject line.now) q) (Some line.now) (line_at old q)
adds_line old new line about same updates q = grind (arith, updates q)
