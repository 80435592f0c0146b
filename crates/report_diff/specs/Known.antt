-- A view of code: facts and their names, as sets.
use Rattle.std.specs.Prelude.{ℕ, ◌≡◌, Bool, List}
use Rattle.std.specs.List.{list_any}
use Rattle.std.specs.Str.{bytes_eq}
use Rattle.std.specs.Borrow.{Bor}
use Rattle.std.specs.Ordering.{nat_cmp}
use Rattle.std.specs.Cmp.Lexicographic.{slice_cmp}
use Rattle.std.specs.BTreeSet.{BTreeSet, contains_by}
use Rattle.report_diff.specs.Differences.{has_name}
use Rattle.report_diff.specs.declared.known.Known.{Known}

-- Whether a set has these bytes.
abbrev pub has_bytes : BTreeSet (Bor (List ℕ)) → List ℕ → Bool
has_bytes set bytes = contains_by (λ k. slice_cmp nat_cmp bytes k.now) set

-- The sets have some facts, and their names.
pub record IsKnown (known : Known) (all : List (List ℕ)) : Type 0 where
  pub facts : (fact : List ℕ) → has_bytes known.facts fact ≡ list_any (bytes_eq fact) all
  pub names : (name : List ℕ) → has_bytes known.names name ≡ has_name name all
