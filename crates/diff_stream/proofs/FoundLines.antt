-- What is found of two reports is told in whole lines.
use Rattle.std.proofs.Common.{◌++◌, ◌∷◌, ℕ, List, [], sym, subst, ◌∙◌}
use Rattle.json_lines.specs.Forms.{IsWhole}
use Rattle.json_lines.proofs.Whole.{both_whole, empty_whole, line_whole}
use Rattle.report_diff.specs.declared.fronts.Merging.{Merging}
use Rattle.report_diff.specs.Merging.{Merges, text_of}
use Rattle.report_diff.proofs.ToldLines.{first_told}

lines_whole : (all : List (List ℕ)) → IsWhole (text_of all)
lines_whole [] = empty_whole
lines_whole (line ∷ more) = both_whole (line ++ 10 ∷ []) (text_of more) (line_whole line) (lines_whole more)

-- so are what was taken and what is not taken yet
pub merged_whole : (m : Merging) (one other : List (List ℕ)) (taken : List ℕ) → Merges m one other taken → IsWhole (taken ++ m.told.text.items)
merged_whole m one other taken merges =
    let told = first_told other one in
    subst IsWhole (sym told.1 ∙ merges.text) (lines_whole told.0)
