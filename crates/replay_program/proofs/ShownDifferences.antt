-- What a comparison of two reports with the entries of a trace wrote and tells, by what it read.
use Rattle.std.proofs.Common.{◌≡◌, List, ℕ, subst, ◌∙◌}
use Rattle.std.specs.Prelude.{Option}
use Rattle.report_diff.specs.declared.comparing.Comparison.{Comparison}
use Rattle.report_diff.specs.declared.comparing.Terms.{Terms}
use Rattle.replay_program.specs.ShownDiffs.{ComparesShown, ComparesShownTwo, WritesShownDifferencesPart, WritesShownPartOfTwo}
use Rattle.byte_transfer.specs.Transfer.{AppendsPart}

-- a part of the text went out
pub part_shown : (terms : Terms) (steps steps' left left' written written' : Option (List ℕ)) (comparison : Comparison) (bytes : List ℕ) → ComparesShown terms steps steps' left left' comparison → bytes ≡ comparison.text.items
    → AppendsPart written written' bytes → WritesShownDifferencesPart terms steps steps' left left' written written'
part_shown terms steps steps' left left' written written' comparison bytes found text wrote =
    record { t = found.t; input = found.input; spelled = found.spelled; read = found.read; wrote = subst (AppendsPart written written') (text ∙ found.text) wrote }

pub part_shown_two : (terms : Terms) (steps steps' left left' more more' written written' : Option (List ℕ)) (comparison : Comparison) (bytes : List ℕ) → ComparesShownTwo terms steps steps' left left' more more' comparison
    → bytes ≡ comparison.text.items → AppendsPart written written' bytes → WritesShownPartOfTwo terms steps steps' left left' more more' written written'
part_shown_two terms steps steps' left left' more more' written written' comparison bytes found text wrote =
    record { t = found.t; first = found.first; second = found.second; spelled = found.spelled; read = found.read; wrote = subst (AppendsPart written written') (text ∙ found.text) wrote }
