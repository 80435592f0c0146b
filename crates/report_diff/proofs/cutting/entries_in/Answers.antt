use Rattle.std.proofs.Common.{◌≡◌, ◌+◌, ◌∷◌, ℕ, Bool, false, true, List, get_or, take, drop, sym, ap, ◌∙◌}
use Rattle.std.proofs.lemmas.List.{take_all}
use Rattle.std.specs.List.{list_all, take_while}
use Rattle.report_diff.specs.Lines.{line_kind, texts}
use Rattle.report_diff.specs.Places.{is_entry}
use Rattle.report_diff.proofs.Early.{while_all, while_stop}
use Rattle.report_diff.proofs.Slices.{no_slice, texts_split}
use Rattle.report_diff.proofs.cutting.entries_in.Goals as goal

pub returns-then-not-is_entry : goal.returns-then-not-is_entry
returns-then-not-is_entry c =
    let all = c.whole-text.result.now in
    let place = c.loop-place.place in
    let line = (get_or all place no_slice).now in
    let test : List ℕ → Bool = λ line. is_entry (line_kind line) in
    let stops : test line ≡ false = ap is_entry (sym c.line_kind.ensures) ∙ sym c.is_entry.ensures ∙ c.if-not-is_entry.true in
    sym (ap (take_while test) (sym c.whole-text.ensures ∙ texts_split all place c.loop-place-test.true)
    ∙ while_stop test (texts (take place all)) line (texts (drop (place + 1) all)) c.loop-place.invariant stops)

pub returns : goal.returns
returns c =
    let all = c.whole-text.result.now in
    let test : List ℕ → Bool = λ line. is_entry (line_kind line) in
    let pass : list_all test (texts all) ≡ true = rw (take_all c.loop-place.place all c.loop-place-test.false) at c.loop-place.invariant in
    sym (ap (take_while test) (sym c.whole-text.ensures) ∙ while_all test (texts all) pass)
