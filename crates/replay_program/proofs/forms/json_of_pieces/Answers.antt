use Rattle.std.proofs.Common.{◌++◌, [], ℕ, List, refl, sym, ap, ◌∙◌, take, append-nil}
use Rattle.std.specs.List.{concat}
use Rattle.std.proofs.lemmas.List.{take_all}
use Rattle.json_lines.specs.Lines.{json_lines}
use Rattle.replay_program.proofs.JsonPieces.{piece_taken}
use Rattle.replay_program.proofs.forms.json_of_pieces.Goals as goal

pub loop-piece-init : goal.loop-piece-init
loop-piece-init c = λ more. rw (c.new-json.ensures.items, c.new-lines.ensures) refl

pub loop-piece-preserved : goal.loop-piece-preserved
loop-piece-preserved c =
    piece_taken c.pieces-piece-items.result.now c.loop-piece.piece-index c.loop-piece.json.items _ c.loop-piece.lines.line.items _ c.piece-item.result c.loop-piece-test.true c.piece-item.is c.loop-piece.invariant
    (λ more. ap (λ (l : List ℕ). c.loop-piece.json.items ++ json_lines (c.loop-piece.lines.line.items ++ (l ++ more))) (sym c.bytes.ensures) ∙ c.in_ok-push.ensures more)

pub returns : goal.returns
returns c =
    c.in_ok-end.ensures ∙ ap (λ (l : List ℕ). c.loop-piece.json.items ++ json_lines l) (sym (append-nil c.loop-piece.lines.line.items)) ∙ sym (c.loop-piece.invariant [])
    ∙ ap json_lines (append-nil (concat (take c.loop-piece.piece-index c.pieces-piece-items.result.now)) ∙ ap concat (take_all c.loop-piece.piece-index c.pieces-piece-items.result.now c.loop-piece-test.false) ∙ c.pieces-piece-items.ensures)
