use Rattle.std.proofs.Common.{◌++◌, ap, ◌∙◌}
use Rattle.replay_report.proofs.RingTextsLemmas.{piece_joined}
use Rattle.replay_report.proofs.pieces.Pieces.joined.Goals as goal

pub loop-piece-preserved : goal.loop-piece-preserved
loop-piece-preserved c =
    piece_joined c.deref-piece-items.result.now c.loop-piece.piece-index c.piece-item.result c.loop-piece.text.items _ c.loop-piece-test.true c.piece-item.is c.loop-piece.invariant
    (c.in_ok-extend_from_slice.ensures.items ∙ ap (λ bytes. c.loop-piece.text.items ++ bytes) c.bytes.ensures)
