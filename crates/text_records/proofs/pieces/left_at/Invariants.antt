use Rattle.std.proofs.Common.{◌≡◌, drop}
use Rattle.text_records.specs.Pieces.{left_at}
use Rattle.text_records.proofs.pieces.left_at.Given as goal

abbrev pub invariant-loop-piece : goal.invariant-loop-piece
invariant-loop-piece l = record {
  left : left_at l.fn.at l.pieces ≡ left_at l.at (drop l.piece-index l.pieces);
}
