use Rattle.std.proofs.Common.{◌≡◌, take}
use Rattle.std.specs.List.{concat}
use Rattle.std.specs.Io.KnownBytes.{Appends}
use Rattle.replay_program.proofs.session.written_pieces.Given as goal

-- the pieces so far went out
abbrev pub invariant-loop-piece : goal.invariant-loop-piece
invariant-loop-piece g l = record {
  grown : Appends (g.W.Sink.written l.initial.writer) (g.W.Sink.written l.writer) (concat (take l.piece-index l.piece-items));
  failures : g.W.Sink.failures l.writer ≡ g.W.Sink.failures l.initial.writer;
}
