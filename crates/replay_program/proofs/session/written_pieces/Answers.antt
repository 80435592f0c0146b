use Rattle.std.proofs.Common.{arith, subst}
use Rattle.std.specs.Io.KnownBytes.{Appends}
use Rattle.byte_transfer.specs.Transfer.{AppendsPart}
use Rattle.trace_format.proofs.Lasting.{on_err}
use Rattle.replay_program.proofs.TransferLemmas.{piece_more, piece_part}
use Rattle.replay_program.proofs.session.written_pieces.Goals as goal

pub returns-in_err-written-clause-part : goal.returns-in_err-written-clause-part
returns-in_err-written-clause-part g c =
    let before = g.W.Sink.written c.args.writer.now in
    let old = g.W.Sink.written c.loop-piece.writer in
    let new = g.W.Sink.written c.written.new.writer in
    let part = subst (AppendsPart old new) c.bytes.ensures c.in_err-written.ensures.part in
    on_err c.from_residual.result (subst (AppendsPart before new) c.pieces-piece-items.ensures
    (piece_part before old new c.pieces-piece-items.result.now c.loop-piece.piece-index c.piece-item.result c.loop-piece-test.true c.piece-item.is c.loop-piece.invariant.grown part))

pub loop-piece-preserved : goal.loop-piece-preserved
loop-piece-preserved g c =
    let before = g.W.Sink.written c.args.writer.now in
    let old = g.W.Sink.written c.loop-piece.writer in
    let new = g.W.Sink.written c.written.new.writer in
    let wrote = subst (Appends old new) c.bytes.ensures c.in_ok-written.ensures.ok in
    record {
      grown = piece_more before old new c.pieces-piece-items.result.now c.loop-piece.piece-index c.piece-item.result c.loop-piece-test.true c.piece-item.is c.loop-piece.invariant.grown wrote;
      failures = omega (arith, c.in_ok-written.ensures.write, c.loop-piece.invariant.failures);
    }
