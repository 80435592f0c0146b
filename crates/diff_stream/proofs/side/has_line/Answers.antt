use Rattle.std.proofs.Common.{rules}
use Rattle.diff_stream.proofs.Moving.{moved_stops, stays}
use Rattle.diff_stream.proofs.side.has_line.Goals as goal

pub returns-then-is_some-clause-moves : goal.returns-then-is_some-clause-moves
returns-then-is_some-clause-moves g c = stays c.args.form c.args.merging.now (g.W.Sink.written c.args.writer.now)

pub returns-then-side-clause-moves : goal.returns-then-side-clause-moves
returns-then-side-clause-moves g c = stays c.args.form c.args.merging.now (g.W.Sink.written c.args.writer.now)

pub returns-in_err-read_line-clause-err : goal.returns-in_err-read_line-clause-err
returns-in_err-read_line-clause-err g c =
    search (rules, moved_stops c.args.form c.args.merging.now c.write_found.new.merging (g.W.Sink.written c.args.writer.now) (g.W.Sink.written c.write_found.new.writer) c.in_ok-write_found.ensures.ok)
