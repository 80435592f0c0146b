use Rattle.std.proofs.Common.{[], Ok, ap, subst}
use Rattle.std.proofs.KnownBytes.{Consumes-nil}
use Rattle.trace_stream.specs.Streams.{GivesFault}
use Rattle.trace_stream.specs.declared.stream.Stream.{Stream}
use Rattle.report_stream.proofs.Turns.{moves_none, told_stops}
use Rattle.report_stream.proofs.pending.next_record.Goals as goal

pub returns-in-Ok-Some-clause-moves : goal.returns-in-Ok-Some-clause-moves
returns-in-Ok-Some-clause-moves g c = moves_none c.args.form _ c.args.text.now.items

pub returns-in-Err-clause-err : goal.returns-in-Err-clause-err
returns-in-Err-clause-err g c =
    let left = g.R.Source.left c.args.reader.now in
    told_stops c.args.form left left _ _ c.args.stream.now c.args.text.now.items c.in-Err.fault c.told_of.result c.told_of.ensures.told ([], Consumes-nil left) (c.in-Err.ensures.err left) c.in_ok-flush-in-Err.ensures.ok

pub returns-in-Err-next-clause-err : goal.returns-in-Err-next-clause-err
returns-in-Err-next-clause-err g c =
    let left = g.R.Source.left c.args.reader.now in
    let left' = g.R.Source.left c.next.new.reader in
    let gives = subst (λ (s : Stream). GivesFault left left' s c.in-Err-next.fault) (c.in-Ok-None.ensures.none (ap Ok c.in-Ok-None.field-0-is)) c.in-Err-next.ensures.err in
    told_stops c.args.form left left' _ _ c.args.stream.now c.args.text.now.items c.in-Err-next.fault c.told_of-in-Err-next.result c.told_of-in-Err-next.ensures.told c.in-Err-next.ensures.taken gives c.in_ok-flush-in-Ok-None.ensures.ok
