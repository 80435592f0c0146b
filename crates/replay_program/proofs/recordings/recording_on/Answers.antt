use Rattle.std.proofs.Common.{◌++◌, subst, sym}
use Rattle.recording.specs.Accepted.{IsAccepted}
use Rattle.recording.proofs.RecordsAccepted.{records_accepted}
use Rattle.replay_program.proofs.Taking.{no_memory_tells}
use Rattle.replay_program.proofs.recordings.recording_on.Goals as goal

pub returns-in_default-clause-err : goal.returns-in_default-clause-err
returns-in_default-clause-err g c = no_memory_tells _ _ _ _ c.no_memory.ensures

pub returns-clause-err : goal.returns-clause-err
returns-clause-err g c = no_memory_tells _ _ _ _ c.no_memory-in-Err-new.ensures

pub returns-in-Ok-new-clause-accepted : goal.returns-in-Ok-new-clause-accepted
returns-in-Ok-new-clause-accepted g c =
    let all = c.in-Ok.ensures.ok in
    let recorded : IsAccepted c.in-Ok-of_records.recording = subst IsAccepted (sym c.in-Ok-of_records.ensures) (records_accepted c.in-Ok.trace (c.args.head.items ++ all.more, all.is)) in
    subst IsAccepted (sym c.in-Ok-new.ensures.ok) recorded
