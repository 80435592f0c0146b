use Rattle.std.proofs.Common.{subst, sym, ◌∙◌}
use Rattle.recording.specs.Accepted.{IsAccepted}
use Rattle.recording.proofs.RecordsAccepted.{records_accepted}
use Rattle.replay_tests.proofs.records.recording_in.Goals as goal

pub returns : goal.returns
returns c =
    subst IsAccepted (sym (c.in_ok-new.ensures.ok ∙ c.in_ok-of_records.ensures)) (records_accepted c.in_ok-trace.trace (c.args.text.now, c.in_ok-trace.ensures.trace))
