use Rattle.recording.proofs.RecordsAccepted.{records_accepted}
use Rattle.recording.proofs.laws.records_accepted.Goals as goal

pub returns : goal.returns
returns c = records_accepted
