use Rattle.trace_records.proofs.Stays.{faults_stay}
use Rattle.trace_records.proofs.laws.faults_stay.Goals as goal

pub returns : goal.returns
returns c = faults_stay
