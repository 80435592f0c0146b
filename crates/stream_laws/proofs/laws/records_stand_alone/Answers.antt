use Rattle.stream_laws.proofs.Growing.{hand_stands}
use Rattle.stream_laws.proofs.Streams.{record_is_alone, record_is_let_go}
use Rattle.stream_laws.proofs.laws.records_stand_alone.Goals as goal

pub returns : goal.returns
returns c = record { stands = λ b front back r. hand_stands b front r back; alone = record_is_alone; let_go = record_is_let_go }
