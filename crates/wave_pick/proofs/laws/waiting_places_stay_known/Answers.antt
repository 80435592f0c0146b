use Rattle.wave_pick.proofs.Deciding.{deciding_begins}
use Rattle.wave_pick.proofs.Waiting.{row_stays, turn_stays, canceled_uses_order, decided_stays}
use Rattle.wave_pick.proofs.Wide.{wide_stays}
use Rattle.wave_pick.proofs.laws.waiting_places_stay_known.Goals as goal

pub returns : goal.returns
returns c = record {
  row = row_stays;
  turn = turn_stays;
  canceled = canceled_uses_order;
  look = decided_stays;
  deciding = deciding_begins;
  wide = wide_stays;
}
