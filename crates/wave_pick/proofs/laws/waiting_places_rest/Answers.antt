use Rattle.wave_pick.proofs.Resting.{rests_unmet, rests_on_all_stays, rests_on_stays}
use Rattle.wave_pick.proofs.RestingItems.{rests_decided, rests_undecided, rests_by_items, rests_together}
use Rattle.wave_pick.proofs.laws.waiting_places_rest.Goals as goal

pub returns : goal.returns
returns c = record {
  unmet = rests_unmet;
  decided = rests_decided;
  undecided = rests_undecided;
  items = rests_by_items;
  stay = rests_on_stays;
  together = rests_together;
  stay_together = rests_on_all_stays;
}
