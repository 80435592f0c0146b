use Rattle.wave_pick.proofs.Both.{shared_is_both, shared_where_colliding}
use Rattle.wave_pick.proofs.Holders.{holders_hold_back, none_is_held_back}
use Rattle.wave_pick.proofs.laws.holders_hold_back.Goals as goal

pub returns : goal.returns
returns c = record {
  both = shared_is_both;
  colliding = shared_where_colliding;
  hold = holders_hold_back;
  none = none_is_held_back;
}
