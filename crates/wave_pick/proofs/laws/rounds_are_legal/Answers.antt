use Rattle.recording.specs.Steps.{places}
use Rattle.wave_pick.specs.Rounds.{state_after}
use Rattle.wave_pick.proofs.Apart.{none_collide}
use Rattle.wave_pick.proofs.Ends.{ends_as_the_model}
use Rattle.wave_pick.proofs.Orders.{always_collide}
use Rattle.wave_pick.proofs.laws.rounds_are_legal.Goals as goal

pub returns : goal.returns
returns c =
    let all = c.rounds_are_sequential.ensures in
    record {
      legal = λ t s. all.legal (t, s);
      sequential = λ t s. all.sequential (t, s);
      model = λ t s window r wide many. ends_as_the_model t (state_after t window r) (all.sequential (t, s) (places t) window r wide many);
      gathered = λ t s. all.gathered (t, s);
      apart = none_collide;
      go_on = λ t s. all.go_on (t, s);
      order = λ t s window r i k lt within o chosen. all.order (t, s) (places t) window r i k lt (always_collide t i k lt within o) chosen;
      sets = λ t s. all.sets (t, s);
    }
