use Rattle.interleaving.specs.Machine.{opening, run}
use Rattle.recording.specs.Steps.{places}
use Rattle.foot_print.specs.Replayed.{replayed}
use Rattle.wave_pick.proofs.Ends.{ends_as_the_model}
use Rattle.wave_pick.proofs.Orders.{always_collide}
use Rattle.wave_pick.proofs.laws.legal_orders_are_sequential.Goals as goal

pub returns : goal.returns
returns c =
    let all = c.every_legal_order_is_sequential.ensures in
    record {
      sequential = λ t s. all.sequential (t, s);
      model = λ t s es legal complete. ends_as_the_model t (run (replayed t) (opening (replayed t)) es) (all.sequential (t, s) (places t) es legal complete);
      order = λ t s i k lt within o before after legal. all.order (t, s) (places t) i k lt (always_collide t i k lt within o) before after legal;
    }
