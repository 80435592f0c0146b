use Rattle.wave_pick.proofs.Waiting.{witness_holds, order_holds, others_run}
use Rattle.wave_pick.proofs.laws.witnesses_hold_back.Goals as goal

pub returns : goal.returns
returns c = record { hold = witness_holds; order = order_holds; others = others_run }
