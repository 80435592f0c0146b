use Rattle.replay_core.proofs.Places.{rounds-more}
use Rattle.replay_core.proofs.serial.rounds_apart.Goals as goal

pub loop-place-preserved : goal.loop-place-preserved
loop-place-preserved c = rounds-more c.loop-place.place c.loop-place.rounds.items c.push.new.self.items c.loop-place.invariant c.in_ok-push.ensures.items
