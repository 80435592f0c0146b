use Rattle.std.proofs.Common.{◌≡◌, take, map}
use Rattle.wave_pick.specs.declared.wave.Chosen.{Chosen}
use Rattle.replay_core.proofs.progress.places_of.Given as goal

abbrev pub invariant-loop-chosen : goal.invariant-loop-chosen
invariant-loop-chosen l = l.ran.items ≡ map (λ (chosen : Chosen). chosen.place) (take l.chosen-index l.chosen_there)
