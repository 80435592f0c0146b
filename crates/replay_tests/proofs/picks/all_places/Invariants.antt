use Rattle.std.proofs.Common.{ℕ, ◌<◌, All}
use Rattle.recording.specs.Steps.{places}
use Rattle.replay_tests.proofs.picks.all_places.Given as goal

abbrev pub invariant-loop-place : goal.invariant-loop-place
invariant-loop-place l = All (λ (k : ℕ). k < places l.trace) l.all.items
