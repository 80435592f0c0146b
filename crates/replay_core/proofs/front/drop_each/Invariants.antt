use Rattle.std.proofs.Common.{◌≡◌, take, filter}
use Rattle.std.specs.Prelude.{not}
use Rattle.interleaving.specs.Machine.{has}
use Rattle.replay_core.proofs.front.drop_each.Given as goal

abbrev pub invariant-loop-place : goal.invariant-loop-place
invariant-loop-place l = l.front.items ≡ filter (λ k. not (has (take l.place-index l.places) k)) l.initial.front.items
