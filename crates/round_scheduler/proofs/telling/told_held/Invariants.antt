use Rattle.std.proofs.Common.{◌≡◌, ℕ, map, take, filter}
use Rattle.interleaving.specs.Machine.{State, has}
use Rattle.interleaving.specs.Rounds.{pending}
use Rattle.foot_print.specs.Replayed.{replayed}
use Rattle.wave_pick.specs.Holding.{reach_in}
use Rattle.round_scheduler.specs.Telling.{HasReaches, has_number, held_among, held_meant}
use Rattle.round_scheduler.proofs.telling.told_held.Given as goal

-- those of the places so far that are asked for are told
abbrev pub invariant-loop-index : goal.invariant-loop-index
invariant-loop-index l =
    (s : State (replayed l.trace)) (n : ℕ) → l.world.world ≡ s.world → l.first ≡ pending (has s.finished) n → HasReaches l.reaches l.first (reach_in l.trace s)
    → map held_meant l.held.items ≡ held_among l.trace s (filter (has_number l.numbers l.number) (take l.index l.first))
