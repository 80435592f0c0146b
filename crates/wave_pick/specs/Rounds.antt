-- The model: which places of a trace run in which round; laws of that at the end.
use Rattle.std.specs.Prelude.{◌≡◌, ◌≢◌, ◌↔◌, ℕ, zero, suc, ◌<◌, ◌≤◌, true, false, List, [], ◌∷◌, map, length, slice_get, Some, if◌then◌else◌}
use Rattle.std.specs.List.{range_with_len}
use Rattle.interleaving.specs.Machine.{State, opening, has}
use Rattle.interleaving.specs.Rounds.{chosen, round}
use Rattle.interleaving.specs.Rounds as machine
use Rattle.recording.specs.declared.recording.Recording.{Recording}
use Rattle.recording.specs.Steps.{places}
use Rattle.world_parts.specs.Items.{collide}
use Rattle.foot_print.specs.Footprint.{footprint}
use Rattle.foot_print.specs.Replayed.{replayed}

-- The machine's state after r rounds.
abbrev pub state_after : (t : Recording) → ℕ → ℕ → State (replayed t)
state_after t window r = machine.rounds (replayed t) (places t) window r (opening (replayed t))

-- The places of the round after r rounds: of the first pending ones, as many as the window has, those whose access set collides with the may-access set of no earlier pending place.
abbrev pub wave_after : Recording → ℕ → ℕ → List ℕ
wave_after t window r = chosen (replayed t) (places t) window (state_after t window r)

-- The places of each round from a state on.
abbrev pub waves_from : (t : Recording) → ℕ → ℕ → State (replayed t) → List (List ℕ)
waves_from t window zero s = []
waves_from t window (suc n) s = chosen (replayed t) (places t) window s ∷ waves_from t window n (round (replayed t) (places t) window s)

-- A round has a place while one is pending, so there are no more rounds than places.
abbrev pub waves : Recording → ℕ → List (List ℕ)
waves t window = waves_from t window (places t) (opening (replayed t))

-- The number of the first round that has the place.
abbrev pub round_of : List (List ℕ) → ℕ → ℕ
round_of [] k = 0
round_of (wave ∷ rest) k = if has wave k then 0 else suc (round_of rest k)

-- The number of each place's round.
abbrev pub rounds : Recording → ℕ → List ℕ
rounds t window = map (round_of (waves t window)) (range_with_len 0 (places t))

-- The list has a number for each place: that of the one round in which the machine chooses the place.
abbrev pub RoundsAreNumbered : Recording → Type 0
RoundsAreNumbered t = (window : ℕ) → 1 ≤ window → (length (rounds t window) ≡ places t)
    × ((r k : ℕ) → k < places t → (slice_get (rounds t window) k ≡ Some r) ↔ (has (wave_after t window r) k ≡ true))

-- No two places of a round collide in the world that it begins in, whichever of the two comes first.
abbrev pub NoneCollide : Recording → Type 0
NoneCollide t = (window r j k : ℕ) → has (wave_after t window r) j ≡ true → has (wave_after t window r) k ≡ true → j ≢ k
    → let s = (state_after t window r).world in collide (footprint t j s) (footprint t k s) ≡ false
