-- A law: which places keep their recorded order, whatever runs beside them.
use Rattle.std.specs.Prelude.{◌≡◌, ℕ, ◌<◌, ◌≤◌, true, List, ◌∷◌, ◌++◌, ◌⊎◌, slice_index}
use Rattle.interleaving.specs.Machine.{Event, Start, has, opening, run, AllLegal}
use Rattle.recording.specs.declared.recording.Recording.{Recording}
use Rattle.recording.specs.Steps.{places}
use Rattle.chain_plan.specs.Chain.{role}
use Rattle.op_meaning.specs.Step.{queue_at}
use Rattle.foot_print.specs.Replayed.{replayed}
use Rattle.wave_pick.specs.Rounds.{state_after, wave_after, rounds}

-- Two places of one chain, or of one queue where one of them is a barrier.
abbrev pub InOrder : Recording → ℕ → ℕ → Type 0
InOrder t i k = ((role t i).chain ≡ (role t k).chain) ⊎ ((queue_at t i ≡ queue_at t k) × (((role t i).barrier ≡ true) ⊎ ((role t k).barrier ≡ true)))

-- In every legal list of events the later one starts after the earlier one has finished.
abbrev pub LinksAndDrainsHold : Recording → Type 0
LinksAndDrainsHold t = (i k : ℕ) → i < k → k < places t → InOrder t i k → (before after : List Event) → AllLegal (replayed t) (places t) (opening (replayed t)) (before ++ (Start k ∷ after))
    → has (run (replayed t) (opening (replayed t)) before).finished i ≡ true

-- The later one runs in a later round.
abbrev pub LinksAndDrainsPart : Recording → Type 0
LinksAndDrainsPart t = (window r i k : ℕ) → i < k → k < places t → InOrder t i k → has (wave_after t window r) k ≡ true → has (state_after t window r).finished i ≡ true

-- The later one has the higher number in the list of rounds.
abbrev pub LinksAndDrainsRise : Recording → Type 0
LinksAndDrainsRise t = (window i k : ℕ) → 1 ≤ window → i < k → k < places t → InOrder t i k → slice_index (rounds t window) i < slice_index (rounds t window) k
