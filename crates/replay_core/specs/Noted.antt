-- A view of code: a log of what each place waited for last.
use Rattle.std.specs.Prelude.{◌≡◌, ℕ, suc, ◌<◌, List, [], ◌∷◌, map, length, slice_get, slice_set, Option, Some, None, if◌then◌else◌}
use Rattle.std.specs.List.{range_with_len}
use Rattle.std.specs.Option.{option_map}
use Rattle.interleaving.specs.Machine.{has}
use Rattle.recording.specs.declared.recording.Recording.{Recording}
use Rattle.recording.specs.Steps.{places}
use Rattle.wave_pick.specs.Rounds.{state_after}
use Rattle.wave_pick.specs.Holding.{Holder}
use Rattle.replay_core.specs.declared.round_log.WaitedFor.{WaitedFor}
use Rattle.replay_core.specs.Waits.{waited_for, waited_meant}

-- What is noted of a place after r rounds: what it waited for last, if it has finished or runs in the next round.
abbrev pub noted_after : Recording → ℕ → ℕ → ℕ → Option Holder
noted_after t window r k = if has (state_after t window (suc r)).finished k then waited_for t window k else None

-- That is noted of each place.
pub record AreNoted (t : Recording) (window r : ℕ) (waits : List (Option WaitedFor)) : Type 0 where
  pub many : length waits ≡ places t
  pub noted : (k : ℕ) → k < places t → slice_get (map (option_map waited_meant) waits) k ≡ Some (noted_after t window r k)

-- It is noted of each place what it waited for last.
abbrev pub AreAllNoted : Recording → ℕ → List (Option WaitedFor) → Type 0
AreAllNoted t window waits = map (option_map waited_meant) waits ≡ map (waited_for t window) (range_with_len 0 (places t))

-- What is noted once these places, one after another, have been noted with their holders.
abbrev pub noted : List (Option Holder) → List (ℕ × Holder) → List (Option Holder)
noted ws [] = ws
noted ws (p ∷ ps) = noted (slice_set ws p.0 (Some p.1)) ps
