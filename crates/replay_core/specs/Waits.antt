-- The model: for which place, and by which item, each place of a trace waited last.
use Rattle.std.specs.Prelude.{◌≡◌, ℕ, zero, suc, Bool, map, take, Option, None, if◌then◌else◌}
use Rattle.std.specs.List.{range_with_len}
use Rattle.std.specs.Option.{option_map}
use Rattle.interleaving.specs.Machine.{has}
use Rattle.interleaving.specs.Rounds.{pending}
use Rattle.recording.specs.declared.recording.Recording.{Recording}
use Rattle.recording.specs.Steps.{places}
use Rattle.world_parts.specs.Uses.{item_meant}
use Rattle.wave_pick.specs.Rounds.{state_after, rounds, round_of, waves}
use Rattle.wave_pick.specs.Holding.{Holder, holder_in}
use Rattle.replay_core.specs.declared.round_log.WaitedFor.{WaitedFor}
use Rattle.replay_core.specs.declared.round_log.RoundLog.{RoundLog}

-- Whether a place is one of the first pending ones after r rounds, as many as the window has.
abbrev pub is_shown : Recording → ℕ → ℕ → ℕ → Bool
is_shown t window r k = has (take window (pending (has (state_after t window r).finished) (places t))) k

-- What a place waited for in the round before this one: nothing where there was none, or where the window didn't show it yet; else its holder in the state before that round.
abbrev pub waited_before : Recording → ℕ → ℕ → ℕ → Option Holder
waited_before t window zero k = None
waited_before t window (suc r) k = if is_shown t window r k then holder_in t (state_after t window r) k else None

-- What a place waited for last: in the round before its own.
abbrev pub waited_for : Recording → ℕ → ℕ → Option Holder
waited_for t window k = waited_before t window (round_of (waves t window) k) k

-- The place and the item that are meant.
abbrev pub waited_meant : WaitedFor → Holder
waited_meant w = record { place = w.place; item = item_meant w.item }

-- Of each place the number of its round, and what it waited for last.
pub record IsRoundLog (t : Recording) (window : ℕ) (log : RoundLog) : Type 0 where
  pub rounds : log.rounds ≡ rounds t window
  pub waits : map (option_map waited_meant) log.waits ≡ map (waited_for t window) (range_with_len 0 (places t))
