-- The model: for whom each place of a trace waits directly, by which item, and how much it moves.
use Rattle.std.specs.Prelude.{◌≡◌, ℕ, ℤ, pos, negsuc, Bool, false, List, map, All, Contains, Some, is_some, if◌then◌else◌}
use Rattle.std.specs.List.Sorted.{IsStrictlyIncreasing}
use Rattle.std.specs.Option.{option_map, unwrap_or}
use Rattle.entry_checks.specs.Operation.{asked}
use Rattle.recording.specs.declared.recording.Recording.{Recording}
use Rattle.world_parts.specs.Items.{Item}
use Rattle.op_meaning.specs.Step.{Turn, runs, turn, reply_of, run_world}
use Rattle.wave_pick.specs.Holding.{shared_with}
use Rattle.foot_waits.specs.Rule.{IsFirstUse, use_at}
use Rattle.dependencies.specs.Rule.{WaitsFor, foot_at}

-- A place that another one waits for, and the item that both use.
pub record Waited : Type 0 where
  pub after : ℕ
  pub on : Item

-- A place waits for an earlier one by an item: what the first of its uses by which it waits shares with the first of the other's that this one collides with.
abbrev pub WaitsOn : Recording → ℕ → ℕ → Item → Type 0
WaitsOn t k j x = (i : ℕ) × IsFirstUse (foot_at t) k j (Some i) × (shared_with (use_at (foot_at t k) i) (foot_at t j) ≡ Some x)

-- All that a place waits for, each once and rising, and the item by which it does.
pub record AreWaits (t : Recording) (k : ℕ) (ws : List Waited) : Type 0 where
  pub rising : IsStrictlyIncreasing (map (λ w. w.after) ws)
  pub each : All (λ w. WaitsFor t k w.after × WaitsOn t k w.after w.on) ws
  pub all : (j : ℕ) → WaitsFor t k j → Contains (map (λ w. w.after) ws) j

-- Whether a turn runs a transfer.
abbrev pub is_transfer : Turn → Bool
is_transfer (runs r e o) = is_some (asked o)
is_transfer _ = false

abbrev pub above_zero : ℤ → ℕ
above_zero (pos n) = n
above_zero (negsuc n) = 0

-- The bytes that a turn moves, by its result: those of a transfer, where it is above 0.
abbrev pub moved_by : Turn → ℤ → ℕ
moved_by u res = if is_transfer u then above_zero res else 0

-- The bytes that a place moves in the sequential run.
abbrev pub moved_at : Recording → ℕ → ℕ
moved_at t k = let s = run_world t k in unwrap_or (option_map (λ u. moved_by u (reply_of t k s u).res) (turn t k s)) 0
