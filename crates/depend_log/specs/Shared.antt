-- A view of code: those for whom a place waits, by the numbers of the first uses by which it does.
use Rattle.std.specs.Prelude.{ℕ, ◌<◌, List, [], length, Option, slice_index_or}
use Rattle.std.specs.List.{filter_map}
use Rattle.std.specs.Option.{option_map}
use Rattle.world_parts.specs.Items.{Footprint}
use Rattle.wave_pick.specs.Holding.{shared_with}
use Rattle.foot_waits.specs.Rule.{use_at}
use Rattle.depend_log.specs.Waits.{Waited}

-- one of them, with the item
abbrev pub waited_by : Footprint → List Footprint → ℕ × ℕ → Option Waited
waited_by f feet e = option_map (λ x. record { after = e.0; on = x }) (shared_with (use_at f e.1) (slice_index_or feet e.0 []))

abbrev pub waits_of : Footprint → List Footprint → List (ℕ × ℕ) → List Waited
waits_of f feet es = filter_map (waited_by f feet) es

-- a place that is there, and a use that is there
abbrev pub IsWithin : Footprint → List Footprint → ℕ × ℕ → Type 0
IsWithin f feet e = (e.0 < length feet) × (e.1 < length f)
