-- A view of code: what is known of the places of a trace so far.
use Rattle.std.specs.Prelude.{◌≡◌, ℕ, ◌<◌, List, [], length, slice_index_or}
use Rattle.recording.specs.declared.recording.Recording.{Recording}
use Rattle.recording.specs.Steps.{places}
use Rattle.chain_plan.specs.Plan.{roles}
use Rattle.world_parts.specs.Items.{Footprint}
use Rattle.op_meaning.specs.Step.{run_world}
use Rattle.foot_waits.specs.Told.{IsAt}
use Rattle.dependencies.specs.Rule.{foot_at}
use Rattle.depend_log.specs.declared.run.Dependencies.{Dependencies}

-- what the first places used
pub record AreFeet (t : Recording) (k : ℕ) (feet : List Footprint) : Type 0 where
  pub many : length feet ≡ k
  pub each : (j : ℕ) → j < k → slice_index_or feet j [] ≡ foot_at t j

-- the next place
abbrev pub next_place : Dependencies → ℕ
next_place d = d.place

-- the places before it have run
pub record HasRun (t : Recording) (d : Dependencies) : Type 0 where
  pub plan : d.plan ≡ roles t
  pub many : length d.plan ≡ places t
  pub state : d.state ≡ run_world t d.place
  pub feet : AreFeet t d.place d.feet.items
  pub waits : IsAt d.waits (foot_at t) d.place
