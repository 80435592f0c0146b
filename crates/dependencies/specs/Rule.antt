-- The model: for which earlier places each place of a trace waits directly.
use Rattle.std.specs.Prelude.{◌≡◌, ℕ, ◌<◌, Bool, true}
use Rattle.interleaving.specs.Dependencies.{Suffices, depends_on}
use Rattle.recording.specs.declared.recording.Recording.{Recording}
use Rattle.world_parts.specs.Items.{Atom, Footprint}
use Rattle.foot_print.specs.Footprint.{footprint}
use Rattle.op_meaning.specs.Step.{run_world}
use Rattle.foot_print.specs.Replayed.{replayed}
use Rattle.foot_waits.specs.Rule.{WaitsBy, part_of}

-- What a place uses in the sequential run.
abbrev pub foot_at : Recording → ℕ → Footprint
foot_at t k = footprint t k (run_world t k)

-- A place waits directly for an earlier one by the part of the world that an atom belongs to.
abbrev pub WaitsFor : Recording → ℕ → ℕ → Type 0
WaitsFor t k j = (a : Atom) × WaitsBy (foot_at t) (part_of a) k j

-- Each of these is a dependency.
abbrev pub WaitsAreDependencies : Recording → Type 0
WaitsAreDependencies t = (k j : ℕ) → WaitsFor t k j → depends_on (replayed t) k j ≡ true

-- Whatever makes each place wait for these makes it wait for all that it depends on.
abbrev pub WaitsSuffice : Recording → Type 0
WaitsSuffice t = (waits : ℕ → ℕ → Bool) (n : ℕ) → ((k j : ℕ) → k < n → WaitsFor t k j → waits k j ≡ true) → Suffices (replayed t) waits n
