-- The model: a place that runs on a part.
use Rattle.std.specs.Prelude.{ℕ}
use Rattle.recording.specs.declared.recording.Recording.{Recording}
use Rattle.world_parts.specs.Part.{Part}
use Rattle.op_meaning.specs.Step.{step_world}

-- The part after a place has run on it.
abbrev pub run_on : Recording → ℕ → Part → Part
run_on t k part = record part { values = step_world t k part.values }
