-- A law: what holds of every world of a sequential run.
use Rattle.std.specs.Prelude.{ℕ}
use Rattle.recording.specs.declared.recording.Recording.{Recording}
use Rattle.world_parts.specs.Paths.{HasFileNames}
use Rattle.op_meaning.specs.Step.{run_world}

-- Its names are names of files, whatever the places before it do.
abbrev pub RunsHaveFileNames : Type 0
RunsHaveFileNames = (t : Recording) (n : ℕ) → HasFileNames (run_world t n)
