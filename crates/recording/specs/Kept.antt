-- The model: the steps of records of version 1 or 2, and steps as they are kept.
use Rattle.std.specs.Prelude.{List, map}
use Rattle.std.specs.List.{range_with_len}
use Rattle.trace_format.specs.Steps as narrow
use Rattle.recording.specs.declared.steps.Before.{Before}
use Rattle.recording.specs.declared.steps.Before.TheVariants.{Whole, Blank}
use Rattle.recording.specs.Actions.{Action, submit, fill, Step}
use Rattle.recording.specs.Forgotten.{filling}

-- what a step of a record of version 1 or 2 does
abbrev pub widened_action : narrow.Action → Action
widened_action (narrow.submit entry) = submit entry
widened_action (narrow.fill buffer offset bytes) = fill buffer offset bytes

-- the step
abbrev pub widened : narrow.Step → Step
widened s = record { ring = s.ring; from_record = s.from_record; action = widened_action s.action }

-- the steps before those of records that came one after another
abbrev pub steps_before : Before → List Step
steps_before (Whole records) = map widened (narrow.steps_from 0 records)
steps_before (Blank count slots) = map (filling slots) (range_with_len 0 count)
