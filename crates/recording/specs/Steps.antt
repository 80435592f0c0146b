-- The model: the steps of a recording, in order. A step's number is its place.
use Rattle.std.specs.Prelude.{ℕ, List, length, Option}
use Rattle.std.specs.List.{slice_get}
pub use Rattle.recording.specs.Actions.{Action, submit, fill, register, set, seek, Step, no_ring, ring_of, is_slot, is_on_ring}
use Rattle.recording.specs.declared.recording.Recording.{Recording}
use Rattle.recording.specs.declared.steps.Action.{Action as BorrowedAction}
use Rattle.recording.specs.declared.steps.Action.TheVariants as borrowed
use Rattle.recording.specs.declared.steps.Step.{Step as BorrowedStep}

-- All steps, in order.
abbrev pub steps : Recording → List Step
steps t = t.steps

-- How many places a recording has.
abbrev pub places : Recording → ℕ
places t = length (steps t)

-- The step at a place, if there is one.
abbrev pub step_at : Recording → ℕ → Option Step
step_at t k = slice_get (steps t) k

-- The step that a borrowed one stands for.
abbrev pub action_meant : BorrowedAction → Action
action_meant (borrowed.Submit entry) = submit entry
action_meant (borrowed.Fill buffer offset bytes) = fill buffer offset bytes.now
action_meant (borrowed.Register slots) = register slots.now
action_meant (borrowed.Set file content) = set file content.now
action_meant (borrowed.Seek file position) = seek file position

-- The same with its ring and its record.
abbrev pub step_meant : BorrowedStep → Step
step_meant s = record { ring = s.ring; from_record = s.record_number; action = action_meant s.action }
