-- The model: the steps of a trace, its entries and its fills of registered buffers, in recorded order. A step's number is its place.
use Rattle.std.specs.Prelude.{ℕ, suc, List, [], ◌∷◌, ◌++◌, map, length, Option}
use Rattle.std.specs.List.{slice_get}
use Rattle.trace_format.specs.declared.entry.Entry.{Entry}
use Rattle.trace_format.specs.declared.trace.Trace.{Trace}
use Rattle.trace_format.specs.declared.trace.Record.{Record}
use Rattle.trace_format.specs.declared.trace.Record.TheVariants.{Enter, Fill}
use Rattle.trace_format.specs.declared.steps.Action.{Action as BorrowedAction}
use Rattle.trace_format.specs.declared.steps.Action.TheVariants as borrowed
use Rattle.trace_format.specs.declared.steps.Step.{Step as BorrowedStep}

-- What a step does: it submits an entry, or puts bytes into a registered buffer at an offset.
pub data Action : Type 0 where
  submit : (entry : Entry) → Action
  fill : (buffer offset : ℕ) (bytes : List ℕ) → Action

-- A step, with its ring and the number of its record.
pub record Step : Type 0 where
  pub ring : ℕ
  pub from_record : ℕ
  pub action : Action

-- The steps of the n-th record.
abbrev pub record_steps : ℕ → Record → List Step
record_steps n (Enter ring entries) = map (λ e. record { ring = ring; from_record = n; action = submit e }) entries
record_steps n (Fill ring buffer offset bytes) = record { ring = ring; from_record = n; action = fill buffer offset bytes } ∷ []

-- The steps of records that are numbered from n.
abbrev pub steps_from : ℕ → List Record → List Step
steps_from n [] = []
steps_from n (r ∷ rs) = record_steps n r ++ steps_from (suc n) rs

-- All steps, in recorded order.
abbrev pub steps : Trace → List Step
steps t = steps_from 0 t.records

-- How many places a trace has.
abbrev pub places : Trace → ℕ
places t = length (steps t)

-- The step at a place, if there is one.
abbrev pub step_at : Trace → ℕ → Option Step
step_at t k = slice_get (steps t) k

-- The step that a borrowed one stands for.
abbrev pub action_meant : BorrowedAction → Action
action_meant (borrowed.Submit entry) = submit entry
action_meant (borrowed.Fill buffer offset bytes) = fill buffer offset bytes.now

-- The same with its ring and its record.
abbrev pub step_meant : BorrowedStep → Step
step_meant s = record { ring = s.ring; from_record = s.record_number; action = action_meant s.action }
