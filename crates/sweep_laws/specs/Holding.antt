-- The model: what the slots of a new ring are told to hold.
use Rattle.std.specs.Prelude.{◌≡◌, ℕ, ◌<◌, ◌≤◌, length, Some}
use Rattle.std.specs.List.{All}
use Rattle.trace_records.specs.declared.record.FullSlot.{FullSlot}
use Rattle.trace_records.specs.declared.record.Holder.{Holder}
use Rattle.trace_records.specs.declared.record.Holder.TheVariants.{Slot, Descriptor, Description}
use Rattle.recording.specs.declared.recording.Recording.{Recording}
use Rattle.recording.specs.Steps.{Action, submit, fill, register, set, seek, Step, step_at}

-- a description is one of so many, which the trace starts with
abbrev pub HolderFits : (started : ℕ) → Holder → Type 0
HolderFits n (Slot ring number) = Unit {0}
HolderFits n (Descriptor number) = Unit {0}
HolderFits n (Description number) = number < n

-- so are those that an action puts into the slots of a ring
abbrev pub ActionHolds : (started : ℕ) → Action → Type 0
ActionHolds n (register slots) = All (λ (x : FullSlot). HolderFits n x.holds) slots
ActionHolds n (fill buffer offset bytes) = Unit {0}
ActionHolds n (submit e) = Unit {0}
ActionHolds n (set file content) = Unit {0}
ActionHolds n (seek file position) = Unit {0}

-- and those of a place of a recording
abbrev pub PlaceHolds : Recording → (place : ℕ) → Type 0
PlaceHolds t k = (x : Step) → step_at t k ≡ Some x → ActionHolds (length t.descriptions) x.action

-- and those of each place from one on
abbrev pub PlacesHold : Recording → (first : ℕ) → Type 0
PlacesHold t first = (k : ℕ) → first ≤ k → PlaceHolds t k
