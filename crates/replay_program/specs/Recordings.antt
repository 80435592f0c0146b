-- The model: the recording that a text spells, by its version, and the faults that texts have.
use Rattle.std.specs.Prelude.{◌≡◌, ◌≤◌, ◌++◌, ◌∷◌, [], Bool, true, false, codes, nat_eq, List, Option, ℕ, length}
use Rattle.std.specs.Io.KnownBytes.{IsAtEnd}
use Rattle.std.specs.List.{starts_with}
use Rattle.trace_format.specs.Text.{SpellsTrace, IsRefusal, longest}
use Rattle.trace_format.specs.declared.fault.TraceFault.{TraceFault}
use Rattle.trace_format.specs.declared.fault.Kind.TheVariants.{Short}
use Rattle.trace_format.specs.declared.trace.Trace as whole
use Rattle.trace_records.specs.Whole as of_records
use Rattle.trace_records.specs.declared.trace.Trace as records
use Rattle.recording.specs.declared.recording.Recording.{Recording}
use Rattle.recording.specs.Growing as recording_of_three
use Rattle.recording.specs.Whole as recording_of_two

-- A text of version 3 begins with the letters of a trace and this number. All others are read as of version 1 or 2.
abbrev pub has_version_3 : List ℕ → Bool
has_version_3 text = starts_with nat_eq text (codes "URINGTRC" ++ 3 ∷ 0 ∷ 0 ∷ 0 ∷ [])

-- The text spells a trace of this recording; true: of version 3.
abbrev pub SpellsRecording : Bool → List ℕ → Recording → Type 0
SpellsRecording false text t = (u : whole.Trace) × SpellsTrace text u × (t ≡ recording_of_two.of_whole u)
SpellsRecording true text t = (u : records.Trace) × of_records.SpellsTrace text u × (t ≡ recording_of_three.of_records u)

-- The text has the fault, and spells no trace.
abbrev pub IsFaultOf : Bool → List ℕ → TraceFault → Type 0
IsFaultOf false text f = IsRefusal text f
IsFaultOf true text f = of_records.IsRefusal text f

-- Why no more is taken of a text with this fault: the reader is at its end, or the text is longer than a trace of version 1 or 2, or no byte more changes the fault.
abbrev pub IsEnough : Bool → List ℕ → TraceFault → Option (List ℕ) → Type 0
IsEnough false text f left = length text ≤ longest → IsAtEnd left
IsEnough true text f left = (f.kind ≡ Short → IsAtEnd left) × ((f.kind ≡ Short → ⊥) → (more : List ℕ) → of_records.IsRefusal (text ++ more) f)
