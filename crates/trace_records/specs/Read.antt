-- A helper: what a function that reads a part of a text gives.
use Rattle.std.specs.Prelude.{◌≡◌, Result, Ok, Err}
use Rattle.trace_format.specs.Grammar.{fault}
use Rattle.trace_format.specs.declared.fault.Kind.TheVariants.{Memory}
use Rattle.trace_format.specs.declared.fault.TraceFault.{TraceFault}
use Rattle.trace_records.specs.declared.fault.ReadError.{ReadError}
use Rattle.trace_records.specs.declared.fault.ReadError.TheVariants as errors

-- a fault is the one that reading gives; of memory nothing is said
abbrev pub Fails : {Y : Type 0} → ReadError → Result Y TraceFault → Type 0
Fails errors.OutOfMemory read = Unit {0}
Fails (errors.Fault f) read = read ≡ Err f

-- the value, seen by view, is what reading gives, and so is the fault
abbrev pub Gives : {X Y : Type 0} → (X → Y) → Result X ReadError → Result Y TraceFault → Type 0
Gives view (Ok x) read = read ≡ Ok (view x)
Gives view (Err e) read = Fails e read

-- the fault that a caller is told
abbrev pub fault_of : ReadError → TraceFault
fault_of errors.OutOfMemory = fault Memory 0
fault_of (errors.Fault f) = f

-- a fault is as said; of memory nothing is said
abbrev pub OnFault : ReadError → (TraceFault → Type 0) → Type 0
OnFault errors.OutOfMemory P = Unit {0}
OnFault (errors.Fault f) P = P f
