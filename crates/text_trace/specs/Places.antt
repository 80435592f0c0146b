-- The model: where a text is refused, as line and column.
use Rattle.std.specs.Prelude.{◌≡◌, ⊤, ℕ, ◌+◌, ◌-◌, ◌==◌, List, [], ◌∷◌, Err, length, take, if◌then◌else◌}
use Rattle.text_trace.specs.declared.fault.MakeFault.{MakeFault}
use Rattle.text_trace.specs.declared.fault.MakeFault.TheVariants.{Memory, Text}
use Rattle.text_words.specs.declared.fault.Fault.{Fault}
use Rattle.text_words.specs.declared.fault.Reason.{Reason}
use Rattle.text_trace.specs.declared.fault.TextFault.{TextFault}
use Rattle.text_trace.specs.Whole.{meaning}

-- the line behind some bytes, where so many come before
abbrev pub line_from : ℕ → List ℕ → ℕ
line_from n [] = n
line_from n (b ∷ bs) = line_from (if b == 10 then n + 1 else n) bs

-- the column behind some bytes, where so many are before it in its line
abbrev pub column_from : ℕ → List ℕ → ℕ
column_from n [] = n
column_from n (b ∷ bs) = column_from (if b == 10 then 1 else n + 1) bs

-- a place of a text, by its line and column, both from 1 on
abbrev pub told_at : List ℕ → ℕ → Reason → TextFault
told_at text at reason = record { line = line_from 1 (take at text); column = column_from 1 (take at text); reason = reason }

-- a fault of a text, told by line and column of its place
abbrev pub fault_told : List ℕ → Fault → TextFault
fault_told text f = told_at text (length text - f.left) f.reason

-- A refused text has this first fault, told by line and column.
abbrev pub IsTold : List ℕ → MakeFault → Type 0
IsTold text Memory = ⊤
IsTold text (Text told) = (f : Fault) × (meaning text ≡ Err f) × (told ≡ fault_told text f)
