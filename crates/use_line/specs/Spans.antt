-- The model: the numbers that a place uses, as ranges.
use Rattle.std.specs.Prelude.{ℕ, Bool, ◌&&◌, leb, ltb, List}
use Rattle.std.specs.List.{list_any}
use Rattle.use_line.specs.declared.line.Span.{Span}

-- Whether a number lies in a range.
abbrev pub within : ℕ → ℕ → ℕ → Bool
within low high b = leb low b && ltb b high

abbrev pub covers : Span → ℕ → Bool
covers s b = within s.low s.high b

-- Whether some ranges have a number, and whether one of them has it that is written.
abbrev pub used_by : List Span → ℕ → Bool
used_by spans b = list_any (λ s. covers s b) spans

abbrev pub written_by : List Span → ℕ → Bool
written_by spans b = list_any (λ s. s.written && covers s b) spans
