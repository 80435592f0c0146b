-- The model: traces of version 3 that some bytes spell.
use Rattle.std.specs.Prelude.{ℕ, List}
use Rattle.trace_records.specs.declared.trace.Trace.{Trace}
use Rattle.trace_records.specs.Whole.{SpellsTrace}

abbrev pub IsSpelled : Trace → Type 0
IsSpelled t = (bytes : List ℕ) × SpellsTrace bytes t
