-- A helper: reading on from what is left of a text.
use Rattle.std.specs.Prelude.{ℕ, List, Result}
use Rattle.trace_format.specs.Grammar.{Grammar}
use Rattle.trace_format.specs.Read.{reading}
use Rattle.trace_format.specs.declared.fault.TraceFault.{TraceFault}
use Rattle.trace_records.specs.declared.header.Counts as code
use Rattle.trace_records.specs.declared.source.Source.{Source}
use Rattle.trace_records.specs.Start.{Counts}

-- what reading gives from there on
abbrev pub reading_from : {A : Type 0} → Source → Grammar A → Result (A × ℕ × List ℕ) TraceFault
reading_from source m = reading m source.place source.rest.now

-- a value, the place after its text and the bytes from there
abbrev pub with_rest : {A : Type 0} → A × Source → A × ℕ × List ℕ
with_rest x = (x.0, x.1.place, x.1.rest.now)

-- the counts of a header that are meant
abbrev pub counts_meant : code.Counts → Counts
counts_meant c = record { items = c.items; descriptions = c.descriptions; table_size = c.table_size; descriptors = c.descriptors }
