-- A helper: reading on from what is left of a text.
use Rattle.std.specs.Prelude.{ℕ, ◌+◌, List, Result, nat_le}
use Rattle.trace_format.specs.declared.fault.TraceFault.{TraceFault}
use Rattle.trace_format.specs.declared.fault.Kind.TheVariants.{Reference}
use Rattle.trace_format.specs.declared.header.Counts as code
use Rattle.trace_format.specs.declared.source.Source.{Source}
use Rattle.trace_format.specs.declared.trace.Record.{Record}
use Rattle.trace_format.specs.declared.trace.Record.TheVariants.{Fill}
use Rattle.std.specs.Int.{w32}
use Rattle.trace_format.specs.Grammar.{Grammar, Done, Bytes, Place, Test, ◌>>=◌, fault, number, number_to}
use Rattle.trace_format.specs.Read.{reading}
use Rattle.trace_format.specs.Text.{Counts}
use Rattle.trace_format.specs.Versions.{rules}
use Rattle.trace_format.specs.declared.version.Version.{Version}

-- what reading gives from there on
abbrev pub reading_from : {A : Type 0} → Source → Grammar A → Result (A × ℕ × List ℕ) TraceFault
reading_from source m = reading m source.place source.rest.now

-- a value, the place after its text and the bytes from there
abbrev pub with_rest : {A : Type 0} → A × Source → A × ℕ × List ℕ
with_rest x = (x.0, x.1.place, x.1.rest.now)

-- the counts of a header that are meant
abbrev pub counts_meant : code.Counts → Counts
counts_meant c = record { version = c.version; items = c.items; descriptions = c.descriptions; rings = c.rings; records = c.records; descriptors = c.descriptors }

-- what a header has behind its version
abbrev pub sizes : Version → Grammar Counts
sizes version = do
  items ← number_to w32 65535
  descriptions ← number_to w32 65535
  rings ← number_to w32 64
  records ← number_to w32 1048576
  descriptors ← number_to w32 (rules version).most_descriptors
  Done (record { version = version; items = items; descriptions = descriptions; rings = rings; records = records; descriptors = descriptors })

-- what a fill has behind its buffer, which is so long
abbrev pub filled : ℕ → ℕ → ℕ → Grammar Record
filled ring buffer end = do
  place ← Place
  offset ← number w32
  len ← number w32
  _ ← Test (nat_le (offset + len) end) (fault Reference place)
  bytes ← Bytes len
  Done (Fill ring buffer offset bytes)
