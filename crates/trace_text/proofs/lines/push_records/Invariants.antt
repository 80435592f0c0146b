use Rattle.std.proofs.Common.{◌≡◌, ◌+◌, ◌++◌, drop}
use Rattle.trace_format.specs.Counts.{places_in}
use Rattle.trace_text.specs.Shown.{records_from}
use Rattle.trace_text.proofs.lines.push_records.Given as goal

abbrev pub invariant-loop-made : goal.invariant-loop-made
invariant-loop-made l = record { place : l.place + places_in (drop l.made-index l.records) ≡ places_in l.records; left : l.text.items ++ records_from l.look l.place (drop l.made-index l.records) ≡ l.initial.text.items ++ records_from l.look 0 l.records }
