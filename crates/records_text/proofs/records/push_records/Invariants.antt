use Rattle.std.proofs.Common.{◌≡◌, ◌≤◌, ◌+◌, ◌++◌, drop}
use Rattle.trace_records.specs.Tallies.{places}
use Rattle.records_text.specs.Shown.{records_from}
use Rattle.records_text.proofs.records.push_records.Given as goal

abbrev pub invariant-loop-made : goal.invariant-loop-made
invariant-loop-made l = record {
  place : l.place + places (drop l.made-index l.records) ≡ places l.records;
  few : l.rings ≤ l.made-index;
  left : l.text.items ++ records_from l.look l.place l.rings (drop l.made-index l.records) ≡ l.initial.text.items ++ records_from l.look 0 0 l.records;
}
