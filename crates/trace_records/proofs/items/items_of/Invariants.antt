use Rattle.trace_records.specs.Names.{KnowsNames}
use Rattle.trace_records.specs.Start.{item}
use Rattle.trace_records.proofs.Loops.{Left}
use Rattle.trace_records.proofs.items.items_of.Given as goal

-- the map has the names of the items so far
abbrev pub invariant-loop : goal.invariant-loop
invariant-loop l = record {
  read : Left item l.count l.counter l.items.items l.source l.fn.source;
  known : KnowsNames l.names l.items.items;
}
