use Rattle.std.proofs.Common.{◌≡◌, vec_len}
use Rattle.trace_records.specs.Records.{entry}
use Rattle.trace_records.proofs.Loops.{Left}
use Rattle.trace_records.proofs.entries.entries_of.Given as goal

abbrev pub invariant-loop : goal.invariant-loop
invariant-loop l = record {
  len : vec_len l.entries ≡ l.counter;
  read : Left (λ _. entry l.begin) l.count l.counter l.entries.items l.source l.fn.source;
}
