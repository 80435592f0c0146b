use Rattle.trace_records.specs.Start.{description}
use Rattle.trace_records.proofs.Loops.{Left}
use Rattle.trace_records.proofs.descriptions.descriptions_of.Given as goal

abbrev pub invariant-loop : goal.invariant-loop
invariant-loop l = Left (λ _. description l.items) l.count l.counter l.descriptions.items l.source l.fn.source
