use Rattle.std.proofs.Common.{rules}
use Rattle.trace_records.specs.Sources.{with_rest}
use Rattle.trace_records.proofs.Exits.{no_memory}
use Rattle.trace_records.proofs.Loops.{goes_on, ends, is_done}
use Rattle.trace_records.proofs.entries.entries_of.Goals as goal

pub returns-in_err-entries-clause-read : goal.returns-in_err-entries-clause-read
returns-in_err-entries-clause-read c = no_memory (λ x. with_rest (x.0.items, x.1)) _ _ c.from_residual.ensures.1

pub returns-in_err-push-clause-read : goal.returns-in_err-push-clause-read
returns-in_err-push-clause-read c = no_memory (λ x. with_rest (x.0.items, x.1)) _ _ c.from_residual-in_err-push.ensures.1

pub returns-in_err-entry-clause-read : goal.returns-in_err-entry-clause-read
returns-in_err-entry-clause-read c =
    ends _ _ _ c.from_residual-in_err-entry.ensures.1 c.loop-test.true c.in_err-entry.ensures c.loop.invariant.read

pub loop-preserved : goal.loop-preserved
loop-preserved c =
    rw c.in_ok-push.ensures.items (record {
      len = search rules;
      read = goes_on c.loop-test.true c.in_ok-entry.ensures c.loop.invariant.read;
    })

pub returns-clause-read : goal.returns-clause-read
returns-clause-read c = is_done c.loop-test.false c.loop.invariant.read
