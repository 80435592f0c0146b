use Rattle.std.proofs.Common.{refl, ap}
use Rattle.trace_stream.proofs.Goes.{goes_on, ends, next_breaks, trails, with_front}
use Rattle.trace_stream.proofs.Grows.{out_of, takes_on}
use Rattle.trace_stream.proofs.stream.Stream.next.Goals as goal

pub returns-in_err-record-clause-err : goal.returns-in_err-record-clause-err
returns-in_err-record-clause-err g c =
    out_of _ _ _ _ c.from_residual.ensures.1 c.in_err-record.ensures.err (next_breaks _ _ c.args.self.now)

pub returns-in_err-at_end-in-None-clause-err : goal.returns-in_err-at_end-in-None-clause-err
returns-in_err-at_end-in-None-clause-err g c =
    out_of _ _ _ _ c.from_residual-in_err-at_end-in-None.ensures.1 c.in_err-at_end-in-None.ensures.err (λ e t. trails _ _ _ c.args.self.now c.record_on.new.held e (rw c.in-None.is at c.in_ok-record.ensures.ok) t)

pub returns-in_ok-add-in-Some-clause-ok : goal.returns-in_ok-add-in-Some-clause-ok
returns-in_ok-add-in-Some-clause-ok g c =
    goes_on _ _ c.args.self.now _ c.record_on.new.held c.in-Some.record (ap (with_front c.record_on.new.held c.args.self.now.core) c.in_ok-add-in-Some.ensures.added) (rw c.in-Some.is at c.in_ok-record.ensures.ok)

pub returns-in_ok-at_end-in-None-clause-ok : goal.returns-in_ok-at_end-in-None-clause-ok
returns-in_ok-at_end-in-None-clause-ok g c =
    ends _ _ _ c.args.self.now (with_front c.record_on.new.held c.args.self.now.core c.args.self.now.front) c.record_on.new.held refl (rw c.in-None.is at c.in_ok-record.ensures.ok) c.in_ok-at_end-in-None.ensures.ok

pub returns-in_err-at_end-in-None-clause-taken : goal.returns-in_err-at_end-in-None-clause-taken
returns-in_err-at_end-in-None-clause-taken g c = takes_on _ _ _ c.in_ok-record.ensures.taken c.in_err-at_end-in-None.ensures.taken
