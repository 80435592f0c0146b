use Rattle.std.proofs.Common.{ℕ, List, Option, Some, IfOk, IfErr, IfSome, subst}
use Rattle.trace_stream.specs.Held.{Held}
use Rattle.trace_stream.specs.Streams.{Gives, GivesFault}
use Rattle.trace_stream.proofs.stream.Stream.next_held.Goals as goal

-- whether the part may be whole changes nothing
pub returns-then-may_be_whole-clause-some : goal.returns-then-may_be_whole-clause-some
returns-then-may_be_whole-clause-some c =
    let s = c.args.self.now in
    subst (λ (h : Held). IfOk c.read_held.result (λ x. IfSome x (λ r. (left : Option (List ℕ)) → Gives left left (record s { held = h }) c.read_held.new.self (Some r)))) c.may_be_whole.ensures.same c.read_held.ensures.some

pub returns-then-may_be_whole-clause-err : goal.returns-then-may_be_whole-clause-err
returns-then-may_be_whole-clause-err c =
    let s = c.args.self.now in
    subst (λ (h : Held). IfErr c.read_held.result (λ e. (left : Option (List ℕ)) → GivesFault left left (record s { held = h }) e)) c.may_be_whole.ensures.same c.read_held.ensures.err
