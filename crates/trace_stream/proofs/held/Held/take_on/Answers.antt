use Rattle.std.proofs.Common.{refl, sym, subst, arith, true}
use Rattle.trace_stream.specs.Held.{Held}
use Rattle.trace_stream.proofs.Grows.{Grew, none_came, came_on, takes_on}
use Rattle.trace_stream.proofs.held.Held.take_on.Goals as goal

pub loop-some-init : goal.loop-some-init
loop-some-init g c = record { grew = none_came _ _; bound = c.let_go.ensures.bound; failures = refl }

pub loop-some-preserved : goal.loop-some-preserved
loop-some-preserved g c =
    let left = g.R.Source.left c.args.reader.now in
    let left' = g.R.Source.left c.take_piece.new.reader in
    record {
      grew = subst (λ (h : Held). Grew c.let_go.new.self h left left' true) (sym c.may_try.ensures.same) (came_on _ _ _ _ _ _ _ c.loop-some.invariant.grew (rw c.if-not-branch.false at c.in_ok-take_piece.ensures.ok));
      bound = c.may_try.ensures.bound;
      failures = omega (arith, c.in_ok-take_piece.ensures.failures, c.loop-some.invariant.failures);
    }

pub returns-in_err-take_piece-clause-taken : goal.returns-in_err-take_piece-clause-taken
returns-in_err-take_piece-clause-taken g c =
    let grows = c.loop-some.invariant.grew.grows in takes_on _ _ _ (grows.more, grows.taken) c.in_err-take_piece.ensures.taken

pub returns-then-may_try-clause-taken : goal.returns-then-may_try-clause-taken
returns-then-may_try-clause-taken g c =
    let grows = c.loop-some.invariant.grew.grows in takes_on _ _ _ (grows.more, grows.taken) c.in_ok-take_piece.ensures.taken
