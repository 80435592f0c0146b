use Rattle.std.proofs.Common.{◌≡◌, Some, ap, sym, ◌∙◌, arith}
use Rattle.replay_core.proofs.Differences.{agree_before, agree_further}
use Rattle.replay_core.proofs.comparing.difference_within.Goals as goal

pub loop-place-preserved : goal.loop-place-preserved
loop-place-preserved c = λ same.
    agree_further c.args.one.now c.args.other.now c.loop-place.place (c.loop-place.invariant same)
    (c.get.ensures ∙ ap Some (c.same.ensures.0 c.if-not-same.false) ∙ sym c.get-in-loop-place.ensures)

pub returns-then-not-same : goal.returns-then-not-same
returns-then-not-same c = λ same. record {
  before = c.loop-place.invariant same;
  here = λ e.
      let one : c.get.result ≡ c.get-in-loop-place.result = cc (c.get.ensures, c.get-in-loop-place.ensures, e) in
      cc (c.same.ensures.1 one, c.if-not-same.true);
}

pub returns : goal.returns
returns c = λ same. agree_before c.args.one.now c.args.other.now c.args.to c.loop-place.place (omega (arith, c.loop-place-test.false)) (c.loop-place.invariant same)
