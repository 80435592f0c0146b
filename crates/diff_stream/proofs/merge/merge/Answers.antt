use Rattle.std.proofs.Common.{refl, ◌∙◌, rules, arith}
use Rattle.diff_stream.proofs.Standing.{takes_none, takes_on}
use Rattle.diff_stream.proofs.merge.merge.Goals as goal

pub loop-init : goal.loop-init
loop-init g c = record {
  stands = λ l r w at. at;
  under_way = c.requires.under_way;
  first = takes_none _;
  second = takes_none _;
  reads = refl;
  more = refl;
  writes = refl;
}

pub loop-preserved : goal.loop-preserved
loop-preserved g c =
    let before = c.loop.invariant in
    let way = before.under_way in
    record {
      stands = λ l r w at. rw c.if-not-branch.false at (c.in_ok-turn.ensures.ok l r w (before.stands l r w at));
      under_way = record {
        left_first = way.left_first;
        more_first = way.more_first;
        written_first = way.written_first;
        is = rw c.if-not-branch.false at (c.in_ok-turn.ensures.ok way.left_first way.more_first way.written_first way.is);
      };
      first = takes_on _ _ _ before.first c.in_ok-turn.ensures.taken.0;
      second = takes_on _ _ _ before.second c.in_ok-turn.ensures.taken.1;
      reads = c.in_ok-turn.ensures.reads ∙ before.reads;
      more = c.in_ok-turn.ensures.more ∙ before.more;
      writes = omega (arith, c.in_ok-turn.ensures.writes, before.writes);
    }

pub returns-in_err-turn-clause-err : goal.returns-in_err-turn-clause-err
returns-in_err-turn-clause-err g c = λ terms l r w at. search (rules, c.in_err-turn.ensures.err terms l r w (c.loop.invariant.stands l r w at))

pub returns-in_err-turn-clause-taken : goal.returns-in_err-turn-clause-taken
returns-in_err-turn-clause-taken g c =
    (takes_on _ _ _ c.loop.invariant.first c.in_err-turn.ensures.taken.0, takes_on _ _ _ c.loop.invariant.second c.in_err-turn.ensures.taken.1)

pub returns-then-not-branch-clause-ok : goal.returns-then-not-branch-clause-ok
returns-then-not-branch-clause-ok g c = λ l r w at. rw c.if-not-branch.true at (c.in_ok-turn.ensures.ok l r w (c.loop.invariant.stands l r w at))

pub returns-then-not-branch-clause-taken : goal.returns-then-not-branch-clause-taken
returns-then-not-branch-clause-taken g c =
    (takes_on _ _ _ c.loop.invariant.first c.in_ok-turn.ensures.taken.0, takes_on _ _ _ c.loop.invariant.second c.in_ok-turn.ensures.taken.1)
