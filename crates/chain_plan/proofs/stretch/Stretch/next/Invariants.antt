use Rattle.std.proofs.Common.{◌+◌, ◌≤◌, None}
use Rattle.chain_plan.specs.Stretch.{AreFollowing}
use Rattle.chain_plan.proofs.Walk.{Walked}
use Rattle.chain_plan.proofs.stretch.Stretch.next.Given as goal

-- the walk has come to the place, past no link
abbrev pub invariant-lone : goal.invariant-lone
invariant-lone l = record {
  walked : Walked l.trace l.first l.place l.members.items l.chains.items None;
  few : l.place ≤ l.first + l.least;
}

-- the walk has come to the place, and went on past the least number of places in chains alone
abbrev pub invariant-loop-place : goal.invariant-loop-place
invariant-loop-place l = record {
  walked : Walked l.trace l.first l.place l.members.items l.chains.items l.linked;
  most : AreFollowing l.trace (l.first + l.least) l.place;
}
