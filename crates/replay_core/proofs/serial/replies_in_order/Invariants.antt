use Rattle.std.proofs.Common.{◌≡◌, ◌≤◌}
use Rattle.chain_plan.specs.Stretch.{IsStretch, end_of}
use Rattle.op_meaning.specs.Step.{run_world, run_replies}
use Rattle.replay_core.proofs.serial.replies_in_order.Given as goal

-- the world and the replies of the places so far, and a stretch that has the place, or ends there
abbrev pub invariant-loop-place : goal.invariant-loop-place
invariant-loop-place l = record {
  state : l.state ≡ run_world l.trace l.place;
  replies : l.replies ≡ run_replies l.trace l.place;
  stretch : IsStretch l.trace l.plan;
  from : l.plan.first ≤ l.place;
  within : l.place ≤ end_of l.plan;
}
