use Rattle.std.proofs.Common.{◌≡◌, ◌-◌, ◌≤◌}
use Rattle.chain_plan.specs.Stretch.{IsStretch, end_of}
use Rattle.stream_laws.specs.Streamed.{replies_from, world_from}
use Rattle.replay_stream.proofs.replaying.replies_from.Given as goal

-- the world and the replies of the places so far, and a stretch that has the place, or ends there
abbrev pub invariant-loop-place : goal.invariant-loop-place
invariant-loop-place l = record {
  state : l.state ≡ world_from l.recording l.first (l.place - l.first) l.initial.state;
  replies : l.replies ≡ replies_from l.recording l.first (l.place - l.first) l.initial.state;
  stretch : IsStretch l.recording l.plan;
  behind : l.first ≤ l.place;
  from : l.plan.first ≤ l.place;
  within : l.place ≤ end_of l.plan;
}
