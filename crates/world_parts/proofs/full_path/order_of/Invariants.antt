use Rattle.std.proofs.Common.{◌≡◌, ◌-◌, ◌≤◌, take}
use Rattle.world_parts.proofs.full_path.order_of.Given as goal

-- the bytes so far are the same
abbrev pub invariant-loop-same : goal.invariant-loop-same
invariant-loop-same l = record {
  within : l.same ≤ l.both;
  front : take l.same l.bytes ≡ take l.same l.others;
}

abbrev pub decreases-loop-same : goal.decreases-loop-same
decreases-loop-same l = l.both - l.same
