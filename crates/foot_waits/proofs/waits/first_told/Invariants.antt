use Rattle.std.proofs.Common.{ℕ, ◌≤◌, length, map}
use Rattle.std.specs.BTreeMap.{get}
use Rattle.std.specs.Ordering.{nat_cmp}
use Rattle.foot_waits.specs.Told.{IsFirstFrom}
use Rattle.world_parts.specs.Uses.{use_meant}
use Rattle.foot_waits.proofs.waits.first_told.Given as goal

-- those of the uses from here on are told
abbrev pub invariant-loop-index : goal.invariant-loop-index
invariant-loop-index l = record {
  within : l.index ≤ length l.spans;
  first : (j : ℕ) → IsFirstFrom (l.line, l.descriptors) (map use_meant l.uses) l.spans l.index (length l.spans) j (get nat_cmp l.found j);
}

abbrev pub decreases-loop-index : goal.decreases-loop-index
decreases-loop-index l = l.index
