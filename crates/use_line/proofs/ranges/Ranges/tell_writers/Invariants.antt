use Rattle.std.proofs.Common.{◌≡◌, ◌≤◌, ◌⊎◌, ℕ, true}
use Rattle.std.specs.Bool.{Decides}
use Rattle.use_line.specs.Known.{HasWriter, is_among}
use Rattle.use_line.proofs.ranges.Ranges.tell_writers.Given as goal

-- those who wrote the numbers from here on are told
abbrev pub invariant-loop-end : goal.invariant-loop-end
invariant-loop-end l = record {
  from : l.low ≤ l.end;
  to : l.end ≤ l.high;
  told : (j : ℕ) → Decides (is_among l.told.items j) ((is_among l.fn.told.items j ≡ true) ⊎ HasWriter l.self.writers l.end l.high j);
}

abbrev pub decreases-loop-end : goal.decreases-loop-end
decreases-loop-end l = l.end
