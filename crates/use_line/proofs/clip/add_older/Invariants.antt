use Rattle.std.proofs.Common.{◌≡◌, ◌≤◌, ◌+◌, ◌*◌, ◌-◌, ◌||◌, ◌&&◌, ℕ, List}
use Rattle.std.specs.BinaryHeap.{heap_items}
use Rattle.use_line.specs.Known.{is_among, readers_at}
use Rattle.use_line.specs.Queue.{AreBelow, AreFilled, is_due, weight}
use Rattle.use_line.specs.Spans.{within}
use Rattle.use_line.specs.Steps.{AllBelow, step_at}
use Rattle.use_line.specs.declared.read.Read.{Read}
use Rattle.use_line.proofs.clip.add_older.Given as goal

-- what stands there from here on is added
abbrev pub invariant-loop-end : goal.invariant-loop-end
invariant-loop-end l = record {
  from : l.low ≤ l.end;
  to : l.end ≤ l.high;
  filled : AreFilled (heap_items l.fn.queue) → AreFilled (heap_items l.queue);
  below : (n : ℕ) → AllBelow l.older n → AreBelow n (heap_items l.fn.queue) → AreBelow n (heap_items l.queue);
  due : (all : List Read) → (b j : ℕ) → is_due all (heap_items l.queue) b j ≡ (is_due all (heap_items l.fn.queue) b j || (within l.end l.high b && is_among (readers_at all (step_at l.older b) b) j));
  weight : (n : ℕ) → AllBelow l.older n → weight (heap_items l.queue) ≤ weight (heap_items l.fn.queue) + (l.high - l.end) * n;
}

abbrev pub decreases-loop-end : goal.decreases-loop-end
decreases-loop-end l = l.end
