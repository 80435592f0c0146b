use Rattle.std.proofs.Common.{◌≡◌, ◌≤◌, ◌⊎◌, ℕ, true, length}
use Rattle.std.specs.BinaryHeap.{heap_items}
use Rattle.use_line.specs.Known.{IsToldBy, is_among, range_at}
use Rattle.use_line.specs.Queue.{AreBelow, AreFilled, Due}
use Rattle.use_line.proofs.ranges.Ranges.tell.Given as goal

-- those of the parts from here on are told, or due
abbrev pub invariant-loop-end : goal.invariant-loop-end
invariant-loop-end l = record {
  from : l.span.low ≤ l.end;
  to : l.end ≤ l.span.high;
  filled : AreFilled (heap_items l.queue);
  below : AreBelow (length l.self.reads) (heap_items l.queue);
  due : (j : ℕ) → (Due l.self.reads l.told.items (heap_items l.queue) j → (is_among l.fn.told.items j ≡ true) ⊎ IsToldBy (range_at l.self) l.own l.span.written l.end l.span.high j)
      × ((is_among l.fn.told.items j ≡ true) ⊎ IsToldBy (range_at l.self) l.own l.span.written l.end l.span.high j → Due l.self.reads l.told.items (heap_items l.queue) j);
}

abbrev pub decreases-loop-end : goal.decreases-loop-end
decreases-loop-end l = l.end
