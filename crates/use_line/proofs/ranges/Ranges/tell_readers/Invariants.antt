use Rattle.std.proofs.Common.{ℕ, length}
use Rattle.std.specs.BinaryHeap.{heap_items}
use Rattle.use_line.specs.Queue.{AreBelow, AreFilled, Due, weight}
use Rattle.use_line.proofs.ranges.Ranges.tell_readers.Given as goal

-- the same are told or due
abbrev pub invariant-loop-clip : goal.invariant-loop-clip
invariant-loop-clip l = record {
  filled : AreFilled (heap_items l.queue);
  below : AreBelow (length l.self.reads) (heap_items l.queue);
  due : (j : ℕ) → (Due l.self.reads l.told.items (heap_items l.queue) j → Due l.self.reads l.fn.told.items (heap_items l.fn.queue) j)
      × (Due l.self.reads l.fn.told.items (heap_items l.fn.queue) j → Due l.self.reads l.told.items (heap_items l.queue) j);
}

abbrev pub decreases-loop-clip : goal.decreases-loop-clip
decreases-loop-clip l = weight (heap_items l.queue)
