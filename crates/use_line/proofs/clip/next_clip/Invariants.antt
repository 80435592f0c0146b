use Rattle.std.proofs.Common.{◌≡◌, ◌<◌, ◌+◌, ◌||◌, ℕ, List}
use Rattle.std.specs.BinaryHeap.{heap_items, heap_len}
use Rattle.use_line.specs.Queue.{AreBelow, AreFilled, has_reader, is_due, weight, weight_of}
use Rattle.use_line.specs.declared.read.Read.{Read}
use Rattle.use_line.proofs.clip.next_clip.Given as goal

-- the clip and the others are what was there
abbrev pub invariant-loop-low : goal.invariant-loop-low
invariant-loop-low l = record {
  some : l.clip.low < l.clip.high;
  filled : AreFilled (heap_items l.queue);
  below : (n : ℕ) → AreBelow n (heap_items l.fn.queue) → (l.clip.read < n) × AreBelow n (heap_items l.queue);
  due : (all : List Read) → (b j : ℕ) → is_due all (heap_items l.fn.queue) b j ≡ (has_reader all l.clip b j || is_due all (heap_items l.queue) b j);
  weight : weight (heap_items l.fn.queue) ≡ weight_of l.clip + weight (heap_items l.queue);
}

abbrev pub decreases-loop-low : goal.decreases-loop-low
decreases-loop-low l = heap_len l.queue
