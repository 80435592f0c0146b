use Rattle.std.proofs.Common.{arith, subst, ℕ}
use Rattle.std.specs.BinaryHeap.{heap_items}
use Rattle.use_line.specs.Queue.{AddsDue}
use Rattle.use_line.proofs.Telling.{told_joined}
use Rattle.use_line.proofs.ranges.Ranges.tell.Goals as goal

pub loop-end-preserved : goal.loop-end-preserved
loop-end-preserved c =
    let inv = c.loop-end.invariant in
    let start = c.last_part-part.ensures in
    let more = c.in_ok-tell_part.ensures in
    record {
      from = start.from;
      to = omega (arith, start.to, inv.to);
      filled = more.filled inv.filled;
      below = more.below inv.below;
      due = told_joined c.args.self.now c.args.own.now c.args.span.now.written c.last_part-part.result.low c.loop-end.end c.args.span.now.high c.args.told.now.items c.loop-end.told.items c.tell_part.new.told.items
          (heap_items c.loop-end.queue) (heap_items c.tell_part.new.queue) start.to inv.to inv.due
          (subst (λ (n : ℕ). AddsDue c.args.self.now c.args.own.now c.args.span.now.written c.last_part-part.result.low n c.loop-end.told.items (heap_items c.loop-end.queue) c.tell_part.new.told.items (heap_items c.tell_part.new.queue)) start.end more.due);
    }
