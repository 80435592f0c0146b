use Rattle.std.proofs.Common.{arith, subst, sym, ◌∙◌, ◌≡◌, ◌<◌, ◌≤◌, ◌+◌, ◌*◌, ◌-◌, ◌||◌, ◌&&◌, ℕ}
use Rattle.std.specs.Prelude.{IfSome, Option}
use Rattle.std.specs.BinaryHeap.{heap_items}
use Rattle.use_line.specs.Known.{is_among, readers_at}
use Rattle.use_line.specs.Queue.{is_due, weight}
use Rattle.use_line.specs.Spans.{within}
use Rattle.use_line.specs.Steps.{step_at}
use Rattle.use_line.specs.declared.clip.Clip.{Clip}
use Rattle.use_line.proofs.Clips.{all_pushed, due_more, due_same, weight_more, weight_same}
use Rattle.use_line.proofs.clip.add_older.Goals as goal

pub loop-end-preserved-in_ok-push : goal.loop-end-preserved-in_ok-push
loop-end-preserved-in_ok-push c =
    let q = heap_items c.args.queue.now in
    let mid = heap_items c.loop-end.queue in
    let more = heap_items c.push.new.self in
    let inv = c.loop-end.invariant in
    let s = c.last_part-start.ensures in
    let start : ℕ = c.last_part-start.result.0 in
    let i : ℕ = c.in-Some.read in
    let is = sym s.value ∙ c.in-Some.is in
    let p = c.in_ok-push.ensures.permutation in
    record {
      from = s.from;
      to = omega (arith, s.to, inv.to);
      filled = λ f. all_pushed (λ (d : Clip). d.low < d.high) _ mid more p s.to (inv.filled f);
      below = λ n under f. all_pushed (λ (d : Clip). d.read < n) _ mid more p (subst (λ (o : Option ℕ). IfSome o (λ k. k < n)) is (under start)) (inv.below n under f);
      due = λ all b j. due_more c.args.older.now start c.loop-end.end c.args.high s.to inv.to s.level all i q mid more b j is p (inv.due all b j);
      weight = λ n under. weight_more c.args.older.now start c.loop-end.end c.args.high s.to inv.to s.level n i q mid more (subst (λ (o : Option ℕ). IfSome o (λ k. k < n)) is (under start)) p (inv.weight n under);
    }

pub loop-end-preserved : goal.loop-end-preserved
loop-end-preserved c =
    let q = heap_items c.args.queue.now in
    let mid = heap_items c.loop-end.queue in
    let inv = c.loop-end.invariant in
    let s = c.last_part-start.ensures in
    let start : ℕ = c.last_part-start.result.0 in
    let none = sym s.value ∙ c.in_default.is in
    record {
      from = s.from;
      to = omega (arith, s.to, inv.to);
      filled = inv.filled;
      below = inv.below;
      due = λ all b j. due_same c.args.older.now start c.loop-end.end c.args.high s.to inv.to s.level all q mid b j none (inv.due all b j);
      weight = λ n under. weight_same c.args.older.now start c.loop-end.end c.args.high s.to inv.to s.level n q mid (inv.weight n under);
    }

pub returns-clause-due : goal.returns-clause-due
returns-clause-due c = λ all b j.
    let inv = c.loop-end.invariant in
    let q = heap_items c.args.queue.now in
    let end : c.loop-end.end ≡ c.args.low = omega (arith, inv.from, c.loop-end-test.false) in
    subst (λ (n : ℕ). is_due all (heap_items c.loop-end.queue) b j ≡ (is_due all q b j || (within n c.args.high b && is_among (readers_at all (step_at c.args.older.now b) b) j))) end (inv.due all b j)

pub returns-clause-weight : goal.returns-clause-weight
returns-clause-weight c = λ n under.
    let inv = c.loop-end.invariant in
    let end : c.loop-end.end ≡ c.args.low = omega (arith, inv.from, c.loop-end-test.false) in
    subst (λ (m : ℕ). weight (heap_items c.loop-end.queue) ≤ weight (heap_items c.args.queue.now) + (c.args.high - m) * n) end (inv.weight n under)
