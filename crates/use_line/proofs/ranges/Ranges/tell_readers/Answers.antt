use Rattle.std.proofs.Common.{arith, sym, subst, ◌≡◌, ◌<◌, ◌-◌, ◌∷◌, length}
use Rattle.std.specs.Prelude.{Some}
use Rattle.std.specs.BinaryHeap.{heap_items}
use Rattle.use_line.specs.Known.{IsLinked, RangeUses, read_at, readers_at}
use Rattle.use_line.specs.Queue.{weight}
use Rattle.use_line.specs.Steps.{AllBelow, step_at}
use Rattle.use_line.specs.declared.read.Read.{Read}
use Rattle.use_line.proofs.Chain.{below_read, below_wider, index_is}
use Rattle.use_line.proofs.Clips.{due_next, lighter}
use Rattle.use_line.proofs.ranges.Ranges.tell_readers.Goals as goal

pub loop-clip-smaller : goal.loop-clip-smaller
loop-clip-smaller c =
    let u = c.args.self.now in
    let clip = c.in-Some.clip in
    let next = c.in-Some.ensures in
    let linked : IsLinked u = subst IsLinked c.self.view_is c.self.invariant in
    let under : clip.read < length u.reads = (next.below (length u.reads) c.loop-clip.invariant.below).0 in
    let inside : clip.read < length c.self.inside.reads.items = subst (λ (x : RangeUses). clip.read < length x.reads) (sym c.self.view_is) under in
    let r = c.index-read.result.now in
    let is = subst (λ (x : RangeUses). read_at x.reads clip.read ≡ r) c.self.view_is (index_is c.self.inside.reads.items clip.read r inside c.index-read.ensures) in
    let older : AllBelow r.older clip.read = subst (λ (x : Read). AllBelow x.older clip.read) is (linked.older clip.read under) in
    lighter (clip.high - clip.low) clip.read (weight (heap_items c.next_clip.new.queue)) (weight (heap_items c.add_older.new.queue)) (weight (heap_items c.loop-clip.queue)) (omega (arith, next.filled.0)) next.weight (c.in_ok-add_older.ensures.weight clip.read older)

pub loop-clip-preserved : goal.loop-clip-preserved
loop-clip-preserved c =
    let u = c.args.self.now in
    let clip = c.in-Some.clip in
    let next = c.in-Some.ensures in
    let inv = c.loop-clip.invariant in
    let add = c.in_ok-add_older.ensures in
    let linked : IsLinked u = subst IsLinked c.self.view_is c.self.invariant in
    let under = next.below (length u.reads) inv.below in
    let inside : clip.read < length c.self.inside.reads.items = subst (λ (x : RangeUses). clip.read < length x.reads) (sym c.self.view_is) under.0 in
    let r = c.index-read.result.now in
    let is = subst (λ (x : RangeUses). read_at x.reads clip.read ≡ r) c.self.view_is (index_is c.self.inside.reads.items clip.read r inside c.index-read.ensures) in
    let older : AllBelow r.older clip.read = subst (λ (x : Read). AllBelow x.older clip.read) is (linked.older clip.read under.0) in
    record {
      filled = add.filled next.filled.1;
      below = add.below (length u.reads) (below_wider r.older clip.read (length u.reads) (omega (arith, under.0)) older) under.1;
      due = λ j.
          let before = inv.due j in
          let step = due_next u.reads clip r.place r.older c.loop-clip.told.items c.tell_place.new.told.items (heap_items c.loop-clip.queue) (heap_items c.next_clip.new.queue) (heap_items c.add_older.new.queue)
          next.filled.0 (next.due u.reads)
          (λ b. subst (λ (x : Read). readers_at u.reads (Some clip.read) b ≡ x.place ∷ readers_at u.reads (step_at x.older b) b) is (below_read u.reads b clip.read under.0 (linked.older clip.read under.0)))
          c.in_ok-tell_place.ensures.told (add.due u.reads) j in
          ((λ d. before.0 (step.0 d)), (λ d. step.1 (before.1 d)));
    }
