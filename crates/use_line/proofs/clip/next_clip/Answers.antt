use Rattle.std.proofs.Common.{arith, ◌<◌, ℕ, refl}
use Rattle.std.specs.BinaryHeap.{heap_items, heap_len}
use Rattle.use_line.specs.declared.clip.Clip.{Clip}
use Rattle.use_line.proofs.Clips.{all_popped, due_joined, due_popped, next_popped, weight_both, weight_popped}
use Rattle.use_line.proofs.clip.next_clip.Goals as goal

pub loop-low-init : goal.loop-low-init
loop-low-init c =
    let q = heap_items c.args.queue.now in
    let rest = heap_items c.pop.new.self in
    let clip = c.in-Some.clip in
    let p = c.in-Some.ensures.permutation in
    let filled = all_popped (λ (d : Clip). d.low < d.high) clip q rest p c.requires in
    record {
      some = filled.0;
      filled = filled.1;
      below = λ n b. all_popped (λ (d : Clip). d.read < n) clip q rest p b;
      due = λ all b j. due_popped all clip q rest b j p;
      weight = weight_popped clip q rest p;
    }

pub loop-low-preserved : goal.loop-low-preserved
loop-low-preserved c =
    let q = heap_items c.loop-low.queue in
    let rest = heap_items c.pop-in-Some-touching.new.self in
    let clip = c.loop-low.clip in
    let low : ℕ = c.in-Some-touching.low in
    let inv = c.loop-low.invariant in
    let pop = c.pop-in-Some-touching.ensures in
    let next : Clip = record { read = clip.read; low = low; high = clip.low } in
    let p = next_popped q rest c.pop-in-Some-touching.result clip low (heap_len c.loop-low.queue) c.in-Some-touching.ensures.some pop.none pop.top pop.permutation c.in-Some-touching.ensures.next in
    let filled = all_popped (λ (d : Clip). d.low < d.high) next q rest p inv.filled in
    let weight = weight_popped next q rest p in
    let both = weight_both clip next refl refl inv.some filled.0 in
    record {
      some = omega (arith, filled.0, inv.some);
      filled = filled.1;
      below = λ n b. let i = inv.below n b in (i.0, (all_popped (λ (d : Clip). d.read < n) next q rest p i.1).1);
      due = λ all b j. due_joined clip next refl refl inv.some filled.0 all b j _ q rest (inv.due all b j) p;
      weight = omega (arith, inv.weight, weight, both);
    }
