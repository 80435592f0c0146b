use Rattle.std.proofs.Common.{◌==◌, ◌&&◌, [], ap}
use Rattle.std.proofs.lemmas.Result.{on_ok_weaker}
use Rattle.finite_maps.specs.Table.{pair_cmp}
use Rattle.item_index.specs.Spans.{covers, crosses}
use Rattle.world_parts.specs.Items.{ranges_meet, within}
use Rattle.item_index.proofs.Pieces.{crosses_more}
use Rattle.item_index.proofs.Keyed.{changed_seen, placed_seen}
use Rattle.item_index.proofs.buffer_set.BufferSet.insert.Goals as goal
use Rattle.item_index.proofs.Sets.{pair_exact}

pub returns-in-Some : goal.returns-in-Some
returns-in-Some c =
    let old = c.in-Some.spans.now in
    let new = c.insert.new.self in
    let low = c.args.low in
    let high = c.args.high in
    let put = changed_seen pair_cmp pair_exact (c.args.ring, c.args.index) c.self.inside.buffers.entries c.args.self.now c.self.view_is
    (c.get_mut.follows.lender new).entries old new ((c.get_mut.follows.holds new).0) c.in-Some.ensures.value in
    record {
      bytes = on_ok_weaker c.insert.result (λ law r b p. put (λ k. k.0 == r && k.1 == b) (λ rs. covers rs p) (within low high p) (law p)) c.insert.ensures;
      ranges = on_ok_weaker c.insert.result
          (λ law r b from to. put (λ k. k.0 == r && k.1 == b) (λ rs. crosses rs from to) (ranges_meet low high from to)
          (crosses_more old new low high law from to))
          c.insert.ensures;
    }

pub returns-in_ok-insert-in-None-2 : goal.returns-in_ok-insert-in-None-2
returns-in_ok-insert-in-None-2 c =
    let new = c.insert-in-None.new.self in
    let low = c.args.low in
    let high = c.args.high in
    let law = rw c.new-spans.ensures at c.in_ok-insert-in-None.ensures in
    let put = placed_seen pair_cmp pair_exact (c.args.ring, c.args.index) c.self.inside.buffers.entries c.args.self.now c.self.view_is
    c.get_mut.follows.lender-at-none.entries c.insert-in-None-2.new.self.entries new (ap (λ m. m.entries) c.get_mut.follows.holds-at-none)
    c.in_ok-insert-in-None-2.ensures.entries c.in-None.ensures.value in
    record {
      bytes = λ r b p. put (λ k. k.0 == r && k.1 == b) (λ rs. covers rs p) (within low high p) (law p);
      ranges = λ r b from to.
          put (λ k. k.0 == r && k.1 == b) (λ rs. crosses rs from to) (ranges_meet low high from to) (crosses_more [] new low high law from to);
    }
