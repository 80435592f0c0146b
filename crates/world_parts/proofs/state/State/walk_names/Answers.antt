use Rattle.std.proofs.Common.{rules, ◌≡◌, ℕ, List, [], ◌∷◌, ◌++◌, IsPermutation, ap, sym, subst, ◌∙◌}
use Rattle.std.specs.Prelude.{IsTrue, map}
use Rattle.std.proofs.lemmas.List.{append-nil}
use Rattle.world_parts.specs.declared.image.NameEntry.{NameEntry}
use Rattle.finite_maps.specs.Table.{count}
use Rattle.world_parts.specs.Image.{name_entry, paths_below}
use Rattle.world_parts.specs.Pending.{Rise, paths_listed, paths_pending}
use Rattle.world_parts.proofs.Listing.{next_stands, fewer_left, listed_more}
use Rattle.world_parts.proofs.Rising.{entries_more, listed_one_more, in_order}
use Rattle.world_parts.proofs.state.State.walk_names.Goals as goal

pub loop-next-smaller : goal.loop-next-smaller
loop-next-smaller c =
    let tree = c.args.self.now.nodes in
    let next = c.in-Some.next in
    let popped = c.pop.new.self.items in
    fewer_left (paths_pending tree c.loop-next.pending.items) (paths_below next.levels tree next.path.items next.node ++ paths_pending tree popped) (paths_pending tree c.push_below.new.pending.items) (next.path.items, next.node)
    (next_stands tree c.loop-next.pending.items popped next c.in-Some.ensures.items) c.in_ok-push_below.ensures

pub loop-next-preserved : goal.loop-next-preserved
loop-next-preserved c =
    let tree = c.args.self.now.nodes in
    let next = c.in-Some.next in
    let popped = c.pop.new.self.items in
    let below = paths_below next.levels tree next.path.items next.node in
    let whole = paths_below (count tree) tree [] 0 in
    let old : List NameEntry = c.loop-next.entries.items in
    let new : List NameEntry = c.push.new.self.items in
    let entry : NameEntry = record { path = c.from_vec.result; node = next.node; size = c.size.result } in
    let rises : IsTrue c.rises.result = search rules in
    let slice : paths_listed c.as_slice.result.now ≡ paths_listed old = ap paths_listed c.as_slice.ensures.value in
    let listed : paths_listed new ≡ paths_listed old ++ (next.path.items, next.node) ∷ [] = listed_one_more old new entry next.path.items c.in_ok-push.ensures.items c.from_vec.ensures in
    record {
      entries = entries_more tree old new entry c.in_ok-push.ensures.items c.size.ensures.value c.loop-next.invariant.entries;
      rise = subst Rise (ap (λ l. l ++ (c.deref.result.now, next.node) ∷ []) slice ∙ ap (λ (p : List ℕ). paths_listed old ++ (p, next.node) ∷ []) c.deref.ensures.value ∙ sym listed)
          (c.rises.ensures rises (subst Rise (sym slice) c.loop-next.invariant.rise));
      all = subst (λ l. IsPermutation whole (l ++ paths_pending tree c.push_below.new.pending.items)) (sym listed)
          (listed_more whole (paths_listed old) below (paths_pending tree popped) (paths_pending tree c.push_below.new.pending.items) (next.path.items, next.node)
          (subst (λ l. IsPermutation whole (paths_listed old ++ l)) (next_stands tree c.loop-next.pending.items popped next c.in-Some.ensures.items) c.loop-next.invariant.all) c.in_ok-push_below.ensures);
    }

pub returns : goal.returns
returns c = λ is.
    let tree = c.args.self.now.nodes in
    let whole = paths_below (count tree) tree [] 0 in
    let listed = paths_listed c.loop-next.entries.items in
    let none : c.loop-next.pending.items ≡ [] = search rules in
    c.loop-next.invariant.entries ∙ ap (map (name_entry tree)) (sym (in_order whole listed c.loop-next.invariant.rise
    (subst (IsPermutation whole) (ap (λ ps. listed ++ paths_pending tree ps) none ∙ append-nil listed) c.loop-next.invariant.all)))
