use Rattle.std.proofs.Common.{◌++◌, ap, sym, ◌∙◌, refl}
use Rattle.std.specs.BTreeMap.{insert_entry}
use Rattle.std.specs.Cmp.Lexicographic.{slice_cmp}
use Rattle.std.specs.Ordering.{nat_cmp}
use Rattle.finite_maps.specs.Table.{text_keys}
use Rattle.world_parts.specs.Image.{by_path, paths_below}
use Rattle.finite_maps.specs.Maps.{seen_table}
use Rattle.world_parts.specs.Pending.{paths_pending}
use Rattle.world_parts.proofs.Listing.{one_listed, fewer}
use Rattle.finite_maps.proofs.TextMaps.{seen-insert_entry}
use Rattle.world_parts.proofs.state.State.paths.Goals as goal

pub loop-next-preserved : goal.loop-next-preserved
loop-next-preserved c =
    let tree = c.args.self.now.nodes in
    let next = c.in-Some.next in
    let left = paths_pending tree c.push_names-in-Some.new.pending.items in
    let paths = c.loop-next.paths.entries in
    ap (λ m. by_path m left) (seen-insert_entry text_keys (λ path. path) paths c.insert.new.self.entries (seen_table text_keys.total (λ path. path) paths) next.path.items next.node refl
    (c.in_ok-insert.ensures.entries ∙ ap (λ path. insert_entry (slice_cmp nat_cmp) paths path next.node) c.new.ensures))
    ∙ ap (by_path (seen_table text_keys.total (λ path. path) paths))
    (sym (one_listed tree c.loop-next.pending.items c.pop.new.self.items c.push_names-in-Some.new.pending.items next c.in-Some.ensures.items
    (c.in_ok-push_names-2.ensures ∙ ap (λ p. paths_below next.levels tree p next.node ++ paths_pending tree c.pop.new.self.items) c.deref.ensures.value)))
    ∙ c.loop-next.invariant

pub loop-next-smaller : goal.loop-next-smaller
loop-next-smaller c =
    let tree = c.args.self.now.nodes in
    let next = c.in-Some.next in
    fewer (paths_pending tree c.loop-next.pending.items) (paths_pending tree c.push_names-in-Some.new.pending.items) (next.path.items, next.node)
    (one_listed tree c.loop-next.pending.items c.pop.new.self.items c.push_names-in-Some.new.pending.items next c.in-Some.ensures.items
    (c.in_ok-push_names-2.ensures ∙ ap (λ p. paths_below next.levels tree p next.node ++ paths_pending tree c.pop.new.self.items) c.deref.ensures.value))
