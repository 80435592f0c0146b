use Rattle.std.proofs.Common.{◌≡◌, ℕ, ◌-◌, List, ◌++◌, length, take, drop, IsPermutation, ap, sym, subst, ◌∙◌}
use Rattle.std.proofs.Math.Seq.{take-append_seam}
use Rattle.world_parts.specs.declared.imaging.Pending.{Pending}
use Rattle.world_parts.specs.Image.{paths_below}
use Rattle.world_parts.specs.Pending.{paths_pending}
use Rattle.world_parts.proofs.Listing.{turned}
use Rattle.world_parts.proofs.state.State.push_below.Goals as goal

pub returns-then-len-others : goal.returns-then-len-others
returns-then-len-others c =
    let tree = c.args.self.now.nodes in
    let listed = c.args.listed.now in
    let pushed : List Pending = c.push_names.new.pending.items in
    let whole : List Pending = c.deref_mut.result.now in
    let new : List Pending = c.turn.new.pending in
    let first : ℕ = c.first_between-first.result in
    let back : take c.push_names.new.pending.len (new ++ drop (length new) pushed) ≡ new =
    ap (λ n. take n (new ++ drop (length new) pushed)) (sym (c.turn.ensures.len ∙ c.deref_mut.ensures.len)) ∙ take-append_seam new (drop (length new) pushed) in
    let stand : paths_pending tree whole ≡ paths_below listed.levels tree listed.path.items listed.node ++ paths_pending tree c.args.pending.now.items =
    ap (paths_pending tree) c.deref_mut.ensures.value ∙ c.in_ok-push_names.ensures ∙ ap (λ p. paths_below listed.levels tree p listed.node ++ paths_pending tree c.args.pending.now.items) c.deref.ensures.value in
    subst (IsPermutation (paths_below listed.levels tree listed.path.items listed.node ++ paths_pending tree c.args.pending.now.items)) (ap (paths_pending tree) (sym back))
    (subst (λ l. IsPermutation l (paths_pending tree new)) stand (turned tree first (c.len-others.result - first) whole new c.turn.ensures.turned))
