use Rattle.std.proofs.Common.{Some, option_map, ap, sym, ◌∙◌}
use Rattle.finite_maps.proofs.Indexed.{get-of}
use Rattle.world_parts.specs.Uses.{broken_meant}
use Rattle.world_parts.proofs.state.State.broken.Goals as goal

pub returns-in_err-get : goal.returns-in_err-get
returns-in_err-get c =
    let kept = get-of c.self.inside.broken.entries c.args.self.now.broken c.args.chain (ap (λ w. w.broken) c.self.view_is) in
    ap (option_map broken_meant) c.from_residual.ensures ∙ sym (kept ∙ sym c.in_err-get.ensures.value)

pub returns : goal.returns
returns c =
    let kept = get-of c.self.inside.broken.entries c.args.self.now.broken c.args.chain (ap (λ w. w.broken) c.self.view_is) in
    ap (λ x. Some x) c.branch.view_is ∙ sym (kept ∙ sym c.in_ok-get.ensures.value)
