use Rattle.std.proofs.Common.{ap, sym, subst, ◌∙◌}
use Rattle.std.specs.Option.{option_map}
use Rattle.std.proofs.lemmas.Result.{on_ok_weaker}
use Rattle.file_tree.specs.Kinds.{kind_meant}
use Rattle.file_tree.specs.Tree.{new_node}
use Rattle.world_parts.specs.Known.{Known, Knows}
use Rattle.world_parts.specs.World.{World, make_node, apply}
use Rattle.world_parts.proofs.Copies.{none_of}
use Rattle.world_parts.proofs.KnownPaths.{knows_none, made_known}
use Rattle.world_parts.proofs.state.State.make_node.Goals as goal
use Rattle.world_parts.proofs.state.State.make_node.Goals.{then-is_some, else-is_some}

pub returns-clause-known : goal.returns-clause-known
returns-clause-known c =
    let s = c.args.self.now in
    let i = c.args.number in
    let made : World = apply (make_node i (kind_meant c.args.kind)) s in
    on_ok_weaker c.add_node.result
    (λ e. subst (λ (w : World). Knows w.nodes c.if-is_some.known) (sym e) (elim c.if-is_some.branch [
      | then-is_some w ↦ knows_none made.nodes c.if-is_some.known (ap (λ (k : Known). k.entries) w.known-is ∙ w.clear.ensures.empty)
      | else-is_some w ↦ let free = sym c.kind.ensures ∙ ap (option_map kind_meant) (none_of c.kind.result (sym w.if-is_some.ensures)) in subst (Knows made.nodes) (sym w.known-is) (made_known s.nodes c.args.known.now i (new_node (kind_meant c.args.kind)) c.requires free)
    ]))
    c.add_node.ensures
