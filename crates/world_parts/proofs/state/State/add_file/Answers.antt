use Rattle.std.proofs.Common.{◌∷◌, [], ap, sym, subst, ◌∙◌}
use Rattle.std.specs.Prelude.{map}
use Rattle.std.proofs.lemmas.Result.{on_ok_weaker}
use Rattle.world_parts.specs.Known.{Knows}
use Rattle.world_parts.specs.Start.{range_written}
use Rattle.world_parts.specs.World.{World, set_size, apply, apply_all}
use Rattle.world_parts.proofs.Holes.{apply_all-append}
use Rattle.world_parts.proofs.KnownPaths.{file_known}
use Rattle.world_parts.proofs.state.State.add_file.Goals as goal

pub returns-clause-added : goal.returns-clause-added
returns-clause-added c =
    let i = c.args.number in
    on_ok_weaker c.set_size.result
    (λ e. e ∙ ap (apply (set_size i c.args.size)) (c.in_ok-write_ranges.ensures ∙ ap (apply_all (map (range_written i) c.args.ranges.now)) c.in_ok-make_node.ensures.made)
    ∙ sym (apply_all-append (map (range_written i) c.args.ranges.now) (set_size i c.args.size ∷ []) _))
    c.set_size.ensures

pub returns-clause-known : goal.returns-clause-known
returns-clause-known c =
    let i = c.args.number in
    on_ok_weaker c.set_size.result
    (λ e. subst (λ (w : World). Knows w.nodes c.make_node.new.known) (sym (e ∙ ap (apply (set_size i c.args.size)) c.in_ok-write_ranges.ensures))
    (file_known c.make_node.new.self c.make_node.new.known i c.args.size c.args.ranges.now c.in_ok-make_node.ensures.known))
    c.set_size.ensures
