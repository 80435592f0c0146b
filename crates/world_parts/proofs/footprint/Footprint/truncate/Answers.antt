use Rattle.std.proofs.Common.{map, take, sym, ap, ◌∙◌}
use Rattle.std.proofs.lemmas.List.{take-map}
use Rattle.world_parts.specs.Uses.{use_meant}
use Rattle.world_parts.proofs.footprint.Footprint.truncate.Goals as goal

pub returns : goal.returns
returns c =
    ap (map use_meant) c.truncate.ensures.items
    ∙ sym (take-map use_meant c.args.count c.self.inside.uses.items)
    ∙ ap (take c.args.count) c.self.view_is
