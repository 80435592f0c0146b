use Rattle.std.proofs.Common.{Bool, ap, ◌∙◌}
use Rattle.std.specs.List.{list_any}
use Rattle.world_parts.specs.Items as items
use Rattle.world_parts.specs.Uses.{item_meant}
use Rattle.world_parts.proofs.FootprintCode.{any-meant}
use Rattle.world_parts.proofs.footprint.touches_item.Goals as goal

pub returns : goal.returns
returns c =
    let p : items.Use → Bool = λ u. items.share u.item (item_meant c.args.item.now) in
    c.any_touches.ensures ∙ any-meant p c.uses.result.now ∙ ap (list_any p) c.uses.ensures
