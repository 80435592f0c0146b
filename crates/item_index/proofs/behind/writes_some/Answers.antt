use Rattle.std.proofs.Common.{Bool, ◌&&◌, ap, ◌∙◌}
use Rattle.std.specs.List.{list_any}
use Rattle.world_parts.specs.Items as items
use Rattle.world_parts.specs.Uses.{item_meant}
use Rattle.world_parts.specs.declared.footprint.Use.{Use}
use Rattle.world_parts.proofs.FootprintCode.{any-meant}
use Rattle.item_index.proofs.Pairs.{any-exchange}
use Rattle.item_index.proofs.behind.writes_some.Goals as goal

pub returns : goal.returns
returns c =
    let written : items.Use → Bool = λ u. u.written in
    let shares : items.Use → Use → Bool = λ u v. items.share u.item (item_meant v.item) in
    let p : items.Use → Bool = λ u. written u && list_any (shares u) c.args.uses.now in
    c.any_writes_some.ensures ∙ any-meant p c.uses.result.now ∙ ap (list_any p) c.uses.ensures ∙ any-exchange written shares c.args.footprint.now c.args.uses.now
