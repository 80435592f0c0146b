use Rattle.std.proofs.Common.{map, take, sym, ap, ◌∙◌}
use Rattle.std.proofs.lemmas.List.{take-map}
use Rattle.std.proofs.lemmas.Result.{IfOk-weaker}
use Rattle.world_parts.specs.Uses.{use_meant}
use Rattle.world_parts.proofs.footprint.Footprint.first.Goals as goal

pub returns : goal.returns
returns c =
    let n = c.args.count in
    IfOk-weaker c.copies.result _ _
    (λ f is. is ∙ ap (λ us. map use_meant (take n us)) c.as_slice.ensures.value ∙ sym (take-map use_meant n c.self.inside.uses.items) ∙ ap (take n) c.self.view_is)
    c.copies.ensures
