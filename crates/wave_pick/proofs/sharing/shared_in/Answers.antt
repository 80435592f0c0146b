use Rattle.std.proofs.Common.{◌≡◌, ◌∙◌, List, map, ap, subst}
use Rattle.std.specs.Prelude.{IfOk}
use Rattle.std.specs.Option.{option_map}
use Rattle.world_parts.specs.Uses.{item_meant, use_meant}
use Rattle.world_parts.specs.declared.footprint.Use.{Use}
use Rattle.wave_pick.specs.Holding as model
use Rattle.wave_pick.proofs.Reading.{shared_reading}
use Rattle.wave_pick.proofs.sharing.shared_in.Goals as goal

pub returns-else-used : goal.returns-else-used
returns-else-used c =
    let used = use_meant c.args.used.now in
    let same = ap (λ (us : List Use). model.shared_with used (map use_meant us)) c.requires ∙ shared_reading used c.args.others.now c.if-used.false in
    subst (λ shared. IfOk c.shared_with_those.result (λ found. option_map item_meant found ≡ shared)) same c.shared_with_those.ensures
