use Rattle.std.proofs.Common.{Some, ap, sym, ◌∙◌}
use Rattle.std.specs.Prelude.{None}
use Rattle.std.specs.Option.{option_copied, option_map}
use Rattle.world_parts.specs.Uses.{item_meant}
use Rattle.round_scheduler.proofs.Told.{told_lost, told_none, told_some}
use Rattle.round_scheduler.proofs.telling.held_at.Goals as goal

pub returns-in_default : goal.returns-in_default
returns-in_default c = told_none c.args.place c.args.footprint.now c.args.earlier.now c.args.reaches.now (sym c.latest_at.ensures ∙ sym c.copied.ensures ∙ c.in_default.is)

pub returns-in_default-reach_at : goal.returns-in_default-reach_at
returns-in_default-reach_at c =
    told_lost c.args.place c.args.footprint.now c.args.earlier.now c.args.reaches.now c.in-Some.holder (sym c.latest_at.ensures ∙ sym c.copied.ensures ∙ c.in-Some.is)
    (sym c.reach_at.ensures ∙ ap option_copied c.in_default-reach_at.is)

pub returns-in_default-2 : goal.returns-in_default-2
returns-in_default-2 c =
    told_some c.args.place c.args.footprint.now c.args.earlier.now c.args.reaches.now c.in-Some.holder c.in-Some-reach_at.reach.now None (sym c.latest_at.ensures ∙ sym c.copied.ensures ∙ c.in-Some.is)
    (sym c.reach_at.ensures ∙ ap option_copied c.in-Some-reach_at.is) (sym (ap (option_map item_meant) c.in_default-2.is) ∙ c.in_ok-item.ensures)

pub returns : goal.returns
returns c =
    told_some c.args.place c.args.footprint.now c.args.earlier.now c.args.reaches.now c.in-Some.holder c.in-Some-reach_at.reach.now (Some (item_meant c.in-Some-2.item)) (sym c.latest_at.ensures ∙ sym c.copied.ensures ∙ c.in-Some.is)
    (sym c.reach_at.ensures ∙ ap option_copied c.in-Some-reach_at.is) (sym (ap (option_map item_meant) c.in-Some-2.is) ∙ c.in_ok-item.ensures)
