use Rattle.std.proofs.Common.{◌==◌}
use Rattle.std.specs.Prelude.{◌||◌}
use Rattle.std.proofs.lemmas.List.Folds.{list_any-append}
use Rattle.use_line.specs.Known.{is_among}
use Rattle.foot_waits.proofs.Grouping.{end_is}
use Rattle.foot_waits.proofs.descriptors.Group.tell.Goals as goal

pub returns : goal.returns
returns c = λ j.
    let places = c.self.inside.places.items in
    let e = end_is c.args.since places c.first_from-first.result (rw (← c.self.view_is) at c.first_from-first.ensures) in
    rw (c.in_ok-extend_from_slice.ensures.items, list_any-append (λ i. i == j), c.as_slice.ensures.value, ← c.self.view_is) (λ i. is_among c.args.told.now.items j || is_among (e i) j)
