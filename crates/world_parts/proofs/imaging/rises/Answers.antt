use Rattle.std.proofs.Common.{ℕ, ◌-◌, List, length, nat_cmp, refl, ap, sym, ◌∙◌}
use Rattle.std.specs.Cmp.Lexicographic.{slice_cmp}
use Rattle.world_parts.proofs.Rising.{rising, told_less}
use Rattle.world_parts.proofs.imaging.rises.Goals as goal

pub returns-in-Some : goal.returns-in-Some
returns-in-Some c = λ is.
    rising c.args.listed.now (length c.args.listed.now - 1) c.in-Some.last.now c.args.path.now c.args.node refl (sym c.in-Some.ensures.value)
    (ap (λ (p : List ℕ). slice_cmp nat_cmp p c.args.path.now) (sym c.as_slice.ensures) ∙ sym c.order_of.ensures ∙ told_less c.is_lt.result c.order_of.result c.is_lt.ensures is)
