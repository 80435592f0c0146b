use Rattle.std.proofs.Common.{◌∙◌}
use Rattle.std.specs.Ordering.{nat_cmp}
use Rattle.std.specs.Cmp.Lexicographic.{slice_cmp}
use Rattle.world_parts.proofs.full_path.FullPath.order.Goals as goal

pub returns : goal.returns
returns c = c.order_of.ensures ∙ (λ i. slice_cmp nat_cmp (c.deref.ensures.value i) (c.deref-2.ensures.value i)) ∙ (λ i. slice_cmp nat_cmp (c.self.view_is i) (c.other.view_is i))
