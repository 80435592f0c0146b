use Rattle.std.proofs.Common.{◌∙◌}
use Rattle.finite_maps.specs.Table.{pair_keys}
use Rattle.finite_maps.proofs.Ordered.{entries_agree}
use Rattle.ring_tables.proofs.buffers.Buffers.same.Goals as goal

pub loop-key-init : goal.loop-key-init
loop-key-init c = entries_agree pair_keys c.args.self.now c.args.other.now c.into_iter-key-iterator.result c.iter-others.result (c.into_iter-key-iterator.ensures.into_iter_gives ∙ c.iter-key-items.ensures) c.iter-others.ensures
