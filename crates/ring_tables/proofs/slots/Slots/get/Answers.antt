use Rattle.std.proofs.Common.{sym, ◌∙◌}
use Rattle.finite_maps.specs.Table.{pair_keys}
use Rattle.finite_maps.proofs.Maps.{get-of}
use Rattle.ring_tables.proofs.slots.Slots.get.Goals as goal

pub returns-in-None : goal.returns-in-None
returns-in-None c = c.copied.ensures ∙ c.get.ensures.value ∙ sym (get-of pair_keys c.self.inside.entries.entries c.args.self.now (c.args.ring, c.args.slot) c.self.view_is)
