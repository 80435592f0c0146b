use Rattle.std.proofs.Common.{ℕ, option_map, length, ap, rules, sym, ◌∙◌}
use Rattle.finite_maps.specs.Table.{pair_keys}
use Rattle.finite_maps.proofs.Maps.{get-of}
use Rattle.ring_tables.proofs.buffers.Buffers.len.Goals as goal

pub returns-clause-value : goal.returns-clause-value
returns-clause-value c = search rules ∙ ap (option_map (length {A = ℕ})) (c.get.ensures.value ∙ sym (get-of pair_keys c.self.inside.entries.entries c.args.self.now (c.args.ring, c.args.index) c.self.view_is))
