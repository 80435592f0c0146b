use Rattle.std.proofs.Common.{Some, ap, ◌∙◌}
use Rattle.extent_bytes.specs.Bytes.{resized}
use Rattle.finite_maps.specs.Table.{insert, pair_keys}
use Rattle.finite_maps.proofs.Maps.{seen-assign}
use Rattle.ring_tables.proofs.buffers.Buffers.add_zeros.Goals as goal
use Rattle.extent_bytes.proofs.Lists.{resized-none}

pub returns-clause-ok : goal.returns-clause-ok
returns-clause-ok c =
    seen-assign pair_keys c.self.inside.entries c.insert.new.self c.args.self.now (c.args.ring, c.args.index) (Some c.set_len.new.self) c.self.view_is c.in_ok-insert.ensures.updates
    ∙ ap (insert pair_keys.total c.args.self.now (c.args.ring, c.args.index)) (c.in_ok-set_len.ensures.ok ∙ ap (λ xs. resized xs c.args.len) c.new-buffer.ensures ∙ resized-none c.args.len)
