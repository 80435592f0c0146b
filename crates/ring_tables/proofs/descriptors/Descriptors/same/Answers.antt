use Rattle.std.specs.Cmp.{unsigned_Decides}
use Rattle.finite_maps.specs.Table.{number_keys}
use Rattle.ring_tables.proofs.Sameness.{entries_tell}
use Rattle.ring_tables.proofs.descriptors.Descriptors.same.Goals as goal

pub returns-then-len : goal.returns-then-len
returns-then-len c =
    entries_tell number_keys c.self.inside.entries c.other.inside.entries c.args.self.now c.args.other.now unsigned_Decides
    c.len.ensures.ordered c.self.view_is c.len-2.ensures.ordered c.other.view_is c.eq.result c.eq.ensures
