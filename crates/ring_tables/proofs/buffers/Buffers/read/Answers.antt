use Rattle.std.proofs.Common.{◌∙◌}
use Rattle.ring_tables.proofs.Looked.{bytes_at-found, range_of-absent}
use Rattle.ring_tables.proofs.buffers.Buffers.read.Goals as goal

pub read-requires-clause-inside : goal.read-requires-clause-inside
read-requires-clause-inside c =
    let found = bytes_at-found _ _ c.args.ring c.args.index _ c.self.view_is c.in-Some.ensures.value in
    rw found at c.requires.inside

pub returns-in-Some : goal.returns-in-Some
returns-in-Some c =
    let found = bytes_at-found _ _ c.args.ring c.args.index _ c.self.view_is c.in-Some.ensures.value in
    rw found c.read.ensures.value

pub returns-in-None : goal.returns-in-None
returns-in-None c = c.new.ensures.items ∙ range_of-absent _ _ c.args.ring c.args.index c.args.lo c.args.hi c.self.view_is c.in-None.ensures.value
