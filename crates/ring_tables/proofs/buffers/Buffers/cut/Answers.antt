use Rattle.std.proofs.Common.{◌∙◌}
use Rattle.extent_bytes.specs.Bytes.{zeroed}
use Rattle.finite_maps.specs.Table.{pair_keys}
use Rattle.ring_tables.proofs.Looked.{bytes_at-found, range_of-absent}
use Rattle.ring_tables.proofs.buffers.Buffers.cut.Goals as goal
use Rattle.finite_maps.proofs.Maps.{rewritten_none, rewritten_err, rewritten_ok}

pub returns-in_default-clause-part : goal.returns-in_default-clause-part
returns-in_default-clause-part c = c.new.ensures ∙ range_of-absent _ _ c.args.ring c.args.index c.args.lo c.args.hi c.self.view_is c.in_default.ensures.value

pub returns-in_default-clause-rest : goal.returns-in_default-clause-rest
returns-in_default-clause-rest c =
    rewritten_none pair_keys c.self.inside.entries c.get_mut.follows.lender-at-none c.args.self.now (c.args.ring, c.args.index) c.self.view_is (λ old. zeroed old c.args.lo c.args.hi) c.get_mut.follows.holds-at-none c.in_default.ensures.value

pub cut-requires-clause-inside : goal.cut-requires-clause-inside
cut-requires-clause-inside c =
    let found = bytes_at-found _ _ c.args.ring c.args.index _ c.self.view_is c.in-Some.ensures.value in
    rw found at c.requires.inside

pub returns-clause-part : goal.returns-clause-part
returns-clause-part c =
    let found = bytes_at-found _ _ c.args.ring c.args.index _ c.self.view_is c.in-Some.ensures.value in
    rw found c.cut.ensures.part

pub returns-clause-rest : goal.returns-clause-rest
returns-clause-rest c =
    rewritten_ok pair_keys c.self.inside.entries (c.get_mut.follows.lender c.cut.new.self) c.args.self.now (c.args.ring, c.args.index) c.self.view_is c.in-Some.buffer.now c.cut.new.self (c.get_mut.follows.holds c.cut.new.self) c.in-Some.ensures.value c.cut.result (λ old. zeroed old c.args.lo c.args.hi) c.cut.ensures.rest

pub returns-clause-err : goal.returns-clause-err
returns-clause-err c =
    rewritten_err pair_keys c.self.inside.entries (c.get_mut.follows.lender c.cut.new.self) c.args.self.now (c.args.ring, c.args.index) c.self.view_is c.in-Some.buffer.now c.cut.new.self (c.get_mut.follows.holds c.cut.new.self) c.in-Some.ensures.value c.cut.result c.cut.ensures.err
