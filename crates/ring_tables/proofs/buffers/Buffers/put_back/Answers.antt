use Rattle.std.proofs.Common.{arith}
use Rattle.extent_bytes.specs.Bytes.{overwritten}
use Rattle.finite_maps.specs.Table.{pair_keys}
use Rattle.ring_tables.proofs.Looked.{bytes_at-found}
use Rattle.ring_tables.proofs.buffers.Buffers.put_back.Goals as goal
use Rattle.finite_maps.proofs.Maps.{rewritten_none, rewritten_err, rewritten_ok}

pub returns-in_default-clause-ok : goal.returns-in_default-clause-ok
returns-in_default-clause-ok c =
    rewritten_none pair_keys c.self.inside.entries c.get_mut.follows.lender-at-none c.args.self.now (c.args.ring, c.args.index) c.self.view_is (λ old. overwritten old c.args.lo c.args.part) c.get_mut.follows.holds-at-none c.in_default.ensures.value

pub put_back-requires : goal.put_back-requires
put_back-requires c =
    let found = bytes_at-found _ _ c.args.ring c.args.index _ c.self.view_is c.in-Some.ensures.value in
    omega (arith, rw found at c.requires)

pub returns-clause-ok : goal.returns-clause-ok
returns-clause-ok c =
    rewritten_ok pair_keys c.self.inside.entries (c.get_mut.follows.lender c.put_back.new.self) c.args.self.now (c.args.ring, c.args.index) c.self.view_is c.in-Some.buffer.now c.put_back.new.self (c.get_mut.follows.holds c.put_back.new.self) c.in-Some.ensures.value c.put_back.result (λ old. overwritten old c.args.lo c.args.part) c.put_back.ensures.ok

pub returns-clause-err : goal.returns-clause-err
returns-clause-err c =
    rewritten_err pair_keys c.self.inside.entries (c.get_mut.follows.lender c.put_back.new.self) c.args.self.now (c.args.ring, c.args.index) c.self.view_is c.in-Some.buffer.now c.put_back.new.self (c.get_mut.follows.holds c.put_back.new.self) c.in-Some.ensures.value c.put_back.result c.put_back.ensures.err
