use Rattle.std.proofs.Common.{◌-◌, min, replicate, ap, ◌∙◌}
use Rattle.std.proofs.lemmas.Result.{on_ok_weaker}
use Rattle.extent_bytes.specs.Bytes.{overlaid}
use Rattle.finite_maps.specs.Table.{pair_keys}
use Rattle.finite_maps.proofs.Maps.{rewritten_through, rewritten_none, rewritten_err}
use Rattle.ring_tables.proofs.BufferBytes.{zeroed-overlaid}
use Rattle.ring_tables.proofs.buffers.Buffers.zero.Goals as goal

pub returns-in_default-clause-ok : goal.returns-in_default-clause-ok
returns-in_default-clause-ok c =
    rewritten_none pair_keys c.self.inside.entries c.get_mut.follows.lender-at-none c.args.self.now (c.args.ring, c.args.index) c.self.view_is (λ old. overlaid old c.args.lo (replicate (c.args.hi - c.args.lo) 0)) c.get_mut.follows.holds-at-none c.in_default.ensures.value

pub returns-clause-ok : goal.returns-clause-ok
returns-clause-ok c =
    let old = c.in-Some.buffer.now in
    let new = c.zero.new.self in
    on_ok_weaker c.zero.result
    (λ e.
    rewritten_through pair_keys (λ old. overlaid old c.args.lo (replicate (c.args.hi - c.args.lo) 0)) c.self.inside.entries (c.get_mut.follows.lender new) c.args.self.now (c.args.ring, c.args.index) old new c.self.view_is (c.get_mut.follows.holds new) c.in-Some.ensures.value
    (e ∙ zeroed-overlaid old c.args.lo c.args.hi c.min-start.result c.min-end.result (c.min-end.ensures ∙ ap (min c.args.hi) c.len.ensures.value) c.min-start.ensures))
    c.zero.ensures.ok

pub returns-clause-err : goal.returns-clause-err
returns-clause-err c =
    let new = c.zero.new.self in
    rewritten_err pair_keys c.self.inside.entries (c.get_mut.follows.lender new) c.args.self.now (c.args.ring, c.args.index) c.self.view_is c.in-Some.buffer.now new (c.get_mut.follows.holds new) c.in-Some.ensures.value c.zero.result c.zero.ensures.err
