use Rattle.std.proofs.Common.{◌≡◌, ◌-◌, min, length, arith, ap, sym, ◌∙◌}
use Rattle.std.proofs.lemmas.Result.{on_ok_weaker}
use Rattle.extent_bytes.specs.Bytes.{overlaid}
use Rattle.finite_maps.specs.Table.{pair_keys}
use Rattle.finite_maps.proofs.Maps.{rewritten_through, rewritten_none, rewritten_err}
use Rattle.ring_tables.proofs.BufferBytes.{overlaid-past, overlaid-clipped}
use Rattle.ring_tables.proofs.buffers.Buffers.write.Goals as goal

pub returns-in_default-clause-ok : goal.returns-in_default-clause-ok
returns-in_default-clause-ok c =
    rewritten_none pair_keys c.self.inside.entries c.get_mut.follows.lender-at-none c.args.self.now (c.args.ring, c.args.index) c.self.view_is (λ old. overlaid old c.args.at c.args.bytes.now) c.get_mut.follows.holds-at-none c.in_default.ensures.value

pub returns-then-room-eq0-clause-ok : goal.returns-then-room-eq0-clause-ok
returns-then-room-eq0-clause-ok c =
    rewritten_through pair_keys (λ old. overlaid old c.args.at c.args.bytes.now) c.self.inside.entries (c.get_mut.follows.lender c.in-Some.buffer.now) c.args.self.now (c.args.ring, c.args.index) c.in-Some.buffer.now c.in-Some.buffer.now c.self.view_is (c.get_mut.follows.holds c.in-Some.buffer.now) c.in-Some.ensures.value
    (sym (overlaid-past c.in-Some.buffer.now c.args.at c.args.bytes.now (omega (arith, c.if-room-eq0.true, c.saturating_sub-room.ensures, c.len.ensures.value))))

pub returns-clause-ok : goal.returns-clause-ok
returns-clause-ok c =
    let old = c.in-Some.buffer.now in
    let new = c.args.bytes.now in
    let count : c.min-count.result ≡ min (length new) (length old - c.args.at) = c.min-count.ensures ∙ ap (min (length new)) (c.saturating_sub-room.ensures ∙ ap (λ n. n - c.args.at) c.len.ensures.value) in
    on_ok_weaker c.write.result
    (λ e.
    rewritten_through pair_keys (λ old. overlaid old c.args.at c.args.bytes.now) c.self.inside.entries (c.get_mut.follows.lender c.write.new.self) c.args.self.now (c.args.ring, c.args.index) old c.write.new.self c.self.view_is (c.get_mut.follows.holds c.write.new.self) c.in-Some.ensures.value
    (e ∙ overlaid-clipped old c.args.at new c.min-count.result (omega (arith, c.if-room-eq0.false, c.saturating_sub-room.ensures, c.len.ensures.value)) count))
    c.write.ensures.ok

pub returns-clause-err : goal.returns-clause-err
returns-clause-err c =
    rewritten_err pair_keys c.self.inside.entries (c.get_mut.follows.lender c.write.new.self) c.args.self.now (c.args.ring, c.args.index) c.self.view_is c.in-Some.buffer.now c.write.new.self (c.get_mut.follows.holds c.write.new.self) c.in-Some.ensures.value c.write.result c.write.ensures.err
