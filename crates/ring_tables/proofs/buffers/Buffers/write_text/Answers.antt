-- The bytes that have room in the buffer are put over it.
use Rattle.std.proofs.Common.{◌≡◌, ◌-◌, ◌≤◌, min, length, drop, arith, ap, sym, ◌∙◌, refl}
use Rattle.std.proofs.lemmas.List.{length-take, take-take}
use Rattle.std.proofs.lemmas.Result.{on_ok_weaker}
use Rattle.trace_format.specs.Blobs.{sliced}
use Rattle.extent_bytes.specs.Bytes.{overlaid, overwritten}
use Rattle.extent_bytes.proofs.Outcomes.{err_of}
use Rattle.finite_maps.specs.Table.{pair_keys}
use Rattle.finite_maps.proofs.Maps.{rewritten_through, rewritten_none, rewritten_err}
use Rattle.ring_tables.proofs.BufferBytes.{overlaid-past, overlaid-clipped}
use Rattle.ring_tables.proofs.buffers.Buffers.write_text.Goals as goal

pub returns-in_default-clause-ok : goal.returns-in_default-clause-ok
returns-in_default-clause-ok c =
    rewritten_none pair_keys c.self.inside.entries c.get_mut.follows.lender-at-none c.args.self.now (c.args.ring, c.args.index) c.self.view_is (λ old. overlaid old c.args.at (sliced c.args.bytes)) c.get_mut.follows.holds-at-none c.in_default.ensures.value

pub returns-then-room-eq0-clause-ok : goal.returns-then-room-eq0-clause-ok
returns-then-room-eq0-clause-ok c =
    rewritten_through pair_keys (λ old. overlaid old c.args.at (sliced c.args.bytes)) c.self.inside.entries (c.get_mut.follows.lender c.in-Some.buffer.now) c.args.self.now (c.args.ring, c.args.index) c.in-Some.buffer.now c.in-Some.buffer.now c.self.view_is (c.get_mut.follows.holds c.in-Some.buffer.now) c.in-Some.ensures.value
    (sym (overlaid-past c.in-Some.buffer.now c.args.at (sliced c.args.bytes) (omega (arith, c.if-room-eq0.true, c.saturating_sub-room.ensures, c.len.ensures.value))))

pub returns-in_err-part-clause-err : goal.returns-in_err-part-clause-err
returns-in_err-part-clause-err c =
    let out = c.from_residual in
    rewritten_err pair_keys c.self.inside.entries (c.get_mut.follows.lender c.in-Some.buffer.now) c.args.self.now (c.args.ring, c.args.index) c.self.view_is c.in-Some.buffer.now c.in-Some.buffer.now (c.get_mut.follows.holds c.in-Some.buffer.now) c.in-Some.ensures.value out.result (err_of out.result refl)

pub returns-clause-ok : goal.returns-clause-ok
returns-clause-ok c =
    let old = c.in-Some.buffer.now in
    let text = drop c.args.bytes.from c.args.bytes.text.now.value.items in
    let new = sliced c.args.bytes in
    let within : c.min-count.result ≤ c.args.bytes.len = omega (arith, c.min-count.ensures, c.len-2.ensures, length-take c.args.bytes.len text) in
    let count : c.min-count.result ≡ min (length new) (length old - c.args.at) = c.min-count.ensures ∙ ap (λ n. min n c.saturating_sub-room.result) c.len-2.ensures ∙ ap (min (length new)) (c.saturating_sub-room.ensures ∙ ap (λ n. n - c.args.at) c.len.ensures.value) in
    on_ok_weaker c.put_back.result
    (λ e.
    rewritten_through pair_keys (λ old. overlaid old c.args.at new) c.self.inside.entries (c.get_mut.follows.lender c.put_back.new.self) c.args.self.now (c.args.ring, c.args.index) old c.put_back.new.self c.self.view_is (c.get_mut.follows.holds c.put_back.new.self) c.in-Some.ensures.value
    (e ∙ ap (overwritten old c.args.at) (c.in_ok-part.ensures.value ∙ sym (take-take c.min-count.result c.args.bytes.len text within)) ∙ overlaid-clipped old c.args.at new c.min-count.result (omega (arith, c.if-room-eq0.false, c.saturating_sub-room.ensures, c.len.ensures.value)) count))
    c.put_back.ensures.ok

pub returns-clause-err : goal.returns-clause-err
returns-clause-err c =
    rewritten_err pair_keys c.self.inside.entries (c.get_mut.follows.lender c.put_back.new.self) c.args.self.now (c.args.ring, c.args.index) c.self.view_is c.in-Some.buffer.now c.put_back.new.self (c.get_mut.follows.holds c.put_back.new.self) c.in-Some.ensures.value c.put_back.result c.put_back.ensures.err
