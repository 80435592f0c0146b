use Rattle.std.proofs.Common.{◌≡◌, ℕ, List, OnOk, ◌++◌}
use Rattle.std.specs.Prelude.{codes}
use Rattle.std.specs.Fmt.{decimal}
use Rattle.trace_text.specs.Shown.{buffer_line, numbered, slots_line}
use Rattle.trace_text.proofs.Adds.{add, add_last}
use Rattle.trace_text.proofs.lines.push_ring.Goals as goal

pub returns : goal.returns
returns c =
    let p0 : List ℕ = codes "ring " in
    let e0 : c.push_bytes.new.text.items ≡ c.args.text.now.items ++ p0 = c.in_ok-push_bytes.ensures in
    let q1 : List ℕ = decimal c.args.number in
    let h1 : c.push_decimal.new.text.items ≡ c.push_bytes.new.text.items ++ q1 = c.in_ok-push_decimal.ensures in
    let e1 : c.push_decimal.new.text.items ≡ c.args.text.now.items ++ (p0 ++ q1) = add c.args.text.now.items p0 q1 c.push_bytes.new.text.items c.push_decimal.new.text.items e0 h1 in
    let p1 : List ℕ = p0 ++ q1 in
    let q2 : List ℕ = codes "\n" in
    let h2 : c.push_bytes-2.new.text.items ≡ c.push_decimal.new.text.items ++ q2 = c.in_ok-push_bytes-2.ensures in
    let e2 : c.push_bytes-2.new.text.items ≡ c.args.text.now.items ++ (p1 ++ q2) = add c.args.text.now.items p1 q2 c.push_decimal.new.text.items c.push_bytes-2.new.text.items e1 h2 in
    let p2 : List ℕ = p1 ++ q2 in
    let q3 : List ℕ = slots_line (codes "  slots") c.args.ring.now.slots in
    let h3 : c.push_slots.new.text.items ≡ c.push_bytes-2.new.text.items ++ q3 = (rw (c.as_slice.ensures) at c.in_ok-push_slots.ensures) in
    let e3 : c.push_slots.new.text.items ≡ c.args.text.now.items ++ (p2 ++ q3) = add c.args.text.now.items p2 q3 c.push_bytes-2.new.text.items c.push_slots.new.text.items e2 h3 in
    let p3 : List ℕ = p2 ++ q3 in
    let q4 : List ℕ = numbered buffer_line 0 c.args.ring.now.buffers in
    let h4 : OnOk c.push_buffers.result (c.push_buffers.new.text.items ≡ c.push_slots.new.text.items ++ q4) = (rw (c.as_slice-2.ensures) at c.push_buffers.ensures) in
    add_last c.push_buffers.result c.args.text.now.items p3 q4 c.push_slots.new.text.items c.push_buffers.new.text.items e3 h4
