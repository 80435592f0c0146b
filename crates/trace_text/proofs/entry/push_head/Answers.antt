use Rattle.std.proofs.Common.{◌≡◌, ℕ, List, OnOk, ◌++◌}
use Rattle.std.specs.Prelude.{codes}
use Rattle.std.specs.Int.{w32, cast_unsigned}
use Rattle.trace_text.specs.Names.{opcode_text, entry_flags}
use Rattle.trace_text.specs.Fields.{fd_word}
use Rattle.trace_text.proofs.Adds.{add, add_last}
use Rattle.trace_text.proofs.entry.push_head.Goals as goal

pub returns : goal.returns
returns c =
    let p0 : List ℕ = codes "  " in
    let e0 : c.push_bytes.new.text.items ≡ c.args.text.now.items ++ p0 = c.in_ok-push_bytes.ensures in
    let q1 : List ℕ = opcode_text c.args.sqe.now.opcode in
    let h1 : c.push_opcode.new.text.items ≡ c.push_bytes.new.text.items ++ q1 = c.in_ok-push_opcode.ensures in
    let e1 : c.push_opcode.new.text.items ≡ c.args.text.now.items ++ (p0 ++ q1) = add c.args.text.now.items p0 q1 c.push_bytes.new.text.items c.push_opcode.new.text.items e0 h1 in
    let p1 : List ℕ = p0 ++ q1 in
    let q2 : List ℕ = entry_flags c.args.sqe.now.flags in
    let h2 : c.push_entry_flags.new.text.items ≡ c.push_opcode.new.text.items ++ q2 = c.in_ok-push_entry_flags.ensures in
    let e2 : c.push_entry_flags.new.text.items ≡ c.args.text.now.items ++ (p1 ++ q2) = add c.args.text.now.items p1 q2 c.push_opcode.new.text.items c.push_entry_flags.new.text.items e1 h2 in
    let p2 : List ℕ = p1 ++ q2 in
    let q3 : List ℕ = fd_word c.args.sqe.now.opcode (cast_unsigned w32 c.args.sqe.now.fd) in
    let h3 : OnOk c.push_fd.result (c.push_fd.new.text.items ≡ c.push_entry_flags.new.text.items ++ q3) = rw c.fd_bits.ensures at c.push_fd.ensures in
    add_last c.push_fd.result c.args.text.now.items p2 q3 c.push_entry_flags.new.text.items c.push_fd.new.text.items e2 h3
