use Rattle.std.proofs.Common.{◌≡◌, ℕ, List, OnOk, ◌++◌}
use Rattle.std.specs.Prelude.{codes}
use Rattle.trace_text.specs.Entry.{front_words}
use Rattle.trace_text.proofs.Adds.{add, add_last}
use Rattle.records_text.specs.Shown.{zeros_len, zeros_word}
use Rattle.records_text.proofs.records.push_zeros_words.Goals as goal

pub returns : goal.returns
returns c =
    let p0 : List ℕ = front_words c.args.sqe.now c.args.lengths.now (zeros_len c.args.sqe.now c.args.lengths.now c.args.len) in
    let e0 : c.push_front.new.text.items ≡ c.args.text.now.items ++ p0 = (rw (c.zeros_len.ensures) at c.in_ok-push_front.ensures) in
    let q1 : List ℕ = zeros_word c.args.len in
    let e1 : c.push_zeros.new.text.items ≡ c.args.text.now.items ++ (p0 ++ q1) = add c.args.text.now.items p0 q1 c.push_front.new.text.items c.push_zeros.new.text.items e0 c.in_ok-push_zeros.ensures in
    let p1 : List ℕ = p0 ++ q1 in
    let q2 : List ℕ = codes "\n" in
    let h2 : OnOk c.push_bytes.result (c.push_bytes.new.text.items ≡ c.push_zeros.new.text.items ++ q2) = c.push_bytes.ensures in
    add_last c.push_bytes.result c.args.text.now.items p1 q2 c.push_zeros.new.text.items c.push_bytes.new.text.items e1 h2
