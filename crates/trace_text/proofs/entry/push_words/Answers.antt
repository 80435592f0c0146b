use Rattle.std.proofs.Common.{◌≡◌, ℕ, List, OnOk, ◌++◌}
use Rattle.std.specs.Prelude.{codes}
use Rattle.trace_text.specs.Entry.{front_words, default_len, data_text, data_of, words_of}
use Rattle.trace_text.proofs.Adds.{add, add_last}
use Rattle.trace_text.proofs.entry.push_words.Goals as goal

pub returns : goal.returns
unfolding words_of
returns c =
    let p0 : List ℕ = front_words c.args.sqe.now c.args.side.now (default_len c.args.sqe.now c.args.side.now) in
    let e0 : c.push_front.new.text.items ≡ c.args.text.now.items ++ p0 = (rw (c.default_len.ensures) at c.in_ok-push_front.ensures) in
    let q1 : List ℕ = data_text c.args.look (codes " \\\n    ") (data_of c.args.sqe.now c.args.side.now) in
    let h1 : c.push_data.new.text.items ≡ c.push_front.new.text.items ++ q1 = (rw (c.data_of.ensures) at c.in_ok-push_data.ensures) in
    let e1 : c.push_data.new.text.items ≡ c.args.text.now.items ++ (p0 ++ q1) = add c.args.text.now.items p0 q1 c.push_front.new.text.items c.push_data.new.text.items e0 h1 in
    let p1 : List ℕ = p0 ++ q1 in
    let q2 : List ℕ = codes "\n" in
    let h2 : OnOk c.push_bytes.result (c.push_bytes.new.text.items ≡ c.push_data.new.text.items ++ q2) = c.push_bytes.ensures in
    add_last c.push_bytes.result c.args.text.now.items p1 q2 c.push_data.new.text.items c.push_bytes.new.text.items e1 h2
