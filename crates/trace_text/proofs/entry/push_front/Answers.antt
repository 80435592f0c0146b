use Rattle.std.proofs.Common.{◌≡◌, ℕ, List, OnOk, ◌++◌}
use Rattle.trace_text.specs.Fields.{later_words}
use Rattle.trace_text.specs.Entry.{head_words, side_words}
use Rattle.trace_text.proofs.Adds.{add, add_last}
use Rattle.trace_text.proofs.entry.push_front.Goals as goal

pub returns : goal.returns
returns c =
    let p3 : List ℕ = head_words c.args.sqe.now in
    let e3 : c.push_head.new.text.items ≡ c.args.text.now.items ++ p3 = c.in_ok-push_head.ensures in
    let q4 : List ℕ = side_words c.args.sqe.now c.args.side.now in
    let h4 : c.push_side.new.text.items ≡ c.push_head.new.text.items ++ q4 = c.in_ok-push_side.ensures in
    let e4 : c.push_side.new.text.items ≡ c.args.text.now.items ++ (p3 ++ q4) = add c.args.text.now.items p3 q4 c.push_head.new.text.items c.push_side.new.text.items e3 h4 in
    let p4 : List ℕ = p3 ++ q4 in
    let q5 : List ℕ = later_words c.args.sqe.now c.args.default in
    let h5 : OnOk c.push_later.result (c.push_later.new.text.items ≡ c.push_side.new.text.items ++ q5) = c.push_later.ensures in
    add_last c.push_later.result c.args.text.now.items p4 q5 c.push_side.new.text.items c.push_later.new.text.items e4 h5
