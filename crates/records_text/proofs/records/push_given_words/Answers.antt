use Rattle.std.proofs.Common.{◌≡◌, ℕ, List, OnOk, ◌++◌}
use Rattle.std.specs.Prelude.{codes}
use Rattle.trace_text.specs.Entry.{head_words}
use Rattle.trace_text.specs.Fields.{later_words}
use Rattle.trace_text.proofs.Adds.{add, add_last}
use Rattle.records_text.specs.Shown.{given_word}
use Rattle.records_text.proofs.records.push_given_words.Goals as goal

pub returns : goal.returns
returns c =
    let p0 : List ℕ = head_words c.args.sqe.now in
    let e0 : c.push_head.new.text.items ≡ c.args.text.now.items ++ p0 = c.in_ok-push_head.ensures in
    let q1 : List ℕ = later_words c.args.sqe.now 0 in
    let e1 : c.push_later.new.text.items ≡ c.args.text.now.items ++ (p0 ++ q1) = add c.args.text.now.items p0 q1 c.push_head.new.text.items c.push_later.new.text.items e0 c.in_ok-push_later.ensures in
    let p1 : List ℕ = p0 ++ q1 in
    let q2 : List ℕ = given_word c.args.given in
    let e2 : c.push_given.new.text.items ≡ c.args.text.now.items ++ (p1 ++ q2) = add c.args.text.now.items p1 q2 c.push_later.new.text.items c.push_given.new.text.items e1 c.in_ok-push_given.ensures in
    let p2 : List ℕ = p1 ++ q2 in
    let q3 : List ℕ = codes "\n" in
    let h3 : OnOk c.push_bytes.result (c.push_bytes.new.text.items ≡ c.push_given.new.text.items ++ q3) = c.push_bytes.ensures in
    add_last c.push_bytes.result c.args.text.now.items p2 q3 c.push_given.new.text.items c.push_bytes.new.text.items e2 h3
