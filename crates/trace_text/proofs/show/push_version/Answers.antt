use Rattle.std.proofs.Common.{◌≡◌, ℕ, List, OnOk, ◌++◌}
use Rattle.std.specs.Prelude.{codes}
use Rattle.std.specs.Fmt.{decimal}
use Rattle.trace_text.proofs.Adds.{add, add_last}
use Rattle.trace_text.proofs.show.push_version.Goals as goal

pub returns : goal.returns
returns c =
    let p0 : List ℕ = codes "uring-trace " in
    let e0 : c.push_bytes.new.text.items ≡ c.args.text.now.items ++ p0 = c.in_ok-push_bytes.ensures in
    let q1 : List ℕ = decimal c.args.number in
    let h1 : c.push_decimal.new.text.items ≡ c.push_bytes.new.text.items ++ q1 = c.in_ok-push_decimal.ensures in
    let e1 : c.push_decimal.new.text.items ≡ c.args.text.now.items ++ (p0 ++ q1) = add c.args.text.now.items p0 q1 c.push_bytes.new.text.items c.push_decimal.new.text.items e0 h1 in
    let p1 : List ℕ = p0 ++ q1 in
    let q2 : List ℕ = codes "\n" in
    let h2 : OnOk c.push_bytes-2.result (c.push_bytes-2.new.text.items ≡ c.push_decimal.new.text.items ++ q2) = c.push_bytes-2.ensures in
    add_last c.push_bytes-2.result c.args.text.now.items p1 q2 c.push_decimal.new.text.items c.push_bytes-2.new.text.items e1 h2
