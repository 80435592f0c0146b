use Rattle.std.proofs.Common.{◌≡◌, ℕ, List, [], OnOk, ◌++◌}
use Rattle.std.specs.Prelude.{codes}
use Rattle.text_forms.specs.Strings.{path_text}
use Rattle.trace_text.specs.Fields.{decimal_word, field, op_flags_word}
use Rattle.trace_text.proofs.Adds.{add, add_last}
use Rattle.records_text.proofs.sets.push_opened.Goals as goal

pub returns : goal.returns
returns c =
    let key : List ℕ = field (codes "path") [] in
    let name : List ℕ = path_text c.args.path.now in
    let e0 : c.push_key.new.text.items ≡ c.args.text.now.items ++ key = c.in_ok-push_key.ensures in
    let e1 : c.push_path.new.text.items ≡ c.args.text.now.items ++ (key ++ name) = add c.args.text.now.items key name c.push_key.new.text.items c.push_path.new.text.items e0 c.in_ok-push_path.ensures in
    let p1 : List ℕ = key ++ name in
    let q2 : List ℕ = op_flags_word 18 c.args.flags in
    let e2 : c.push_op_flags.new.text.items ≡ c.args.text.now.items ++ (p1 ++ q2) = add c.args.text.now.items p1 q2 c.push_path.new.text.items c.push_op_flags.new.text.items e1 c.in_ok-push_op_flags.ensures in
    let p2 : List ℕ = p1 ++ q2 in
    let q3 : List ℕ = decimal_word (codes "pos") c.args.position in
    let h3 : OnOk c.push_number.result (c.push_number.new.text.items ≡ c.push_op_flags.new.text.items ++ q3) = c.push_number.ensures in
    add_last c.push_number.result c.args.text.now.items p2 q3 c.push_op_flags.new.text.items c.push_number.new.text.items e2 h3
