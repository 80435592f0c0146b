use Rattle.std.proofs.Common.{◌≡◌, ℕ, suc, ◌-◌, ◌+◌, ◌*◌, ◌≤◌, List, ◌++◌, take, drop, length, length-drop, ap, ◌∙◌, arith}
use Rattle.std.specs.Prelude.{codes}
use Rattle.std.specs.Fmt.{decimal}
use Rattle.std.specs.Int.{w64, from_le_bytes}
use Rattle.trace_text.specs.Entry.{lengths_from}
use Rattle.trace_text.proofs.Adds.{add, goes}
use Rattle.trace_text.proofs.entry.push_lengths_from.Goals as goal

pub loop-number-preserved : goal.loop-number-preserved
loop-number-preserved c =
    let count = c.args.count in
    let number = c.loop-number.number in
    let rest = c.loop-number.rest.now in
    let text = c.loop-number.text.items in
    let next = c.push_decimal.new.text.items in
    let value = decimal (from_le_bytes w64 (take 8 rest)) in
    let part : List ℕ = codes "," ++ value in
    let k : count - number ≡ suc (count - (number + 1)) = omega (arith, c.loop-number-test.true) in
    let behind : c.behind_first-rest.result.now ≡ drop 8 rest = c.behind_first-rest.ensures in
    let comma : c.push_bytes.new.text.items ≡ text ++ codes "," = c.in_ok-push_bytes.ensures in
    let digits : next ≡ c.push_bytes.new.text.items ++ value = c.in_ok-push_decimal.ensures ∙ ap (λ (n : ℕ). c.push_bytes.new.text.items ++ decimal n) c.first_length.ensures in
    let wrote : next ≡ text ++ part = add text (codes ",") value c.push_bytes.new.text.items next comma digits in
    let enough : 8 * (count - (number + 1)) ≤ length (drop 8 rest) = omega (arith, length-drop 8 rest, c.loop-number.invariant.enough, k) in
    rw behind (record {
      enough = enough;
      left = goes part (lengths_from (count - (number + 1)) (drop 8 rest)) (lengths_from (count - number) rest) text next _ (ap (λ (n : ℕ). lengths_from n rest) k) wrote c.loop-number.invariant.left;
    })
