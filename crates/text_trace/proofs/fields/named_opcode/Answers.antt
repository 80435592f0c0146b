use Rattle.std.proofs.Common.{◌≡◌, ◌≤◌, ◌+◌, length, true, refl, ap, lit≤, arith}
use Rattle.std.specs.Str.{bytes_eq}
use Rattle.text_forms.specs.Names.{opcode_name, opcode_names}
use Rattle.text_words.proofs.Named.{first_is, no_word, none_is, some}
use Rattle.text_trace.proofs.fields.named_opcode.Goals as goal

few : length opcode_names ≤ 64
unfolding opcode_names
few = lit≤ tt

pub returns-then-eq : goal.returns-then-eq
unfolding opcode_name
returns-then-eq c =
    let hit : bytes_eq (opcode_name c.loop-opcode.opcode) c.args.word.now ≡ true = cc (c.if-eq.ensures, c.as_bytes.ensures.value, c.opcode_name.ensures) in
    let found = first_is (λ name. bytes_eq name c.args.word.now) opcode_names 0 c.loop-opcode.opcode (no_word c.args.word.now c.if-is_empty.ensures) hit c.loop-opcode.invariant in
    let same : c.loop-opcode.opcode ≡ 0 + c.loop-opcode.opcode = omega arith in
    rw (← c.if-is_empty.ensures, found) (ap some same)

pub returns : goal.returns
unfolding opcode_name
returns c =
    rw (← c.if-is_empty.ensures, none_is (λ name. bytes_eq name c.args.word.now) opcode_names 0 (λ k lt. c.loop-opcode.invariant k (omega (arith, few)))) refl
