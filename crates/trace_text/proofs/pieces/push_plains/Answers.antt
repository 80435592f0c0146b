use Rattle.std.proofs.Common.{◌≡◌, ℕ, List, ◌++◌, ◌+◌, ◌-◌, length, take, sym, ap, ◌∙◌, append-nil}
use Rattle.text_forms.specs.Strings.{plains, plain_text}
use Rattle.trace_text.proofs.Turns.{nothing_left, plain_goes}
use Rattle.trace_text.proofs.pieces.push_plains.Goals as goal

pub returns-then-is_empty : goal.returns-then-is_empty
returns-then-is_empty c =
    let none = nothing_left c.args.before.now c.loop-count.rest.now (length c.args.bytes.now - c.loop-count.count) (sym c.is_empty.ensures ∙ c.if-is_empty.true) in
    sym (append-nil c.loop-count.text.items) ∙ ap (λ (l : List ℕ). c.loop-count.text.items ++ l) (sym none) ∙ c.loop-count.invariant

pub loop-count-preserved : goal.loop-count-preserved
loop-count-preserved c =
    let text : c.push_front.new.text.items ≡ (c.loop-count.text.items ++ c.args.before.now) ++ plain_text (take 64 c.loop-count.rest.now) =
    c.in_ok-push_front.ensures ∙ ap (λ (l : List ℕ). l ++ plain_text (take 64 c.loop-count.rest.now)) (c.in_ok-extend_from_slice.ensures.items) in
    ap (λ (l : List ℕ). l ++ plains c.args.before.now (length c.args.bytes.now - (c.loop-count.count + 1)) c.behind_front-rest.result.now) text
    ∙ ap (λ (l : List ℕ). ((c.loop-count.text.items ++ c.args.before.now) ++ plain_text (take 64 c.loop-count.rest.now)) ++ plains c.args.before.now (length c.args.bytes.now - (c.loop-count.count + 1)) l) c.behind_front-rest.ensures
    ∙ plain_goes c.args.before.now c.loop-count.rest.now c.loop-count.text.items _ (length c.args.bytes.now) c.loop-count.count c.loop-count-test.true (sym c.is_empty.ensures ∙ c.if-is_empty.false) c.loop-count.invariant
