use Rattle.std.proofs.Common.{ℕ, ◌++◌, List, ap, sym, ◌∙◌, arith}
use Rattle.std.proofs.lemmas.Result.{on_ok_weaker}
use Rattle.trace_text.proofs.Digits.{none_is}
use Rattle.trace_text.proofs.Places.{adds_none, named_none, named_one, past_all}
use Rattle.trace_text.proofs.below.push_named.Goals as goal

pub returns-in_default : goal.returns-in_default
returns-in_default g c =
    let lines = g.T.Placed.lines c.args.trace.now in
    adds_none lines c.args.word.now c.args.text.now.items
    (named_none lines c.args.word.now (λ k lt is. none_is (c.in_default.ensures.all k (omega (arith, c.count-places.ensures)) is)))

pub returns-then-place-places : goal.returns-then-place-places
returns-then-place-places g c =
    let lines = g.T.Placed.lines c.args.trace.now in
    adds_none lines c.args.word.now c.args.text.now.items
    (past_all lines c.args.word.now c.in-Some.place (omega arith) (omega (arith, c.count-places.ensures)) c.in-Some.ensures.number)

pub returns : goal.returns
returns g c =
    let lines = g.T.Placed.lines c.args.trace.now in
    let line = named_one lines c.args.word.now c.in-Some.place (omega (arith, c.count-places.ensures)) (omega (arith, c.count-places.ensures)) c.in-Some.ensures.number in
    on_ok_weaker c.push_line.result (λ e. e ∙ ap (λ (l : List ℕ). c.args.text.now.items ++ l) (sym line)) c.push_line.ensures
