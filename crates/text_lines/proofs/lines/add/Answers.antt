use Rattle.std.proofs.Common.{◌+◌, ◌++◌, ℕ, List, sym, subst, arith}
use Rattle.text_lines.specs.Lines.{IsFeedFrom}
use Rattle.text_lines.proofs.Feeds.{feed_comes, feed_stays, feed_within}
use Rattle.text_lines.proofs.lines.add.Goals as goal

pub returns-then-end-held-clause-end : goal.returns-then-end-held-clause-end
returns-then-end-held-clause-end c = λ used is.
    subst (λ (b : List ℕ). IsFeedFrom used b c.args.end) (sym c.in_ok-extend_from_slice.ensures.items)
    (feed_stays used c.args.bytes.now.items c.args.piece.now c.args.end is (omega arith))

pub overflow_add-result : goal.overflow_add-result
overflow_add-result c = grind (arith, feed_within)

pub returns-clause-end : goal.returns-clause-end
returns-clause-end c = λ used is.
    let bytes = c.args.bytes.now.items in
    let more = c.args.piece.now in
    subst (λ (b : List ℕ). IsFeedFrom used b (c.args.end + c.feed_place.result)) (sym c.in_ok-extend_from_slice.ensures.items)
    (subst (λ (n : ℕ). IsFeedFrom used (bytes ++ more) (c.args.end + n)) (sym c.feed_place.ensures)
    (feed_comes used bytes more c.args.end is (omega arith)))
