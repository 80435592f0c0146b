use Rattle.std.proofs.Common.{◌≡◌, ◌-◌, ℕ, None, Some, List, drop, take, sym, subst, arith, length-drop}
use Rattle.text_lines.specs.Lines.{first_line}
use Rattle.text_lines.proofs.Feeds.{no_line, a_line, feed_within}
use Rattle.text_lines.proofs.lines.TextLines.line.Goals as goal

pub returns-then-self-len : goal.returns-then-self-len
returns-then-self-len c =
    let rest = drop c.self.inside.used c.self.inside.bytes.items in
    subst (λ (t : List ℕ). None ≡ first_line t) c.self.view_is (no_line rest (grind (arith, length-drop)))

pub slice_bounds-result-end : goal.slice_bounds-result-end
slice_bounds-result-end c = grind (arith, feed_within, length-drop)

pub returns : goal.returns
returns c =
    let used = c.self.inside.used in
    let n = c.self.inside.end - used in
    let rest = drop used c.self.inside.bytes.items in
    let line = a_line rest n (omega (arith, c.self.invariant.1)) (grind (arith, feed_within, length-drop)) in
    subst (λ (t : List ℕ). Some (take n (drop used c.deref.result.now)) ≡ first_line t) c.self.view_is
    (subst (λ (b : List ℕ). Some (take n (drop used b)) ≡ first_line rest) (sym c.deref.ensures.value) line)
