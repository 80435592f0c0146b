-- The double rotation.
use Rattle.std.proofs.Common.{◌≡◌, ◌+◌, ◌-◌, rules, arith, ap, ◌∙◌}
use Rattle.std.specs.Arc.{arc_value}
use Rattle.extent_bytes.specs.Pages.{PageMap, page_of, IsJoined}
use Rattle.extent_bytes.proofs.Joins.{turned_left}
use Rattle.extent_bytes.proofs.joining.lean_right.Goals as goal

pub returns : goal.returns
returns c =
    let a = c.in-Fork in
    let b = c.in-Fork-deref in
    let l : PageMap = arc_value c.args.left in
    let d : arc_value c.args.right ≡ c.deref-3.result.now = search rules in
    let e : arc_value a.middle ≡ c.deref-6.result.now = search rules in
    let r : IsJoined (arc_value a.middle) a.near (arc_value a.last) (arc_value c.args.right) = λ j. ap (λ s. page_of s j) (d ∙ a.is) in
    let m : IsJoined (arc_value b.first) b.half (arc_value b.second) (arc_value a.middle) = λ j. ap (λ s. page_of s j) (e ∙ b.is) in
    let x : IsJoined l c.args.width (arc_value b.first) (arc_value c.in_ok-lower.lower) = search rules in
    let y : IsJoined (arc_value b.second) (a.near - b.half) (arc_value a.last) (arc_value c.in_ok-upper.upper) = search rules in
    let z : IsJoined (arc_value c.in_ok-lower.lower) (c.args.width + b.half) (arc_value c.in_ok-upper.upper) (arc_value c.in_ok-new.field-0) = search rules in
    turned_left l _ _ _ _ _ _ _ _ c.args.width b.half a.near (omega arith) r m x y z
