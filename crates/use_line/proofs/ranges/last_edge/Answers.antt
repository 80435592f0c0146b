use Rattle.std.proofs.Common.{add-one, arith, length, subst, take, ◌≡◌, ℕ, List}
use Rattle.std.proofs.Math.Seq.{take-length}
use Rattle.use_line.specs.declared.line.Span.{Span}
use Rattle.use_line.proofs.Telling.{AreOutside, IsOutside, all_next, later, outside_same, outside_up}
use Rattle.use_line.proofs.ranges.last_edge.Goals as goal

pub loop-span-preserved : goal.loop-span-preserved
loop-span-preserved c =
    let inv = c.loop-span.invariant in
    let one = c.later_edge-edge.ensures in
    let two = c.later_edge-edge-in-loop-span.ensures in
    let edge : ℕ = c.later_edge-edge-in-loop-span.result in
    record {
      from = omega (arith, inv.from, one.from, two.from);
      to = two.to;
      outside = rw add-one (all_next (IsOutside edge c.args.high) c.args.spans.now c.loop-span.span-index _ c.loop-span-test.true
          (outside_up c.loop-span.edge edge c.args.high (take c.loop-span.span-index c.args.spans.now) (omega (arith, one.from, two.from)) inv.outside)
          (later _ c.later_edge-edge.result edge c.args.high two.from one.at, two.at));
    }

pub returns-clause-same : goal.returns-clause-same
returns-clause-same c = λ b t.
    let spans = c.args.spans.now in
    let edge : ℕ = c.loop-span.edge in
    let all : c.loop-span.span-index ≡ length spans = omega (arith, c.loop-span-test.false, c.loop-span.auto.span-index-end) in
    let outside : AreOutside edge c.args.high (take (length spans) spans) = subst (λ (n : ℕ). AreOutside edge c.args.high (take n spans)) all c.loop-span.invariant.outside in
    outside_same edge c.args.high b spans (subst (λ (ss : List Span). AreOutside edge c.args.high ss) (take-length spans) outside) t
