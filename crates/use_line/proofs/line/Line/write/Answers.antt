use Rattle.std.proofs.Common.{arith, inl, subst, ◌≡◌, ◌≤◌, ◌==◌, ◌^◌, ℕ, Bool, if◌then◌else◌}
use Rattle.std.proofs.lemmas.Result.{on_ok_weaker}
use Rattle.use_line.specs.Known.{Uses, known_at, written_at}
use Rattle.use_line.specs.Spans.{within}
use Rattle.use_line.proofs.Singles.{last_part, next_part, range_written, spot_written, whole_part, written_both}
use Rattle.use_line.proofs.line.Line.write.Goals.{then-loop-number-test+else-number-lt-SINGLE, else-loop-number-test}
use Rattle.use_line.proofs.line.Line.write.Goals as goal

pub loop-number-preserved : goal.loop-number-preserved
loop-number-preserved c =
    let inv = c.loop-number.invariant in
    let number : ℕ = c.loop-number.number in
    let place : ℕ = c.args.place in
    let inside = c.loop-number.self-inside in
    record {
      from = omega (arith, inv.from);
      to = inl (omega (arith, c.loop-number-test.true));
      written = λ b. written_both _ _ _ (written_at place) (within c.args.low number b) (b == number) _ (next_part c.args.low number b inv.from) (inv.written b)
          (spot_written inside.spots c.write.new.self inside.ranges number place c.if-number-lt-SINGLE.true c.in_ok-write.ensures b);
    }

pub returns-then-number-high : goal.returns-then-number-high
returns-then-number-high c =
    let inv = c.loop-number.invariant in
    let number : ℕ = c.loop-number.number in
    let low : ℕ = c.args.low in
    let high : ℕ = c.args.high in
    let place : ℕ = c.args.place in
    let inside = c.loop-number.self-inside in
    let far : 2 ^ 76 ≤ number = (elim c.loop-number-test.branch [
      | then-loop-number-test+else-number-lt-SINGLE w ↦ w.if-number-lt-SINGLE.false
      | else-loop-number-test w ↦ absurd (omega (arith, w.loop-number-test.false, c.if-number-high.true))
    ]) in
    on_ok_weaker c.write-then-number-high.result (λ more b. written_both _ _ _ (written_at place) (within low number b) (within number high b) _ (last_part low number high b inv.from c.if-number-high.true) (inv.written b)
    (range_written inside.spots inside.ranges c.write-then-number-high.new.self number high place far more b)) c.write-then-number-high.ensures

pub returns : goal.returns
returns c = λ b.
    let inv = c.loop-number.invariant in
    let inside = c.loop-number.self-inside in
    let u : Uses = record { spots = inside.spots; ranges = inside.ranges } in
    subst (λ (y : Bool). known_at u b ≡ (if y then written_at c.args.place else known_at c.args.self.now b)) (whole_part c.args.low c.loop-number.number c.args.high b inv.from c.if-number-high.false inv.to) (inv.written b)
