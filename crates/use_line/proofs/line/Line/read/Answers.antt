use Rattle.std.proofs.Common.{arith, inl, subst, ◌≤◌, ◌==◌, ◌^◌, ℕ, Bool}
use Rattle.std.proofs.lemmas.Result.{on_ok_weaker}
use Rattle.use_line.specs.Known.{HasRead, Uses, known_at}
use Rattle.use_line.specs.Spans.{within}
use Rattle.use_line.proofs.Singles.{last_part, next_part, range_read, read_both, spot_read, whole_part}
use Rattle.use_line.proofs.line.Line.read.Goals.{then-loop-number-test+else-number-lt-SINGLE, else-loop-number-test}
use Rattle.use_line.proofs.line.Line.read.Goals as goal

pub loop-number-preserved : goal.loop-number-preserved
loop-number-preserved c =
    let inv = c.loop-number.invariant in
    let number : ℕ = c.loop-number.number in
    let place : ℕ = c.args.place in
    let inside = c.loop-number.self-inside in
    record {
      from = omega (arith, inv.from);
      to = inl (omega (arith, c.loop-number-test.true));
      read = λ b. read_both _ _ _ (within c.args.low number b) (b == number) _ place (next_part c.args.low number b inv.from) (inv.read b)
          (spot_read inside.spots c.read.new.self inside.ranges number place c.if-number-lt-SINGLE.true c.in_ok-read.ensures b);
    }

pub returns-then-number-high : goal.returns-then-number-high
returns-then-number-high c =
    let inv = c.loop-number.invariant in
    let number : ℕ = c.loop-number.number in
    let low : ℕ = c.args.low in
    let high : ℕ = c.args.high in
    let place : ℕ = c.args.place in
    let inside = c.loop-number.self-inside in
    let far : 2 ^ 76 ≤ number = (elim c.loop-number-test.branch [
      | then-loop-number-test+else-number-lt-SINGLE w ↦ w.if-number-lt-SINGLE.false
      | else-loop-number-test w ↦ absurd (omega (arith, w.loop-number-test.false, c.if-number-high.true))
    ]) in
    on_ok_weaker c.read-then-number-high.result (λ more b. read_both _ _ _ (within low number b) (within number high b) _ place (last_part low number high b inv.from c.if-number-high.true) (inv.read b)
    (range_read inside.spots inside.ranges c.read-then-number-high.new.self number high place far more b)) c.read-then-number-high.ensures

pub returns : goal.returns
returns c = λ b.
    let inv = c.loop-number.invariant in
    let inside = c.loop-number.self-inside in
    let u : Uses = record { spots = inside.spots; ranges = inside.ranges } in
    subst (λ (y : Bool). HasRead (known_at c.args.self.now b) (known_at u b) y c.args.place) (whole_part c.args.low c.loop-number.number c.args.high b inv.from c.if-number-high.false inv.to) (inv.read b)
