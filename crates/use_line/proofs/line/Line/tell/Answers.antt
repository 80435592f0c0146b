use Rattle.std.proofs.Common.{arith, ap, sym, subst, ◌≡◌, ◌≤◌, ◌||◌, ◌^◌, ◌∙◌, ℕ}
use Rattle.std.proofs.lemmas.Result.{on_ok_weaker}
use Rattle.use_line.specs.Known.{AddsTold, Known, Uses, is_among, known_at, told_of}
use Rattle.use_line.specs.Spans.{written_by}
use Rattle.use_line.proofs.Singles.{known_spot, told_number, told_rest}
use Rattle.use_line.proofs.line.Line.tell.Goals.{then-loop-number-test+else-number-lt-SINGLE, else-loop-number-test}
use Rattle.use_line.proofs.line.Line.tell.Goals as goal

pub loop-number-preserved : goal.loop-number-preserved
loop-number-preserved c =
    let inv = c.loop-number.invariant in
    let number : ℕ = c.loop-number.number in
    let span = c.args.span.now in
    let own = c.args.own.now in
    let mid = c.loop-number.told.items in
    let u : Uses = record { spots = c.self.inside.spots; ranges = c.self.inside.ranges } in
    let is : u ≡ c.args.self.now = c.self.view_is in
    let known = sym (known_spot u number c.if-number-lt-SINGLE.true) ∙ ap (λ (v : Uses). known_at v number) is in
    record {
      from = omega (arith, inv.from);
      to = omega (arith, c.loop-number-test.true);
      told = told_number (known_at c.args.self.now) own span.written span.low number c.args.told.now.items mid c.tell.new.told.items inv.from inv.told
          (λ j. c.in_ok-tell.ensures j ∙ ap (λ (k : Known). is_among mid j || told_of k span.written (written_by own number) j) known);
    }

pub returns-then-number-span : goal.returns-then-number-span
returns-then-number-span c =
    let inv = c.loop-number.invariant in
    let number : ℕ = c.loop-number.number in
    let span = c.args.span.now in
    let own = c.args.own.now in
    let told = c.args.told.now.items in
    let mid = c.loop-number.told.items in
    let new = c.tell-then-number-span.new.told.items in
    let u : Uses = record { spots = c.self.inside.spots; ranges = c.self.inside.ranges } in
    let is : u ≡ c.args.self.now = c.self.view_is in
    let far : 2 ^ 76 ≤ number = (elim c.loop-number-test.branch [
      | then-loop-number-test+else-number-lt-SINGLE w ↦ w.if-number-lt-SINGLE.false
      | else-loop-number-test w ↦ absurd (omega (arith, w.loop-number-test.false, c.if-number-span.true))
    ]) in
    let before = subst (λ (v : Uses). AddsTold v own span.written span.low number told mid) (sym is) inv.told in
    on_ok_weaker c.tell-then-number-span.result (λ after. subst (λ (v : Uses). AddsTold v own span.written span.low span.high told new) is
    (told_rest u own span.written span.low number span.high told mid new inv.from far c.if-number-span.true before after)) c.tell-then-number-span.ensures

pub returns : goal.returns
returns c =
    let inv = c.loop-number.invariant in
    let span = c.args.span.now in
    let same : c.loop-number.number ≡ span.high = omega (arith, inv.to, c.if-number-span.false) in
    subst (λ (n : ℕ). AddsTold c.args.self.now c.args.own.now span.written span.low n c.args.told.now.items c.loop-number.told.items) same inv.told
