use Rattle.std.proofs.Common.{◌≡◌, length, min, sym, ◌∙◌, arith}
use Rattle.replay_core.proofs.Differences.{ends_apart}
use Rattle.replay_core.proofs.Lists.{take-whole}
use Rattle.replay_core.proofs.comparing.first_difference.Goals as goal

pub returns-then-len : goal.returns-then-len
returns-then-len c =
    let one = c.args.one.now in
    let other = c.args.other.now in
    let least : c.min-both.result ≡ min (length one) (length other) = c.min-both.ensures ∙ (λ i. min (c.len.ensures i) (c.len-2.ensures i)) in
    let long : length one ≡ length other = sym c.len-3.ensures ∙ c.if-len.true ∙ c.len-4.ensures in
    sym (take-whole one c.min-both.result (omega (arith, least, long))) ∙ c.in_default.ensures c.requires.same ∙ take-whole other c.min-both.result (omega (arith, least, long))

pub returns-else-len : goal.returns-else-len
returns-else-len c = record {
  before = c.in_default.ensures c.requires.same;
  here = ends_apart c.args.one.now c.args.other.now c.min-both.result (c.min-both.ensures ∙ (λ i. min (c.len.ensures i) (c.len-2.ensures i)))
      (λ e. c.if-len.false (c.len-3.ensures ∙ e ∙ sym c.len-4.ensures));
}
