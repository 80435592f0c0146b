use Rattle.std.proofs.Common.{◌∙◌, ◌+◌, ◌<◌, length, sym, arith, length-drop}
use Rattle.std.specs.Prelude.{◌==◌}
use Rattle.text_words.proofs.Exits.{goes_out}
use Rattle.text_words.proofs.Parts.{part_fails, part_goes, takes_last, takes_none}
use Rattle.text_trace.specs.Entry.{more_lengths}
use Rattle.text_trace.proofs.entry.push_lengths.Goals as goal
use Rattle.text_trace.proofs.entry.push_lengths.Goals.{else-loop-test, then-loop-test+then-part-rest}

pub returns-in_err-left : goal.returns-in_err-left
returns-in_err-left c =
    let lt : length c.part_at-part.result.now < length c.loop.rest.now = omega (arith, c.part_at-part.ensures.within, c.if-part-rest.false) in
    goes_out _ _ _ _ _ c.from_residual.ensures.1 c.in_err-left.ensures
    (λ f e. sym c.loop.invariant.read ∙ part_fails more_lengths (c.loop.lengths.items, c.loop.left) (λ b. b == 44) c.loop.rest.now c.part_at-part.result.now f c.part_at-part.ensures.part c.part_at-part.ensures.len lt e)

pub loop-preserved : goal.loop-preserved
loop-preserved c =
    let lt : length c.part_at-part.result.now < length c.loop.rest.now = omega (arith, c.part_at-part.ensures.within, c.if-part-rest.false) in
    rw c.behind-rest.ensures (record {
      read = part_goes more_lengths (c.loop.lengths.items, c.loop.left) _ (λ b. b == 44) c.loop.rest.now c.part_at-part.result.now c.part_at-part.ensures.part c.part_at-part.ensures.len lt c.in_ok-left.ensures ∙ c.loop.invariant.read;
      within = omega (arith, c.loop.invariant.within, lt, length-drop (length c.part_at-part.result.now + 1) c.loop.rest.now);
    })

pub returns : goal.returns
returns c = elim c.loop-test.branch [
  | else-loop-test w ↦ rw (sym c.loop.invariant.read ∙ takes_none more_lengths (c.loop.lengths.items, c.loop.left) (λ b. b == 44) c.loop.rest.now (omega (arith, w.loop-test.false, c.loop.invariant.within, c.loop.auto.counter-end))) c.push_length-2.ensures
  | then-loop-test+then-part-rest w ↦ rw (sym c.loop.invariant.read ∙ takes_last more_lengths (c.loop.lengths.items, c.loop.left) (λ b. b == 44) c.loop.rest.now (sym w.part_at-part.ensures.len ∙ w.if-part-rest.true)) c.push_length-2.ensures
]
