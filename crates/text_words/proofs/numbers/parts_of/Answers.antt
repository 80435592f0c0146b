use Rattle.std.proofs.Common.{◌∙◌, ◌+◌, ◌<◌, length, sym, arith, length-drop}
use Rattle.std.specs.Prelude.{◌==◌}
use Rattle.std.proofs.lemmas.Result.{err_from_is_err_and}
use Rattle.text_words.specs.Numbers.{more_parts, parts_of}
use Rattle.text_words.proofs.Parts.{part_fails, part_goes, takes_last, takes_none}
use Rattle.text_words.proofs.numbers.parts_of.Goals as goal
use Rattle.text_words.proofs.numbers.parts_of.Goals.{else-loop-test, then-loop-test+then-part-rest}

pub returns-in_err-total : goal.returns-in_err-total
unfolding parts_of
returns-in_err-total c =
    let p = err_from_is_err_and c.from_residual.result c.from_residual.ensures.1 in
    let lt : length c.part_at-part.result.now < length c.loop.rest.now = omega (arith, c.part_at-part.ensures.within, c.if-part-rest.false) in
    let broken = part_fails (more_parts c.args.style c.args.bits) c.loop.total (λ b. b == 124) c.loop.rest.now c.part_at-part.result.now c.in_err-total.field-0.0 c.part_at-part.ensures.part c.part_at-part.ensures.len lt (sym c.in_err-total.ensures) in
    rw (p.1, p.2) (sym (sym c.loop.invariant.read ∙ broken))

pub loop-preserved : goal.loop-preserved
loop-preserved c =
    let lt : length c.part_at-part.result.now < length c.loop.rest.now = omega (arith, c.part_at-part.ensures.within, c.if-part-rest.false) in
    rw c.behind-rest.ensures (record {
      read = part_goes (more_parts c.args.style c.args.bits) c.loop.total c.in_ok-total.total (λ b. b == 124) c.loop.rest.now c.part_at-part.result.now c.part_at-part.ensures.part c.part_at-part.ensures.len lt (sym c.in_ok-total.ensures) ∙ c.loop.invariant.read;
      within = omega (arith, c.loop.invariant.within, lt, length-drop (length c.part_at-part.result.now + 1) c.loop.rest.now);
    })

pub returns : goal.returns
unfolding parts_of
returns c = elim c.loop-test.branch [
  | else-loop-test w ↦ c.more_parts-2.ensures ∙ sym (takes_none (more_parts c.args.style c.args.bits) c.loop.total (λ b. b == 124) c.loop.rest.now (omega (arith, w.loop-test.false, c.loop.invariant.within, c.loop.auto.counter-end))) ∙ c.loop.invariant.read
  | then-loop-test+then-part-rest w ↦ c.more_parts-2.ensures ∙ sym (takes_last (more_parts c.args.style c.args.bits) c.loop.total (λ b. b == 124) c.loop.rest.now (sym w.part_at-part.ensures.len ∙ w.if-part-rest.true)) ∙ c.loop.invariant.read
]
