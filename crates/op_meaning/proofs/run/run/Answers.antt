use Rattle.std.proofs.Common.{◌≡◌, ◌++◌, ap, ◌∙◌, arith, rules}
use Rattle.std.proofs.lemmas.Grind.{common_steps}
use Rattle.std.specs.Prelude.{◌||◌, not}
use Rattle.entry_checks.specs.Check.{has, skip_success}
use Rattle.entry_checks.specs.Meant.{meant}
use Rattle.world_parts.specs.World.{apply_all}
use Rattle.op_meaning.specs.Site.{site_meant}
use Rattle.op_meaning.specs.Meaning.{meaning}
use Rattle.op_meaning.specs.Outcomes.{answered, fails_as, reply_with}
use Rattle.op_meaning.specs.Step.{breaks, changes_of, failed}
use Rattle.op_meaning.proofs.Answering.{fails, replied, small_outcome, changed}
use Rattle.op_meaning.proofs.OpLaws.{small}
use Rattle.op_meaning.proofs.run.run.Goals.{then-not-has, else-not-has}
use Rattle.op_meaning.proofs.run.run.Goals as goal

pub reply_to-requires : goal.reply_to-requires
reply_to-requires c =
    let o = meant c.args.op in
    let x = meaning (site_meant c.args.site) c.args.state.now o in
    small_outcome c.in_ok-outcome.outcome x c.in_ok-outcome.ensures.answer (small c.args.site.trace.now c.args.site.place c.args.site.ring c.args.state.now o c.requires.site.trace c.requires.short)

pub returns-clause-reply : goal.returns-clause-reply
returns-clause-reply c =
    let o = meant c.args.op in
    let e = c.args.entry.now in
    let x = meaning (site_meant c.args.site) c.args.state.now o in
    let failure : c.failed-fails.result ≡ failed o x = c.failed-fails.ensures ∙ (λ i. fails_as (c.told-told.ensures i) (c.asked-asked.ensures i) (c.in_ok-outcome.ensures.answer i)) ∙ fails o x in
    let posts : c.if-not-has.posted ≡ (not (has e.sqe.flags skip_success) || c.failed-fails.result)
    = elim c.if-not-has.branch [
      | then-not-has w ↦ first_of (search rules, grind (arith, common_steps))
      | else-not-has w ↦ first_of (search rules, grind (arith, common_steps))
    ] in
    replied e o x c.reply_to.result c.if-not-has.posted c.failed-fails.result _ (c.reply_to.ensures ∙ (λ i. reply_with (c.told-told.ensures i) c.if-not-has.posted (answered c.in_ok-outcome.outcome))) c.in_ok-outcome.ensures.answer posts failure

pub returns-clause-state : goal.returns-clause-state
returns-clause-state c =
    let o = meant c.args.op in
    let s = c.args.state.now in
    let e = c.args.entry.now in
    let x = meaning (site_meant c.args.site) s o in
    let failure : c.failed-fails.result ≡ failed o x = c.failed-fails.ensures ∙ (λ i. fails_as (c.told-told.ensures i) (c.asked-asked.ensures i) (c.in_ok-outcome.ensures.answer i)) ∙ fails o x in
    changed s c.run_operation.new.state c.break_chain.new.state c.args.role_there.now e x c.failed-fails.result (failed o x) c.in_ok-outcome.ensures.state c.in_ok-break_chain.ensures failure
    ∙ ap (λ d. apply_all (changes_of x ++ breaks d e (failed o x)) s) c.requires.role
