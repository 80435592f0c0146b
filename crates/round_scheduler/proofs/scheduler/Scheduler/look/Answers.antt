use Rattle.std.proofs.Common.{subst, ap, ◌∙◌}
use Rattle.chain_plan.proofs.Walk.{length-roles}
use Rattle.foot_print.specs.Footprint.{footprint}
use Rattle.item_index.specs.Ahead.{written_before}
use Rattle.foot_print.specs.Outlook.{IsOutlook}
use Rattle.round_scheduler.proofs.Seeing.{seen_met, seen_held, seen_free}
use Rattle.round_scheduler.proofs.scheduler.Scheduler.look.Goals as goal

pub role-role-requires : goal.role-role-requires
role-role-requires c = rw (c.requires.plan, length-roles) c.requires.place

pub returns-then-meets : goal.returns-then-meets
returns-then-meets c = λ window world before index.
    let t = c.args.trace.now in
    let k = c.args.place in
    let b = c.behind-behind.result in
    seen_met t c.requires.trace window c.args.self.now.round k c.args.earlier.now c.args.self.now before b (c.behind-behind.ensures _ before.reaches_are index)
    c.in_ok-footprint.footprint (c.in_ok-footprint.ensures ∙ ap (footprint t k) (c.state.ensures ∙ world)) c.if-meets.ensures c.in_ok-outlook.outlook
    (subst (λ s. IsOutlook t k s (written_before b) c.in_ok-outlook.outlook) (c.state-then-meets.ensures ∙ world) c.in_ok-outlook.ensures)
    c.role-role.result.chain (ap (λ r. r.chain) (c.role-role.ensures.of_trace t c.requires.plan)) c.in_ok-rest.rest _ c.as_slice-reaches.ensures.value c.in_ok-rest.ensures

pub returns-then-collides : goal.returns-then-collides
returns-then-collides c = λ window world before index.
    let t = c.args.trace.now in
    let k = c.args.place in
    seen_held t c.requires.trace window c.args.self.now.round k c.args.earlier.now c.args.self.now before c.behind-behind.result (c.behind-behind.ensures _ before.reaches_are index)
    c.in_ok-footprint.footprint (c.in_ok-footprint.ensures ∙ ap (footprint t k) (c.state.ensures ∙ world)) c.if-meets.ensures c.if-collides.ensures c.in_ok-rest-2.rest _ c.as_slice-reaches-then-collides.ensures.value c.in_ok-rest-2.ensures

pub returns : goal.returns
returns c = λ window world before index.
    let t = c.args.trace.now in
    let k = c.args.place in
    seen_free t c.requires.trace window c.args.self.now.round k c.args.earlier.now c.args.self.now before c.behind-behind.result (c.behind-behind.ensures _ before.reaches_are index)
    c.in_ok-footprint.footprint (c.in_ok-footprint.ensures ∙ ap (footprint t k) (c.state.ensures ∙ world)) c.if-meets.ensures c.if-collides.ensures
