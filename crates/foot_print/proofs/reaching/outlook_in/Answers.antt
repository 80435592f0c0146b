use Rattle.std.proofs.Common.{ℕ, List, ⊎_elim, ◌++◌, ◌∙◌, ap, sym, false, Some}
use Rattle.std.proofs.lemmas.Bool.{false≢true}
use Rattle.entry_checks.specs.Meant.{meant}
use Rattle.recording.specs.Rings.{queue_of}
use Rattle.trace_records.specs.declared.record.FullSlot.{FullSlot}
use Rattle.foot_print.proofs.Given.{uncanceled}
use Rattle.foot_print.proofs.Outlooks.{calls_outlook, filled_outlook, members_outlook, refused_outlook, registered_outlook}
use Rattle.foot_print.specs.Reach.{is_canceled}
use Rattle.foot_print.specs.declared.reaching.Awaited.TheVariants.{Reach}
use Rattle.item_index.specs.Ahead.{written_before}
use Rattle.foot_print.specs.Footprint.{order_uses, turn_uses}
use Rattle.op_meaning.specs.Step.{called, filled, registered}
use Rattle.op_meaning.specs.Turns.{kind_meant}
use Rattle.op_meaning.specs.declared.turn.TurnKind.{TurnKind}
use Rattle.world_parts.specs.Items.{Footprint}
use Rattle.foot_print.proofs.reaching.outlook_in.Goals as goal

pub returns-in_ok-fill_uses-in-Fills : goal.returns-in_ok-fill_uses-in-Fills
returns-in_ok-fill_uses-in-Fills c =
    let t = c.args.trace.now in
    let k = c.args.place in
    let s = c.args.state.now in
    let r = c.turn_under-ring.result.ring in
    let f = c.in-Fills in
    let task = ap (λ kind. Some (kind_meant r kind)) (sym f.is) ∙ c.turn_under-ring.ensures.turn in
    let uses = λ (new : List ℕ). turn_uses t k s (filled r f.buffer f.offset new) in
    let order = c.in_ok-reach-in-Fills.ensures ∙ (λ i. order_uses ((c.queue-queue.ensures ∙ ap (queue_of t) c.turn_under-ring.ensures.ring) i) (c.requires.role i)) in
    let reach = c.in_ok-fill_uses-in-Fills.ensures ∙ (λ i. order i ++ uses (c.as_slice.ensures i)) in
    filled_outlook t k s (written_before c.args.behind.now) c.ready.result r f.buffer f.offset f.bytes.now task
    (c.ready.ensures ∙ ap (λ (g : Footprint). record { reach = g; waits_by = Reach; takes_lowest = false }) reach)

pub returns-in_ok-register_uses-in-Registers : goal.returns-in_ok-register_uses-in-Registers
returns-in_ok-register_uses-in-Registers c =
    let t = c.args.trace.now in
    let k = c.args.place in
    let s = c.args.state.now in
    let r = c.turn_under-ring.result.ring in
    let f = c.in-Registers in
    let task = ap (λ kind. Some (kind_meant r kind)) (sym f.is) ∙ c.turn_under-ring.ensures.turn in
    let uses = λ (slots : List FullSlot). turn_uses t k s (registered r slots) in
    let order = c.in_ok-reach-in-Registers.ensures ∙ (λ i. order_uses ((c.queue-queue.ensures ∙ ap (queue_of t) c.turn_under-ring.ensures.ring) i) (c.requires.role i)) in
    let reach = c.in_ok-register_uses-in-Registers.ensures ∙ (λ i. order i ++ uses (c.as_slice-in-Registers.ensures i)) in
    registered_outlook t k s (written_before c.args.behind.now) c.ready-in-Registers.result r f.slots.now task
    (c.ready-in-Registers.ensures ∙ ap (λ (g : Footprint). record { reach = g; waits_by = Reach; takes_lowest = false }) reach)

pub returns-in_ok-order_of-in-Refused : goal.returns-in_ok-order_of-in-Refused
returns-in_ok-order_of-in-Refused c =
    let t = c.args.trace.now in
    let k = c.args.place in
    let meant_here = λ (kind : TurnKind). Some (kind_meant c.turn_under-ring.result.ring kind) in
    let order = c.in_ok-order_of-in-Refused.ensures ∙ (λ i. order_uses ((c.queue-queue.ensures ∙ ap (queue_of t) c.turn_under-ring.ensures.ring) i) (c.requires.role i)) in
    ⊎_elim
    (λ x. refused_outlook t k c.args.state.now (written_before c.args.behind.now) c.ready-in-Refused.result x.0 x.1 (ap meant_here (sym x.2) ∙ c.turn_under-ring.ensures.turn)
    (c.ready-in-Refused.ensures ∙ ap (λ (g : Footprint). record { reach = g; waits_by = Reach; takes_lowest = false }) order))
    (λ x. absurd (false≢true (sym (uncanceled t k) ∙ sym (ap is_canceled (ap meant_here (sym x.1) ∙ c.turn_under-ring.ensures.turn)))))
    c.in-Refused.is

pub returns-in-Runs : goal.returns-in-Runs
returns-in-Runs c =
    let r = c.turn_under-ring.result.ring in
    let f = c.in-Runs in
    let task = ap (λ kind. Some (kind_meant r kind)) (sym f.is) ∙ c.turn_under-ring.ensures.turn in
    members_outlook c.args.trace.now c.args.place c.args.state.now (written_before c.args.behind.now) r c.args.role_there.now f.entry (meant f.op) c.turn_under-ring.ensures.ring c.requires.role task
    c.running_outlook.result c.running_outlook.ensures.reach c.running_outlook.ensures.awaits

pub returns-in-Calls : goal.returns-in-Calls
returns-in-Calls c =
    let r = c.turn_under-ring.result.ring in
    let f = c.in-Calls in
    let task = ap (λ o. Some (called r o)) c.op.ensures.operation ∙ ap (λ kind. Some (kind_meant r kind)) (sym f.is) ∙ c.turn_under-ring.ensures.turn in
    calls_outlook c.args.trace.now c.args.place c.args.state.now (written_before c.args.behind.now) r c.args.role_there.now (meant c.op.result) c.turn_under-ring.ensures.ring c.requires.role task
    c.operation_outlook.result c.operation_outlook.ensures.reach c.operation_outlook.ensures.awaits
