use Rattle.std.proofs.Common.{arith, ◌∙◌, ◌-◌}
use Rattle.std.proofs.lemmas.Option.{slice_get_within}
use Rattle.trace_format.proofs.Spots.{found_here, number_read, first_read, step_read, enter_step, fill_step}
use Rattle.trace_format.proofs.steps.Records.step.Goals as goal

pub index-record_number-requires : goal.index-record_number-requires
index-record_number-requires c =
    let f = found_here _ _ _ _ _ c.self.invariant.0 c.self.invariant.1 c.self.view_is c.requires in
    omega (arith, c.self.inside.record_numbers.ok.0, slice_get_within c.self.inside.record_numbers.items _ f.number f.number_there)

pub index-requires : goal.index-requires
index-requires c =
    let f = found_here _ _ _ _ _ c.self.invariant.0 c.self.invariant.1 c.self.view_is c.requires in
    omega (arith, c.self.inside.firsts.ok.0, slice_get_within c.self.inside.firsts.items _ f.first f.first_there, number_read f _ c.index-record_number.ensures)

pub overflow_sub-entry : goal.overflow_sub-entry
overflow_sub-entry c =
    let f = found_here _ _ _ _ _ c.self.invariant.0 c.self.invariant.1 c.self.view_is c.requires in
    omega (arith, f.begins, first_read f _ c.index-record_number.ensures _ c.index.ensures)

pub index-requires-2 : goal.index-requires-2
index-requires-2 c =
    let f = found_here _ _ _ _ _ c.self.invariant.0 c.self.invariant.1 c.self.view_is c.requires in
    omega (arith, c.self.inside.items.ok.0, slice_get_within c.self.inside.items.items _ f.item f.item_there, number_read f _ c.index-record_number.ensures)

pub at-requires : goal.at-requires
at-requires c =
    let f = found_here _ _ _ _ _ c.self.invariant.0 c.self.invariant.1 c.self.view_is c.requires in
    let r = step_read f _ c.index-record_number.ensures _ _ c.index.ensures c.index-2.ensures in
    rw c.in-Enter.is at r.0

pub returns-in-Enter : goal.returns-in-Enter
returns-in-Enter c =
    let f = found_here _ _ _ _ _ c.self.invariant.0 c.self.invariant.1 c.self.view_is c.requires in
    let r = rw c.in-Enter.is at (step_read f _ c.index-record_number.ensures _ _ c.index.ensures c.index-2.ensures) in
    r.1 ∙ enter_step _ _ (c.args.place - c.index.result.now) c.in-Enter.entries c.at.result c.at.ensures

pub returns-in-Fill : goal.returns-in-Fill
returns-in-Fill c =
    let f = found_here _ _ _ _ _ c.self.invariant.0 c.self.invariant.1 c.self.view_is c.requires in
    let r = rw c.in-Fill.is at (step_read f _ c.index-record_number.ensures _ _ c.index.ensures c.index-2.ensures) in
    r.1 ∙ fill_step _ _ _ _ _ _ r.0
