use Rattle.std.proofs.Common.{arith, ◌∙◌, ◌-◌}
use Rattle.std.proofs.lemmas.Option.{slice_get_within}
use Rattle.recording.proofs.Spots.{found_here, place_back, same_place, index_read, first_read, step_read, enter_step, one_step, one_step_on}
use Rattle.recording.proofs.kept.Grown.step.Goals as goal

pub index-index-requires : goal.index-index-requires
index-index-requires c =
    let f = found_here _ _ _ _ _ _ c.self.invariant.0 c.self.invariant.1 c.self.view_is c.requires.behind c.requires.within in
    omega (arith, c.self.inside.indexes.ok.0, slice_get_within c.self.inside.indexes.items _ f.number f.number_there)

pub index-first-requires : goal.index-first-requires
index-first-requires c =
    let f = found_here _ _ _ _ _ _ c.self.invariant.0 c.self.invariant.1 c.self.view_is c.requires.behind c.requires.within in
    omega (arith, c.self.inside.firsts.ok.0, slice_get_within c.self.inside.firsts.items _ f.first f.first_there, index_read f _ c.index-index.ensures)

pub index-requires : goal.index-requires
index-requires c =
    let f = found_here _ _ _ _ _ _ c.self.invariant.0 c.self.invariant.1 c.self.view_is c.requires.behind c.requires.within in
    omega (arith, c.self.inside.records.ok.0, slice_get_within c.self.inside.records.items _ f.item f.item_there, index_read f _ c.index-index.ensures)

pub overflow_sub-place-in-Enter : goal.overflow_sub-place-in-Enter
overflow_sub-place-in-Enter c =
    let f = found_here _ _ _ _ _ _ c.self.invariant.0 c.self.invariant.1 c.self.view_is c.requires.behind c.requires.within in
    omega (arith, f.begins, place_back _ _ _ _ c.self.view_is c.requires.behind, first_read f _ c.index-index.ensures _ c.index-first.ensures)

pub at-requires : goal.at-requires
at-requires c =
    let f = found_here _ _ _ _ _ _ c.self.invariant.0 c.self.invariant.1 c.self.view_is c.requires.behind c.requires.within in
    let r = step_read f _ c.index-index.ensures c.args.place _ _ (place_back _ _ _ _ c.self.view_is c.requires.behind) c.index-first.ensures c.index.ensures in
    rw c.in-Enter.is at r.0

pub returns-in-Enter : goal.returns-in-Enter
returns-in-Enter c =
    let f = found_here _ _ _ _ _ _ c.self.invariant.0 c.self.invariant.1 c.self.view_is c.requires.behind c.requires.within in
    let r = rw c.in-Enter.is at (step_read f _ c.index-index.ensures c.args.place _ _ (place_back _ _ _ _ c.self.view_is c.requires.behind) c.index-first.ensures c.index.ensures) in
    same_place _ _ _ _ c.self.view_is ∙ r.1 ∙ enter_step _ _ (c.args.place - c.index-first.result.now) c.in-Enter.entries c.at.result c.at.ensures

pub returns-in-Fill : goal.returns-in-Fill
returns-in-Fill c =
    let f = found_here _ _ _ _ _ _ c.self.invariant.0 c.self.invariant.1 c.self.view_is c.requires.behind c.requires.within in
    let r = rw c.in-Fill.is at (step_read f _ c.index-index.ensures c.args.place _ _ (place_back _ _ _ _ c.self.view_is c.requires.behind) c.index-first.ensures c.index.ensures) in
    same_place _ _ _ _ c.self.view_is ∙ r.1 ∙ one_step _ _ r.0

pub returns-in-Register : goal.returns-in-Register
returns-in-Register c =
    let f = found_here _ _ _ _ _ _ c.self.invariant.0 c.self.invariant.1 c.self.view_is c.requires.behind c.requires.within in
    let r = rw c.in-Register.is at (step_read f _ c.index-index.ensures c.args.place _ _ (place_back _ _ _ _ c.self.view_is c.requires.behind) c.index-first.ensures c.index.ensures) in
    same_place _ _ _ _ c.self.view_is ∙ r.1 ∙ one_step _ _ r.0

pub returns-in-Set : goal.returns-in-Set
returns-in-Set c =
    let f = found_here _ _ _ _ _ _ c.self.invariant.0 c.self.invariant.1 c.self.view_is c.requires.behind c.requires.within in
    let r = rw c.in-Set.is at (step_read f _ c.index-index.ensures c.args.place _ _ (place_back _ _ _ _ c.self.view_is c.requires.behind) c.index-first.ensures c.index.ensures) in
    same_place _ _ _ _ c.self.view_is ∙ r.1 ∙ one_step_on _ _ _ r.0 c.ring_of.ensures

pub returns-in-Seek : goal.returns-in-Seek
returns-in-Seek c =
    let f = found_here _ _ _ _ _ _ c.self.invariant.0 c.self.invariant.1 c.self.view_is c.requires.behind c.requires.within in
    let r = rw c.in-Seek.is at (step_read f _ c.index-index.ensures c.args.place _ _ (place_back _ _ _ _ c.self.view_is c.requires.behind) c.index-first.ensures c.index.ensures) in
    same_place _ _ _ _ c.self.view_is ∙ r.1 ∙ one_step_on _ _ _ r.0 c.ring_of-in-Seek.ensures
