use Rattle.std.proofs.Common.{◌++◌, suc, take, drop, filter, ap, sym, subst, ◌∙◌, Ok, Err}
use Rattle.std.specs.List.Sorted.{IsStrictlyIncreasing}
use Rattle.std.proofs.lemmas.List.Sorted.{searched}
use Rattle.replay_core.proofs.Dropping.{dropped, never_falls, apart_from, other_than}
use Rattle.replay_core.proofs.front.drop_place.Goals as goal

pub returns-in-Ok : goal.returns-in-Ok
returns-in-Ok c =
    let xs = c.deref.result.now in
    let same = c.deref.ensures.value in
    let rises = subst IsStrictlyIncreasing (sym same) c.requires in
    let found = searched xs c.args.place (Ok c.in-Ok.index) c.in-Ok.ensures.position (never_falls xs rises) in
    c.remove.ensures.items ∙ ap (λ ks. take c.in-Ok.index ks ++ drop (suc c.in-Ok.index) ks) (sym same) ∙ dropped xs c.in-Ok.index c.args.place rises found.0 found.1 ∙ ap (filter (other_than c.args.place)) same

pub returns-in_default : goal.returns-in_default
returns-in_default c =
    let xs = c.deref.result.now in
    let same = c.deref.ensures.value in
    let rises = subst IsStrictlyIncreasing (sym same) c.requires in
    let found = searched xs c.args.place (Err c.in_default.field-0) c.in_default.ensures.position (never_falls xs rises) in
    sym same ∙ sym (apart_from xs c.in_default.field-0 c.args.place found.1 found.2) ∙ ap (filter (other_than c.args.place)) same
