use Rattle.std.proofs.Common.{map, ◌++◌, ◌∷◌, [], ap, sym, ◌∙◌}
use Rattle.std.proofs.lemmas.List.{map_more, take_all}
use Rattle.std.proofs.lemmas.Result.{IfOk-from_err}
use Rattle.wave_pick.specs.declared.wave.Chosen.{Chosen}
use Rattle.replay_core.proofs.progress.places_of.Goals as goal

pub returns-in_err-ran : goal.returns-in_err-ran
returns-in_err-ran c = IfOk-from_err _ _ c.from_residual.ensures.0

pub returns-in_err-push : goal.returns-in_err-push
returns-in_err-push c = IfOk-from_err _ _ c.from_residual-in_err-push.ensures.0

pub loop-chosen-preserved : goal.loop-chosen-preserved
loop-chosen-preserved c =
    c.in_ok-push.ensures.items ∙ (λ i. c.loop-chosen.invariant i ++ (c.chosen-item.is i).place ∷ [])
    ∙ sym (map_more (λ (chosen : Chosen). chosen.place) c.as_slice-chosen_there.result.now c.loop-chosen.chosen-index c.chosen-item.result c.loop-chosen-test.true)

pub returns : goal.returns
returns c =
    c.loop-chosen.invariant ∙ ap (map (λ (chosen : Chosen). chosen.place)) (take_all c.loop-chosen.chosen-index c.as_slice-chosen_there.result.now c.loop-chosen-test.false ∙ c.as_slice-chosen_there.ensures)
