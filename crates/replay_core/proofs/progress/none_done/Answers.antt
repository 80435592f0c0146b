use Rattle.std.proofs.Common.{◌++◌, ◌∷◌, [], false, replicate, ap, arith, ◌∙◌}
use Rattle.std.proofs.lemmas.List.{replicate_more}
use Rattle.replay_core.proofs.progress.none_done.Goals as goal

pub loop-place-preserved : goal.loop-place-preserved
loop-place-preserved c = c.in_ok-push.ensures.items ∙ ap (λ ds. ds ++ false ∷ []) c.loop-place.invariant ∙ replicate_more c.loop-place._place false

pub returns : goal.returns
returns c = c.loop-place.invariant ∙ ap (λ n. replicate n false) (omega (arith, c.loop-place-test.false, c.loop-place.auto._place-end))
