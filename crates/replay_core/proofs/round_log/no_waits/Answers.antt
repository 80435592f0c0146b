use Rattle.std.proofs.Common.{map, ◌++◌, ◌∷◌, [], replicate, ap, arith, ◌∙◌}
use Rattle.std.specs.Prelude.{None}
use Rattle.std.specs.Option.{option_map}
use Rattle.std.proofs.lemmas.List.{map-append, replicate_more}
use Rattle.std.proofs.lemmas.Result.{IfOk-from_err}
use Rattle.replay_core.specs.Waits.{waited_meant}
use Rattle.replay_core.proofs.round_log.no_waits.Goals as goal

pub loop-place-preserved : goal.loop-place-preserved
loop-place-preserved c =
    ap (map (option_map waited_meant)) c.in_ok-push.ensures.items ∙ map-append (option_map waited_meant) c.loop-place.waits.items (None ∷ [])
    ∙ ap (λ xs. xs ++ None ∷ []) c.loop-place.invariant ∙ replicate_more c.loop-place._place None

pub returns-in_err-push : goal.returns-in_err-push
returns-in_err-push c = IfOk-from_err _ _ c.from_residual.ensures.0

pub returns : goal.returns
returns c =
    c.loop-place.invariant ∙ ap (λ n. replicate n None) (omega (arith, c.loop-place-test.false, c.loop-place.auto._place-end, c.places-place-end.ensures))
