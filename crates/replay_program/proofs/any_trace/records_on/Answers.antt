use Rattle.std.proofs.Common.{◌++◌, subst, sym}
use Rattle.replay_program.specs.AnyTraces.{HasFewPlaces}
use Rattle.replay_program.proofs.FewPlaces.{few_places}
use Rattle.replay_program.proofs.Taking.{no_memory_tells}
use Rattle.replay_program.proofs.any_trace.records_on.Goals as goal

pub returns-clause-err : goal.returns-clause-err
returns-clause-err g c = no_memory_tells _ _ _ _ c.no_memory.ensures

pub returns-in-Ok-new-clause-few : goal.returns-in-Ok-new-clause-few
returns-in-Ok-new-clause-few g c =
    let all = c.in-Ok.ensures.ok in
    subst HasFewPlaces (sym c.in-Ok-new.ensures.ok) (few_places c.in-Ok.trace (c.args.head.items ++ all.more, all.is))
