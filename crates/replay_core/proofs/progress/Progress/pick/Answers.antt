use Rattle.std.proofs.Common.{take}
use Rattle.std.proofs.lemmas.Result.{IfOk-weaker}
use Rattle.wave_pick.specs.Picking.{IsNextWave}
use Rattle.replay_core.specs.Progressing.{HasChosen}
use Rattle.replay_core.proofs.Onward.{are_first, are_places, has_chosen}
use Rattle.replay_core.proofs.progress.Progress.pick.Goals as goal

pub pick-requires-clause-pending : goal.pick-requires-clause-pending
pick-requires-clause-pending c = are_places c.requires.stands c.as_slice.result.now c.as_slice.ensures.value

pub pick-requires-clause-first : goal.pick-requires-clause-first
pick-requires-clause-first c = are_first c.requires.stands c.as_slice.result.now c.as_slice.ensures.value

pub returns-clause-wave : goal.returns-clause-wave
returns-clause-wave c =
    let s = c.args.self.now in
    IfOk-weaker c.pick.result (IsNextWave c.args.trace.now s.window s.world.world (take s.window c.as_slice.result.now)) (HasChosen c.args.trace.now s)
    (has_chosen c.requires.stands c.as_slice.result.now c.as_slice.ensures.value) c.pick.ensures.wave
