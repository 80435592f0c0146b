use Rattle.std.proofs.Common.{◌≡◌, ◌+◌, map, filter, take, arith}
use Rattle.std.proofs.lemmas.Result.{IfOk-weaker}
use Rattle.wave_pick.specs.Picking.{IsNextWave}
use Rattle.wave_pick.specs.Rounds.{state_after}
use Rattle.round_scheduler.specs.Telling.{has_number, held_among, held_meant}
use Rattle.replay_core.specs.Progressing.{HasChosen, HasTold}
use Rattle.replay_core.proofs.Onward.{are_first, are_places, has_chosen, has_told}
use Rattle.replay_core.proofs.progress.Progress.pick_telling.Goals as goal

pub pick_telling-requires-clause-pending : goal.pick_telling-requires-clause-pending
pick_telling-requires-clause-pending c = are_places c.requires.stands c.as_slice.result.now c.as_slice.ensures.value

pub pick_telling-requires-clause-first : goal.pick_telling-requires-clause-first
pick_telling-requires-clause-first c = are_first c.requires.stands c.as_slice.result.now c.as_slice.ensures.value

pub returns-clause-wave : goal.returns-clause-wave
returns-clause-wave c =
    let t = c.args.trace.now in
    let s = c.args.self.now in
    IfOk-weaker c.pick_telling.result (λ told. IsNextWave t s.window s.world.world (take s.window c.as_slice.result.now) told.0) (λ told. HasChosen t s told.0)
    (λ told h. has_chosen c.requires.stands c.as_slice.result.now c.as_slice.ensures.value told.0 h) c.pick_telling.ensures.wave

pub returns-clause-held : goal.returns-clause-held
returns-clause-held c =
    let t = c.args.trace.now in
    let s = c.args.self.now in
    let next : c.min-next.result ≡ s.round + 1 = omega (arith, c.min-next.ensures, c.places.ensures, c.requires.round) in
    let front = c.as_slice.result.now in
    IfOk-weaker c.pick_telling.result
    (λ told. map held_meant told.1 ≡ held_among t (state_after t s.window s.scheduler.round) (filter (has_number c.args.rounds.now c.min-next.result) (take s.window front))) (λ told. HasTold t c.args.rounds.now s told.1)
    (λ told h. has_told c.requires.stands front c.as_slice.ensures.value c.args.rounds.now c.min-next.result told.1 next h) c.pick_telling.ensures.held
