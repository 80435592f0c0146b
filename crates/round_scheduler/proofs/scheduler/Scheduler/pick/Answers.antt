use Rattle.std.proofs.Common.{take}
use Rattle.std.proofs.lemmas.Result.{IfOk-weaker}
use Rattle.wave_pick.specs.Picking.{IsNextWave}
use Rattle.round_scheduler.specs.Scheduling.{Remembers}
use Rattle.round_scheduler.specs.Telling.{Settles}
use Rattle.round_scheduler.proofs.Told.{next_wave, settled}
use Rattle.round_scheduler.proofs.scheduler.Scheduler.pick.Goals as goal

pub returns-clause-wave : goal.returns-clause-wave
returns-clause-wave c =
    let t = c.args.trace.now in
    let window = c.args.window in
    let w = c.args.world.now.world in
    let waits = c.args.pending.now in
    IfOk-weaker c.settle.result (Settles t c.as_slice.result.now c.survey.new.self c.settle.new.self) (IsNextWave t window w (take window waits))
    (λ wave h. next_wave t window w waits c.settle.new.self wave (settled t window w c.args.self.now c.survey.new.self waits c.first_of-first.result.now c.first_of-first.ensures
    c.requires.first c.requires.remembers c.in_ok-free.free.items c.in_ok-free.ensures.seen c.settle.new.self c.as_slice.result.now wave c.in_ok-free.ensures.round c.as_slice.ensures.value h))
    c.settle.ensures.settles

pub returns-clause-remembers : goal.returns-clause-remembers
returns-clause-remembers c =
    let t = c.args.trace.now in
    let window = c.args.window in
    let w = c.args.world.now.world in
    let waits = c.args.pending.now in
    IfOk-weaker c.settle.result (Settles t c.as_slice.result.now c.survey.new.self c.settle.new.self) (λ wave. Remembers t window c.settle.new.self)
    (λ wave h. (settled t window w c.args.self.now c.survey.new.self waits c.first_of-first.result.now c.first_of-first.ensures
    c.requires.first c.requires.remembers c.in_ok-free.free.items c.in_ok-free.ensures.seen c.settle.new.self c.as_slice.result.now wave c.in_ok-free.ensures.round c.as_slice.ensures.value h).remembers)
    c.settle.ensures.settles
