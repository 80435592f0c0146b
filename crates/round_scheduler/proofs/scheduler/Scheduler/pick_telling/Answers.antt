use Rattle.std.proofs.Common.{map, ap, take, ◌∙◌}
use Rattle.round_scheduler.specs.Telling.{IsSettled, has_number, held_meant}
use Rattle.round_scheduler.proofs.Told.{all_told, next_wave, settled}
use Rattle.round_scheduler.proofs.scheduler.Scheduler.pick_telling.Goals.{After-drop-free-2}
use Rattle.round_scheduler.proofs.scheduler.Scheduler.pick_telling.Goals as goal

is_settled : (c : After-drop-free-2) → IsSettled c.args.trace.now c.args.window c.args.world.now.world (take c.args.window c.args.pending.now) c.settle.new.self c.in_ok-wave.wave
is_settled c = settled c.args.trace.now c.args.window c.args.world.now.world c.args.self.now c.survey.new.self c.args.pending.now c.first_of-first.result.now c.first_of-first.ensures
    c.requires.first c.requires.remembers c.in_ok-free.free.items c.in_ok-free.ensures.seen c.settle.new.self c.as_slice.result.now c.in_ok-wave.wave c.in_ok-free.ensures.round c.as_slice.ensures.value c.in_ok-wave.ensures.settles

pub returns-clause-wave : goal.returns-clause-wave
returns-clause-wave c = next_wave c.args.trace.now c.args.window c.args.world.now.world c.args.pending.now c.settle.new.self c.in_ok-wave.wave (is_settled c)

pub returns-clause-remembers : goal.returns-clause-remembers
returns-clause-remembers c = (is_settled c).remembers

pub returns-clause-held : goal.returns-clause-held
returns-clause-held c =
    ap (map held_meant) c.from_vec.ensures
    ∙ all_told c.args.trace.now c.args.window c.args.world.now.world c.args.self.now c.survey.new.self c.args.pending.now c.first_of-first.result.now c.first_of-first.ensures
    c.requires.first c.requires.remembers c.in_ok-free.free.items c.in_ok-free.ensures.seen c.as_slice-reaches.result.now (has_number c.args.numbers.now c.args.number)
    c.in_ok-held.held.items c.as_slice-reaches.ensures.value c.in_ok-held.ensures
