use Rattle.replay_core.proofs.Onward.{ready, still_chosen, within}
use Rattle.replay_core.proofs.progress.Progress.run_telling.Goals as goal

pub run_picked-requires-clause-round : goal.run_picked-requires-clause-round
run_picked-requires-clause-round g c κs lives = within c.args.trace.now c.args.self.now c.pick_telling.new.self c.in_ok-wave.ensures.rest c.requires.round

pub run_picked-requires-clause-ready : goal.run_picked-requires-clause-ready
run_picked-requires-clause-ready g c κs lives = ready c.args.trace.now c.args.self.now c.pick_telling.new.self c.in_ok-wave.ensures.rest c.requires.stands c.in_ok-wave.ensures.picked

pub run_picked-requires-clause-wave : goal.run_picked-requires-clause-wave
run_picked-requires-clause-wave g c κs lives = still_chosen c.args.trace.now c.args.self.now c.pick_telling.new.self c.in_ok-wave.ensures.rest c.in_ok-wave.wave c.in_ok-wave.ensures.wave
