use Rattle.std.proofs.Common.{map, ap, sym, subst, ◌∙◌, ◌+◌, ◌<◌, ◌≤◌}
use Rattle.std.proofs.lemmas.Result.{IfOk-from_err}
use Rattle.recording.specs.Steps.{places}
use Rattle.wave_pick.specs.declared.wave.Chosen.{Chosen}
use Rattle.wave_pick.specs.Rounds.{state_after, wave_after}
use Rattle.replay_core.proofs.Choosing.{chosen_places}
use Rattle.replay_core.proofs.Faults.{given_on, no_memory, went_well}
use Rattle.replay_core.proofs.Onward.{keeps, looks, remembers, round, window, world}
use Rattle.replay_core.proofs.progress.Progress.run_picked.Goals as goal

pub run_wave-requires-clause-begins : goal.run_wave-requires-clause-begins
run_wave-requires-clause-begins g c κs lives = record { world = c.requires.ready.world; keeps = c.requires.ready.keeps }

pub run_wave-requires-clause-ran : goal.run_wave-requires-clause-ran
run_wave-requires-clause-ran g c κs within =
    let t = c.args.trace.now in
    let s = c.args.self.now in
    c.as_slice.ensures.value ∙ c.in_ok-ran.ensures ∙ ap (map (λ (chosen : Chosen). chosen.place)) c.requires.wave
    ∙ chosen_places t (state_after t s.window s.round).world (wave_after t s.window s.round)

pub advance-requires-clause-ran : goal.advance-requires-clause-ran
advance-requires-clause-ran g c =
    let t = c.args.trace.now in
    let s = c.args.self.now in
    let ran = c.in_ok-run_wave.ensures.ran in
    c.as_slice-2.ensures.value ∙ c.in_ok-ran.ensures ∙ ap (map (λ (chosen : Chosen). chosen.place)) c.requires.wave
    ∙ chosen_places t (state_after t s.window s.round).world (wave_after t s.window s.round)
    ∙ (λ i. wave_after t (sym (window c.requires.ready ran) i) (sym (round c.requires.ready ran) i))

pub advance-requires-clause-world : goal.advance-requires-clause-world
advance-requires-clause-world g c = world c.requires.ready c.in_ok-run_wave.ensures.ran

pub advance-requires-clause-keeps : goal.advance-requires-clause-keeps
advance-requires-clause-keeps g c = keeps c.requires.ready c.in_ok-run_wave.ensures.ran

pub advance-requires-clause-front : goal.advance-requires-clause-front
advance-requires-clause-front g c = looks c.requires.ready c.in_ok-run_wave.ensures.ran

pub advance-requires-clause-picked : goal.advance-requires-clause-picked
advance-requires-clause-picked g c = remembers c.requires.ready c.in_ok-run_wave.ensures.ran

pub advance-requires-clause-round : goal.advance-requires-clause-round
advance-requires-clause-round g c = subst (λ r. r < places c.args.trace.now) (sym (round c.requires.ready c.in_ok-run_wave.ensures.ran)) c.requires.round

pub advance-requires-clause-window : goal.advance-requires-clause-window
advance-requires-clause-window g c = subst (λ w. 1 ≤ w) (sym (window c.requires.ready c.in_ok-run_wave.ensures.ran)) c.requires.ready.window

pub returns-in_err-ran-clause-stands : goal.returns-in_err-ran-clause-stands
returns-in_err-ran-clause-stands g c = IfOk-from_err _ _ c.from_residual.ensures.0

pub returns-in_err-ran-clause-next : goal.returns-in_err-ran-clause-next
returns-in_err-ran-clause-next g c = IfOk-from_err _ _ c.from_residual.ensures.0

pub returns-in_err-ran-clause-alone : goal.returns-in_err-ran-clause-alone
returns-in_err-ran-clause-alone g c few = no_memory _ c.from_residual.ensures.1

pub returns-in_err-run_wave-clause-stands : goal.returns-in_err-run_wave-clause-stands
returns-in_err-run_wave-clause-stands g c = IfOk-from_err _ _ c.from_residual-in_err-run_wave.ensures.0

pub returns-in_err-run_wave-clause-next : goal.returns-in_err-run_wave-clause-next
returns-in_err-run_wave-clause-next g c = IfOk-from_err _ _ c.from_residual-in_err-run_wave.ensures.0

pub returns-in_err-run_wave-clause-alone : goal.returns-in_err-run_wave-clause-alone
returns-in_err-run_wave-clause-alone g c few = given_on _ _ _ c.from_residual-in_err-run_wave.ensures.1 (c.in_err-run_wave.ensures.alone few)

pub returns-in_err-advance-clause-stands : goal.returns-in_err-advance-clause-stands
returns-in_err-advance-clause-stands g c = IfOk-from_err _ _ c.from_residual-in_err-advance.ensures.0

pub returns-in_err-advance-clause-next : goal.returns-in_err-advance-clause-next
returns-in_err-advance-clause-next g c = IfOk-from_err _ _ c.from_residual-in_err-advance.ensures.0

pub returns-in_err-advance-clause-alone : goal.returns-in_err-advance-clause-alone
returns-in_err-advance-clause-alone g c few = no_memory _ c.from_residual-in_err-advance.ensures.1

pub returns-clause-stands : goal.returns-clause-stands
returns-clause-stands g c = c.in_ok-advance.ensures.stands

pub returns-clause-next : goal.returns-clause-next
returns-clause-next g c =
    let ran = c.in_ok-run_wave.ensures.ran in
    (c.in_ok-advance.ensures.next.0 ∙ window c.requires.ready ran, c.in_ok-advance.ensures.next.1 ∙ ap (λ r. r + 1) (round c.requires.ready ran))

pub returns-clause-alone : goal.returns-clause-alone
returns-clause-alone g c few = went_well _ _
