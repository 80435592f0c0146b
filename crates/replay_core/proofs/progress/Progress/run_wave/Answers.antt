use Rattle.std.proofs.Common.{ℕ, ◌<◌, ap, sym, ◌∙◌}
use Rattle.interleaving.specs.Machine.{has}
use Rattle.recording.specs.Steps.{places}
use Rattle.replay_core.proofs.Choosing.{chosen_within}
use Rattle.replay_core.proofs.Fronts.{all_of}
use Rattle.replay_core.proofs.progress.Progress.run_wave.Goals as goal

pub workers_worth-requires-clause-ran : goal.workers_worth-requires-clause-ran
workers_worth-requires-clause-ran g c =
    let t = c.args.trace.now in
    let s = c.args.self.now in
    all_of (λ (k : ℕ). k < places t) c.args.ran.now (λ k m. (chosen_within t c.requires.trace s.window s.round k (ap (λ xs. has xs k) (sym c.requires.ran) ∙ m)).0)
