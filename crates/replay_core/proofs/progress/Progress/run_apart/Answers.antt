use Rattle.std.proofs.Common.{length, ap, sym, subst, arith}
use Rattle.std.proofs.lemmas.List.{length-map}
use Rattle.world_parts.specs.Part.{Part}
use Rattle.replay_core.specs.declared.progress.Progress.{Progress}
use Rattle.replay_core.specs.declared.run.Run.{Run}
use Rattle.replay_core.specs.Progressing.{KeptAfter, parts_of}
use Rattle.replay_core.proofs.Choosing.{wave-few}
use Rattle.replay_core.proofs.progress.Progress.run_apart.Goals as goal

pub run_round-requires-clause-few : goal.run_round-requires-clause-few
run_round-requires-clause-few g c κs within =
    let t = c.args.trace.now in
    let s = c.args.self.now in
    let jobs = c.in_ok-jobs.jobs.items in
    let a = length-map jobs (λ (run : Run). run.part) in
    let b = length-map (parts_of jobs) (λ (p : Part). p.place) in
    let w = ap length c.in_ok-jobs.ensures.dealt.wave in
    omega (arith, a, b, w, wave-few t s.window s.round, c.requires.trace.sizes.places)

pub gather-requires-clause-keeps : goal.gather-requires-clause-keeps
gather-requires-clause-keeps g c = subst (λ (p : Progress). KeptAfter c.args.trace.now p.round p) (sym c.in_ok-jobs.ensures.rest) c.requires.begins.keeps
