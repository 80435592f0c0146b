use Rattle.interleaving.specs.Machine.{opening, run}
use Rattle.recording.specs.Steps.{places}
use Rattle.foot_print.specs.Replayed.{replayed}
use Rattle.wave_pick.proofs.Ends.{ends_as_the_model}
use Rattle.dependencies.proofs.laws.dependencies_are_enough.Goals as goal

pub returns : goal.returns
returns c =
    let all = c.dependencies_suffice.ensures in
    record {
      suffice = λ t s. all (t, s);
      model = λ t s waits es enough due complete. ends_as_the_model t (run (replayed t) (opening (replayed t)) es) (all (t, s) waits (places t) es enough due complete);
    }
