-- The run that orders and rounds are compared with is the model's.
use Rattle.std.proofs.Common.{◌≡◌, ℕ, Some, refl, sym, ap, ◌∙◌, arith}
use Rattle.interleaving.specs.System.{sequential}
use Rattle.interleaving.specs.Machine.{State, IsSequential}
use Rattle.interleaving.proofs.Onwards.{one_by_one}
use Rattle.recording.specs.declared.recording.Recording.{Recording}
use Rattle.recording.specs.Steps.{places}
use Rattle.op_meaning.proofs.Kept.{kept_so_far}
use Rattle.op_meaning.specs.Step.{step_reply, run_world}
use Rattle.foot_print.specs.Replayed.{replayed}
use Rattle.wave_pick.specs.Sequential.{RunsAsTheModel, EndsAsTheModel}

same_worlds : (t : Recording) (n : ℕ) → sequential (replayed t) n ≡ run_world t n
same_worlds t n = one_by_one (replayed t) (run_world t) refl (λ k. refl) n

pub runs_as_the_model : (t : Recording) → RunsAsTheModel t
runs_as_the_model t =
    let all = kept_so_far t (places t) (omega arith) in
    record {
      worlds = same_worlds t;
      replies = λ k lt. all.kept k lt ∙ ap (step_reply t k) (sym (same_worlds t k));
      each_place = all.many;
    }

pub ends_as_the_model : (t : Recording) (s : State (replayed t)) → IsSequential (replayed t) (places t) s → EndsAsTheModel t s
ends_as_the_model t s h =
    let model = runs_as_the_model t in
    record {
      world = h.0 ∙ model.worlds (places t);
      replies = λ k lt. h.1 k lt ∙ ap Some (sym (model.replies k lt));
    }
