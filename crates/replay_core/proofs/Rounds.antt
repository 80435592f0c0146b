-- A round from its first part that is put back to its last, and which round it is.
use Rattle.std.proofs.Common.{◌≡◌, ℕ, suc, ◌+◌, ◌<◌, Bool, true, List, [], ◌∷◌, drop, length, sym, ap, subst, ◌∙◌, Some, arith}
use Rattle.std.specs.Prelude.{Result, Ok, slice_get}
use Rattle.std.specs.declared.alloc.AllocError.{AllocError}
use Rattle.std.specs.Option.{option_map}
use Rattle.std.proofs.Math.ListN.{set}
use Rattle.std.proofs.lemmas.Option.{slice_get-map, slice_get_within}
use Rattle.deal_desk.specs.Desks.{AreValues}
use Rattle.interleaving.specs.Machine.{State}
use Rattle.interleaving.proofs.Onwards.{ran}
use Rattle.recording.specs.declared.recording.Recording.{Recording}
use Rattle.recording.specs.Steps.{places}
use Rattle.recording.specs.Accepted.{IsAccepted}
use Rattle.world_parts.specs.Part.{Part, Divided, whole}
use Rattle.op_meaning.specs.declared.reply.Reply.{Reply}
use Rattle.op_meaning.specs.Step.{step_world, step_reply}
use Rattle.op_meaning.specs.Runs.{run_on}
use Rattle.foot_print.specs.Parts as parts
use Rattle.foot_print.specs.Replayed.{replayed}
use Rattle.replay_core.specs.declared.run.Run.{Run}
use Rattle.replay_core.specs.Jobs.{AreOf, IsOutcome}
use Rattle.wave_pick.specs.Rounds.{state_after}
use Rattle.replay_core.specs.Progressing.{parts_of, AreOut, AreDealt, Keeps}
use Rattle.replay_core.proofs.Lists.{drop-here}
use Rattle.replay_core.proofs.Stepping.{Steps, steps-begin, steps-on, steps-end}
use Rattle.replay_core.proofs.Returning.{Returns, all_home, reply_is}
use Rattle.wave_pick.proofs.Lists.{get-some}

module _ (t : Recording) (spelled : IsAccepted t) (window r : ℕ) where
  pub begins : (jobs : List Run) (d : Divided) (replies : List Reply) (rounds : List ℕ) (done : List Bool) → r < places t → AreDealt t window r jobs d
      → Keeps t window (state_after t window r) replies rounds done → Returns t window r (parts_of jobs) d replies rounds done
  begins jobs d replies rounds done lt h keeps = record {
    state = state_after t window r;
    out = h.out;
    steps = subst (λ ks. Steps t window r ks (state_after t window r) replies rounds done) (sym h.wave) (steps-begin t spelled window r replies rounds done lt keeps);
  }

  pub goes_on : (p : Part) (ps : List Part) (d after : Divided) (replies : List Reply) (rounds : List ℕ) (done : List Bool) (reply : Reply) (back : Part)
      → (h : Returns t window r (p ∷ ps) d replies rounds done) → back ≡ run_on t p.place p → AreOut t (state_after t window r).world (step_world t p.place h.state.world) ps after
      → Some reply ≡ step_reply t p.place p.values
      → Returns t window r ps after (set replies p.place reply) (set rounds p.place r) (set done p.place true)
  goes_on p ps d after replies rounds done reply back h back_is out is = record {
    state = ran (replayed t) h.state p.place;
    out = out;
    steps = steps-on t window r p.place (parts.places ps) h.state replies rounds done reply h.steps (is ∙ reply_is t (state_after t window r).world h.state.world p ps d back (record { out = h.out; run = back_is }));
  }

  pub ends : (d : Divided) (replies : List Reply) (rounds : List ℕ) (done : List Bool) → Returns t window r [] d replies rounds done
      → Keeps t window (state_after t window (r + 1)) replies rounds done × (d ≡ whole (state_after t window (r + 1)).world)
  ends d replies rounds done h = (
    steps-end t window r h.state replies rounds done h.steps,
    all_home t (state_after t window r).world h.state.world d h.out ∙ ap (λ (x : State (replayed t)). whole x.world) h.steps.leads,
  )

-- The outcome at a place of the list is that of the part there.
pub record IsOutcomeAt (t : Recording) (jobs : List Run) (n : ℕ) (reply : Reply) (back : Part) : Type 0 where
  pub part : Part
  pub here : drop n (parts_of jobs) ≡ part ∷ drop (suc n) (parts_of jobs)
  pub answer : Some reply ≡ step_reply t part.place part.values
  pub back_is : back ≡ run_on t part.place part

pub outcome_at : (t : Recording) (jobs : List Run) (outcomes : List (Result (Reply × Part) AllocError)) (n : ℕ) (reply : Reply) (back : Part)
    → AreOf t jobs → AreValues (λ (run : Run) (d : Result (Reply × Part) AllocError). IsOutcome run.trace.value run.part d) jobs outcomes → slice_get outcomes n ≡ Some (Ok (reply, back)) → IsOutcomeAt t jobs n reply back
outcome_at t jobs outcomes n reply back of values at =
    let within : n < length jobs = omega (arith, slice_get_within outcomes n (Ok (reply, back)) at, values.0) in
    let found = get-some jobs n within in
    let job : Run = found.0 in
    let is : IsOutcome job.trace.value job.part (Ok (reply, back)) = values.1 n (Ok (reply, back)) at job found.1 in
    let its : IsOutcome t job.part (Ok (reply, back)) = subst (λ (u : Recording). IsOutcome u job.part (Ok (reply, back))) (of n job found.1) is in
    record {
      part = job.part;
      here = drop-here (parts_of jobs) n job.part (slice_get-map (λ (run : Run). run.part) jobs n ∙ ap (option_map (λ (run : Run). run.part)) found.1);
      answer = its.0;
      back_is = its.1;
    }
