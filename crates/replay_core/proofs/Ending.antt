-- What there is once all places are done, and before any is.
use Rattle.std.proofs.Common.{◌≡◌, ℕ, zero, suc, ◌+◌, ◌<◌, ◌≤◌, Bool, false, List, [], ◌∷◌, ◌++◌, take, filter, length, replicate, ◌⊎◌, inl, inr, refl, sym, ap, subst, ◌∙◌, Some, arith}
use Rattle.std.specs.Prelude.{slice_get}
use Rattle.std.proofs.lemmas.List.{length-replicate}
use Rattle.interleaving.specs.System.{sequential}
use Rattle.interleaving.specs.Machine.{State, opening, is_free, IsSequential}
use Rattle.interleaving.proofs.Onwards.{rounds-still}
use Rattle.interleaving.proofs.Rounding.{rounds_sequential_lem}
use Rattle.recording.specs.declared.recording.Recording.{Recording}
use Rattle.recording.specs.Steps.{places}
use Rattle.recording.specs.Accepted.{IsAccepted}
use Rattle.sqe_codec.specs.Answers.{each}
use Rattle.world_parts.specs.Part.{whole}
use Rattle.op_meaning.specs.declared.reply.Reply.{Reply}
use Rattle.op_meaning.specs.Step.{run_world, run_replies, step_reply, sequential_world, sequential_replies}
use Rattle.foot_print.specs.Replayed.{replayed}
use Rattle.wave_pick.specs.Lawful.{lawful}
use Rattle.wave_pick.proofs.Ends.{runs_as_the_model}
use Rattle.wave_pick.specs.Rounds.{round_of, waves}
use Rattle.wave_pick.specs.Rounds as picked
use Rattle.replay_core.specs.declared.progress.Progress.{Progress}
use Rattle.wave_pick.specs.Rounds.{state_after, wave_after}
use Rattle.replay_core.specs.Progressing.{Keeps, Stands}
use Rattle.replay_core.proofs.Lists.{take-more, take-whole, mapped-so-far}
use Rattle.replay_core.proofs.Fronts.{front_is}

module _ (t : Recording) (spelled : IsAccepted t) (p : Progress) (h : Stands t p) where
  abbrev x : State (replayed t)
  x = state_after t p.window p.round

  nothing_chosen : p.front.items ≡ [] → wave_after t p.window p.round ≡ []
  nothing_chosen e = ap (filter (is_free (replayed t) x)) (front_is t p.window x p.front.items p.next h.front ∙ e)

  is_sequential : (p.front.items ≡ []) ⊎ (p.round ≡ places t) → IsSequential (replayed t) (places t) x
  is_sequential (inr e) =
      let many : places t ≤ p.round = omega (arith, e) in
      rounds_sequential_lem (replayed t) (lawful t spelled) (places t) p.window p.round h.window many
  is_sequential (inl e) =
      subst (IsSequential (replayed t) (places t)) (rounds-still (replayed t) (places t) p.window p.round (places t) (opening (replayed t)) (nothing_chosen e))
      (rounds_sequential_lem (replayed t) (lawful t spelled) (places t) p.window (places t + p.round) h.window (omega arith))

  module _ (over : (p.front.items ≡ []) ⊎ (p.round ≡ places t)) where
    pub end_world : p.world ≡ whole (sequential_world t)
    end_world = h.world ∙ ap whole ((is_sequential over).0 ∙ (runs_as_the_model t).worlds (places t))

    kept : (k : ℕ) → k < places t → (slice_get p.replies k ≡ step_reply t k (run_world t k)) × (slice_get p.rounds.items k ≡ Some (round_of (waves t p.window) k))
    kept k lt =
        let found = h.keeps.finished k (step_reply t k (sequential (replayed t) k)) lt ((is_sequential over).1 k lt) in
        (found.0 ∙ ap (step_reply t k) ((runs_as_the_model t).worlds k), found.1)

    replies_so_far : (n : ℕ) → n ≤ places t → take n p.replies ≡ run_replies t n
    replies_so_far zero le = refl
    replies_so_far (suc n) le =
        take-more p.replies n ∙ (λ i. replies_so_far n (omega arith) i ++ each (λ (r : Reply). r ∷ []) ((kept n (omega arith)).0 i))

    pub end_replies : p.replies ≡ sequential_replies t
    end_replies = sym (take-whole p.replies (places t) h.keeps.many_replies) ∙ replies_so_far (places t) (omega arith)

    pub end_rounds : p.rounds.items ≡ picked.rounds t p.window
    end_rounds = sym (take-whole p.rounds.items (places t) h.keeps.many_rounds) ∙ mapped-so-far (round_of (waves t p.window)) p.rounds.items (places t) (λ k lt. (kept k lt).1)

get-replicate : {X : Type 0} (n k : ℕ) (x : X) → k < n → slice_get (replicate n x) k ≡ Some x
get-replicate zero k x lt = absurd (omega arith)
get-replicate (suc n) zero x lt = refl
get-replicate (suc n) (suc k) x lt = get-replicate n k x (omega arith)

-- Before the first round nothing is kept.
pub keeps_none : (t : Recording) (window : ℕ) (replies : List Reply) (rounds : List ℕ) (done : List Bool) → length replies ≡ places t → length rounds ≡ places t → done ≡ replicate (places t) false
    → Keeps t window (opening (replayed t)) replies rounds done
keeps_none t window replies rounds done a b c = record {
  many_replies = a;
  many_rounds = b;
  many_done = ap length c ∙ length-replicate (places t) false;
  finished = λ k o lt e. (cc);
  is_done = λ k lt. ap (λ xs. slice_get xs k) c ∙ get-replicate (places t) k false lt;
}
