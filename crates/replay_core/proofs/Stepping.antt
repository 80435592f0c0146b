-- A round, a place at a time, and which round it is.
use Rattle.std.proofs.Common.{◌≡◌, ◌≢◌, ℕ, suc, ◌+◌, ◌<◌, Bool, true, List, [], ◌∷◌, length, ◌⊎◌, inl, inr, sym, ap, subst, ◌∙◌, Some, arith}
use Rattle.std.specs.Prelude.{Option, slice_get}
use Rattle.std.proofs.Math.ListN.{set, length-set}
use Rattle.std.proofs.lemmas.Bool.{cases_eq}
use Rattle.interleaving.specs.Machine.{State, has, reply_of, run, opening}
use Rattle.interleaving.specs.Rounds.{in_turn, round}
use Rattle.interleaving.proofs.Members.{has-here, has-later, has-other}
use Rattle.interleaving.proofs.Onwards.{ran, rounds-more}
use Rattle.interleaving.proofs.Orders.{reply-here, reply-other}
use Rattle.recording.specs.declared.recording.Recording.{Recording}
use Rattle.recording.specs.Steps.{places}
use Rattle.recording.specs.Accepted.{IsAccepted}
use Rattle.world_parts.specs.World.{World}
use Rattle.world_parts.specs.Part.{whole}
use Rattle.op_meaning.specs.declared.reply.Reply.{Reply}
use Rattle.op_meaning.specs.Step.{step_reply}
use Rattle.foot_print.specs.Replayed.{replayed}
use Rattle.wave_pick.proofs.Numbers.{number_is}
use Rattle.wave_pick.specs.Rounds.{round_of, waves, state_after, wave_after}
use Rattle.replay_core.specs.declared.progress.Progress.{Progress}
use Rattle.replay_core.specs.Progressing.{HasRun, IsSameRound, Keeps}
use Rattle.replay_core.proofs.Choosing.{chosen_within}
use Rattle.wave_pick.proofs.Lists.{set-here, set-other}

-- One place more is kept.
pub keeps_more : (t : Recording) (window : ℕ) (x : State (replayed t)) (replies : List Reply) (rounds : List ℕ) (done : List Bool) (k r : ℕ) (reply : Reply)
    → k < places t → Keeps t window x replies rounds done → Some reply ≡ step_reply t k x.world → round_of (waves t window) k ≡ r
    → Keeps t window (ran (replayed t) x k) (set replies k reply) (set rounds k r) (set done k true)
keeps_more t window x replies rounds done k r reply lt h is in_round = record {
  many_replies = length-set replies k reply ∙ h.many_replies;
  many_rounds = length-set rounds k r ∙ h.many_rounds;
  many_done = length-set done k true ∙ h.many_done;
  finished = λ j o within e. kept j o within e (cases_eq j k);
  is_done = λ j within. marked j within (cases_eq j k);
}
  where
    many : (n : ℕ) → n ≡ places t → k < n
    many n e = omega (arith, lt)

    kept : (j : ℕ) (o : Option Reply) → j < places t → reply_of ((k, step_reply t k x.world) ∷ x.replies) j ≡ Some o → (j ≡ k) ⊎ (j ≢ k)
        → (slice_get (set replies k reply) j ≡ o) × (slice_get (set rounds k r) j ≡ Some (round_of (waves t window) j))
    kept j o within e (inl same) =
        let mine : Some (step_reply t k x.world) ≡ Some o = sym (ap (reply_of ((k, step_reply t k x.world) ∷ x.replies)) same ∙ reply-here k (step_reply t k x.world) x.replies) ∙ e in
        let found : step_reply t k x.world ≡ o = cc in (
          ap (slice_get (set replies k reply)) same ∙ set-here replies k reply (many (length replies) h.many_replies) ∙ is ∙ found,
          ap (slice_get (set rounds k r)) same ∙ set-here rounds k r (many (length rounds) h.many_rounds) ∙ ap Some (sym (ap (round_of (waves t window)) same ∙ in_round)),
        )
    kept j o within e (inr ne) =
        let before = h.finished j o within (sym (reply-other j k (step_reply t k x.world) x.replies ne) ∙ e) in
        (set-other replies k j reply ne ∙ before.0, set-other rounds k j r ne ∙ before.1)

    marked : (j : ℕ) → j < places t → (j ≡ k) ⊎ (j ≢ k) → slice_get (set done k true) j ≡ Some (has (k ∷ x.finished) j)
    marked j within (inl same) = ap (slice_get (set done k true)) same ∙ set-here done k true (many (length done) h.many_done) ∙ ap Some (sym (ap (has (k ∷ x.finished)) same ∙ has-here k x.finished))
    marked j within (inr ne) = set-other done k j true ne ∙ h.is_done j within ∙ ap Some (sym (has-other j k x.finished ne))

-- What the places of a round so far have led to, what is kept of each place, and the places that are left.
pub record Steps (t : Recording) (window r : ℕ) (ks : List ℕ) (x : State (replayed t)) (replies : List Reply) (rounds : List ℕ) (done : List Bool) : Type 0 where
  pub keeps : Keeps t window x replies rounds done
  pub leads : run (replayed t) x (in_turn ks) ≡ state_after t window (r + 1)
  pub settled : (k : ℕ) → has ks k ≡ true → (k < places t) × (round_of (waves t window) k ≡ r)

pub next_state : (t : Recording) (window r : ℕ) → round (replayed t) (places t) window (state_after t window r) ≡ state_after t window (r + 1)
next_state t window r =
    let more : suc r ≡ r + 1 = omega arith in
    sym (rounds-more (replayed t) (places t) window r (opening (replayed t))) ∙ ap (state_after t window) more

pub steps-begin : (t : Recording) (spelled : IsAccepted t) (window r : ℕ) (replies : List Reply) (rounds : List ℕ) (done : List Bool) → r < places t
    → Keeps t window (state_after t window r) replies rounds done → Steps t window r (wave_after t window r) (state_after t window r) replies rounds done
steps-begin t spelled window r replies rounds done lt keeps = record {
  keeps = keeps;
  leads = next_state t window r;
  settled = λ k m. ((chosen_within t spelled window r k m).0, number_is t window (places t) r (opening (replayed t)) k lt m);
}

pub steps-on : (t : Recording) (window r k : ℕ) (ks : List ℕ) (x : State (replayed t)) (replies : List Reply) (rounds : List ℕ) (done : List Bool) (reply : Reply)
    → Steps t window r (k ∷ ks) x replies rounds done → Some reply ≡ step_reply t k x.world → Steps t window r ks (ran (replayed t) x k) (set replies k reply) (set rounds k r) (set done k true)
steps-on t window r k ks x replies rounds done reply h is =
    let mine = h.settled k (has-here k ks) in
    record {
      keeps = keeps_more t window x replies rounds done k r reply mine.0 h.keeps is mine.1;
      leads = h.leads;
      settled = λ j m. h.settled j (has-later j k ks m);
    }

pub steps-end : (t : Recording) (window r : ℕ) (x : State (replayed t)) (replies : List Reply) (rounds : List ℕ) (done : List Bool)
    → Steps t window r [] x replies rounds done → Keeps t window (state_after t window (r + 1)) replies rounds done
steps-end t window r x replies rounds done h = subst (λ (y : State (replayed t)). Keeps t window y replies rounds done) h.leads h.keeps

-- While places run one after another on all of the world, which is this one.
pub record StepsHere (t : Recording) (window r : ℕ) (ks : List ℕ) (u : World) (replies : List Reply) (rounds : List ℕ) (done : List Bool) : Type 0 where
  pub state : State (replayed t)
  pub world : u ≡ state.world
  pub steps : Steps t window r ks state replies rounds done

-- what is kept, by other names
pub as_kept : (P : List Reply → List ℕ → List Bool → Type 0) {xs rs : List Reply} {ys ns : List ℕ} {zs bs : List Bool} → rs ≡ xs → ns ≡ ys → bs ≡ zs → P xs ys zs → P rs ns bs
as_kept P {xs} {rs} {ys} {ns} {zs} {bs} a b c h = subst (λ (x : List Reply). P x ns bs) (sym a) (subst (λ (y : List ℕ). P xs y bs) (sym b) (subst (λ (z : List Bool). P xs ys z) (sym c) h))

pub same_round-on : (before now after : Progress) → IsSameRound before now → IsSameRound now after → IsSameRound before after
same_round-on before now after p q = (q.0 ∙ p.0, q.1 ∙ p.1, q.2 ∙ p.2, q.3 ∙ p.3, q.4 ∙ p.4)

-- once a round is over
pub has_run : (t : Recording) (before after : Progress) → Keeps t before.window (state_after t before.window (before.round + 1)) after.replies after.rounds.items after.done.items
    → after.world ≡ whole (state_after t before.window (before.round + 1)).world → IsSameRound before after → HasRun t before after
has_run t before after keeps world rest = record {
  world = world;
  keeps = subst (λ (n : ℕ). Keeps t n (state_after t n (before.round + 1)) after.replies after.rounds.items after.done.items) (sym rest.0) keeps;
  rest = rest;
}
