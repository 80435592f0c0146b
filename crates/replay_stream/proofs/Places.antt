-- One place more of a replay that runs places from a first one on.
use Rattle.std.proofs.Common.{◌≡◌, ℕ, suc, ◌+◌, ◌-◌, ◌<◌, ◌≤◌, min, [], ◌∷◌, ◌++◌, Some, refl, sym, ap, subst, ◌∙◌, arith}
use Rattle.recording.specs.declared.recording.Recording.{Recording}
use Rattle.recording.specs.Steps.{places}
use Rattle.chain_plan.specs.Stretch.{IsApart, IsStretch, Roles, chains_ahead, end_of}
use Rattle.world_parts.specs.World.{World}
use Rattle.op_meaning.specs.declared.reply.Reply.{Reply}
use Rattle.op_meaning.specs.Step.{step_reply, step_world}
use Rattle.stream_laws.specs.Streamed.{replies_from, world_from}

module _ (t : Recording) (first place : ℕ) (s : World) (behind : first ≤ place) where
  -- one more than so many
  next_count : place + 1 - first ≡ suc (place - first)
  next_count = omega arith

  next_place : first + (place - first) ≡ place
  next_place = omega arith

  -- the world behind the place
  pub world_more : world_from t first (place + 1 - first) s ≡ step_world t place (world_from t first (place - first) s)
  world_more = rw (next_count, ap (λ k. step_world t k (world_from t first (place - first) s)) next_place) refl

  -- the replies with that of the place
  pub replies_more : (reply : Reply) → Some reply ≡ step_reply t place (world_from t first (place - first) s) → replies_from t first (place + 1 - first) s ≡ replies_from t first (place - first) s ++ reply ∷ []
  replies_more reply e =
      let here : step_reply t (first + (place - first)) (world_from t first (place - first) s) ≡ Some reply = ap (λ k. step_reply t k (world_from t first (place - first) s)) next_place ∙ sym e in
      rw (next_count, here) refl

-- a stretch of no places, ahead of which each place is a chain of its own
pub no_places : (t : Recording) (first : ℕ) → first ≤ places t → IsApart t first → chains_ahead t first ≡ first → IsStretch t (record { first = first; chains = first; roles = [] })
no_places t first within apart chains =
    let end : first + 0 ≡ first = omega arith in
    record { roles = refl; within = omega (arith, within); apart = subst (IsApart t) (sym end) apart; chains = sym (ap (chains_ahead t) end ∙ chains) }

-- a stretch that has a place
pub record HasPlace (t : Recording) (k : ℕ) (s : Roles) : Type 0 where
  pub stretch : IsStretch t s
  pub from : s.first ≤ k
  pub within : k < end_of s

-- the next stretch has the place at which the one before ends
pub next_has : (t : Recording) (k : ℕ) (s next : Roles) → IsStretch t next → next.first ≡ end_of s → min (next.first + 64) (places t) ≤ end_of next → k ≡ end_of s → k < places t → HasPlace t k next
next_has t k s next stretch behind least here lt = record {
  stretch = stretch;
  from = omega (arith, behind, here);
  within = omega (arith, behind, here, least, lt);
}
