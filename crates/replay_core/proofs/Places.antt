-- One place more of the sequential run.
use Rattle.std.proofs.Common.{◌≡◌, ℕ, ◌+◌, ◌<◌, ◌≤◌, min, List, [], ◌∷◌, ◌++◌, Some, add-one, sym, ◌∙◌, arith}
use Rattle.std.specs.List.{range_with_len}
use Rattle.sqe_codec.specs.Answers.{each}
use Rattle.interleaving.proofs.Onwards.{range-snoc}
use Rattle.recording.specs.declared.recording.Recording.{Recording}
use Rattle.recording.specs.Steps.{places}
use Rattle.chain_plan.specs.Stretch.{IsStretch, Roles, end_of}
use Rattle.op_meaning.specs.declared.reply.Reply.{Reply}
use Rattle.op_meaning.specs.Step.{step_reply, run_world, run_replies}

-- one place more of the sequential run
pub run_replies-more : (t : Recording) (k : ℕ) (replies more : List Reply) (reply : Reply) → replies ≡ run_replies t k → Some reply ≡ step_reply t k (run_world t k) → more ≡ replies ++ reply ∷ [] → more ≡ run_replies t (k + 1)
run_replies-more t k replies more reply so e m = rw add-one (m ∙ (λ i. so i ++ each (λ (r : Reply). r ∷ []) (e i)))

pub rounds-more : (k : ℕ) (rounds more : List ℕ) → rounds ≡ range_with_len 0 k → more ≡ rounds ++ k ∷ [] → more ≡ range_with_len 0 (k + 1)
rounds-more k rounds more so m =
    let e : 0 + k ≡ k = omega arith in
    rw add-one (m ∙ (λ i. so i ++ sym e i ∷ []) ∙ sym (range-snoc 0 k))

-- a stretch that has a place
pub record HasPlace (t : Recording) (k : ℕ) (s : Roles) : Type 0 where
  pub stretch : IsStretch t s
  pub from : s.first ≤ k
  pub within : k < end_of s

-- the next stretch has the place at which the one before ends
pub next_has : (t : Recording) (k : ℕ) (s next : Roles) → IsStretch t next → next.first ≡ end_of s → min (next.first + 64) (places t) ≤ end_of next → k ≡ end_of s → k < places t → HasPlace t k next
next_has t k s next stretch behind least here lt = record {
  stretch = stretch;
  from = omega (arith, behind, here);
  within = omega (arith, behind, here, least, lt);
}
