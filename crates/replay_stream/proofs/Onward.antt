-- A replay that takes a record at a time goes on by the next record.
use Rattle.std.proofs.Common.{◌≡◌, ℕ, ◌-◌, ◌≤◌, [], ◌∷◌, ◌++◌, List, length, sym, ap, subst, ◌∙◌, inl, inr}
use Rattle.std.specs.Prelude.{◌⊎◌}
use Rattle.trace_records.specs.declared.record.Record.{Record}
use Rattle.trace_records.specs.declared.start.Start.{Start}
use Rattle.recording.specs.declared.recording.Recording.{Recording}
use Rattle.recording.specs.Accepted.{IsAccepted}
use Rattle.recording.specs.Fronts.{IsOfFront, IsSpelledFront}
use Rattle.recording.specs.Growing.{HasRoom, grown_in, let_go, of_start, with_next}
use Rattle.recording.specs.Steps.{places}
use Rattle.recording.proofs.Blanks.{length-blanks}
use Rattle.recording.proofs.Fronts.{forgotten_is_of_front, next_is_of_front, start_is_of_front}
use Rattle.chain_plan.specs.Stretch.{IsApart, chains_ahead}
use Rattle.world_parts.specs.Start.{start}
use Rattle.world_parts.specs.Sweeping.{swept}
use Rattle.world_parts.specs.World.{World}
use Rattle.op_meaning.specs.Step.{run_replies}
use Rattle.stream_laws.specs.Streamed.{at_hand, gone, place_behind, recording_of, replies_from, with_ring_of, world_from, world_within}
use Rattle.stream_laws.proofs.Growing.{hand_stands}
use Rattle.stream_laws.proofs.Streams.{record_is_alone, record_is_let_go}
use Rattle.sweep_laws.specs.Swept.{IsSweptBehind}
use Rattle.sweep_laws.proofs.Streams.{swept_begins, swept_goes_on, swept_replies, sweep_is_behind}
use Rattle.replay_stream.specs.declared.replaying.Replaying.{Replaying}
use Rattle.replay_stream.specs.Replayed.{HasRun, HasRunNext, MayLack}

-- a replay begins
pub begins : (b : Start) (p : Replaying) → IsSpelledFront b [] → p.recording ≡ of_start b → p.state ≡ start p.recording → HasRun b [] p
begins b p spelled is state = record {
  recording = subst (λ (t : Recording). IsOfFront t b []) (sym is) (start_is_of_front b spelled);
  gone = ap let_go is;
  state = subst (IsSweptBehind b []) (sym (state ∙ ap start is)) (swept_begins b spelled);
}

-- What the places of a record ask that are run from a first one on.
pub record IsReady (t : Recording) (first : ℕ) : Type 0 where
  pub accepted : IsAccepted t
  pub within : first ≤ places t
  pub apart : IsApart t first
  pub chains : chains_ahead t first ≡ first

module _ (b : Start) (front : List Record) (r : Record) (p : Replaying) (run : HasRun b front p) (spelled : IsSpelledFront b (front ++ r ∷ [])) where
  next_of_front : HasRoom (grown_in (let_go p.recording)) r × IsOfFront (with_next (let_go p.recording) r) b (front ++ r ∷ [])
  next_of_front = next_is_of_front (let_go p.recording) b front r (forgotten_is_of_front p.recording b front run.recording) spelled

  -- there is room for the record
  pub has_room : HasRoom (grown_in (let_go p.recording)) r
  has_room = next_of_front.0

  is_hand : with_next (let_go p.recording) r ≡ at_hand b front r
  is_hand = ap (λ t. with_next t r) run.gone

  is_first : places (let_go p.recording) ≡ place_behind b front
  is_first = ap places run.gone ∙ length-blanks (place_behind b front)

  hand_accepted : IsAccepted (at_hand b front r)
  hand_accepted = subst IsAccepted is_hand next_of_front.1.accepted

  hand_ready : IsReady (at_hand b front r) (place_behind b front)
  hand_ready =
      let alone = record_is_alone b front r in
      record { accepted = hand_accepted; within = (hand_stands b front r []).begins; apart = alone.0; chains = alone.1 }

  -- its places may run
  pub ready : (t : Recording) (first : ℕ) → t ≡ with_next (let_go p.recording) r → first ≡ places (let_go p.recording) → IsReady t first
  ready t first is at = subst (λ (x : Recording). IsReady x first) (sym (is ∙ is_hand)) (subst (IsReady (at_hand b front r)) (sym (at ∙ is_first)) hand_ready)

  -- what the replay has once they have run
  pub goes_on : (q : Replaying) (rings : ℕ) → q.recording ≡ with_next (let_go p.recording) r → q.first ≡ places (let_go p.recording) → rings ≡ length (let_go p.recording).rings
      → q.state ≡ world_from q.recording q.first (places q.recording - q.first) (with_ring_of q.recording rings p.state)
      → q.replies ≡ replies_from q.recording q.first (places q.recording - q.first) (with_ring_of q.recording rings p.state)
      → HasRunNext b front r q
  goes_on q rings is at ring state replies =
      let hand : q.recording ≡ at_hand b front r = is ∙ is_hand in
      let first : q.first ≡ place_behind b front = at ∙ is_first in
      let count : rings ≡ length (gone b front).rings = ring ∙ ap (λ (t : Recording). length t.rings) run.gone in
      let world : q.state ≡ world_within b front r p.state (places (at_hand b front r) - place_behind b front) =
      state ∙ (λ i. world_from (hand i) (first i) (places (hand i) - first i) (with_ring_of (hand i) (count i) p.state)) in
      let told = replies ∙ (λ i. replies_from (hand i) (first i) (places (hand i) - first i) (with_ring_of (hand i) (count i) p.state)) in
      record {
        run = record {
          recording = subst (λ (t : Recording). IsOfFront t b (front ++ r ∷ [])) (sym is) next_of_front.1;
          gone = ap let_go hand ∙ record_is_let_go b front r;
          state = subst (IsSweptBehind b (front ++ r ∷ [])) (sym world) (swept_goes_on b front r p.state hand_accepted spelled run.state);
        };
        at_hand = hand;
        first = first;
        replies = λ back.
            let u = recording_of b (front ++ r ∷ back) in
            (λ i. run_replies u (first i) ++ told i) ∙ swept_replies b front back r p.state hand_accepted spelled run.state ∙ ap (λ (t : Recording). run_replies u (places t)) (sym hand);
      }

-- what it has when what nothing leads to may have been dropped
module _ (b : Start) (front : List Record) (r : Record) (p : Replaying) (h : HasRunNext b front r p) where
  same_descriptions : length p.recording.descriptions ≡ length b.descriptions
  same_descriptions = ap (λ (t : Recording). length t.descriptions) h.at_hand

  swept_or_not : (w : World) → (w ≡ p.state) ⊎ (w ≡ swept (length p.recording.descriptions) p.state) → IsSweptBehind b (front ++ r ∷ []) w
  swept_or_not w (inl same) = subst (IsSweptBehind b (front ++ r ∷ [])) (sym same) h.run.state
  swept_or_not w (inr less) = subst (IsSweptBehind b (front ++ r ∷ [])) (sym (less ∙ ap (λ n. swept n p.state) same_descriptions)) (sweep_is_behind b (front ++ r ∷ []) p.state h.run.state)

  pub may_lack : (q : Replaying) → q.recording ≡ p.recording → q.first ≡ p.first → q.replies ≡ p.replies → MayLack (length p.recording.descriptions) p.state q.state → HasRunNext b front r q
  may_lack q recording first replies state = record {
    run = record {
      recording = subst (λ (t : Recording). IsOfFront t b (front ++ r ∷ [])) (sym recording) h.run.recording;
      gone = ap let_go recording ∙ h.run.gone;
      state = swept_or_not q.state state.is;
    };
    at_hand = recording ∙ h.at_hand;
    first = first ∙ h.first;
    replies = λ back. (λ i. run_replies (recording_of b (front ++ r ∷ back)) (first i) ++ replies i) ∙ h.replies back ∙ ap (λ (t : Recording). run_replies (recording_of b (front ++ r ∷ back)) (places t)) (sym recording);
  }
