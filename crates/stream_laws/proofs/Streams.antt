-- A replay that lets go of each record that it has run is the sequential run.
use Rattle.std.proofs.Common.{◌≡◌, ℕ, zero, suc, ◌+◌, ◌-◌, ◌<◌, ◌≤◌, List, [], ◌∷◌, ◌++◌, length, map, refl, sym, ap, subst, ◌∙◌, arith, inl, inr, append_assoc}
use Rattle.std.proofs.lemmas.Bool.{cases_eq, cases_lt}
use Rattle.std.proofs.lemmas.List.{append-nil, length-append, length-map, map-append}
use Rattle.std.proofs.lemmas.Option.{slice_get_past}
use Rattle.std.specs.Prelude.{All, Option, Some}
use Rattle.std.specs.List.{slice_get}
use Rattle.trace_format.proofs.Spots.{slice_get-append_right}
use Rattle.trace_records.specs.declared.record.Record.{Record}
use Rattle.trace_records.specs.declared.record.Record.TheVariants.{Enter, Fill, Set, Seek, RingStarts, RingEnds}
use Rattle.trace_records.specs.declared.start.Start.{Start}
use Rattle.recording.specs.declared.recording.Recording.{Recording}
use Rattle.recording.specs.declared.recording.Ring.{Ring}
use Rattle.recording.specs.Accepted.{IsAccepted}
use Rattle.recording.specs.Growing.{Grown, new_ring, with_end, with_records, no_records, recorded, of_start}
use Rattle.recording.specs.Steps.{places}
use Rattle.recording.specs.Forgotten.{blanks}
use Rattle.recording.proofs.Blanks.{length-blanks, filling_at}
use Rattle.recording.proofs.RecordsFacts.{with_records-push}
use Rattle.chain_plan.specs.Chain.{chain_of}
use Rattle.chain_plan.specs.Stretch.{chains_ahead}
use Rattle.chain_plan.proofs.Walk.{chains_ahead-le}
use Rattle.stream_laws.proofs.Chains.{apart_above, ahead-mono}
use Rattle.finite_maps.specs.Table.{Table, empty, get, pair_keys, pair_cmp, same_table}
use Rattle.world_parts.specs.World.{World, buffer}
use Rattle.world_parts.specs.Start.{start, buffers_from, ring_buffers, bare}
use Rattle.op_meaning.specs.Step.{step_reply, run_replies, run_world, sequential_world}
use Rattle.op_meaning.specs.declared.reply.Reply.{Reply}
use Rattle.sqe_codec.specs.Answers.{each}
use Rattle.stream_laws.specs.Standing.{still_open, StartsEmpty, StandsFor, BuffersFollow, ChainsFollow, Follows}
use Rattle.stream_laws.specs.Streamed.{recording_of, place_behind, gone, at_hand, with_ring_of, replies_from, world_before, world_within}
use Rattle.stream_laws.specs.Laws.{IsAlike, IsBehind, ShowAlike, StreamBegins, StreamReplies, RepliesAreInOrder, StreamGoesOn, StreamEnds, RecordIsLetGo, RecordIsAlone}
use Rattle.stream_laws.proofs.Growing.{grows, end_same, blank_steps, blank_apart, blank_chains, hand_blank, hand_places, hand_stands, rings_alike}
use Rattle.stream_laws.proofs.Places.{places_are_alike}
use Rattle.stream_laws.proofs.Starting.{items_keep, no_slots, beside, own_buffers, none_behind, at_ring, ended_alike}

-- Buffers follow for other recordings with as many rings.
pub buffers_for : (v x u : Recording) (few all : Table pair_cmp (List ℕ)) → length v.rings ≡ length x.rings → BuffersFollow v u few all → BuffersFollow x u few all
buffers_for v x u few all e f = record {
  same = λ q n lt. f.same q n (omega (arith, e, lt));
  missing = λ q n le. f.missing q n (omega (arith, e, le));
  at_start = λ q n le. f.at_start q n (omega (arith, e, le));
}

-- The buffers of a new ring are those that it starts with.
module _ (v x u : Recording) (ring : Ring) (later : List Ring) (few all : Table pair_cmp (List ℕ)) (f : BuffersFollow v u few all)
    (longer : length x.rings ≡ suc (length v.rings)) (there : map still_open u.rings ≡ map still_open v.rings ++ ring ∷ later) where
  abbrev n : ℕ
  n = length v.rings

  starts_with : (j : ℕ) → buffer (start u) n j ≡ get (buffers_from n 0 ring.buffers empty) (n, j)
  starts_with j =
      ap (λ m. get m (n, j)) (sym (ended_alike 0 u.rings))
      ∙ ap (λ rs. get (ring_buffers 0 rs) (n, j)) there
      ∙ at_ring 0 (map still_open v.rings) ring later n j (omega (arith, length-map v.rings still_open))

  ring_added : BuffersFollow x u (buffers_from n 0 ring.buffers few) all
  ring_added = record {
    same = λ q j lt. elim (cases_eq q n) [
      | inl e ↦ rw e (own_buffers n 0 ring.buffers few empty j (f.missing n j (omega arith)) ∙ sym (starts_with j) ∙ sym (f.at_start n j (omega arith)))
      | inr ne ↦ beside n 0 ring.buffers few q j ne ∙ f.same q j (omega (arith, lt, longer, ne))
    ];
    missing = λ q j le. beside n 0 ring.buffers few q j (λ e. absurd (omega (arith, e, le, longer))) ∙ f.missing q j (omega (arith, le, longer));
    at_start = λ q j le. f.at_start q j (omega (arith, le, longer));
  }

module _ (b : Start) (front : List Record) (r : Record) (back : List Record) where
  abbrev p : ℕ
  p = place_behind b front

  abbrev before : Grown
  before = with_records no_records front

  abbrev v : Recording
  v = at_hand b front r

  abbrev u : Recording
  u = recording_of b (front ++ r ∷ back)

  stands : StandsFor v u p
  stands = hand_stands b front r back

  abbrev far : ℕ
  far = places v

  hand_chains : chains_ahead v p ≡ p
  hand_chains = blank_chains v p (hand_blank b front r)

  -- With the record at hand no chain of its places has broken.
  chains_begin : (s w : World) → Follows (gone b front) u p s w → ChainsFollow v u p s.broken w.broken
  chains_begin s w f =
      let past = length-blanks p in
      let mine = λ (c : ℕ) (le : p ≤ c). f.chains.later c (omega (arith, le, past, chains_ahead-le (gone b front) (places (gone b front)))) in
      let others = λ (c : ℕ) (le : chains_ahead u p ≤ c). f.chains.later_there c (subst (λ n. chains_ahead u n ≤ c) (sym past) le) in
      record {
        same = λ k from lt. mine (chain_of v k) (omega (arith, hand_chains, apart_above v p k stands.apart from)) ∙ sym (others (chain_of u k) (apart_above u p k stands.apart_there from));
        later = λ c le. mine c (omega (arith, le, hand_chains, ahead-mono v p far stands.begins));
        later_there = λ c le. others c (omega (arith, le, ahead-mono u p far stands.begins));
      }

  with_buffers : (s t w : World) → Follows (gone b front) u p s w → t.nodes ≡ s.nodes → t.descriptions ≡ s.descriptions → t.slots ≡ s.slots → t.descriptors ≡ s.descriptors → t.broken ≡ s.broken
      → BuffersFollow v u t.buffers w.buffers → Follows v u p t w
  with_buffers s t w f nodes descriptions slots descriptors broken buffers = record {
    nodes = nodes ∙ f.nodes;
    descriptions = descriptions ∙ f.descriptions;
    slots = slots ∙ f.slots;
    descriptors = descriptors ∙ f.descriptors;
    buffers = buffers;
    chains = subst (λ m. ChainsFollow v u p m w.broken) (sym broken) (chains_begin s w f);
  }

  abbrev IsNew : World → World → Type 0
  IsNew s t = (w : World) → Follows (gone b front) u p s w → Follows v u p t w

-- The buffers of a ring are put beside the others where it is there.
no_ring : (t : Recording) (n : ℕ) (s : World) → length t.rings ≤ n → with_ring_of t n s ≡ s
no_ring t n s le = rw (slice_get_past t.rings n le, with_ring_of) refl

a_ring : (t : Recording) (n : ℕ) (s : World) (ring : Ring) → slice_get t.rings n ≡ Some ring → with_ring_of t n s ≡ record s { buffers = buffers_from n 0 ring.buffers s.buffers }
a_ring t n s ring there = rw (there, with_ring_of) refl

-- A record comes that starts no ring, or one that does.
stays : (b : Start) (front : List Record) (r : Record) (back : List Record) (s : World) → length (gone b front).rings ≡ length (at_hand b front r).rings → IsNew b front r back s (world_before b front r s)
stays b front r back s as_many w f =
    subst (λ t. Follows (at_hand b front r) (recording_of b (front ++ r ∷ back)) (place_behind b front) t w) (sym (no_ring (at_hand b front r) (length (gone b front).rings) s (omega (arith, as_many))))
    (with_buffers b front r back s s w f refl refl refl refl refl (buffers_for (gone b front) (at_hand b front r) _ s.buffers w.buffers as_many f.buffers))

comes : (b : Start) (front : List Record) (r : Record) (back : List Record) (s : World) → IsNew b front r back s (world_before b front r s)
comes b front (Enter ring entries) back s w f = stays b front (Enter ring entries) back s refl w f
comes b front (Fill ring buffer_number offset filling) back s w f = stays b front (Fill ring buffer_number offset filling) back s refl w f
comes b front (Set file content) back s w f = stays b front (Set file content) back s refl w f
comes b front (Seek file position) back s w f = stays b front (Seek file position) back s refl w f
comes b front (RingEnds number) back s w f =
    let rings = (with_records no_records front).rings in
    stays b front (RingEnds number) back s (sym (length-map rings still_open) ∙ ap length (sym (end_same rings number)) ∙ length-map (with_end rings number) still_open) w f
comes b front (RingStarts ring) back s w f =
    let rings = (with_records no_records front).rings in
    let v = at_hand b front (RingStarts ring) in
    let x = new_ring rings ring in
    let later = (hand_stands b front (RingStarts ring) back).rings.later in
    let same = (hand_stands b front (RingStarts ring) back).rings.same in
    let more : length (rings ++ x ∷ []) ≡ suc (length rings) = omega (arith, length-append rings (x ∷ [])) in
    let all = same ∙ ap (λ rs. rs ++ later) (map-append still_open rings (x ∷ [])) ∙ append_assoc (map still_open rings) (x ∷ []) later in
    let here = slice_get-append_right rings (x ∷ []) (length rings) 0 (omega arith) in
    subst (λ t. Follows v (recording_of b (front ++ RingStarts ring ∷ back)) (place_behind b front) t w) (sym (a_ring v (length rings) s x here))
    (with_buffers b front (RingStarts ring) back s (record s { buffers = buffers_from (length rings) 0 ring.buffers s.buffers }) w f refl refl refl refl refl
    (ring_added (gone b front) v _ x later s.buffers w.buffers f.buffers more all))

-- Its places run one after another.
module _ (b : Start) (front : List Record) (r : Record) (back : List Record) (s : World) (accepted : IsAccepted (at_hand b front r)) (behind : IsBehind b front s) where
  abbrev here : ℕ
  here = place_behind b front

  abbrev mine : Recording
  mine = at_hand b front r

  abbrev whole : Recording
  whole = recording_of b (front ++ r ∷ back)

  first_world : Follows mine whole here (world_before b front r s) (run_world whole here)
  first_world = comes b front r back s (run_world whole here) (behind (r ∷ back))

  alike_from : (i : ℕ) → here + i < places mine → Follows mine whole here (world_within b front r s i) (run_world whole (here + i))
      → IsAlike mine whole here (here + i) (world_within b front r s i) (run_world whole (here + i))
  alike_from i lt f = places_are_alike mine whole here (here + i) (world_within b front r s i) (run_world whole (here + i)) (hand_stands b front r back) accepted (omega arith) lt f

  runs_to : (i : ℕ) → here + i ≤ places mine → Follows mine whole here (world_within b front r s i) (run_world whole (here + i))
  runs_to zero le =
      let same : here ≡ here + 0 = omega arith in
      subst (λ n. Follows mine whole here (world_before b front r s) (run_world whole n)) same first_world
  runs_to (suc i) le =
      let next : suc (here + i) ≡ here + suc i = omega arith in
      subst (λ n. Follows mine whole here (world_within b front r s (suc i)) (run_world whole n)) next
      (alike_from i (omega (arith, le)) (runs_to i (omega (arith, le)))).world

  alike_at : (i : ℕ) → here + i < places mine → IsAlike mine whole here (here + i) (world_within b front r s i) (run_world whole (here + i))
  alike_at i lt = alike_from i lt (runs_to i (omega (arith, lt)))

  -- Their replies come one after another.
  replies_to : (i : ℕ) → here + i ≤ places mine → run_replies whole here ++ replies_from mine here i (world_before b front r s) ≡ run_replies whole (here + i)
  replies_to zero le =
      let same : here ≡ here + 0 = omega arith in
      append-nil (run_replies whole here) ∙ ap (run_replies whole) same
  replies_to (suc i) le =
      let next : suc (here + i) ≡ here + suc i = omega arith in
      let one = λ (o : Option Reply). each (λ reply. reply ∷ []) o in
      sym (append_assoc (run_replies whole here) (replies_from mine here i (world_before b front r s)) (one (step_reply mine (here + i) (world_within b front r s i))))
      ∙ (λ j. replies_to i (omega (arith, le)) j ++ one ((alike_at i (omega (arith, le))).reply j))
      ∙ ap (run_replies whole) next

  -- The record is let go.
  abbrev after : List Record
  after = front ++ r ∷ []

  places_after : place_behind b after ≡ places mine
  places_after = ap (λ (g : Grown). length g.steps) (with_records-push no_records front r) ∙ sym (hand_places b front r)

  rings_after : length mine.rings ≡ length (gone b after).rings
  rings_after = ap length (rings_alike (with_records no_records front) r) ∙ ap (λ (g : Grown). length g.rings) (sym (with_records-push no_records front r))

  places_gone : places (gone b after) ≡ places mine
  places_gone = length-blanks (place_behind b after) ∙ places_after

  chains_gone : chains_ahead (gone b after) (places (gone b after)) ≡ places mine
  chains_gone =
      ap (chains_ahead (gone b after)) (length-blanks (place_behind b after))
      ∙ blank_chains (gone b after) (place_behind b after) (filling_at [] (place_behind b after))
      ∙ places_after

  chains_left : (t w : World) → Follows mine whole here t w → ChainsFollow (gone b after) whole (place_behind b after) t.broken w.broken
  chains_left t w f = record {
    same = λ k from lt. absurd (omega (arith, from, lt, length-blanks (place_behind b after)));
    later = λ c le. f.chains.later c (omega (arith, le, chains_gone, chains_ahead-le mine (places mine)));
    later_there = λ c le. f.chains.later_there c (subst (λ n. chains_ahead whole n ≤ c) places_gone le);
  }

  left : (t w : World) → Follows mine whole here t w → Follows (gone b after) whole (place_behind b after) t w
  left t w f = record {
    nodes = f.nodes;
    descriptions = f.descriptions;
    slots = f.slots;
    descriptors = f.descriptors;
    buffers = buffers_for mine (gone b after) whole t.buffers w.buffers rings_after f.buffers;
    chains = chains_left t w f;
  }

  ends_behind : (n : ℕ) → here + (n - here) ≡ n → n ≡ places mine → Follows (gone b after) whole (place_behind b after) (world_within b front r s (n - here)) (run_world whole (place_behind b after))
  ends_behind n back_again all =
      let t = world_within b front r s (n - here) in
      left t (run_world whole (place_behind b after))
      (subst (λ m. Follows mine whole here t (run_world whole m)) (back_again ∙ all ∙ sym places_after) (runs_to (n - here) (omega (arith, back_again, all))))

pub stream_replies : StreamReplies
stream_replies b front back r s i accepted behind lt = (alike_at b front r back s accepted behind i lt).reply

pub replies_are_in_order : RepliesAreInOrder
replies_are_in_order b front back r s accepted behind =
    let first = place_behind b front in
    let end = places (at_hand b front r) in
    let begins = (hand_stands b front r back).begins in
    let back_again : first + (end - first) ≡ end = omega (arith, begins) in
    replies_to b front r back s accepted behind (end - first) (omega (arith, back_again)) ∙ ap (run_replies (recording_of b (front ++ r ∷ back))) back_again

pub stream_goes_on : StreamGoesOn
stream_goes_on b front r s accepted behind back =
    let n = places (at_hand b front r) in
    let begins = (hand_stands b front r back).begins in
    let core = ends_behind b front r back s accepted behind n (omega (arith, begins)) refl in
    subst (λ rs. Follows (gone b (front ++ r ∷ [])) (recording_of b rs) (place_behind b (front ++ r ∷ [])) (world_within b front r s (n - place_behind b front)) (run_world (recording_of b rs) (place_behind b (front ++ r ∷ []))))
    (sym (append_assoc front (r ∷ []) back)) core

pub record_is_let_go : RecordIsLetGo
record_is_let_go b front r =
    let before = with_records no_records front in
    (λ i. recorded b (record { rings = rings_alike before r i; steps = blanks (hand_places b front r i) }))
    ∙ ap (λ g. recorded b (blank_steps g)) (sym (with_records-push no_records front r))

pub record_is_alone : RecordIsAlone
record_is_alone b front r = (blank_apart (at_hand b front r) (place_behind b front) (hand_blank b front r), blank_chains (at_hand b front r) (place_behind b front) (hand_blank b front r))

begins_behind : (b : Start) → IsBehind b [] (start (of_start b))
begins_behind b back =
    let grown = with_records no_records back in
    let front = (grows no_records back).rings in
    let slots_empty = no_slots 0 grown.rings (subst (All StartsEmpty) (sym front.same) front.empty) in
    let unbroken = items_keep bare 1 b.items in
    record {
      nodes = refl;
      descriptions = refl;
      slots = sym slots_empty;
      descriptors = refl;
      buffers = record { same = λ q n lt. absurd (omega (arith, lt)); missing = λ q n le. refl; at_start = λ q n le. refl };
      chains = record { same = λ k from lt. absurd (omega (arith, lt)); later = λ c le. ap (λ m. get m c) unbroken; later_there = λ c le. ap (λ m. get m c) unbroken };
    }

pub stream_begins : StreamBegins
stream_begins b = (refl, begins_behind b)

-- At the end no ring is missing.
shown_alike : (b : Start) (records : List Record) (s w : World) → Follows (gone b records) (recording_of b records) (place_behind b records) s w → ShowAlike s w
shown_alike b records s w f =
    let rings = (with_records no_records records).rings in
    record {
      nodes = f.nodes;
      descriptions = f.descriptions;
      slots = f.slots;
      descriptors = f.descriptors;
      buffers = same_table pair_keys s.buffers w.buffers (λ q. elim (cases_lt q.0 (length rings)) [
        | inl lt ↦ f.buffers.same q.0 q.1 lt
        | inr le ↦ f.buffers.missing q.0 q.1 le ∙ sym (f.buffers.at_start q.0 q.1 le ∙ none_behind 0 rings q.0 q.1 (omega (arith, le)))
      ]);
    }

pub stream_ends : StreamEnds
stream_ends b records s behind =
    shown_alike b records s (sequential_world (recording_of b records))
    (subst (λ rs. Follows (gone b records) (recording_of b rs) (place_behind b records) s (run_world (recording_of b rs) (place_behind b records))) (append-nil records) (behind []))
