-- A replay that drops what nothing leads to is the sequential run.
use Rattle.std.proofs.Common.{◌≡◌, ℕ, zero, suc, ◌+◌, ◌-◌, ◌<◌, ◌≤◌, List, [], ◌∷◌, ◌++◌, length, Option, Some, None, refl, sym, ap, subst, ◌∙◌, arith}
use Rattle.std.specs.List.{slice_get}
use Rattle.sqe_codec.specs.Answers.{each}
use Rattle.trace_records.specs.declared.record.Record.{Record}
use Rattle.trace_records.specs.declared.start.Start.{Start}
use Rattle.recording.specs.declared.recording.Recording.{Recording}
use Rattle.recording.specs.declared.recording.Ring.{Ring}
use Rattle.recording.specs.Accepted.{IsAccepted}
use Rattle.recording.specs.Fronts.{IsSpelledFront}
use Rattle.recording.specs.Growing.{Grown, no_records, of_start}
use Rattle.recording.specs.Steps.{places}
use Rattle.recording.proofs.Blanks.{length-blanks}
use Rattle.recording.proofs.Fronts.{start_is_of_front}
use Rattle.recording.proofs.RecordsFacts.{with_records-push}
use Rattle.std.specs.Ordering.{nat_cmp}
use Rattle.finite_maps.specs.Table.{Table, empty, pair_cmp}
use Rattle.world_parts.specs.Start.{start, buffers_from}
use Rattle.world_parts.specs.World.{World, IsWorld, Broken}
use Rattle.op_meaning.specs.declared.reply.Reply.{Reply}
use Rattle.op_meaning.specs.Step.{run_replies}
use Rattle.foot_print.specs.Laws.{Awaits}
use Rattle.foot_print.specs.Replayed.{IsBefore}
use Rattle.foot_print.proofs.Lawful.{replay_covers}
use Rattle.foot_print.proofs.Starts.{starts_in_world}
use Rattle.stream_laws.specs.Laws.{IsBehind}
use Rattle.stream_laws.specs.Streamed.{at_hand, gone, place_behind, recording_of, replies_from, world_before, world_within}
use Rattle.stream_laws.proofs.Growing.{hand_places, hand_stands}
use Rattle.stream_laws.proofs.Streams.{replies_are_in_order, stream_begins, stream_ends, stream_goes_on}
use Rattle.sweep_laws.specs.Laws.{IsSame}
use Rattle.sweep_laws.specs.Swept.{IsSweptBehind, SweptBegins, SweptReplies, SweptGoesOn, SweepIsBehind, SweptEnds}
use Rattle.sweep_laws.specs.Within.{IsWithin}
use Rattle.sweep_laws.proofs.Holders.{hand_holds}
use Rattle.sweep_laws.proofs.Places.{places_are_same}
use Rattle.sweep_laws.proofs.Sweeping.{swept_is_within}

-- The place behind the record at hand.
places_after : (b : Start) (front : List Record) (r : Record) → place_behind b (front ++ r ∷ []) ≡ places (at_hand b front r)
places_after b front r = ap (λ (g : Grown). length g.steps) (with_records-push no_records front r) ∙ sym (hand_places b front r)

within_itself : (n : ℕ) (s : World) → IsWorld s → IsWithin n s s
within_itself n s is = record {
  is_world = is;
  nodes = λ i there. refl;
  descriptions = λ d there. refl;
  first_descriptions = λ d lt. refl;
  slots = refl;
  descriptors = refl;
  buffers = refl;
  broken = refl;
}

-- Buffers make no difference to whether a world is one.
buffered : (s : World) (bs : Table pair_cmp (List ℕ)) → IsWorld s → IsWorld (record s { buffers = bs })
buffered s bs is = record {
  root = is.root;
  tree = is.tree;
  descriptions_lead = is.descriptions_lead;
  slots_lead = is.slots_lead;
  descriptors_lead = is.descriptors_lead;
  files_fit = is.files_fit;
  directories_are_read = is.directories_are_read;
  all_shown = is.all_shown;
}

unbroken : (s : World) (cs : Table nat_cmp Broken) → IsWorld s → IsWorld (record s { broken = cs })
unbroken s cs is = record {
  root = is.root;
  tree = is.tree;
  descriptions_lead = is.descriptions_lead;
  slots_lead = is.slots_lead;
  descriptors_lead = is.descriptors_lead;
  files_fit = is.files_fit;
  directories_are_read = is.directories_are_read;
  all_shown = is.all_shown;
}

pub swept_begins : SweptBegins
swept_begins b spelled =
    let accepted : IsAccepted (of_start b) = (start_is_of_front b spelled).accepted in
    let covers = replay_covers (of_start b) (starts_in_world (of_start b) accepted) in
    record {
      whole = start (of_start b);
      behind = (stream_begins b).1;
      is_world = covers.start_is_world;
      unused = covers.start_is_before 0;
      within = within_itself (length b.descriptions) (start (of_start b)) covers.start_is_world;
    }

-- The places of a record run one after another on both worlds.
module _ (b : Start) (front : List Record) (r : Record) (w : World) (accepted : IsAccepted (at_hand b front r)) (spelled : IsSpelledFront b (front ++ r ∷ [])) (h : IsSweptBehind b front w) where
  abbrev pub v : Recording
  v = at_hand b front r

  abbrev pub here : ℕ
  here = place_behind b front

  abbrev pub n : ℕ
  n = length b.descriptions

  abbrev pub all_at : ℕ → World
  all_at i = world_within b front r h.whole i

  abbrev pub some_at : ℕ → World
  some_at i = world_within b front r w i

  -- What both are before a place.
  pub record AreReady (i : ℕ) : Type 0 where
    pub is_world : IsWorld (all_at i)
    pub unused : IsBefore v (here + i) (all_at i)
    pub within : IsWithin n (all_at i) (some_at i)

  abbrev Begun : World → World → Type 0
  Begun s z = IsWorld s × IsBefore v here s × IsWithin n s z

  begun : (x : Option Ring) → Begun (elim x [ None ↦ h.whole | Some ring ↦ record h.whole { buffers = buffers_from (length (gone b front).rings) 0 ring.buffers h.whole.buffers } ])
      (elim x [ None ↦ w | Some ring ↦ record w { buffers = buffers_from (length (gone b front).rings) 0 ring.buffers w.buffers } ])
  begun None = (h.is_world, λ j le. record { no_node = (h.unused j le).no_node; no_description = (h.unused j le).no_description }, h.within)
  begun (Some ring) = (
    buffered h.whole _ h.is_world,
    λ j le. record { no_node = (h.unused j le).no_node; no_description = (h.unused j le).no_description },
    record {
      is_world = buffered w _ h.within.is_world;
      nodes = h.within.nodes;
      descriptions = h.within.descriptions;
      first_descriptions = h.within.first_descriptions;
      slots = h.within.slots;
      descriptors = h.within.descriptors;
      buffers = ap (buffers_from (length (gone b front).rings) 0 ring.buffers) h.within.buffers;
      broken = h.within.broken;
    },
  )

  ready_first : AreReady 0
  ready_first =
      let x = begun (slice_get v.rings (length (gone b front).rings)) in
      let same : here ≡ here + 0 = omega arith in
      record { is_world = x.0; unused = subst (λ k. IsBefore v k (all_at 0)) same x.1; within = x.2 }

  awaits : (i : ℕ) → AreReady i → Awaits v (here + i) (all_at i)
  awaits i a =
      let u = a.unused (here + i) (omega arith) in
      record { is_world = a.is_world; no_node = u.no_node; no_description = u.no_description }

  same_at : (i : ℕ) → here + i < places v → AreReady i → IsSame v (here + i) (all_at i) (some_at i)
  same_at i lt a = places_are_same v (here + i) (all_at i) (some_at i) (hand_holds b front r spelled (here + i) (omega arith)) (awaits i a) a.within

  ready_next : (i : ℕ) → here + i < places v → AreReady i → AreReady (suc i)
  ready_next i lt a =
      let covers = replay_covers v (starts_in_world v accepted) in
      let u = a.unused (here + i) (omega arith) in
      let next : suc (here + i) ≡ here + suc i = omega arith in
      record {
        is_world = covers.step_is_world (here + i) (all_at i) a.is_world u;
        unused = subst (λ k. IsBefore v k (all_at (suc i))) next (covers.step_is_before (suc (here + i)) (here + i) (all_at i) a.is_world u (omega arith) (λ j le. a.unused j (omega (arith, le))));
        within = (same_at i lt a).within;
      }

  ready : (i : ℕ) → here + i ≤ places v → AreReady i
  ready zero le = ready_first
  ready (suc i) le = ready_next i (omega (arith, le)) (ready i (omega (arith, le)))

  abbrev pub told : World → ℕ → List Reply
  told z i = replies_from v here i (world_before b front r z)

  pub told_same : (i : ℕ) → here + i ≤ places v → told w i ≡ told h.whole i
  told_same zero le = refl
  told_same (suc i) le =
      let same = same_at i (omega (arith, le)) (ready i (omega (arith, le))) in
      λ j. told_same i (omega (arith, le)) j ++ each (λ reply. reply ∷ []) (same.reply j)

  ends_ready : AreReady (places v - here)
  ends_ready = let begins = (hand_stands b front r []).begins in ready (places v - here) (omega (arith, begins))

  -- What is behind the record.
  pub behind_it : IsSweptBehind b (front ++ r ∷ []) (some_at (places v - here))
  behind_it =
      let begins = (hand_stands b front r []).begins in
      let a = ends_ready in
      let all : here + (places v - here) ≡ places v = omega (arith, begins) in
      record {
        whole = all_at (places v - here);
        behind = stream_goes_on b front r h.whole accepted h.behind;
        is_world = a.is_world;
        unused = unused_behind all a.unused;
        within = a.within;
      }
    where
      unused_behind : here + (places v - here) ≡ places v → IsBefore v (here + (places v - here)) (all_at (places v - here)) → IsBefore (gone b (front ++ r ∷ [])) (place_behind b (front ++ r ∷ [])) (all_at (places v - here))
      unused_behind all u j le = let x = u j (omega (arith, le, all, places_after b front r)) in record { no_node = x.no_node; no_description = x.no_description }

pub swept_goes_on : SweptGoesOn
swept_goes_on b front r w accepted spelled h = behind_it b front r w accepted spelled h

pub swept_replies : SweptReplies
swept_replies b front back r w accepted spelled h =
    let u = recording_of b (front ++ r ∷ back) in
    let first = place_behind b front in
    let end = places (at_hand b front r) in
    let begins = (hand_stands b front r []).begins in
    ap (λ x. run_replies u first ++ x) (told_same b front r w accepted spelled h (end - first) (omega (arith, begins)))
    ∙ replies_are_in_order b front back r h.whole accepted h.behind

-- Chains that broke are of places that have run.
forgotten : (b : Start) (front : List Record) (s : World) → IsBehind b front s → IsBehind b front (record s { broken = empty })
forgotten b front s behind back =
    let f = behind back in
    record {
      nodes = f.nodes;
      descriptions = f.descriptions;
      slots = f.slots;
      descriptors = f.descriptors;
      buffers = f.buffers;
      chains = record {
        same = λ k from lt. absurd (omega (arith, from, lt, length-blanks (place_behind b front)));
        later = λ c le. refl;
        later_there = f.chains.later_there;
      };
    }

pub sweep_is_behind : SweepIsBehind
sweep_is_behind b front w h = record {
  whole = record h.whole { broken = empty };
  behind = forgotten b front h.whole h.behind;
  is_world = unbroken h.whole empty h.is_world;
  unused = λ j le. record { no_node = (h.unused j le).no_node; no_description = (h.unused j le).no_description };
  within = swept_is_within (length b.descriptions) h.whole w h.within;
}

pub swept_ends : SweptEnds
swept_ends b records w h = record { whole = h.whole; shows = stream_ends b records h.whole h.behind; is_world = h.is_world; within = h.within }
