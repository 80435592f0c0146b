-- The recording of the records so far goes on by the next record, also where its steps are forgotten.
use Rattle.std.proofs.Common.{◌≡◌, ℕ, ◌+◌, ◌<◌, true, List, [], ◌∷◌, ◌++◌, length, map, Some, refl, sym, ap, ◌∙◌, arith, length-append}
use Rattle.std.specs.List.{slice_get}
use Rattle.std.proofs.lemmas.List.{length-map}
use Rattle.std.proofs.lemmas.Option.{slice_get_within, same_Some}
use Rattle.trace_format.specs.declared.entry.Entry.{Entry}
use Rattle.trace_records.specs.Front.{places_of, no_records as no_front}
use Rattle.trace_records.specs.declared.record.Record.{Record}
use Rattle.trace_records.specs.declared.record.Record.TheVariants.{Enter, Fill, Set, Seek, RingStarts, RingEnds}
use Rattle.recording.specs.declared.recording.Recording.{Recording}
use Rattle.recording.specs.declared.recording.Ring.{Ring}
use Rattle.recording.specs.Accepted.{IsAccepted}
use Rattle.recording.specs.Actions.{Step, submit, is_on_ring}
use Rattle.recording.specs.Forgotten.{blank, blanks}
use Rattle.recording.specs.Fronts.{StartIsOfFront, NextIsOfFront, ForgottenIsOfFront, front}
use Rattle.recording.specs.Growing.{Grown, filling_bytes, grown_in, let_go, no_records, submitted, with_grown, with_record, with_records}
use Rattle.recording.specs.Records.{record_steps}
use Rattle.recording.specs.declared.record.Record.TheVariants as kept
use Rattle.recording.proofs.Blanks.{filling_at, length-blanks}
use Rattle.recording.proofs.Spots.{length-record_steps}
use Rattle.recording.proofs.RecordsAccepted.{accepted_fits, grown_accepted, start_accepted}
use Rattle.recording.proofs.RecordsFacts.{fit_behind, one_fits, records_fit, room_for, spelled_start, with_records-push}

-- ---- the start

pub start_is_of_front : StartIsOfFront
start_is_of_front s h = record {
  accepted = start_accepted s (spelled_start (λ front place text. text ≡ []) h.0 s [] h.1);
  same = refl;
  many = refl;
}

-- ---- one record more

-- rings go on by the rings alone
same_rings : (g h : Grown) (r : Record) → g.rings ≡ h.rings → (with_record g r).rings ≡ (with_record h r).rings
same_rings g h (Enter ring entries) e = e
same_rings g h (Fill ring buffer offset filling) e = e
same_rings g h (Set file content) e = e
same_rings g h (Seek file position) e = e
same_rings g h (RingStarts ring) e = rw e refl
same_rings g h (RingEnds ring) e = rw e refl

-- each record adds its own places
more_places : (g : Grown) (r : Record) → length (with_record g r).steps ≡ length g.steps + places_of r
more_places g (Enter ring entries) =
    let made = kept.Enter ring (map submitted entries) in
    omega (arith, length-append g.steps (record_steps (length g.steps) made), length-record_steps (length g.steps) made, length-map entries submitted)
more_places g (Fill ring buffer offset filling) = length-append g.steps (record_steps (length g.steps) (kept.Fill ring buffer offset (filling_bytes filling)))
more_places g (Set file content) = length-append g.steps (record_steps (length g.steps) (kept.Set file content))
more_places g (Seek file position) = length-append g.steps (record_steps (length g.steps) (kept.Seek file position))
more_places g (RingStarts ring) = length-append g.steps (record_steps (length g.steps) (kept.Register (length g.rings) ring.full))
more_places g (RingEnds ring) = omega arith

pub next_is_of_front : NextIsOfFront
next_is_of_front v s rs r is h =
    let d = length v.descriptions in
    let fits = fit_behind d no_front no_records rs r [] (records_fit (λ front place text. text ≡ []) h.0 s (rs ++ r ∷ []) h.1 d) in
    let rings : v.rings ≡ (with_records no_records rs).rings = ap (λ (t : Recording). t.rings) is.same in
    let here = accepted_fits v fits.0 is.accepted (omega (arith, fits.1.rings_are, ap length rings)) (omega (arith, fits.1.places_are, is.many)) in
    let next = one_fits d fits.0 (grown_in v) r fits.2 here in
    let grown = with_record (grown_in v) r in
    let push = with_records-push no_records rs r in (
      room_for d fits.0 (grown_in v) r here fits.2,
      record {
        accepted = grown_accepted v _ grown is.accepted next;
        same =
            ap (λ (t : Recording). with_grown t grown) is.same
            ∙ ap (λ (l : List Ring). record (front s rs) { rings = l; steps = grown.steps }) (same_rings (grown_in v) (with_records no_records rs) r rings ∙ ap (λ (g : Grown). g.rings) (sym push));
        many = rw push (omega (arith, more_places (grown_in v) r, more_places (with_records no_records rs) r, is.many));
      },
    )

-- ---- forgotten steps

-- a step of those that do nothing
blank_at : (count k : ℕ) (s : Step) → slice_get (blanks count) k ≡ Some s → (k < count) × (s ≡ blank k)
blank_at count k s here =
    let within : k < count = omega (arith, slice_get_within (blanks count) k s here, length-blanks count) in
    (within, same_Some s (blank k) (sym here ∙ filling_at [] count k within))

-- it submits none
not_an_entry : (k : ℕ) (e : Entry) → (blank k).action ≡ submit e → ⊥
not_an_entry k e is = cc

-- it does nothing on a ring
on_no_ring : (k : ℕ) → is_on_ring (blank k).action ≡ true → ⊥
on_no_ring k is = cc

forgotten_accepted : (v : Recording) → IsAccepted v → IsAccepted (let_go v)
forgotten_accepted v h =
    let count = length v.steps in
    record {
      sizes = record {
        items = h.sizes.items;
        descriptions = h.sizes.descriptions;
        descriptors = h.sizes.descriptors;
        rings = h.sizes.rings;
        slots = h.sizes.slots;
        buffers = h.sizes.buffers;
        places = omega (arith, h.sizes.places, length-blanks count);
      };
      nodes = h.nodes;
      descriptions = h.descriptions;
      slots = h.slots;
      descriptors = h.descriptors;
      fits = λ k s e here action. absurd (not_an_entry k e (sym (ap (λ (x : Step). x.action) (blank_at count k s here).1) ∙ action));
      rings = λ k s here on. absurd (on_no_ring k (ap (λ (x : Step). is_on_ring x.action) (sym (blank_at count k s here).1) ∙ on));
    }

pub forgotten_is_of_front : ForgottenIsOfFront
forgotten_is_of_front v s rs is = record {
  accepted = forgotten_accepted v is.accepted;
  same = ap (λ (t : Recording). record t { steps = blanks (length v.steps) }) is.same;
  many = omega (arith, length-blanks (length v.steps), is.many);
}
