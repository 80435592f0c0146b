-- A recording of version 3 is one that a replay accepts, from its start and record by record.
use Rattle.std.proofs.Common.{◌≡◌, ◌≤◌, length, subst, refl, arith}
use Rattle.std.specs.List.{All}
use Rattle.std.proofs.lemmas.List.Elements.{All-nil, All-weaker}
use Rattle.trace_records.specs.Front.{Front}
use Rattle.trace_records.specs.Whole.{Ends}
use Rattle.trace_records.specs.declared.start.Start.{Start}
use Rattle.trace_format.specs.declared.entry.Entry.{Entry}
use Rattle.trace_format.specs.Sides.{SideFits}
use Rattle.recording.specs.declared.recording.Recording.{Recording}
use Rattle.recording.specs.declared.recording.Ring.{Ring}
use Rattle.recording.specs.Accepted.{IsAccepted, RecordsAccepted}
use Rattle.recording.specs.Actions.{Action, submit, fill, register, set, seek}
use Rattle.recording.specs.Growing.{Grown, grown_in, of_start, with_grown, with_records, no_records}
use Rattle.recording.specs.Limits.{table_limit, buffers_limit}
use Rattle.recording.specs.Rings.{slots_of}
use Rattle.recording.proofs.RecordsFacts.{RingFits, StepFits, ActionFits, GrownFits, all_at, all_from, grown_fits, spelled_start}
use Rattle.recording.proofs.StartFacts.{StartFits, length-table, table_fits}

-- with rings and steps that fit instead
pub grown_accepted : (v : Recording) (f : Front) (g : Grown) → IsAccepted v → GrownFits (length v.descriptions) f g → IsAccepted (with_grown v g)
grown_accepted v f g h fits =
    let d = length v.descriptions in
    let steps = StepFits (length g.rings) in
    record {
      sizes = record {
        items = h.sizes.items;
        descriptions = h.sizes.descriptions;
        descriptors = h.sizes.descriptors;
        rings = fits.few_rings;
        slots = All-weaker (RingFits d) (λ r. slots_of r ≤ table_limit) (λ r ring. ring.slots) g.rings fits.rings;
        buffers = All-weaker (RingFits d) (λ (r : Ring). length r.buffers ≤ buffers_limit) (λ r ring. ring.buffers) g.rings fits.rings;
        places = fits.few_steps;
      };
      nodes = h.nodes;
      descriptions = h.descriptions;
      slots = All-weaker (RingFits d) (λ (r : Ring). All (λ n. n ≤ d) r.slots) (λ r ring. ring.held) g.rings fits.rings;
      descriptors = h.descriptors;
      fits = λ k s e here action. subst ActionFits action (all_at steps g.steps k s here fits.steps).action;
      rings = λ k s here on. (all_at steps g.steps k s here fits.steps).in_rings on;
    }

-- the bytes beside an entry fit it, unless it is given
action_fits : (a : Action) → ((e : Entry) → a ≡ submit e → SideFits e) → ActionFits a
action_fits (submit e) h = h e refl
action_fits (fill buffer offset bytes) h = tt
action_fits (register slots) h = tt
action_fits (set file content) h = tt
action_fits (seek file position) h = tt

-- the rings and steps of a recording that a replay accepts fit
pub accepted_fits : (v : Recording) (f : Front) → IsAccepted v → length f.rings ≡ length v.rings → f.places ≡ length v.steps → GrownFits (length v.descriptions) f (grown_in v)
accepted_fits v f h rings places =
    let d = length v.descriptions in
    record {
      rings_are = rings;
      places_are = places;
      few_rings = h.sizes.rings;
      few_steps = h.sizes.places;
      rings = all_from (RingFits d) v.rings (λ i r here. record {
        slots = all_at (λ r. slots_of r ≤ table_limit) v.rings i r here h.sizes.slots;
        buffers = all_at (λ (r : Ring). length r.buffers ≤ buffers_limit) v.rings i r here h.sizes.buffers;
        held = all_at (λ (r : Ring). All (λ n. n ≤ d) r.slots) v.rings i r here h.slots;
      });
      steps = all_from (StepFits (length v.rings)) v.steps (λ i s here. record { in_rings = h.rings i s here; action = action_fits s.action (λ e action. h.fits i s e here action) });
    }

-- before the first record
pub start_accepted : (s : Start) → StartFits s → IsAccepted (of_start s)
start_accepted s start =
    let d = length s.descriptions in
    record {
      sizes = record {
        items = start.items;
        descriptions = start.descriptions;
        descriptors = omega (arith, start.table_size, length-table s.table_size s.descriptors);
        rings = omega arith;
        slots = All-nil (λ r. slots_of r ≤ table_limit);
        buffers = All-nil (λ (r : Ring). length r.buffers ≤ buffers_limit);
        places = omega arith;
      };
      nodes = start.nodes;
      descriptions = start.lead;
      slots = All-nil (λ (r : Ring). All (λ n. n ≤ d) r.slots);
      descriptors = table_fits s.table_size d s.descriptors start.descriptors;
      fits = λ k s e here action. absurd (cc);
      rings = λ k s here on. absurd (cc);
    }

pub records_accepted : RecordsAccepted
records_accepted t h =
    let grown = grown_fits t h (length t.start.descriptions) in
    grown_accepted (of_start t.start) grown.0 (with_records no_records t.records) (start_accepted t.start (spelled_start (Ends t.start) h.0 t.start t.records h.1)) grown.1
