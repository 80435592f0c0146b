-- What the format asks of each record of version 3, and of the rings and steps of the records so far.
use Rattle.std.proofs.Common.{◌≡◌, ℕ, suc, ◌+◌, ◌<◌, ◌≤◌, true, List, [], ◌∷◌, ◌++◌, length, Option, Some, None, refl, sym, ap, subst, ◌∙◌, arith, inl, inr, length-append}
use Rattle.std.specs.Prelude.{◌^◌, ◌==◌, map}
use Rattle.std.specs.List.{All, slice_get}
use Rattle.std.specs.Int.{w16, w32}
use Rattle.std.proofs.lemmas.Bool.{eqb-true, leb-true}
use Rattle.std.proofs.lemmas.Bool.Decides.{nat_tests}
use Rattle.std.proofs.lemmas.List.{append-nil, length-set, length-map}
use Rattle.std.proofs.lemmas.List.Elements.{All-nil, All-cons, All-append, All-push, All-map, All-set, All-weaker, All-get_or}
use Rattle.std.proofs.lemmas.Option.{slice_get_cases, slice_get_within, get_or_from_slice_get, same_Some, none-some}
use Rattle.sqe_codec.specs.declared.sqe.Sqe.{Sqe}
use Rattle.sqe_codec.specs.Fields.{entry_of}
use Rattle.trace_format.specs.Submitted.{Submitted}
use Rattle.trace_format.specs.Sides.{SideFits, is_side_of}
use Rattle.trace_format.specs.Text.{buffer}
use Rattle.trace_format.proofs.Apart.{AnyText, keeps_any, Own, apart, at_place, at_test, test_passed, at_known, at_done, at_choice, within_limit, each, length-several}
use Rattle.trace_records.specs.Front.{Front, after, ring_at, sizes_of, places_of, no_records as no_front}
use Rattle.trace_records.specs.Records.{ring_there, meant, stored, zeros, passed, refused, entry, enter, filled, fill, slot_at, file_at, position, content, set, seek, ring, ring_ends, ring_starts, body, is_place, has_room, next}
use Rattle.trace_records.specs.Whole.{Behind, Begins, Ends}
use Rattle.trace_records.specs.declared.front.Sizes.{Sizes}
use Rattle.trace_records.specs.declared.record.Entry.{Entry}
use Rattle.trace_records.specs.declared.record.Beside.{Beside}
use Rattle.trace_records.specs.declared.record.FileAt.{FileAt}
use Rattle.trace_records.specs.declared.record.Ring as new
use Rattle.trace_records.specs.declared.record.Record.{Record}
use Rattle.trace_records.specs.declared.record.Record.TheVariants.{Enter, Fill, Set, Seek, RingStarts, RingEnds}
use Rattle.trace_records.specs.declared.start.Descriptor.{Descriptor}
use Rattle.trace_records.specs.declared.start.Start.{Start}
use Rattle.trace_records.specs.declared.trace.Trace.{Trace}
use Rattle.recording.specs.declared.recording.Ring.{Ring}
use Rattle.recording.specs.Fronts.{IsSpelledFront}
use Rattle.recording.specs.Growing.{Grown, HasRoom, given_in, submitted, new_ring, with_end, with_record, with_records, no_records}
use Rattle.recording.specs.Limits.{places_limit, table_limit, buffers_limit}
use Rattle.recording.specs.Rings.{slots_of}
use Rattle.recording.specs.Spelled.{IsSpelled}
use Rattle.recording.specs.Actions.{Step, Action, submit, fill as fills, register, set as sets, seek as seeks, ring_of, is_slot, is_on_ring}
use Rattle.recording.proofs.StartFacts.{DescriptorFits, StartFits, start_fits}

-- ---- lists

-- what holds of all holds of one
pub all_at : {X : Type 0} (P : X → Type 0) (xs : List X) (i : ℕ) (x : X) → slice_get xs i ≡ Some x → All P xs → P x
all_at P xs i x here all = subst P (get_or_from_slice_get xs i x x here) (All-get_or P xs i x (slice_get_within xs i x here) all)

-- what holds of each holds of all
pub all_from : {X : Type 0} (P : X → Type 0) (xs : List X) → ((i : ℕ) (x : X) → slice_get xs i ≡ Some x → P x) → All P xs
all_from P [] each = All-nil P
all_from P (x ∷ xs) each = All-cons P x xs (each 0 x refl) (all_from P xs (λ i y here. each (suc i) y here))

-- ---- entries

-- The bytes that an entry speaks of fit it, unless it is given.
abbrev pub EntryFits : Entry → Type 0
EntryFits e = SideFits (submitted e)

stored_fits : (begin : ℕ) (e : Sqe) (y : Beside) → Own AnyText (stored begin e) y → is_side_of e (meant y) ≡ true
unfolding stored
stored_fits begin e y o =
    let len = apart keeps_any (at_place o) in
    let bytes = apart keeps_any (at_test (at_place len.after)) in
    subst (λ (b : Beside). is_side_of e (meant b) ≡ true) (sym (at_done (at_test bytes.after)).1) (test_passed bytes.after)

zeros_fit : (e : Sqe) (y : Beside) → Own AnyText (zeros e) y → is_side_of e (meant y) ≡ true
unfolding zeros
zeros_fit e y o =
    let len = apart keeps_any (at_place o) in
    let lengths = apart keeps_any len.after in
    subst (λ (b : Beside). is_side_of e (meant b) ≡ true) (sym (at_done (at_test lengths.after)).1) (test_passed lengths.after)

-- what passes or is refused is given
passed_given : (y : Beside) → Own AnyText passed y → given_in y ≡ None → ⊥
unfolding passed
passed_given y o none =
    let result = apart keeps_any o in
    let fails = apart keeps_any result.after in
    none-some _ (sym none ∙ ap given_in (at_done fails.after).1)

refused_given : (y : Beside) → Own AnyText refused y → given_in y ≡ None → ⊥
unfolding refused
refused_given y o none =
    let result = apart keeps_any (at_place o) in
    none-some _ (sym none ∙ ap given_in (at_done (at_test result.after)).1)

entry_fits : (begin : ℕ) (e : Entry) → Own AnyText (entry begin) e → EntryFits e
unfolding entry
entry_fits begin e o =
    let bytes = apart keeps_any o in
    let form = apart keeps_any (at_place bytes.after) in
    let beside = apart keeps_any (at_test form.after) in
    let sqe = entry_of bytes.x in
    let fits : EntryFits (record { sqe = sqe; beside = beside.x }) = λ none. elim (at_choice beside.own) [
      | inl a ↦ stored_fits begin sqe beside.x a.1
      | inr b ↦ elim (at_choice b.1) [
        | inl c ↦ zeros_fit sqe beside.x c.1
        | inr c ↦ elim (at_choice c.1) [
          | inl d ↦ absurd (passed_given beside.x d.1 none)
          | inr d ↦ absurd (refused_given beside.x d.1 none)
        ]
      ]
    ] in
    subst EntryFits (sym (at_done beside.after).1) fits

-- ---- records

-- A ring with this number is there.
there : (rings : List (Option Sizes)) (n : ℕ) (z : Sizes) → ring_at rings n ≡ Some z → n < length rings
there rings n z e = elim (slice_get_cases rings n).1 [
  | inl h ↦ h.1
  | inr h ↦ absurd (none-some z (rw (h.1, ring_at) at e))
]

ring_is_there : (f : Front) (n : ℕ) → Own AnyText (ring_there f) n → n < length f.rings
ring_is_there f n o =
    let read = apart keeps_any (at_place o) in
    let known = read.after in
    subst (λ m. m < length f.rings) (sym (at_done (at_known known)).1) (there f.rings read.x known.is.2 known.is.4.1)

-- How much a new ring has at most.
pub record RingSizes (r : new.Ring) : Type 0 where
  pub slots : r.slots ≤ table_limit
  pub buffers : length r.buffers ≤ buffers_limit

ring_sizes : (s : Start) (f : Front) (r : new.Ring) → Own AnyText (ring s f) r → RingSizes r
unfolding ring
ring_sizes s f r o =
    let queue = apart keeps_any o in
    let slots = apart keeps_any queue.after in
    let count = apart keeps_any slots.after in
    let full = apart keeps_any count.after in
    let many = apart keeps_any full.after in
    let buffers = apart keeps_any many.after in
    let made : RingSizes (record { queue = queue.x; slots = slots.x; full = full.x; buffers = buffers.x }) = record {
      slots = within_limit keeps_any w32 1048576 slots.x slots.own;
      buffers = omega (arith, within_limit keeps_any w16 16384 many.x many.own, length-several buffer many.x buffers.x keeps_any buffers.own);
    } in
    subst RingSizes (sym (at_done buffers.after).1) made

-- A slot is one of a ring that is there.
abbrev pub FileFits : Front → FileAt → Type 0
FileFits f file = is_slot file ≡ true → ring_of file < length f.rings

file_fits : (s : Start) (f : Front) (file : FileAt) → Own AnyText (file_at s f) file → FileFits f file
unfolding file_at slot_at
file_fits s f file o =
    let what = apart keeps_any o in
    elim (at_choice what.after) [
      | inl a ↦
          let ring = apart keeps_any a.1 in
          let number = apart keeps_any ring.after in
          subst (FileFits f) (sym (at_done number.after).1) (λ slot. ring_is_there f ring.x ring.own)
      | inr b ↦
          let number = apart keeps_any b.1 in
          subst (FileFits f) (sym (at_done number.after).1) (λ slot. absurd (cc))
    ]

-- What the format asks of a record, by the rings and places before it.
abbrev pub RecordFits : Front → Record → Type 0
RecordFits f (Enter ring entries) = (ring < length f.rings) × All EntryFits entries × (f.places + length entries ≤ places_limit)
RecordFits f (Fill ring buffer offset filling) = (ring < length f.rings) × (f.places < places_limit)
RecordFits f (Set file content) = FileFits f file × (f.places < places_limit)
RecordFits f (Seek file position) = FileFits f file × (f.places < places_limit)
RecordFits f (RingStarts ring) = RingSizes ring × (length f.rings < table_limit) × (f.places < places_limit)
RecordFits f (RingEnds ring) = Unit {0}

enter_fits : (f : Front) (begin : ℕ) (r : Record) → Own AnyText (enter f begin) r → RecordFits f r
unfolding enter
enter_fits f begin r o =
    let ring = apart keeps_any o in
    let count = apart keeps_any (at_place ring.after) in
    let entries = apart keeps_any (at_test count.after) in
    let room : f.places + count.x ≤ places_limit = leb-true _ _ (test_passed count.after) in
    let many = length-several (λ _. entry begin) count.x entries.x keeps_any entries.own in
    let within : f.places + length entries.x ≤ places_limit = omega (arith, many, room) in
    let all = each EntryFits (λ _. entry begin) keeps_any (λ _. entry_fits begin) count.x entries.x entries.own in
    subst (RecordFits f) (sym (at_done entries.after).1) (ring_is_there f ring.x ring.own, all, within)

filled_fits : (f : Front) (n b len : ℕ) (r : Record) → n < length f.rings → f.places < places_limit → Own AnyText (filled n b len) r → RecordFits f r
unfolding filled
filled_fits f n b len r lt room o =
    let form = apart keeps_any o in
    let offset = apart keeps_any (at_place form.after) in
    let many = apart keeps_any offset.after in
    let bytes = apart keeps_any (at_test many.after) in
    subst (RecordFits f) (sym (at_done bytes.after).1) (lt, room)

fill_fits : (f : Front) (r : Record) → f.places < places_limit → Own AnyText (fill f) r → RecordFits f r
unfolding fill
fill_fits f r room o =
    let ring = apart keeps_any o in
    let buffer = apart keeps_any (at_place ring.after) in
    filled_fits f ring.x buffer.x _ r (ring_is_there f ring.x ring.own) room (at_known buffer.after)

set_fits : (s : Start) (f : Front) (r : Record) → f.places < places_limit → Own AnyText (set s f) r → RecordFits f r
unfolding set
set_fits s f r room o =
    let file = apart keeps_any o in
    let content = apart keeps_any file.after in
    subst (RecordFits f) (sym (at_done content.after).1) (file_fits s f file.x file.own, room)

seek_fits : (s : Start) (f : Front) (r : Record) → f.places < places_limit → Own AnyText (seek s f) r → RecordFits f r
unfolding seek
seek_fits s f r room o =
    let file = apart keeps_any o in
    let position = apart keeps_any file.after in
    subst (RecordFits f) (sym (at_done position.after).1) (file_fits s f file.x file.own, room)

ring_starts_fits : (s : Start) (f : Front) (r : Record) → length f.rings < table_limit → f.places < places_limit → Own AnyText (ring_starts s f) r → RecordFits f r
ring_starts_fits s f r few room o =
    let ring = apart keeps_any o in
    subst (RecordFits f) (sym (at_done ring.after).1) (ring_sizes s f ring.x ring.own, few, room)

ring_ends_fits : (f : Front) (r : Record) → Own AnyText (ring_ends f) r → RecordFits f r
ring_ends_fits f r o =
    let n = apart keeps_any o in
    subst (RecordFits f) (sym (at_done n.after).1) tt

-- a record that is a place has room for one, and a ring for a ring
place_room : (f : Front) (kind : ℕ) → is_place kind ≡ true → has_room f kind ≡ true → f.places < places_limit
place_room f kind is room = grind (arith, nat_tests)

ring_room : (f : Front) (kind : ℕ) → (kind == 5) ≡ true → has_room f kind ≡ true → length f.rings < table_limit
ring_room f kind is room = grind (arith, nat_tests)

-- such a record has this kind
place_of : (kind n : ℕ) → is_place n ≡ true → (kind == n) ≡ true → is_place kind ≡ true
place_of kind n place is = rw (eqb-true _ _ is) place

body_fits : (s : Start) (f : Front) (begin kind : ℕ) (r : Record) → has_room f kind ≡ true → Own AnyText (body s f begin kind) r → RecordFits f r
body_fits s f begin kind r room o = elim (at_choice o) [
  | inl a ↦ enter_fits f begin r a.1
  | inr b ↦ elim (at_choice b.1) [
    | inl c ↦ fill_fits f r (place_room f kind (place_of kind 2 refl c.0) room) c.1
    | inr d ↦ elim (at_choice d.1) [
      | inl e ↦ set_fits s f r (place_room f kind (place_of kind 3 refl e.0) room) e.1
      | inr e ↦ elim (at_choice e.1) [
        | inl g ↦ seek_fits s f r (place_room f kind (place_of kind 4 refl g.0) room) g.1
        | inr g ↦ elim (at_choice g.1) [
          | inl h ↦ ring_starts_fits s f r (ring_room f kind h.0 room) (place_room f kind (place_of kind 5 refl h.0) room) h.1
          | inr h ↦ ring_ends_fits f r h.1
        ]
      ]
    ]
  ]
]

pub record_fits : (s : Start) (f : Front) (r : Record) → Own AnyText (next s f) (Some r) → RecordFits f r
unfolding next
record_fits s f r o =
    let kind = apart keeps_any (at_place o) in
    let tested = at_test kind.after in
    elim (at_choice (at_test tested)) [
      | inl a ↦ absurd (none-some r (sym (at_done a.1).1))
      | inr b ↦
          let made = apart keeps_any b.1 in
          let same : r ≡ made.x = same_Some r made.x (at_done made.after).1 in
          subst (RecordFits f) (sym same) (body_fits s f _ kind.x made.x (test_passed tested) made.own)
    ]

-- ---- rings and steps

-- A ring with no more of each than its limit, whose slots hold one of so many descriptions, or nothing.
pub record RingFits (descriptions : ℕ) (r : Ring) : Type 0 where
  pub slots : slots_of r ≤ table_limit
  pub buffers : length r.buffers ≤ buffers_limit
  pub held : All (λ n. n ≤ descriptions) r.slots

-- The bytes beside an entry that is submitted fit it, unless it is given.
abbrev pub ActionFits : Action → Type 0
ActionFits (submit e) = SideFits e
ActionFits (fills buffer offset bytes) = Unit {0}
ActionFits (register slots) = Unit {0}
ActionFits (sets file content) = Unit {0}
ActionFits (seeks file position) = Unit {0}

-- So does a step, and its ring is one of so many, where it does something there.
pub record StepFits (rings : ℕ) (s : Step) : Type 0 where
  pub in_rings : is_on_ring s.action ≡ true → s.ring < rings
  pub action : ActionFits s.action

-- The rings and steps so far are those that the front counts, within their limits.
pub record GrownFits (descriptions : ℕ) (f : Front) (g : Grown) : Type 0 where
  pub rings_are : length f.rings ≡ length g.rings
  pub places_are : f.places ≡ length g.steps
  pub few_rings : length g.rings ≤ table_limit
  pub few_steps : length g.steps ≤ places_limit
  pub rings : All (RingFits descriptions) g.rings
  pub steps : All (StepFits (length g.rings)) g.steps

pub none_fit : (d : ℕ) → GrownFits d no_front no_records
none_fit d = record { rings_are = refl; places_are = refl; few_rings = omega arith; few_steps = omega arith; rings = All-nil (RingFits d); steps = All-nil (StepFits 0) }

-- steps on one of so many rings are on one of more
more_rings : (n m : ℕ) (steps : List Step) → n ≤ m → All (StepFits n) steps → All (StepFits m) steps
more_rings n m steps le all = All-weaker (StepFits n) (StepFits m) (λ s h. record { in_rings = λ on. omega (arith, h.in_rings on, le); action = h.action }) steps all

-- the step that submits an entry
abbrev step_of : ℕ → ℕ → Submitted → Step
step_of ring from e = record { ring = ring; from_record = from; action = submit e }

-- each entry of a record is a step that fits
entries_fit : (n ring from : ℕ) (entries : List Entry) → ring < n → All EntryFits entries → All (StepFits n) (map (step_of ring from) (map submitted entries))
entries_fit n ring from entries lt all =
    let one : (e : Entry) → EntryFits e → StepFits n (step_of ring from (submitted e)) = λ e h. record { in_rings = λ on. lt; action = h } in
    All-map (StepFits n) (step_of ring from) (map submitted entries)
    (All-map (λ e. StepFits n (step_of ring from e)) submitted entries (All-weaker EntryFits (λ e. StepFits n (step_of ring from (submitted e))) one entries all))

-- a ring that ends still fits, and stays in its place
end_fits : (d : ℕ) (rings : List Ring) (n : ℕ) → All (RingFits d) rings → All (RingFits d) (with_end rings n)
end_fits d rings n all = elim (slice_get_cases rings n).1 [
  | inl h ↦
      let one : RingFits d h.0 = all_at (RingFits d) rings n h.0 h.2 all in
      rw (h.2, with_end) (All-set (RingFits d) rings n (record h.0 { ended = true }) (record { slots = one.slots; buffers = one.buffers; held = one.held }) all)
  | inr h ↦ rw (h.1, with_end) all
]

length-with_end : (rings : List Ring) (n : ℕ) → length (with_end rings n) ≡ length rings
length-with_end rings n = elim (slice_get_cases rings n).1 [
  | inl h ↦ rw (h.2, with_end) (length-set rings n (record h.0 { ended = true }))
  | inr h ↦ rw (h.1, with_end) refl
]

-- one step more on the rings that are there
with_step : (d : ℕ) (f : Front) (g : Grown) (s : Step) → (is_on_ring s.action ≡ true → s.ring < length f.rings) → ActionFits s.action → f.places < places_limit
    → GrownFits d f g → GrownFits d (record { rings = f.rings; places = f.places + 1 }) (record { rings = g.rings; steps = g.steps ++ s ∷ [] })
with_step d f g s on_ring action room fits =
    let many : length (g.steps ++ s ∷ []) ≡ length g.steps + 1 = length-append g.steps (s ∷ []) in
    record {
      rings_are = fits.rings_are;
      places_are = omega (arith, many, fits.places_are);
      few_rings = fits.few_rings;
      few_steps = omega (arith, many, fits.places_are, room);
      rings = fits.rings;
      steps = All-push (StepFits (length g.rings)) g.steps s fits.steps (record { in_rings = λ on. omega (arith, on_ring on, fits.rings_are); action = action });
    }

-- one record more
pub one_fits : (d : ℕ) (f : Front) (g : Grown) (r : Record) → RecordFits f r → GrownFits d f g → GrownFits d (after f r) (with_record g r)
one_fits d f g (Enter n entries) h fits =
    let steps : List Step = map (step_of n (length g.steps)) (map submitted entries) in
    let many : length (g.steps ++ steps) ≡ length g.steps + length entries = omega (arith, length-append g.steps steps, length-map (map submitted entries) (step_of n (length g.steps)), length-map entries submitted) in
    record {
      rings_are = fits.rings_are;
      places_are = omega (arith, many, fits.places_are);
      few_rings = fits.few_rings;
      few_steps = omega (arith, many, fits.places_are, h.2);
      rings = fits.rings;
      steps = All-append (StepFits (length g.rings)) g.steps steps fits.steps (entries_fit (length g.rings) n (length g.steps) entries (omega (arith, h.0, fits.rings_are)) h.1);
    }
one_fits d f g (Fill n b offset made) h fits = with_step d f g _ (λ on. h.0) tt h.1 fits
one_fits d f g (Set file content) h fits = with_step d f g _ h.0 tt h.1 fits
one_fits d f g (Seek file position) h fits = with_step d f g _ h.0 tt h.1 fits
one_fits d f g (RingStarts made) h fits =
    let one : Ring = new_ring g.rings made in
    let step : Step = record { ring = length g.rings; from_record = length g.steps; action = register made.full } in
    let rings : length (g.rings ++ one ∷ []) ≡ length g.rings + 1 = length-append g.rings (one ∷ []) in
    let many : length (g.steps ++ step ∷ []) ≡ length g.steps + 1 = length-append g.steps (step ∷ []) in
    let before = more_rings (length g.rings) (length (g.rings ++ one ∷ [])) g.steps (omega (arith, rings)) fits.steps in
    record {
      rings_are = omega (arith, rings, fits.rings_are, length-append f.rings (Some (sizes_of made) ∷ []));
      places_are = omega (arith, many, fits.places_are);
      few_rings = omega (arith, rings, fits.rings_are, h.1);
      few_steps = omega (arith, many, fits.places_are, h.2);
      rings = All-push (RingFits d) g.rings one fits.rings (record { slots = omega (arith, h.0.slots); buffers = h.0.buffers; held = All-nil (λ n. n ≤ d) });
      steps = All-push (StepFits (length (g.rings ++ one ∷ []))) g.steps step before (record { in_rings = λ on. omega (arith, rings); action = tt });
    }
one_fits d f g (RingEnds n) h fits =
    let same = length-with_end g.rings n in
    record {
      rings_are = omega (arith, fits.rings_are, same, length-set f.rings n None);
      places_are = omega (arith, fits.places_are);
      few_rings = omega (arith, fits.few_rings, same);
      few_steps = fits.few_steps;
      rings = end_fits d g.rings n fits.rings;
      steps = more_rings (length g.rings) (length (with_end g.rings n)) g.steps (omega (arith, same)) fits.steps;
    }

-- ---- all records

-- The records so far fit, and each of those that follow fits what is before it.
abbrev pub AllFit : ℕ → Front → Grown → List Record → Type 0
AllFit d f g [] = GrownFits d f g
AllFit d f g (r ∷ rs) = GrownFits d f g × RecordFits f r × AllFit d (after f r) (with_record g r) rs

all_fit : (Follows : Front → ℕ → List ℕ → Type 0) (s : Start) (d : ℕ) (f : Front) (g : Grown) (place : ℕ) (text : List ℕ) (rs : List Record) → Behind Follows s f place text rs → GrownFits d f g → AllFit d f g rs
all_fit Follows s d f g place text [] b fits = fits
all_fit Follows s d f g place text (r ∷ rs) b fits =
    let one = record_fits s f r (record { place = place; text = b.0; has = tt; is = b.3 }) in
    (fits, one, all_fit Follows s d (after f r) (with_record g r) (place + length b.0) b.1 rs b.4 (one_fits d f g r one fits))

-- So do those of a trace, whatever follows.
pub records_fit : (Follows : Front → ℕ → List ℕ → Type 0) (bytes : List ℕ) (s : Start) (rs : List Record) → Begins Follows bytes s rs → (d : ℕ) → AllFit d no_front no_records rs
records_fit Follows bytes s rs h d = all_fit Follows s d no_front no_records (length h.0) h.1 rs h.4 (none_fit d)

-- What all records give fits.
last_fits : (d : ℕ) (f : Front) (g : Grown) (rs : List Record) → AllFit d f g rs → (end : Front) × GrownFits d end (with_records g rs)
last_fits d f g [] fits = (f, fits)
last_fits d f g (r ∷ rs) fits = last_fits d (after f r) (with_record g r) rs fits.2

pub grown_fits : (t : Trace) → IsSpelled t → (d : ℕ) → (end : Front) × GrownFits d end (with_records no_records t.records)
grown_fits t h d = last_fits d no_front no_records t.records (records_fit (Ends t.start) h.0 t.start t.records h.1 d)

-- The start of a text fits.
pub spelled_start : (Follows : Front → ℕ → List ℕ → Type 0) (bytes : List ℕ) (s : Start) (rs : List Record) → Begins Follows bytes s rs → StartFits s
spelled_start Follows bytes s rs h = start_fits s (record { place = 0; text = h.0; has = tt; is = h.3 })

-- Bytes spell it, and no record.
pub start_alone : (Follows : Front → ℕ → List ℕ → Type 0) (bytes : List ℕ) (s : Start) (rs : List Record) → Begins Follows bytes s rs → IsSpelledFront s []
start_alone Follows bytes s rs h = (h.0, (h.0, [], sym (append-nil h.0), h.3, refl))

pub descriptors_within : (s : Start) → IsSpelledFront s [] → All (λ (d : Descriptor). d.description + 1 < 2 ^ 32) s.descriptors
descriptors_within s h =
    let start = spelled_start (λ front place text. text ≡ []) h.0 s [] h.1 in
    All-weaker (DescriptorFits s) (λ (d : Descriptor). d.description + 1 < 2 ^ 32) (λ d fits. omega (arith, fits.description, start.descriptions)) s.descriptors start.descriptors

-- ---- what is before a record

places_fit : (f : Front) (r : Record) → RecordFits f r → f.places ≤ places_limit → f.places + places_of r ≤ places_limit
places_fit f (Enter ring entries) h le = h.2
places_fit f (Fill ring buffer offset filling) h le = omega (arith, h.1)
places_fit f (Set file content) h le = omega (arith, h.1)
places_fit f (Seek file position) h le = omega (arith, h.1)
places_fit f (RingStarts ring) h le = omega (arith, h.2)
places_fit f (RingEnds ring) h le = omega (arith, le)

-- Where the records so far fit, and the next one too, there is room for it.
pub room_for : (d : ℕ) (f : Front) (g : Grown) (r : Record) → GrownFits d f g → RecordFits f r → HasRoom g r
room_for d f g r grown one = record {
  rings = omega (arith, grown.few_rings);
  places = omega (arith, grown.places_are, places_fit f r one (omega (arith, grown.places_are, grown.few_steps)));
}

-- The records before one fit, and so does it behind them.
pub fit_behind : (d : ℕ) (f : Front) (g : Grown) (earlier : List Record) (r : Record) (later : List Record) → AllFit d f g (earlier ++ r ∷ later)
    → (here : Front) × GrownFits d here (with_records g earlier) × RecordFits here r
fit_behind d f g [] r later fits = (f, fits.0, fits.1)
fit_behind d f g (x ∷ earlier) r later fits = fit_behind d (after f x) (with_record g x) earlier r later fits.2

-- Before each record of a spelled trace there is room for it.
pub has_room_for : (t : Trace) → IsSpelled t → (earlier : List Record) (r : Record) (later : List Record) → t.records ≡ earlier ++ r ∷ later → HasRoom (with_records no_records earlier) r
has_room_for t h earlier r later e =
    let fits = fit_behind 0 no_front no_records earlier r later (subst (AllFit 0 no_front no_records) e (records_fit (Ends t.start) h.0 t.start t.records h.1 0)) in
    room_for 0 fits.0 (with_records no_records earlier) r fits.1 fits.2

-- all records but the last, and then that
pub with_records-push : (g : Grown) (rs : List Record) (r : Record) → with_records g (rs ++ r ∷ []) ≡ with_record (with_records g rs) r
with_records-push g [] r = refl
with_records-push g (x ∷ rs) r = with_records-push (with_record g x) rs r
