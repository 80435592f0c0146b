-- What the format asks of what the slots of a new ring are told to hold.
use Rattle.std.proofs.Common.{ℕ, ◌+◌, ◌<◌, Bool, true, false, List, [], ◌∷◌, ◌++◌, length, Some, sym, subst, inl, inr}
use Rattle.std.specs.Prelude.{◌≡◌, ◌==◌, if◌then◌else◌}
use Rattle.std.specs.Int.{Width, w32}
use Rattle.std.specs.List.{All}
use Rattle.std.proofs.lemmas.Bool.{ltb-true}
use Rattle.std.proofs.lemmas.Option.{none-some, same_Some}
use Rattle.trace_format.proofs.Apart.{AnyText, keeps_any, Own, apart, at_place, at_test, test_passed, at_known, at_done, at_choice, each}
use Rattle.trace_records.specs.Fields.{number_of}
use Rattle.trace_records.specs.Front.{Front, after, no_records}
use Rattle.trace_records.specs.Records.{slot_holder, other_holder, holder, full_slot, ring, enter, filled, fill, set, seek, ring_starts, ring_ends, body, next}
use Rattle.trace_records.specs.Whole.{Behind}
use Rattle.trace_records.specs.declared.record.FullSlot.{FullSlot}
use Rattle.trace_records.specs.declared.record.Holder.{Holder}
use Rattle.trace_records.specs.declared.record.Holder.TheVariants.{Descriptor, Description}
use Rattle.trace_records.specs.declared.record.Ring.{Ring}
use Rattle.trace_records.specs.declared.record.Record.{Record}
use Rattle.trace_records.specs.declared.record.Record.TheVariants.{Enter, Fill, Set, Seek, RingStarts, RingEnds}
use Rattle.trace_records.specs.declared.start.Start.{Start}
use Rattle.recording.specs.Fronts.{IsSpelledFront}
use Rattle.sweep_laws.specs.Holding.{HolderFits}

-- ---- what one slot holds

-- The number of one of so many is below their count.
below_count : (w : Width) (count n : ℕ) → Own AnyText (number_of w count) n → n < count
below_count w count n o =
    let read = apart keeps_any (at_place o) in
    subst (λ m. m < count) (sym (at_done (at_test read.after)).1) (ltb-true read.x count (test_passed read.after))

below_others : (count n : ℕ) → Own AnyText (other_holder count) n → n < count
unfolding other_holder
below_others count n o =
    let none = apart keeps_any o in
    below_count w32 count n none.after

-- a descriptor fits, and so does a description below their count
other_fits : (d size : ℕ) (is_descriptor : Bool) (n : ℕ) → n < (if is_descriptor then size else d) → HolderFits d (if is_descriptor then Descriptor n else Description n)
other_fits d size true n lt = tt
other_fits d size false n lt = lt

slot_fits : (d : ℕ) (f : Front) (h : Holder) → Own AnyText (slot_holder f) h → HolderFits d h
unfolding slot_holder
slot_fits d f h o =
    let ring = apart keeps_any o in
    let number = apart keeps_any ring.after in
    subst (HolderFits d) (sym (at_done number.after).1) tt

holder_fits : (s : Start) (f : Front) (h : Holder) → Own AnyText (holder s f) h → HolderFits (length s.descriptions) h
unfolding holder
holder_fits s f h o =
    let d = length s.descriptions in
    let what = apart keeps_any o in
    elim (at_choice what.after) [
      | inl a ↦ slot_fits d f h a.1
      | inr b ↦
          let number = apart keeps_any b.1 in
          subst (HolderFits d) (sym (at_done number.after).1) (other_fits d s.table_size (what.x == 1) number.x (below_others _ number.x number.own))
    ]

-- What a full slot holds fits.
abbrev SlotFits : ℕ → FullSlot → Type 0
SlotFits d x = HolderFits d x.holds

full_slot_fits : (s : Start) (f : Front) (slots : ℕ) (earlier : List FullSlot) (x : FullSlot) → Own AnyText (full_slot s f slots earlier) x → SlotFits (length s.descriptions) x
unfolding full_slot
full_slot_fits s f slots earlier x o =
    let number = apart keeps_any o in
    let holds = apart keeps_any number.after in
    subst (SlotFits (length s.descriptions)) (sym (at_done holds.after).1) (holder_fits s f holds.x holds.own)

-- ---- rings and records

-- So does what each full slot of a new ring holds.
abbrev RingFits : ℕ → Ring → Type 0
RingFits d r = All (SlotFits d) r.full

ring_fits : (s : Start) (f : Front) (r : Ring) → Own AnyText (ring s f) r → RingFits (length s.descriptions) r
unfolding ring
ring_fits s f r o =
    let d = length s.descriptions in
    let queue = apart keeps_any o in
    let slots = apart keeps_any queue.after in
    let count = apart keeps_any slots.after in
    let full = apart keeps_any count.after in
    let many = apart keeps_any full.after in
    let buffers = apart keeps_any many.after in
    let all : All (SlotFits d) full.x = each (SlotFits d) (full_slot s f slots.x) keeps_any (full_slot_fits s f slots.x) count.x full.x full.own in
    subst (RingFits d) (sym (at_done buffers.after).1) all

-- What a record puts into slots fits.
abbrev pub RecordHolds : (started : ℕ) → Record → Type 0
RecordHolds d (Enter ring entries) = Unit {0}
RecordHolds d (Fill ring buffer offset filling) = Unit {0}
RecordHolds d (Set file content) = Unit {0}
RecordHolds d (Seek file position) = Unit {0}
RecordHolds d (RingStarts ring) = RingFits d ring
RecordHolds d (RingEnds ring) = Unit {0}

enter_holds : (d : ℕ) (f : Front) (begin : ℕ) (r : Record) → Own AnyText (enter f begin) r → RecordHolds d r
unfolding enter
enter_holds d f begin r o =
    let ring = apart keeps_any o in
    let count = apart keeps_any (at_place ring.after) in
    let entries = apart keeps_any (at_test count.after) in
    subst (RecordHolds d) (sym (at_done entries.after).1) tt

filled_holds : (d n b len : ℕ) (r : Record) → Own AnyText (filled n b len) r → RecordHolds d r
unfolding filled
filled_holds d n b len r o =
    let form = apart keeps_any o in
    let offset = apart keeps_any (at_place form.after) in
    let many = apart keeps_any offset.after in
    let bytes = apart keeps_any (at_test many.after) in
    subst (RecordHolds d) (sym (at_done bytes.after).1) tt

fill_holds : (d : ℕ) (f : Front) (r : Record) → Own AnyText (fill f) r → RecordHolds d r
unfolding fill
fill_holds d f r o =
    let ring = apart keeps_any o in
    let buffer = apart keeps_any (at_place ring.after) in
    filled_holds d ring.x buffer.x _ r (at_known buffer.after)

set_holds : (d : ℕ) (s : Start) (f : Front) (r : Record) → Own AnyText (set s f) r → RecordHolds d r
unfolding set
set_holds d s f r o =
    let file = apart keeps_any o in
    let content = apart keeps_any file.after in
    subst (RecordHolds d) (sym (at_done content.after).1) tt

seek_holds : (d : ℕ) (s : Start) (f : Front) (r : Record) → Own AnyText (seek s f) r → RecordHolds d r
unfolding seek
seek_holds d s f r o =
    let file = apart keeps_any o in
    let position = apart keeps_any file.after in
    subst (RecordHolds d) (sym (at_done position.after).1) tt

ring_starts_holds : (s : Start) (f : Front) (r : Record) → Own AnyText (ring_starts s f) r → RecordHolds (length s.descriptions) r
ring_starts_holds s f r o =
    let ring = apart keeps_any o in
    subst (RecordHolds (length s.descriptions)) (sym (at_done ring.after).1) (ring_fits s f ring.x ring.own)

ring_ends_holds : (d : ℕ) (f : Front) (r : Record) → Own AnyText (ring_ends f) r → RecordHolds d r
ring_ends_holds d f r o =
    let n = apart keeps_any o in
    subst (RecordHolds d) (sym (at_done n.after).1) tt

body_holds : (s : Start) (f : Front) (begin kind : ℕ) (r : Record) → Own AnyText (body s f begin kind) r → RecordHolds (length s.descriptions) r
body_holds s f begin kind r o = elim (at_choice o) [
  | inl a ↦ enter_holds (length s.descriptions) f begin r a.1
  | inr b ↦ elim (at_choice b.1) [
    | inl c ↦ fill_holds (length s.descriptions) f r c.1
    | inr c ↦ elim (at_choice c.1) [
      | inl e ↦ set_holds (length s.descriptions) s f r e.1
      | inr e ↦ elim (at_choice e.1) [
        | inl g ↦ seek_holds (length s.descriptions) s f r g.1
        | inr g ↦ elim (at_choice g.1) [
          | inl i ↦ ring_starts_holds s f r i.1
          | inr i ↦ ring_ends_holds (length s.descriptions) f r i.1
        ]
      ]
    ]
  ]
]

record_holds : (s : Start) (f : Front) (r : Record) → Own AnyText (next s f) (Some r) → RecordHolds (length s.descriptions) r
unfolding next
record_holds s f r o =
    let kind = apart keeps_any (at_place o) in
    elim (at_choice (at_test (at_test kind.after))) [
      | inl a ↦ absurd (none-some r (sym (at_done a.1).1))
      | inr b ↦
          let made = apart keeps_any b.1 in
          subst (RecordHolds (length s.descriptions)) (sym (same_Some r made.x (at_done made.after).1)) (body_holds s f _ kind.x made.x made.own)
    ]

-- ---- the last of some records

-- It is spelled behind those before it.
last_spelled : (Follows : Front → ℕ → List ℕ → Type 0) (s : Start) (f : Front) (place : ℕ) (text : List ℕ) (front : List Record) (r : Record)
    → Behind Follows s f place text (front ++ r ∷ []) → (here : Front) × Own AnyText (next s here) (Some r)
last_spelled Follows s f place text [] r b = (f, record { place = place; text = b.0; has = tt; is = b.3 })
last_spelled Follows s f place text (x ∷ front) r b = last_spelled Follows s (after f x) (place + length b.0) b.1 front r b.4

pub last_holds : (b : Start) (front : List Record) (r : Record) → IsSpelledFront b (front ++ r ∷ []) → RecordHolds (length b.descriptions) r
last_holds b front r h =
    let last = last_spelled (λ front place text. text ≡ []) b no_records (length h.1.0) h.1.1 front r h.1.4 in
    record_holds b last.0 r last.1
