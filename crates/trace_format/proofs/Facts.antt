-- What the format asks of the records of a spelled trace, and of their steps.
use Rattle.std.proofs.Common.{◌≡◌, ℕ, suc, ◌+◌, ◌<◌, ◌≤◌, true, List, [], ◌∷◌, length, Some, None, refl, sym, subst, arith, inl, inr, ◌⊎◌}
use Rattle.std.specs.List.{All, slice_get}
use Rattle.std.proofs.lemmas.Bool.{ltb-true, leb-true, and_parts}
use Rattle.std.proofs.lemmas.List.Elements.{All-nil, All-cons, All-head, All-tail, All-append, All-push, All-map, All-weaker, All-get_or}
use Rattle.std.proofs.lemmas.Option.{slice_get_within, get_or_from_slice_get}
use Rattle.sqe_codec.specs.Fields.{IsEntry, entry_of}
use Rattle.sqe_codec.proofs.Parts.{fields_fit}
use Rattle.trace_format.specs.declared.entry.Entry.{Entry}
use Rattle.trace_format.specs.declared.trace.Ring.{Ring}
use Rattle.trace_format.specs.declared.trace.Record.{Record}
use Rattle.trace_format.specs.declared.trace.Record.TheVariants.{Enter, Fill}
use Rattle.trace_format.specs.declared.trace.Trace.{Trace}
use Rattle.trace_format.specs.Counts.{places_in, places_limit}
use Rattle.trace_format.specs.Facts.{SpelledFits, SpelledRings, SpelledPlaces, SpelledRanges}
use Rattle.trace_format.specs.Grammar.{several}
use Rattle.trace_format.specs.Sides.{is_side_of}
use Rattle.trace_format.specs.Steps.{Step, submit, fill as fill_step, record_steps, steps_from, steps, step_at}
use Rattle.trace_format.specs.Text.{entry, enter, fill, one_record, item, description, slot, ring, header, Counts, trace, SpellsTrace, IsSpelled}
use Rattle.trace_format.proofs.Spots.{length-steps_from}
use Rattle.trace_format.proofs.Sums.{places_in-push}
use Rattle.trace_format.proofs.Apart.{Keeps, AnyText, keeps_any, keeps_bytes, Own, apart, at_place, at_test, test_passed, at_done, at_choice, of_several, each, length-several}
use native.Mathlib.Numerals.{add-one-le}

-- ---- records

-- What the format asks of an entry, which some bytes give.
pub record EntryFacts (B : List ℕ → Type 0) (e : Entry) : Type 0 where
  pub bytes : List ℕ
  pub has : B bytes
  pub fields : e.sqe ≡ entry_of bytes
  pub fits : is_side_of e.sqe e.side ≡ true

pub entry_facts : {B : List ℕ → Type 0} → Keeps B → (e : Entry) → Own B entry e → EntryFacts B e
unfolding entry
entry_facts {B = B} keeps y o =
    let sqe = apart keeps o in
    let len = apart keeps (at_place sqe.after) in
    let side = apart keeps len.after in
    let e = at_done (at_test side.after) in
    let made : EntryFacts B (record { sqe = entry_of sqe.x; side = side.x; given = None }) = record {
      bytes = sqe.x;
      has = subst B (sym sqe.own.is.1) sqe.own.has;
      fields = refl;
      fits = (and_parts (is_side_of (entry_of sqe.x) side.x) _ (test_passed side.after)).0;
    } in
    subst (EntryFacts B) (sym e.1) made

-- A record of entries, whose ring is there.
pub record EnterFacts (B : List ℕ → Type 0) (rings : ℕ) (r : Record) : Type 0 where
  pub ring : ℕ
  pub entries : List Entry
  pub is : r ≡ Enter ring entries
  pub in_rings : ring < rings
  pub all : All (EntryFacts B) entries

-- A record that fills a buffer, whose ring is there.
pub record FillFacts (rings : ℕ) (r : Record) : Type 0 where
  pub ring : ℕ
  pub buffer : ℕ
  pub offset : ℕ
  pub bytes : List ℕ
  pub is : r ≡ Fill ring buffer offset bytes
  pub in_rings : ring < rings

-- A record of either kind.
abbrev pub RecordFacts : (List ℕ → Type 0) → ℕ → Record → Type 0
RecordFacts B rings r = EnterFacts B rings r ⊎ FillFacts rings r

-- The same where so many places come before it, within the limit.
record RecordWithin (B : List ℕ → Type 0) (rings used : ℕ) (r : Record) : Type 0 where
  facts : RecordFacts B rings r
  within : used + places_in (r ∷ []) ≤ places_limit

enter_within : {B : List ℕ → Type 0} → Keeps B → (rings used : ℕ) (r : Record) → Own B (enter rings used) r → RecordWithin B rings used r
unfolding enter
enter_within {B = B} keeps rings used y o =
    let ring = apart keeps (at_place o) in
    let count = apart keeps (at_place (at_test ring.after)) in
    let entries = apart keeps (at_test count.after) in
    let e = at_done entries.after in
    let room : used + count.x ≤ places_limit = leb-true _ _ (test_passed count.after) in
    let many = length-several (λ _. entry) count.x entries.x keeps entries.own in
    let within : used + places_in (Enter ring.x entries.x ∷ []) ≤ places_limit = omega (arith, many, room) in
    record {
      facts = inl (record {
        ring = ring.x;
        entries = entries.x;
        is = e.1;
        in_rings = ltb-true _ _ (test_passed ring.after);
        all = each (EntryFacts B) (λ _. entry) keeps (λ _. entry_facts keeps) count.x entries.x entries.own;
      });
      within = subst (λ (r : Record). used + places_in (r ∷ []) ≤ places_limit) (sym e.1) within;
    }

fill_within : {B : List ℕ → Type 0} → Keeps B → (rings : List Ring) (used : ℕ) (r : Record)
    → used < places_limit → Own B (fill rings) r → RecordWithin B (length rings) used r
unfolding fill
fill_within keeps rings used y room o =
    let ring = apart keeps (at_place o) in
    let buffer = apart keeps (at_place (at_test ring.after)) in
    let offset = apart keeps (at_place (at_test buffer.after)) in
    let len = apart keeps offset.after in
    let bytes = apart keeps (at_test len.after) in
    let e = at_done bytes.after in
    let within : used + places_in (Fill ring.x buffer.x offset.x bytes.x ∷ []) ≤ places_limit = add-one-le room in
    record {
      facts = inr (record { ring = ring.x; buffer = buffer.x; offset = offset.x; bytes = bytes.x; is = e.1; in_rings = ltb-true _ _ (test_passed ring.after) });
      within = subst (λ (r : Record). used + places_in (r ∷ []) ≤ places_limit) (sym e.1) within;
    }

-- each record, of entries or a fill
record_within : {B : List ℕ → Type 0} → Keeps B → (rings : List Ring) (used : ℕ) (r : Record) → Own B (one_record rings used) r → RecordWithin B (length rings) used r
unfolding one_record
record_within keeps rings used r o =
    let kind = apart keeps (at_place o) in
    let counted = at_test kind.after in
    elim (at_choice (at_test counted)) [
      | inl a ↦ enter_within keeps (length rings) used r a.1
      | inr b ↦ fill_within keeps rings used r (ltb-true used places_limit (rw b.0 at (test_passed counted))) b.1
    ]

-- What the format asks of the records: none goes beyond the limit of places.
pub record RecordsFacts (B : List ℕ → Type 0) (rings : ℕ) (records : List Record) : Type 0 where
  pub within : places_in records ≤ places_limit
  pub all : All (RecordFacts B rings) records

pub records_facts : {B : List ℕ → Type 0} → Keeps B → (rings : List Ring) (n : ℕ) (records : List Record) → Own B (several n (λ earlier. one_record rings (places_in earlier)) []) records → RecordsFacts B (length rings) records
records_facts {B = B} keeps rings n records o =
    of_several (RecordsFacts B (length rings)) (λ earlier. one_record rings (places_in earlier)) keeps
    (λ earlier r before own.
    let more = record_within keeps rings (places_in earlier) r own in
    record {
      within = omega (arith, places_in-push earlier r, more.within);
      all = All-push (RecordFacts B (length rings)) earlier r before.all more.facts;
    })
    n [] records (record { within = omega arith; all = All-nil (RecordFacts B (length rings)) }) o

-- ---- a trace

-- The parts of a spelled trace, each with its own text.
pub record TraceParts (B : List ℕ → Type 0) (t : Trace) : Type 0 where
  pub counts : Counts
  pub counted : Own B header counts
  pub version : t.version ≡ counts.version
  pub items : Own B (several counts.items item []) t.items
  pub descriptions : Own B (several counts.descriptions (λ _. description t.items) []) t.descriptions
  pub descriptors : Own B (several counts.descriptors (λ _. slot counts.descriptions) []) t.descriptors
  pub rings : Own B (several counts.rings (λ _. ring counts.descriptions) []) t.rings
  pub records : Own B (several counts.records (λ earlier. one_record t.rings (places_in earlier)) []) t.records

pub trace_parts : {B : List ℕ → Type 0} → Keeps B → (bytes : List ℕ) (t : Trace) → B bytes → SpellsTrace bytes t → TraceParts B t
unfolding trace
trace_parts {B = B} keeps bytes t has spells =
    let whole : Own B trace t = record { place = 0; text = bytes; has = has; is = spells.1 } in
    let counts = apart keeps whole in
    let items = apart keeps counts.after in
    let descriptions = apart keeps items.after in
    let descriptors = apart keeps descriptions.after in
    let rings = apart keeps descriptors.after in
    let records = apart keeps rings.after in
    let e = at_done records.after in
    let made : TraceParts B (record { version = counts.x.version; items = items.x; descriptions = descriptions.x; descriptors = descriptors.x; rings = rings.x; records = records.x }) = record {
      counts = counts.x;
      counted = counts.own;
      version = refl;
      items = items.own;
      descriptions = descriptions.own;
      descriptors = descriptors.own;
      rings = rings.own;
      records = records.own;
    } in
    subst (TraceParts B) (sym e.1) made

pub trace_facts : {B : List ℕ → Type 0} → Keeps B → (bytes : List ℕ) (t : Trace) → B bytes → SpellsTrace bytes t → RecordsFacts B (length t.rings) t.records
trace_facts keeps bytes t has spells =
    let parts = trace_parts keeps bytes t has spells in
    records_facts keeps t.rings parts.counts.records t.records parts.records

-- ---- steps

-- A step on a ring that is there, and what the format asks of the entry that it submits.
pub record StepFacts (B : List ℕ → Type 0) (rings : ℕ) (s : Step) : Type 0 where
  pub in_rings : s.ring < rings
  pub entry : (e : Entry) → s.action ≡ submit e → EntryFacts B e

record_steps_facts : {B : List ℕ → Type 0} (rings n : ℕ) (r : Record) → RecordFacts B rings r → All (StepFacts B rings) (record_steps n r)
record_steps_facts {B = B} rings n r (inl f) =
    let step : Entry → Step = λ e. record { ring = f.ring; from_record = n; action = submit e } in
    let each_entry : All (λ e. StepFacts B rings (step e)) f.entries =
    All-weaker (EntryFacts B) (λ e. StepFacts B rings (step e)) (λ e h. record { in_rings = f.in_rings; entry = λ x a. let same : e ≡ x = cc a in subst (EntryFacts B) same h }) f.entries f.all in
    subst (λ (x : Record). All (StepFacts B rings) (record_steps n x)) (sym f.is) (All-map (StepFacts B rings) step f.entries each_entry)
record_steps_facts {B = B} rings n r (inr f) =
    let step : Step = record { ring = f.ring; from_record = n; action = fill_step f.buffer f.offset f.bytes } in
    let one : StepFacts B rings step = record { in_rings = f.in_rings; entry = λ x a. absurd (cc a) } in
    subst (λ (x : Record). All (StepFacts B rings) (record_steps n x)) (sym f.is) (All-cons (StepFacts B rings) step [] one (All-nil (StepFacts B rings)))

all_steps : {B : List ℕ → Type 0} (rings n : ℕ) (rs : List Record) → All (RecordFacts B rings) rs → All (StepFacts B rings) (steps_from n rs)
all_steps {B = B} rings n [] all = All-nil (StepFacts B rings)
all_steps {B = B} rings n (r ∷ rs) all =
    All-append (StepFacts B rings) (record_steps n r) (steps_from (suc n) rs) (record_steps_facts rings n r (All-head (RecordFacts B rings) r rs all)) (all_steps rings (suc n) rs (All-tail (RecordFacts B rings) r rs all))

-- what holds of each element holds of the one at an index
all_at : {X : Type 0} (P : X → Type 0) (xs : List X) (k : ℕ) (x : X) → All P xs → slice_get xs k ≡ Some x → P x
all_at P xs k x all e = subst P (get_or_from_slice_get xs k x x e) (All-get_or P xs k x (slice_get_within xs k x e) all)

pub step_facts : {B : List ℕ → Type 0} → Keeps B → (bytes : List ℕ) (t : Trace) → B bytes → SpellsTrace bytes t → (k : ℕ) (s : Step) → step_at t k ≡ Some s → StepFacts B (length t.rings) s
step_facts {B = B} keeps bytes t has spells k s e =
    all_at (StepFacts B (length t.rings)) (steps t) k s (all_steps (length t.rings) 0 t.records (trace_facts keeps bytes t has spells).all) e

-- ---- the laws

any_step : (t : Trace) → IsSpelled t → (k : ℕ) (s : Step) → step_at t k ≡ Some s → StepFacts AnyText (length t.rings) s
any_step t h k s here = step_facts keeps_any h.0 t tt h.1 k s here

pub spelled_fits : SpelledFits
spelled_fits t h k s e here a = ((any_step t h k s here).entry e a).fits

pub spelled_rings : SpelledRings
spelled_rings t h k s here = (any_step t h k s here).in_rings

pub spelled_places : SpelledPlaces
spelled_places t h = omega (arith, length-steps_from 0 t.records, (trace_facts keeps_any h.0 t tt h.1).within)

pub spelled_ranges : SpelledRanges
spelled_ranges bytes t fits spells k s e here a =
    let facts = (step_facts keeps_bytes bytes t fits spells k s here).entry e a in
    subst IsEntry (sym facts.fields) (fields_fit facts.bytes facts.has)
