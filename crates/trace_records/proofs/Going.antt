-- Reading record after record.
use Rattle.std.proofs.Common.{◌≡◌, ℕ, ◌+◌, ◌<◌, List, [], ◌∷◌, ◌++◌, length, None, Some, Ok, refl, sym, ap, subst, ◌∙◌, inl, inr, ◌⊎◌, append_assoc, arith}
use Rattle.std.proofs.lemmas.List.{append-nil}
use Rattle.trace_format.specs.declared.fault.Kind.TheVariants.{Trailing, Memory}
use Rattle.trace_format.specs.declared.fault.TraceFault.{TraceFault}
use Rattle.trace_format.specs.Grammar.{Spells, fault}
use Rattle.trace_format.specs.Read.{reading}
use Rattle.trace_format.proofs.Readings.{takes, breaks}
use Rattle.trace_records.specs.declared.fault.ReadError.{ReadError}
use Rattle.trace_records.specs.declared.fault.ReadError.TheVariants as errors
use Rattle.trace_records.specs.declared.start.Start.{Start}
use Rattle.trace_records.specs.declared.record.Record.{Record}
use Rattle.trace_records.specs.declared.trace.Trace.{Trace}
use Rattle.trace_records.specs.Front.{Front, no_records, after}
use Rattle.trace_records.specs.Read.{Fails, OnFault, fault_of}
use Rattle.trace_records.specs.Records.{next}
use Rattle.trace_records.specs.Start.{start}
use Rattle.trace_records.specs.Whole.{Behind, Begins, Ends, NextBreaks, HasMore, HasFault, IsRefusal}
use Rattle.trace_records.proofs.Whole.{no_trace}

-- what may follow records
pub data Way : Type 0 where
  ends : Way
  breaks_by : TraceFault → Way
  goes_on : TraceFault → Way

abbrev pub Follows : Way → Start → Front → ℕ → List ℕ → Type 0
Follows ends s = Ends s
Follows (breaks_by f) s = NextBreaks f s
Follows (goes_on f) s = HasMore f s

-- What follows the records so far, from the place on, follows all of them.
pub record Going (s : Start) (front : Front) (place : ℕ) (text : List ℕ) (earlier : List Record) (first : ℕ) (whole : List ℕ) : Type 0 where
  pub is : (w : Way) (later : List Record) → Behind (Follows w s) s front place text later → Behind (Follows w s) s no_records first whole (earlier ++ later)

pub begun : (s : Start) (place : ℕ) (text : List ℕ) → Going s no_records place text [] place text
begun s place text = record { is = λ w later b. b }

-- one record more
pub one_more : (s : Start) (front : Front) (place : ℕ) (text : List ℕ) (earlier : List Record) (first : ℕ) (whole : List ℕ) (r : Record) (end : ℕ) (rest : List ℕ)
    → Going s front place text earlier first whole → reading (next s front) place text ≡ Ok (Some r, end, rest) → Going s (after front r) end rest (earlier ++ r ∷ []) first whole
one_more s front place text earlier first whole r end rest g e =
    let t = takes (next s front) place text (Some r, end, rest) e in
    record {
      is = λ w later b.
          let here : Behind (Follows w s) s (after front r) (place + length t.0) rest later = subst (λ (p : ℕ). Behind (Follows w s) s (after front r) p rest later) t.3 b in
          subst (λ (rs : List Record). Behind (Follows w s) s no_records first whole rs) (sym (append_assoc earlier (r ∷ []) later)) (g.is w (r ∷ later) (t.0, rest, t.1, t.2, here));
    }

-- all that was read, where nothing more follows
at_last : (s : Start) (front : Front) (place : ℕ) (text : List ℕ) (earlier : List Record) (first : ℕ) (whole : List ℕ) (w : Way)
    → Going s front place text earlier first whole → Follows w s front place text → Behind (Follows w s) s no_records first whole earlier
at_last s front place text earlier first whole w g b =
    subst (λ (rs : List Record). Behind (Follows w s) s no_records first whole rs) (append-nil earlier) (g.is w [] b)

-- the trace ends, and nothing follows
pub ended : (s : Start) (front : Front) (place : ℕ) (text : List ℕ) (earlier : List Record) (first : ℕ) (whole : List ℕ) (end : ℕ) (rest : List ℕ)
    → Going s front place text earlier first whole → reading (next s front) place text ≡ Ok (None, end, rest) → rest ≡ [] → Behind (Ends s) s no_records first whole earlier
ended s front place text earlier first whole end rest g e none =
    let t = takes (next s front) place text (None, end, rest) e in
    let all : t.0 ≡ text = sym (t.1 ∙ ap (λ (x : List ℕ). t.0 ++ x) none ∙ append-nil t.0) in
    at_last s front place text earlier first whole ends g (subst (λ (x : List ℕ). Spells (next s front) place x None) all t.2)

-- a fault behind records
abbrev pub FaultBehind : Start → ℕ → List ℕ → TraceFault → Type 0
FaultBehind s first whole f = (rs : List Record) × (Behind (NextBreaks f s) s no_records first whole rs ⊎ Behind (HasMore f s) s no_records first whole rs)

-- the trace ends, and more follows
pub trails : (s : Start) (front : Front) (place : ℕ) (text : List ℕ) (earlier : List Record) (first : ℕ) (whole : List ℕ) (end : ℕ) (rest : List ℕ)
    → Going s front place text earlier first whole → reading (next s front) place text ≡ Ok (None, end, rest) → 0 < length rest → FaultBehind s first whole (fault Trailing end)
trails s front place text earlier first whole end rest g e some =
    let t = takes (next s front) place text (None, end, rest) e in
    (earlier, inr (at_last s front place text earlier first whole (goes_on (fault Trailing end)) g (t.0, rest, t.1, t.2, some, ap (fault Trailing) t.3)))

-- the next record is at fault
pub broken : (s : Start) (front : Front) (place : ℕ) (text : List ℕ) (earlier : List Record) (first : ℕ) (whole : List ℕ) (e : ReadError)
    → Going s front place text earlier first whole → Fails e (reading (next s front) place text) → OnFault e (FaultBehind s first whole)
broken s front place text earlier first whole errors.OutOfMemory g h = tt
broken s front place text earlier first whole (errors.Fault f) g h =
    (earlier, inl (at_last s front place text earlier first whole (breaks_by f) g (breaks (next s front) place text f h)))

-- ---- the whole

-- a start was read, and records behind it
pub begins : (P : Front → ℕ → List ℕ → Type 0) (bytes : List ℕ) (s : Start) (end : ℕ) (rest : List ℕ) (rs : List Record)
    → reading start 0 bytes ≡ Ok (s, end, rest) → Behind P s no_records end rest rs → Begins P bytes s rs
begins P bytes s end rest rs e b =
    let t = takes start 0 bytes (s, end, rest) e in
    let place : end ≡ length t.0 = omega (arith, t.3) in
    (t.0, rest, t.1, t.2, subst (λ (p : ℕ). Behind P s no_records p rest rs) place b)

pub start_broken : (bytes : List ℕ) (e : ReadError) → Fails e (reading start 0 bytes) → OnFault e (HasFault bytes)
start_broken bytes errors.OutOfMemory h = tt
start_broken bytes (errors.Fault f) h = inl (breaks start 0 bytes f h)

pub records_broken : (bytes : List ℕ) (s : Start) (end : ℕ) (rest : List ℕ) → reading start 0 bytes ≡ Ok (s, end, rest) → (f : TraceFault) → FaultBehind s end rest f → HasFault bytes f
records_broken bytes s end rest e f h =
    let t : Trace = record { start = s; records = h.0 } in
    inr (
      t,
      elim h.1 [
        | inl b ↦ inl (begins (NextBreaks f s) bytes s end rest h.0 e b)
        | inr m ↦ inr (begins (HasMore f s) bytes s end rest h.0 e m)
      ],
    )

pub refusal : (bytes : List ℕ) (e : ReadError) → OnFault e (HasFault bytes) → (fault_of e ≡ fault Memory 0) ⊎ IsRefusal bytes (fault_of e)
refusal bytes errors.OutOfMemory h = inl refl
refusal bytes (errors.Fault f) h = inr (record { broken = h; no_trace = λ t s. no_trace bytes f t h s })
