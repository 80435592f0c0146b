-- The model: whole traces: what the bytes of a trace are, and which faults bytes may have; laws of that at the end.
use Rattle.std.specs.Prelude.{◌≡◌, ℕ, ◌+◌, ◌<◌, ◌⊎◌, List, [], ◌∷◌, ◌++◌, length, None, Some}
use Rattle.trace_format.specs.declared.fault.Kind.TheVariants.{Short, Trailing}
use Rattle.trace_format.specs.declared.fault.TraceFault.{TraceFault}
use Rattle.trace_format.specs.Grammar.{Spells, Breaks, fault}
use Rattle.trace_records.specs.declared.start.Start.{Start}
use Rattle.trace_records.specs.declared.record.Record.{Record}
use Rattle.trace_records.specs.declared.trace.Trace.{Trace}
use Rattle.trace_records.specs.Front.{Front, no_records, after}
use Rattle.trace_records.specs.Start.{start}
use Rattle.trace_records.specs.Records.{next}

-- The text spells the records, each by those before it, and what follows them is as said.
abbrev pub Behind : (Front → ℕ → List ℕ → Type 0) → Start → Front → ℕ → List ℕ → List Record → Type 0
Behind Follows s front place text [] = Follows front place text
Behind Follows s front place text (r ∷ rs) =
    (here rest : List ℕ) × (text ≡ here ++ rest) × Spells (next s front) place here (Some r) × Behind Follows s (after front r) (place + length here) rest rs

-- The bytes spell a start and records, and what follows them is as said.
abbrev pub Begins : (Front → ℕ → List ℕ → Type 0) → List ℕ → Start → List Record → Type 0
Begins Follows bytes s rs =
    (head rest : List ℕ) × (bytes ≡ head ++ rest) × Spells start 0 head s × Behind Follows s no_records (length head) rest rs

-- The record that ends a trace follows, and nothing else.
abbrev pub Ends : Start → Front → ℕ → List ℕ → Type 0
Ends s front place text = Spells (next s front) place text None

-- The next record has the fault.
abbrev pub NextBreaks : TraceFault → Start → Front → ℕ → List ℕ → Type 0
NextBreaks f s front place text = Breaks (next s front) place text f

-- The record that ends a trace follows, and more.
abbrev pub HasMore : TraceFault → Start → Front → ℕ → List ℕ → Type 0
HasMore f s front place text =
    (end more : List ℕ) × (text ≡ end ++ more) × Spells (next s front) place end None × (0 < length more) × (f ≡ fault Trailing (place + length end))

-- The bytes spell the trace.
abbrev pub SpellsTrace : List ℕ → Trace → Type 0
SpellsTrace bytes t = Begins (Ends t.start) bytes t.start t.records

-- The bytes spell a start and whole records, and nothing else.
abbrev pub IsFront : List ℕ → Trace → Type 0
IsFront bytes t = Begins (λ front place text. text ≡ []) bytes t.start t.records

-- The bytes have the fault: in the start, in the record behind some, or behind the end.
abbrev pub HasFault : List ℕ → TraceFault → Type 0
HasFault bytes f = Breaks start 0 bytes f ⊎ ((t : Trace) × (Begins (NextBreaks f t.start) bytes t.start t.records ⊎ Begins (HasMore f t.start) bytes t.start t.records))

-- The bytes have the fault, and spell no trace.
pub record IsRefusal (bytes : List ℕ) (f : TraceFault) : Type 0 where
  pub broken : HasFault bytes f
  pub no_trace : (t : Trace) → SpellsTrace bytes t → ⊥

-- bytes spell one trace at most
abbrev pub SpellsOneTrace : Type 0
SpellsOneTrace = (bytes : List ℕ) (s t : Trace) → SpellsTrace bytes s → SpellsTrace bytes t → s ≡ t

-- bytes with a fault spell none
abbrev pub FaultySpellsNone : Type 0
FaultySpellsNone = (bytes : List ℕ) (f : TraceFault) (t : Trace) → HasFault bytes f → SpellsTrace bytes t → ⊥

-- bytes have one fault at most
abbrev pub HasOneFault : Type 0
HasOneFault = (bytes : List ℕ) (f g : TraceFault) → HasFault bytes f → HasFault bytes g → f ≡ g

-- a fault other than an end too early stays, whatever follows the bytes
abbrev pub FaultsStay : Type 0
FaultsStay = (bytes more : List ℕ) (f : TraceFault) → (f.kind ≡ Short → ⊥) → HasFault bytes f → HasFault (bytes ++ more) f
