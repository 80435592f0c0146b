-- A view of code: bytes that were taken from a reader and not used yet, and what a part of a text that is read there does to them.
use Rattle.std.specs.Prelude.{◌≡◌, ◌⊎◌, ◌+◌, ◌<◌, ◌++◌, [], ⊤, ℕ, Bool, true, false, List, length, Option, None, Some, Result, Ok, Err}
use Rattle.std.specs.Io.KnownBytes.{Consumes, IsAtEnd}
use Rattle.trace_format.specs.Grammar.{Grammar, Spells, Breaks, fault}
use Rattle.trace_format.specs.declared.fault.Kind.TheVariants.{Memory, Short, Trailing}
use Rattle.trace_format.specs.declared.fault.TraceFault.{TraceFault}
use Rattle.trace_stream.specs.declared.fault.StreamFault.{StreamFault}
use Rattle.trace_stream.specs.declared.fault.StreamFault.TheVariants.{Trace, Read}

-- the bytes, and their place in the text
pub record Held : Type 0 where
  pub rest : List ℕ
  pub place : ℕ

-- more bytes behind
abbrev pub grown : Held → List ℕ → Held
grown h more = record { rest = h.rest ++ more; place = h.place }

-- some bytes came, or none, where the reader is at its end
abbrev pub Came : Bool → List ℕ → Option (List ℕ) → Type 0
Came true more left = 0 < length more
Came false more left = (more ≡ []) × IsAtEnd left

-- what the reader lost came behind
abbrev pub Gains : Bool → Held → Held → Option (List ℕ) → Option (List ℕ) → Type 0
Gains some h h' left left' = (more : List ℕ) × Consumes left left' more × (h' ≡ grown h more) × Came some more left'

-- memory ran out, or the reader failed
abbrev pub IsOutside : StreamFault → Type 0
IsOutside Read = ⊤
IsOutside (Trace f) = f ≡ fault Memory 0

-- how many calls of the reader failed
abbrev pub failed_of : StreamFault → ℕ
failed_of Read = 1
failed_of (Trace f) = 0

abbrev pub failed : {A : Type 0} → Result A StreamFault → ℕ
failed (Err e) = failed_of e
failed (Ok x) = 0

-- the first bytes are gone, and spell the value
abbrev pub Uses : {A : Type 0} → Grammar A → Held → Held → A → Type 0
Uses g h h' x = (here : List ℕ) × (h.rest ≡ here ++ h'.rest) × Spells g h.place here x × (h'.place ≡ h.place + length here)

-- the fault is told where the reader is at its end, or where no byte more changes it
abbrev pub Ended : TraceFault → Option (List ℕ) → Type 0
Ended f left = f.kind ≡ Short → IsAtEnd left

-- the fault is told, and nothing came, or something else stood in the way
abbrev pub Stops : TraceFault → Option (List ℕ) → Option (List ℕ) → StreamFault → Type 0
Stops f left left' Read = ⊤
Stops f left left' (Trace g) = (g ≡ fault Memory 0) ⊎ ((g ≡ f) × Consumes left left' [] × Ended g left')

-- one try: more bytes came, or the value was read from those that are there
abbrev pub Tries : {A : Type 0} → Grammar A → Held → Held → Option (List ℕ) → Option (List ℕ) → Option A → Type 0
Tries g h h' left left' None = Gains true h h' left left'
Tries g h h' left left' (Some x) = Uses g h h' x × Consumes left left' []

-- the bytes that are held and those that came behind give the value
abbrev pub Reads : {A : Type 0} → Grammar A → Held → Held → Option (List ℕ) → Option (List ℕ) → A → Type 0
Reads g h h' left left' x = (more : List ℕ) × Consumes left left' more × Uses g (grown h more) h' x

-- they have the fault
abbrev pub Fails : {A : Type 0} → Grammar A → Held → Option (List ℕ) → Option (List ℕ) → StreamFault → Type 0
Fails g h left left' Read = ⊤
Fails g h left left' (Trace f) = (f ≡ fault Memory 0) ⊎ ((more : List ℕ) × Consumes left left' more × Breaks g h.place (h.rest ++ more) f × Ended f left')

-- whether a byte is held or comes, and else the reader is at its end
abbrev pub HasMore : Bool → Held → Option (List ℕ) → Option (List ℕ) → Type 0
HasMore true h left left' = (more : List ℕ) × Consumes left left' more × (0 < length (h.rest ++ more))
HasMore false h left left' = (h.rest ≡ []) × Consumes left left' [] × IsAtEnd left'

-- a byte is held or comes, where none may follow
abbrev pub Trails : Held → Option (List ℕ) → Option (List ℕ) → StreamFault → Type 0
Trails h left left' Read = ⊤
Trails h left left' (Trace f) = (f ≡ fault Memory 0) ⊎ (HasMore true h left left' × (f ≡ fault Trailing h.place))
