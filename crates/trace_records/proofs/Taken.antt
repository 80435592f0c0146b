-- What reading took, and why it stopped.
use Rattle.std.proofs.Common.{◌≡◌, ℕ, ◌-◌, ◌<◌, ◌≤◌, List, length, take, Option, Result, Ok, Err, IsErrAnd, refl, sym, ap, subst, ◌∙◌, inl, inr, ◌⊎◌, arith, length-append}
use Rattle.std.specs.Prelude.{IfErr}
use Rattle.std.proofs.lemmas.List.{take_at}
use Rattle.trace_format.specs.declared.fault.Kind.TheVariants.{Memory}
use Rattle.trace_format.specs.declared.fault.TraceFault.{TraceFault}
use Rattle.trace_format.specs.Grammar.{Grammar, Spells, Breaks, fault}
use Rattle.trace_format.specs.Read.{reading}
use Rattle.trace_format.proofs.Apart.{Own, AnyText, apart, keeps_any, at_place}
use Rattle.trace_format.proofs.Readings.{takes, breaks}
use Rattle.trace_records.specs.declared.fault.ReadError.{ReadError}
use Rattle.trace_records.specs.declared.fault.ReadError.TheVariants as errors
use Rattle.trace_records.specs.declared.start.Start.{Start}
use Rattle.trace_records.specs.declared.record.Record.{Record}
use Rattle.trace_records.specs.Front.{Front}
use Rattle.trace_records.specs.Read.{Fails, OnFault, fault_of}
use Rattle.trace_records.specs.Records.{next}

-- the bytes that were taken spell the value
pub taken : {A : Type 0} (g : Grammar A) (place : ℕ) (text : List ℕ) (x : A) (end : ℕ) (rest : List ℕ) → reading g place text ≡ Ok (x, end, rest)
    → Spells g place (take (length text - length rest) text) x
taken g place text x end rest e =
    let t = takes g place text (x, end, rest) e in
    let len : length t.0 ≡ length text - length rest = omega (arith, ap length t.1, length-append t.0 rest) in
    let front : take (length text - length rest) text ≡ t.0 = ap (take (length text - length rest)) t.1 ∙ take_at t.0 rest (length text - length rest) len in
    subst (λ (f : List ℕ). Spells g place f x) (sym front) t.2

-- the same from the first byte on
pub taken_first : {A : Type 0} (g : Grammar A) (text : List ℕ) (x : A) (end : ℕ) (rest : List ℕ) → reading g 0 text ≡ Ok (x, end, rest)
    → (end ≤ length text) × Spells g 0 (take end text) x
taken_first g text x end rest e =
    let t = takes g 0 text (x, end, rest) e in
    let len : length t.0 ≡ end = omega (arith, t.3) in
    let front : take end text ≡ t.0 = ap (take end) t.1 ∙ take_at t.0 rest end len in
    (omega (arith, len, ap length t.1, length-append t.0 rest), subst (λ (f : List ℕ). Spells g 0 f x) (sym front) t.2)

-- a record has a byte at least, its kind
pub next_takes : (s : Start) (f : Front) (place : ℕ) (text : List ℕ) (x : Option Record) (end : ℕ) (rest : List ℕ) → reading (next s f) place text ≡ Ok (x, end, rest) → length rest < length text
unfolding next
next_takes s f place text x end rest e =
    let t = takes (next s f) place text (x, end, rest) e in
    let o : Own AnyText (next s f) x = record { place = place; text = t.0; has = tt; is = t.2 } in
    let kind = apart keeps_any (at_place o) in
    let byte = apart keeps_any kind.own in
    omega (arith, ap length t.1, length-append t.0 rest, ap length kind.whole, length-append kind.own.text kind.after.text, ap length byte.whole, length-append byte.own.text byte.after.text, byte.own.is.0)

-- the fault that is told is one of the text, unless memory ran out
pub told : {A : Type 0} (g : Grammar A) (place : ℕ) (text : List ℕ) (e : ReadError) → Fails e (reading g place text) → (fault_of e ≡ fault Memory 0) ⊎ Breaks g place text (fault_of e)
told g place text errors.OutOfMemory h = inl refl
told g place text (errors.Fault f) h = inr (breaks g place text f h)

-- an error of a part is one of the whole
pub goes_on_out : {X : Type 0} (out : Result X ReadError) (e : ReadError) (P Q : TraceFault → Type 0) → IsErrAnd out (λ y. y ≡ e) → OnFault e P → ((f : TraceFault) → P f → Q f) → IfErr out (λ y. OnFault y Q)
goes_on_out (Ok x) e P Q h p on = absurd h
goes_on_out (Err y) errors.OutOfMemory P Q h p on = rw h tt
goes_on_out (Err y) (errors.Fault f) P Q h p on = rw h (on f p)
