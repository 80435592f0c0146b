-- A fault other than Short stays when the text grows.
use Rattle.std.proofs.Common.{◌≡◌, ℕ, ◌+◌, List, [], ◌∷◌, ◌++◌, length, ap, ◌∙◌, inl, inr, append_assoc, length-append, arith}
use Rattle.trace_format.specs.declared.fault.Kind.TheVariants.{Short}
use Rattle.trace_format.specs.declared.fault.TraceFault.{TraceFault}
use Rattle.trace_format.specs.Grammar.{Grammar, Done, Bytes, Place, Test, Known, Choice, Then, Breaks}
use Rattle.trace_records.specs.declared.start.Start.{Start}
use Rattle.trace_records.specs.declared.record.Record.{Record}
use Rattle.trace_records.specs.Front.{Front, no_records, after}
use Rattle.trace_records.specs.Records.{next}
use Rattle.trace_records.specs.Start.{start}
use Rattle.trace_records.specs.Whole.{Behind, Begins, NextBreaks, HasMore, HasFault}

longer : (text front rest more : List ℕ) → text ≡ front ++ rest → text ++ more ≡ front ++ (rest ++ more)
longer text front rest more e = ap (λ x. x ++ more) e ∙ append_assoc front rest more

stays : {A : Type 0} (g : Grammar A) (place : ℕ) (text more : List ℕ) (f : TraceFault) → (f.kind ≡ Short → ⊥) → Breaks g place text f → Breaks g place (text ++ more) f
stays (Done x) place text more f other b = absurd b
stays (Bytes n) place text more f other b = absurd (other (ap (λ (x : TraceFault). x.kind) b.1))
stays Place place text more f other b = absurd b
stays (Test passes g) place text more f other b = b
stays (Known known g) place text more f other b = b
stays (Choice c m n) place text more f other b = elim b [
  | inl h ↦ inl (h.0, stays m place text more f other h.1)
  | inr h ↦ inr (h.0, stays n place text more f other h.1)
]
stays (Then m k) place text more f other b = elim b [
  | inl h ↦ inl (stays m place text more f other h)
  | inr h ↦ inr (h.0, h.1 ++ more, h.2, longer text h.0 h.1 more h.3, h.4, stays (k h.2) (place + length h.0) h.1 more f other h.5)
]

-- what follows records, with more behind it
behind_more : (P Q : Front → ℕ → List ℕ → Type 0) (more : List ℕ) → ((front : Front) (place : ℕ) (text : List ℕ) → P front place text → Q front place (text ++ more))
    → (s : Start) (front : Front) (place : ℕ) (text : List ℕ) (rs : List Record) → Behind P s front place text rs → Behind Q s front place (text ++ more) rs
behind_more P Q more on s front place text [] b = on front place text b
behind_more P Q more on s front place text (r ∷ rs) b =
    (b.0, b.1 ++ more, longer text b.0 b.1 more b.2, b.3, behind_more P Q more on s (after front r) (place + length b.0) b.1 rs b.4)

begins_more : (P Q : Front → ℕ → List ℕ → Type 0) (more : List ℕ) → ((front : Front) (place : ℕ) (text : List ℕ) → P front place text → Q front place (text ++ more))
    → (bytes : List ℕ) (s : Start) (rs : List Record) → Begins P bytes s rs → Begins Q (bytes ++ more) s rs
begins_more P Q more on bytes s rs b =
    (b.0, b.1 ++ more, longer bytes b.0 b.1 more b.2, b.3, behind_more P Q more on s no_records (length b.0) b.1 rs b.4)

more_stays : (more : List ℕ) (f : TraceFault) (s : Start) (front : Front) (place : ℕ) (text : List ℕ) → HasMore f s front place text → HasMore f s front place (text ++ more)
more_stays more f s front place text h =
    (h.0, h.1 ++ more, longer text h.0 h.1 more h.2, h.3, omega (arith, h.4, length-append h.1 more), h.5)

pub faults_stay : (bytes more : List ℕ) (f : TraceFault) → (f.kind ≡ Short → ⊥) → HasFault bytes f → HasFault (bytes ++ more) f
faults_stay bytes more f other h = elim h [
  | inl b ↦ inl (stays start 0 bytes more f other b)
  | inr t ↦ inr (
    t.0,
    elim t.1 [
      | inl b ↦ inl (begins_more (NextBreaks f t.0.start) (NextBreaks f t.0.start) more (λ front place text. stays (next t.0.start front) place text more f other) bytes t.0.start t.0.records b)
      | inr m ↦ inr (begins_more (HasMore f t.0.start) (HasMore f t.0.start) more (more_stays more f t.0.start) bytes t.0.start t.0.records m)
    ],
  )
]
