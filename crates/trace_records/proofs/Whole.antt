-- What bytes spell, and which fault they have, is decided by reading; the laws that follow.
use Rattle.std.proofs.Common.{◌≡◌, ℕ, ◌+◌, ◌<◌, List, [], ◌∷◌, ◌++◌, length, Option, Some, None, Result, Ok, Err, refl, sym, ap, subst, ◌∙◌, arith, inl, inr, ◌⊎◌}
use Rattle.std.proofs.lemmas.List.{append-nil}
use Rattle.trace_format.specs.declared.fault.Kind.TheVariants.{Trailing}
use Rattle.trace_format.specs.declared.fault.TraceFault.{TraceFault}
use Rattle.trace_format.specs.Grammar.{Grammar, Spells, Breaks, fault}
use Rattle.trace_format.specs.Read.{reading}
use Rattle.trace_format.proofs.Readings.{done, ok_is, err_is, refused, again, fails}
use Rattle.trace_records.specs.declared.start.Start.{Start}
use Rattle.trace_records.specs.declared.record.Record.{Record}
use Rattle.trace_records.specs.declared.trace.Trace.{Trace}
use Rattle.trace_records.specs.Front.{Front, no_records, after}
use Rattle.trace_records.specs.Records.{next}
use Rattle.trace_records.specs.Start.{start}
use Rattle.trace_records.specs.Whole.{Behind, Begins, Ends, NextBreaks, HasMore, SpellsTrace, HasFault}

-- what follows records, and is no record: a fault, or none where it ends the trace
abbrev Verdict : Type 0
Verdict = Option TraceFault

abbrev behind_end : ℕ → List ℕ → Verdict
behind_end place [] = None
behind_end place (b ∷ bs) = Some (fault Trailing place)

abbrev at_record : Option Record → ℕ → List ℕ → Option Verdict
at_record (Some r) place rest = None
at_record None place rest = Some (behind_end place rest)

abbrev verdict : Result (Option Record × ℕ × List ℕ) TraceFault → Option Verdict
verdict (Err f) = Some (Some f)
verdict (Ok r) = at_record r.0 r.1 r.2

abbrev Decides : Verdict → Start → Front → ℕ → List ℕ → Type 0
Decides v s front place text = verdict (reading (next s front) place text) ≡ Some v

-- a text that is spelled whole is read whole
whole : {A : Type 0} (g : Grammar A) (place : ℕ) (text : List ℕ) (x : A) → Spells g place text x → reading g place text ≡ Ok (x, place + length text, [])
whole g place text x s = ap (reading g place) (sym (append-nil text)) ∙ again g place text [] x s

in_front : {A : Type 0} (g : Grammar A) (place : ℕ) (text front rest : List ℕ) (x : A) → text ≡ front ++ rest → Spells g place front x → reading g place text ≡ Ok (x, place + length front, rest)
in_front g place text front rest x e s = ap (reading g place) e ∙ again g place front rest x s

decides_end : (s : Start) (front : Front) (place : ℕ) (text : List ℕ) → Ends s front place text → Decides None s front place text
decides_end s front place text e = ap verdict (whole (next s front) place text None e)

decides_fault : (f : TraceFault) (s : Start) (front : Front) (place : ℕ) (text : List ℕ) → NextBreaks f s front place text → Decides (Some f) s front place text
decides_fault f s front place text b = ap verdict (fails (next s front) place text f b)

is_trailing : (place : ℕ) (more : List ℕ) → 0 < length more → behind_end place more ≡ Some (fault Trailing place)
is_trailing place [] some = absurd (omega arith)
is_trailing place (b ∷ bs) some = refl

some_some : {A : Type 0} {x y : A} → x ≡ y → Some x ≡ Some y
some_some e = ap (λ z. Some z) e

decides_more : (f : TraceFault) (s : Start) (front : Front) (place : ℕ) (text : List ℕ) → HasMore f s front place text → Decides (Some f) s front place text
decides_more f s front place text m =
    ap verdict (in_front (next s front) place text m.0 m.1 None m.2 m.3)
    ∙ some_some (is_trailing (place + length m.0) m.1 m.4 ∙ some_some (sym m.5))

-- what follows records, said otherwise
behind_as : (P Q : Front → ℕ → List ℕ → Type 0) → ((front : Front) (place : ℕ) (text : List ℕ) → P front place text → Q front place text)
    → (s : Start) (front : Front) (place : ℕ) (text : List ℕ) (rs : List Record) → Behind P s front place text rs → Behind Q s front place text rs
behind_as P Q on s front place text [] b = on front place text b
behind_as P Q on s front place text (r ∷ rs) b = (b.0, b.1, b.2, b.3, behind_as P Q on s (after front r) (place + length b.0) b.1 rs b.4)

begins_as : (P Q : Front → ℕ → List ℕ → Type 0) → ((front : Front) (place : ℕ) (text : List ℕ) → P front place text → Q front place text)
    → (bytes : List ℕ) (s : Start) (rs : List Record) → Begins P bytes s rs → Begins Q bytes s rs
begins_as P Q on bytes s rs b = (b.0, b.1, b.2, b.3, behind_as P Q on s no_records (length b.0) b.1 rs b.4)

-- a record is read, and what follows it
pub record Onward (P : Front → ℕ → List ℕ → Type 0) (s : Start) (front : Front) (place : ℕ) (text : List ℕ) (r : Record) (rs : List Record) : Type 0 where
  next_place : ℕ
  rest : List ℕ
  read : reading (next s front) place text ≡ Ok (Some r, next_place, rest)
  more : Behind P s (after front r) next_place rest rs

onward : (P : Front → ℕ → List ℕ → Type 0) (s : Start) (front : Front) (place : ℕ) (text : List ℕ) (r : Record) (rs : List Record)
    → Behind P s front place text (r ∷ rs) → Onward P s front place text r rs
onward P s front place text r rs b =
    record { next_place = place + length b.0; rest = b.1; read = in_front (next s front) place text b.0 b.1 (Some r) b.2 b.3; more = b.4 }

some_is : {A : Type 0} (x y : A) → Some x ≡ Some y → x ≡ y
some_is x y e = cc

none_some : {A : Type 0} (x : A) → ◌≡◌ {A = Option A} None (Some x) → ⊥
none_some x e = cc

-- what reading gives is one
module _ (s : Start) (v w : Verdict) where
  same_records : (front : Front) (place : ℕ) (text : List ℕ) (rs qs : List Record)
      → Behind (Decides v s) s front place text rs → Behind (Decides w s) s front place text qs → (rs ≡ qs) × (v ≡ w)
  same_records front place text [] [] a b = (refl, some_is v w (sym a ∙ b))
  same_records front place text [] (q ∷ qs) a b =
      let o = onward (Decides w s) s front place text q qs b in
      absurd (none_some v (sym (ap verdict o.read) ∙ a))
  same_records front place text (r ∷ rs) [] a b =
      let o = onward (Decides v s) s front place text r rs a in
      absurd (none_some w (sym (ap verdict o.read) ∙ b))
  same_records front place text (r ∷ rs) (q ∷ qs) a b =
      let o = onward (Decides v s) s front place text r rs a in
      let p = onward (Decides w s) s front place text q qs b in
      let both = ok_is (Some q, p.next_place, p.rest) (Some r, o.next_place, o.rest) (sym p.read ∙ o.read) in
      let same : q ≡ r = some_is q r (ap (λ (x : Option Record × ℕ × List ℕ). x.0) both) in
      let place_same : p.next_place ≡ o.next_place = ap (λ (x : Option Record × ℕ × List ℕ). x.1) both in
      let rest_same : p.rest ≡ o.rest = ap (λ (x : Option Record × ℕ × List ℕ). x.2) both in
      let one = subst (λ (x : Record). Behind (Decides w s) s (after front x) p.next_place p.rest qs) same p.more in
      let two = subst (λ (x : ℕ). Behind (Decides w s) s (after front r) x p.rest qs) place_same one in
      let three = subst (λ (x : List ℕ). Behind (Decides w s) s (after front r) o.next_place x qs) rest_same two in
      let later = same_records (after front r) o.next_place o.rest rs qs o.more three in
      (ap (λ (x : Record). x ∷ rs) (sym same) ∙ ap (λ (x : List Record). q ∷ x) later.0, later.1)

same_whole : (bytes : List ℕ) (v w : Verdict) (s t : Start) (rs qs : List Record)
    → Begins (Decides v s) bytes s rs → Begins (Decides w t) bytes t qs → (s ≡ t) × (rs ≡ qs) × (v ≡ w)
same_whole bytes v w s t rs qs a b =
    let o = in_front start 0 bytes a.0 a.1 s a.2 a.3 in
    let p = in_front start 0 bytes b.0 b.1 t b.2 b.3 in
    let both = ok_is (t, 0 + length b.0, b.1) (s, 0 + length a.0, a.1) (sym p ∙ o) in
    let same : t ≡ s = ap (λ (x : Start × ℕ × List ℕ). x.0) both in
    let place_same : length b.0 ≡ length a.0 = omega (arith, ap (λ (x : Start × ℕ × List ℕ). x.1) both) in
    let rest_same : b.1 ≡ a.1 = ap (λ (x : Start × ℕ × List ℕ). x.2) both in
    let one = subst (λ (x : Start). Behind (Decides w x) x no_records (length b.0) b.1 qs) same b.4 in
    let two = subst (λ (x : ℕ). Behind (Decides w s) s no_records x b.1 qs) place_same one in
    let three = subst (λ (x : List ℕ). Behind (Decides w s) s no_records (length a.0) x qs) rest_same two in
    let later = same_records s v w no_records (length a.0) a.1 rs qs a.4 three in
    (sym same, later.0, later.1)

-- a start that is broken is not spelled
no_start : (bytes : List ℕ) (f : TraceFault) (P : Front → ℕ → List ℕ → Type 0) (s : Start) (rs : List Record) → Breaks start 0 bytes f → Begins P bytes s rs → ⊥
no_start bytes f P s rs broken b =
    let both : refused {A = Start × ℕ × List ℕ} f ≡ done (s, 0 + length b.0, b.1) = sym (fails start 0 bytes f broken) ∙ in_front start 0 bytes b.0 b.1 s b.2 b.3 in
    cc

spells_as : (bytes : List ℕ) (t : Trace) → SpellsTrace bytes t → Begins (Decides None t.start) bytes t.start t.records
spells_as bytes t s = begins_as (Ends t.start) (Decides None t.start) (decides_end t.start) bytes t.start t.records s

-- a fault behind a start
behind_start : (bytes : List ℕ) (f : TraceFault) (t : Trace) → Begins (NextBreaks f t.start) bytes t.start t.records ⊎ Begins (HasMore f t.start) bytes t.start t.records
    → Begins (Decides (Some f) t.start) bytes t.start t.records
behind_start bytes f t h = elim h [
  | inl b ↦ begins_as (NextBreaks f t.start) (Decides (Some f) t.start) (decides_fault f t.start) bytes t.start t.records b
  | inr m ↦ begins_as (HasMore f t.start) (Decides (Some f) t.start) (decides_more f t.start) bytes t.start t.records m
]

same_trace : (s t : Trace) → s.start ≡ t.start → s.records ≡ t.records → s ≡ t
same_trace s t e f =
    let made : Start → List Record → Trace = λ a b. record { start = a; records = b } in
    ap (λ a. made a s.records) e ∙ ap (made t.start) f

pub one_trace : (bytes : List ℕ) (s t : Trace) → SpellsTrace bytes s → SpellsTrace bytes t → s ≡ t
one_trace bytes s t a b =
    let both = same_whole bytes None None s.start t.start s.records t.records (spells_as bytes s a) (spells_as bytes t b) in
    same_trace s t both.0 both.1

pub no_trace : (bytes : List ℕ) (f : TraceFault) (t : Trace) → HasFault bytes f → SpellsTrace bytes t → ⊥
no_trace bytes f t h s = elim h [
  | inl b ↦ no_start bytes f (Ends t.start) t.start t.records b s
  | inr u ↦
      let both = same_whole bytes None (Some f) t.start u.0.start t.records u.0.records (spells_as bytes t s) (behind_start bytes f u.0 u.1) in
      none_some f both.2
]

start_against : (bytes : List ℕ) (f g : TraceFault) (u : Trace) → Breaks start 0 bytes f → Begins (NextBreaks g u.start) bytes u.start u.records ⊎ Begins (HasMore g u.start) bytes u.start u.records → f ≡ g
start_against bytes f g u b h = absurd (no_start bytes f (Decides (Some g) u.start) u.start u.records b (behind_start bytes g u h))

pub one_fault : (bytes : List ℕ) (f g : TraceFault) → HasFault bytes f → HasFault bytes g → f ≡ g
one_fault bytes f g hf hg = elim hf [
  | inl a ↦ elim hg [
    | inl b ↦ err_is {A = Start × ℕ × List ℕ} f g (sym (fails start 0 bytes f a) ∙ fails start 0 bytes g b)
    | inr u ↦ start_against bytes f g u.0 a u.1
  ]
  | inr t ↦ elim hg [
    | inl b ↦ sym (start_against bytes g f t.0 b t.1)
    | inr u ↦
        let both = same_whole bytes (Some f) (Some g) t.0.start u.0.start t.0.records u.0.records (behind_start bytes f t.0 t.1) (behind_start bytes g u.0 u.1) in
        some_is f g both.2
  ]
]
