-- A record more, the end of a trace, and a fault behind records.
use Rattle.std.proofs.Common.{◌≡◌, ◌∙◌, ◌+◌, ◌++◌, ◌∷◌, [], ℕ, false, List, length, Option, None, Some, refl, sym, ap, subst, inl, inr, append_assoc, length-append, arith}
use Rattle.std.specs.Io.KnownBytes.{Consumes, IsAtEnd}
use Rattle.std.proofs.KnownBytes.{Consumes-trans}
use Rattle.std.proofs.lemmas.List.{append-nil}
use Rattle.trace_format.specs.Grammar.{Breaks, Grammar, Spells, fault}
use Rattle.trace_format.specs.declared.fault.Kind.TheVariants.{Short, Trailing}
use Rattle.trace_format.specs.declared.fault.TraceFault.{TraceFault}
use Rattle.trace_records.specs.Front.{Front, no_records, after}
use Rattle.trace_records.specs.Records.{content, file_at, full_slot, holder, next, ring, seek, set}
use Rattle.trace_records.specs.Start.{start}
use Rattle.trace_records.specs.Whole.{Behind, Begins, Ends, NextBreaks, HasMore, SpellsTrace, HasFault, IsRefusal}
use Rattle.trace_records.specs.declared.record.Record.{Record}
use Rattle.trace_records.specs.declared.start.Descriptor.{Descriptor}
use Rattle.trace_records.specs.declared.start.Item.{Item}
use Rattle.trace_records.specs.declared.start.Start.{Start}
use Rattle.trace_format.specs.declared.trace.Description.{Description}
use Rattle.trace_records.proofs.Stays.{faults_stay}
use Rattle.trace_records.proofs.Whole.{no_trace}
use Rattle.trace_stream.specs.Held.{Held, Reads, Fails, Ended}
use Rattle.trace_stream.specs.Held as held
use Rattle.trace_stream.specs.Streams.{behind, trace_of, IsCoreOf, Stands, Gives, GivesFault, HasFaultBehind, Opens, TellsOfStart, IsFaultOf, Tells}
use Rattle.trace_stream.specs.declared.fault.StreamFault.{StreamFault}
use Rattle.trace_stream.specs.declared.fault.StreamFault.TheVariants as faults
use Rattle.trace_stream.specs.declared.stream.Stream.{Stream}

abbrev Nothing : Front → ℕ → List ℕ → Type 0
Nothing front place text = text ≡ []

-- what follows records that are spelled whole follows all
behind_on : (P : Front → ℕ → List ℕ → Type 0) (s : Start) (front : Front) (place : ℕ) (text more : List ℕ) (rs later : List Record)
    → Behind Nothing s front place text rs → Behind P s (behind front rs) (place + length text) more later → Behind P s front place (text ++ more) (rs ++ later)
behind_on P s front place text more [] later b p =
    let nil : length text ≡ 0 = ap length b in
    let same : place + length text ≡ place = omega (arith, nil) in
    let at : Behind P s front place more later = subst (λ (n : ℕ). Behind P s front n more later) same p in
    subst (λ (x : List ℕ). Behind P s front place (x ++ more) later) (sym b) at
behind_on P s front place text more (r ∷ rs) later b p =
    let long : place + length text ≡ (place + length b.0) + length b.1 = omega (arith, ap length b.2, length-append b.0 b.1) in
    let at : Behind P s (behind (after front r) rs) ((place + length b.0) + length b.1) more later = subst (λ (n : ℕ). Behind P s (behind (after front r) rs) n more later) long p in
    (b.0, b.1 ++ more, ap (λ (x : List ℕ). x ++ more) b.2 ∙ append_assoc b.0 b.1 more, b.3, behind_on P s (after front r) (place + length b.0) b.1 more rs later b.4 at)

begins_on : (P : Front → ℕ → List ℕ → Type 0) (s : Start) (text more : List ℕ) (rs later : List Record)
    → Begins Nothing text s rs → Behind P s (behind no_records rs) (length text) more later → Begins P (text ++ more) s (rs ++ later)
begins_on P s text more rs later b p =
    let long : length text ≡ length b.0 + length b.1 = omega (arith, ap length b.2, length-append b.0 b.1) in
    let at : Behind P s (behind no_records rs) (length b.0 + length b.1) more later = subst (λ (n : ℕ). Behind P s (behind no_records rs) n more later) long p in
    (b.0, b.1 ++ more, ap (λ (x : List ℕ). x ++ more) b.2 ∙ append_assoc b.0 b.1 more, b.3, behind_on P s no_records (length b.0) b.1 more rs later b.4 at)

-- what follows all records so far
begins_last : (P : Front → ℕ → List ℕ → Type 0) (s : Start) (text more : List ℕ) (rs : List Record)
    → Begins Nothing text s rs → P (behind no_records rs) (length text) more → Begins P (text ++ more) s rs
begins_last P s text more rs b p =
    subst (λ (x : List Record). Begins P (text ++ more) s x) (append-nil rs) (begins_on P s text more rs [] b p)

behind_push : (front : Front) (rs : List Record) (r : Record) → behind front (rs ++ r ∷ []) ≡ after (behind front rs) r
behind_push front [] r = refl
behind_push front (q ∷ rs) r = behind_push (after front q) rs r

-- what is kept of a start decides the same records
next_same : (items others : List Item) (descriptions : List Description) (size : ℕ) (full none : List Descriptor) (front : Front)
    → next (record { items = items; descriptions = descriptions; table_size = size; descriptors = full }) front ≡ next (record { items = others; descriptions = descriptions; table_size = size; descriptors = none }) front
unfolding next set content file_at seek ring full_slot holder
next_same items others descriptions size full none front = refl

next_as : (core b : Start) (front : Front) → IsCoreOf core b → next core front ≡ next b front
next_as core b front same =
    next_same core.items b.items core.descriptions core.table_size core.descriptors b.descriptors front
    ∙ (λ i. next (record { items = b.items; descriptions = same.descriptions i; table_size = same.table_size i; descriptors = b.descriptors }) front)

-- the bytes that are held, and more, said by the text
text_more : (b : Start) (s : Stream) (taken more : List ℕ) (rs : List Record) (st : Stands b s taken rs) → taken ++ more ≡ st.text ++ (s.held.rest ++ more)
text_more b s taken more rs st = ap (λ (x : List ℕ). x ++ more) st.held_behind ∙ append_assoc st.text s.held.rest more

-- what the next part says is said of the records so far
at_front : (P : Grammar (Option Record) → ℕ → Type 0) (b : Start) (s : Stream) (taken : List ℕ) (rs : List Record) (st : Stands b s taken rs)
    → P (next s.core s.front) s.held.place → P (next b (behind no_records rs)) (length st.text)
at_front P b s taken rs st p =
    let same : next s.core s.front ≡ next b (behind no_records rs) = next_as s.core b s.front st.core ∙ ap (next b) st.front_is in
    subst (λ (n : ℕ). P (next b (behind no_records rs)) n) st.place_is (subst (λ (g : Grammar (Option Record)). P g s.held.place) same p)

abbrev pub with_front : Held → Start → Front → Stream
with_front h core front = record { held = h; core = core; front = front }

-- ---- a record more

pub goes_on : (a b : Option (List ℕ)) (s s' : Stream) (h : Held) (r : Record) → s' ≡ record { held = h; core = s.core; front = after s.front r }
    → Reads (next s.core s.front) s.held h a b (Some r) → Gives a b s s' (Some r)
goes_on a b s s' h r is read =
    let more = read.0 in
    let uses = read.2 in
    let here = uses.0 in
    subst (λ (z : Stream). Gives a b s z (Some r)) (sym is) (
      more,
      read.1,
      λ c taken rs st.
          let spells : Spells (next c (behind no_records rs)) (length st.text) here (Some r) = at_front (λ g n. Spells g n here (Some r)) c s taken rs st uses.2 in record {
            core = st.core;
            text = st.text ++ here;
            spelled = begins_on Nothing c st.text here rs (r ∷ []) st.spelled (here, [], sym (append-nil here), spells, refl);
            held_behind = text_more c s taken more rs st ∙ ap (λ (x : List ℕ). st.text ++ x) uses.1 ∙ sym (append_assoc st.text here h.rest);
            place_is = omega (arith, uses.3, st.place_is, length-append st.text here);
            front_is = ap (λ (f : Front). after f r) st.front_is ∙ sym (behind_push no_records rs r);
          },
    )

-- ---- the end

consumes_on : (a b c : Option (List ℕ)) (more : List ℕ) → Consumes a b more → Consumes b c [] → Consumes a c more
consumes_on a b c more x y = subst (Consumes a c) (append-nil more) (Consumes-trans a b c more [] x y)

pub ends : (a b c : Option (List ℕ)) (s s' : Stream) (h : Held) → s'.front ≡ s.front → Reads (next s.core s.front) s.held h a b None → held.HasMore false h b c → Gives a c s s' None
ends a b c s s' h same read last = (
  read.0,
  consumes_on a b c read.0 read.1 last.1,
  λ d taken rs st.
      let uses = read.2 in
      let here = uses.0 in
      let whole : s.held.rest ++ read.0 ≡ here = uses.1 ∙ ap (λ (x : List ℕ). here ++ x) last.0 ∙ append-nil here in
      let spells : Ends d (behind no_records rs) (length st.text) here = at_front (λ g n. Spells g n here None) d s taken rs st uses.2 in
      let bytes : taken ++ read.0 ≡ st.text ++ here = text_more d s taken read.0 rs st ∙ ap (λ (x : List ℕ). st.text ++ x) whole in
      (subst (λ (x : List ℕ). SpellsTrace x (trace_of d rs)) (sym bytes) (begins_last (Ends d) d st.text here rs st.spelled spells), last.2, same ∙ st.front_is),
)

-- ---- faults

pub next_breaks : (a b : Option (List ℕ)) (s : Stream) (e : StreamFault) → Fails (next s.core s.front) s.held a b e → GivesFault a b s e
next_breaks a b s faults.Read f = tt
next_breaks a b s (faults.Trace f) (inl memory) = inl memory
next_breaks a b s (faults.Trace f) (inr t) = inr (
  t.0,
  t.1,
  λ d taken rs st.
      let breaks : NextBreaks f d (behind no_records rs) (length st.text) (s.held.rest ++ t.0) = at_front (λ g n. Breaks g n (s.held.rest ++ t.0) f) d s taken rs st t.2 in
      let found : HasFaultBehind (st.text ++ (s.held.rest ++ t.0)) d rs f = inl (begins_last (NextBreaks f d) d st.text (s.held.rest ++ t.0) rs st.spelled breaks) in
      subst (λ (x : List ℕ). HasFaultBehind x d rs f) (sym (text_more d s taken t.0 rs st)) found,
  t.3,
)

not_short : (f : TraceFault) (at : ℕ) (P : Type 0) → f ≡ fault Trailing at → f.kind ≡ Short → P
not_short f at P is short = absurd (cc)

pub trails : (a b c : Option (List ℕ)) (s : Stream) (h : Held) (e : StreamFault) → Reads (next s.core s.front) s.held h a b None → held.Trails h b c e → GivesFault a c s e
trails a b c s h faults.Read read t = tt
trails a b c s h (faults.Trace f) read (inl memory) = inl memory
trails a b c s h (faults.Trace f) read (inr t) =
    let m = t.0 in
    let uses = read.2 in
    let here = uses.0 in
    inr (
      read.0 ++ m.0,
      Consumes-trans a b c read.0 m.0 read.1 m.1,
      λ d taken rs st.
          let held_all : s.held.rest ++ (read.0 ++ m.0) ≡ here ++ (h.rest ++ m.0) =
          sym (append_assoc s.held.rest read.0 m.0) ∙ ap (λ (x : List ℕ). x ++ m.0) uses.1 ∙ append_assoc here h.rest m.0 in
          let spells : Ends d (behind no_records rs) (length st.text) here = at_front (λ g n. Spells g n here None) d s taken rs st uses.2 in
          let place : h.place ≡ length st.text + length here = omega (arith, uses.3, st.place_is) in
          let more : HasMore f d (behind no_records rs) (length st.text) (here ++ (h.rest ++ m.0)) = (here, h.rest ++ m.0, refl, spells, m.2, t.1 ∙ ap (fault Trailing) place) in
          let found : HasFaultBehind (st.text ++ (here ++ (h.rest ++ m.0))) d rs f = inr (begins_last (HasMore f d) d st.text (here ++ (h.rest ++ m.0)) rs st.spelled more) in
          subst (λ (x : List ℕ). HasFaultBehind x d rs f) (sym (text_more d s taken (read.0 ++ m.0) rs st ∙ ap (λ (x : List ℕ). st.text ++ x) held_all)) found,
      not_short f h.place (IsAtEnd c) t.1,
    )

pub outside_trails : (h : Held) (a b : Option (List ℕ)) (e : StreamFault) → held.IsOutside e → held.Trails h a b e
outside_trails h a b faults.Read o = tt
outside_trails h a b (faults.Trace f) o = inl o

pub outside_gives : (a b : Option (List ℕ)) (s : Stream) (e : StreamFault) → held.IsOutside e → GivesFault a b s e
outside_gives a b s faults.Read o = tt
outside_gives a b s (faults.Trace f) o = inl o

-- ---- the start

pub opens : (ahead : List ℕ) (a b : Option (List ℕ)) (x : Start × Stream) → x.1.front ≡ no_records → IsCoreOf x.1.core x.0 → Reads start (record { rest = ahead; place = 0 }) x.1.held a b x.0 → Opens ahead a b x
opens ahead a b x front core read =
    let uses = read.2 in (
      read.0,
      read.1,
      record {
        core = core;
        text = uses.0;
        spelled = (uses.0, [], sym (append-nil uses.0), uses.2, refl);
        held_behind = uses.1;
        place_is = omega (arith, uses.3);
        front_is = front;
      },
    )

refused : (text : List ℕ) (f : TraceFault) → HasFault text f → IsRefusal text f
refused text f h = record { broken = h; no_trace = λ t s. no_trace text f t h s }

pub faulty : (ahead more : List ℕ) (a b : Option (List ℕ)) (f : TraceFault) → Consumes a b more → HasFault (ahead ++ more) f → Ended f b → IsFaultOf ahead a b f
faulty ahead more a b f taken h ended =
    record { more = more; taken = taken; is = refused (ahead ++ more) f h; ended = ended; stays = λ other later. refused ((ahead ++ more) ++ later) f (faults_stay (ahead ++ more) later f other h) }

pub open_fails : (ahead : List ℕ) (a b : Option (List ℕ)) (e : StreamFault) → Fails start (record { rest = ahead; place = 0 }) a b e → TellsOfStart ahead a b e
open_fails ahead a b faults.Read f = tt
open_fails ahead a b (faults.Trace f) (inl memory) = inl memory
open_fails ahead a b (faults.Trace f) (inr t) = inr t

pub no_core : (ahead : List ℕ) (a b : Option (List ℕ)) (e : StreamFault) → held.IsOutside e → TellsOfStart ahead a b e
no_core ahead a b faults.Read o = tt
no_core ahead a b (faults.Trace f) o = inl o

-- a fault of the start, or behind records, is one of the text
pub tells_of_start : (ahead : List ℕ) (a b : Option (List ℕ)) (e : StreamFault) → TellsOfStart ahead a b e → Tells ahead a b e
tells_of_start ahead a b faults.Read f = tt
tells_of_start ahead a b (faults.Trace f) (inl memory) = inl memory
tells_of_start ahead a b (faults.Trace f) (inr t) = inr (faulty ahead t.0 a b f t.1 (inl t.2) t.3)

pub has_fault : (bytes : List ℕ) (b : Start) (rs : List Record) (f : TraceFault) → HasFaultBehind bytes b rs f → HasFault bytes f
has_fault bytes b rs f h = inr (trace_of b rs, h)
