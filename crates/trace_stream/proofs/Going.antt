-- Records that come one by one.
use Rattle.std.proofs.Common.{◌≡◌, ◌∙◌, ◌++◌, ◌∷◌, [], ℕ, true, false, List, Option, None, Some, sym, subst, inl, inr, append_assoc}
use Rattle.std.specs.Io.KnownBytes.{Consumes}
use Rattle.std.proofs.KnownBytes.{Consumes-trans}
use Rattle.trace_records.specs.declared.record.Record.{Record}
use Rattle.trace_records.specs.declared.start.Start.{Start}
use Rattle.trace_records.specs.declared.trace.Trace.{Trace}
use Rattle.trace_records.specs.Whole.{SpellsTrace, HasFault}
use Rattle.trace_stream.proofs.Goes.{faulty, has_fault}
use Rattle.trace_stream.specs.Streams.{trace_of, Stands, Gives, GivesFault, HasFaultBehind, Opens, ReadsAll, Adds, Tells}
use Rattle.trace_stream.specs.declared.fault.StreamFault.{StreamFault}
use Rattle.trace_stream.specs.declared.fault.StreamFault.TheVariants as faults
use Rattle.trace_stream.specs.declared.stream.Stream.{Stream}

-- these are the start and the records so far, by what was taken
pub record Going (ahead : List ℕ) (a b : Option (List ℕ)) (c : Start) (s : Stream) (rs : List Record) : Type 0 where
  pub more : List ℕ
  pub taken : Consumes a b more
  pub stands : Stands c s (ahead ++ more) rs

pub begun : (ahead : List ℕ) (a b : Option (List ℕ)) (x : Start × Stream) → Opens ahead a b x → Going ahead a b x.0 x.1 []
begun ahead a b x o = record { more = o.0; taken = o.1; stands = o.2 }

pub one_more : (ahead : List ℕ) (a b d : Option (List ℕ)) (c : Start) (s s' : Stream) (rs : List Record) (r : Record) → Going ahead a b c s rs → Gives b d s s' (Some r) → Going ahead a d c s' (rs ++ r ∷ [])
one_more ahead a b d c s s' rs r g gives =
    let on = gives.2 c (ahead ++ g.more) rs g.stands in
    record {
      more = g.more ++ gives.0;
      taken = Consumes-trans a b d g.more gives.0 g.taken gives.1;
      stands = subst (λ (x : List ℕ). Stands c s' x (rs ++ r ∷ [])) (append_assoc ahead g.more gives.0) on;
    }

pub added : (ahead : List ℕ) (a b d : Option (List ℕ)) (c : Start) (s s' : Stream) (rs rs' : List Record) → Going ahead a b c s rs → Adds b d s s' rs rs' true → Going ahead a d c s' rs'
added ahead a b d c s s' rs rs' g adds = subst (Going ahead a d c s') (sym adds.1) (one_more ahead a b d c s s' rs adds.0 g adds.2)

-- the trace ends
pub ended : (ahead : List ℕ) (a b d : Option (List ℕ)) (c : Start) (s s' : Stream) (rs : List Record) → Going ahead a b c s rs → Gives b d s s' None → ReadsAll ahead a d (λ text. SpellsTrace text (trace_of c rs))
ended ahead a b d c s s' rs g gives =
    let on = gives.2 c (ahead ++ g.more) rs g.stands in
    record {
      more = g.more ++ gives.0;
      taken = Consumes-trans a b d g.more gives.0 g.taken gives.1;
      ended = on.1;
      is = subst (λ (x : List ℕ). SpellsTrace x (trace_of c rs)) (append_assoc ahead g.more gives.0) on.0;
    }

pub ended_as : (ahead : List ℕ) (a b d : Option (List ℕ)) (c : Start) (s s' : Stream) (rs rs' : List Record) (t : Trace) → Going ahead a b c s rs → Adds b d s s' rs rs' false
    → t.start ≡ c → t.records ≡ rs' → ReadsAll ahead a d (λ text. SpellsTrace text t)
ended_as ahead a b d c s s' rs rs' t g adds start records =
    let all = ended ahead a b d c s s' rs g adds.1 in
    let starts : ReadsAll ahead a d (λ text. SpellsTrace text (trace_of t.start rs)) = subst (λ (x : Start). ReadsAll ahead a d (λ text. SpellsTrace text (trace_of x rs))) (sym start) all in
    subst (λ (x : List Record). ReadsAll ahead a d (λ text. SpellsTrace text (trace_of t.start x))) (sym (records ∙ adds.0)) starts

-- the next record has a fault
pub faulty_next : (ahead : List ℕ) (a b d : Option (List ℕ)) (c : Start) (s : Stream) (rs : List Record) (e : StreamFault) → Going ahead a b c s rs → GivesFault b d s e → Tells ahead a d e
faulty_next ahead a b d c s rs faults.Read g f = tt
faulty_next ahead a b d c s rs (faults.Trace f) g (inl memory) = inl memory
faulty_next ahead a b d c s rs (faults.Trace f) g (inr t) =
    let behind : HasFaultBehind ((ahead ++ g.more) ++ t.0) c rs f = t.2 c (ahead ++ g.more) rs g.stands in
    let found : HasFault ((ahead ++ g.more) ++ t.0) f = has_fault ((ahead ++ g.more) ++ t.0) c rs f behind in
    inr (faulty ahead (g.more ++ t.0) a d f (Consumes-trans a b d g.more t.0 g.taken t.1) (subst (λ (x : List ℕ). HasFault x f) (append_assoc ahead g.more t.0) found) t.3)
