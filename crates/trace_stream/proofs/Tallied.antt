-- Records that are counted as they come.
use Rattle.std.proofs.Common.{◌≡◌, ◌∙◌, ◌+◌, ◌++◌, ◌∷◌, [], ℕ, true, false, List, length, cond, Option, None, Some, sym, ap, add-zero, arith, is_some, IfSome}
use Rattle.std.proofs.lemmas.List.Sums.{sum_by-cons}
use Rattle.trace_records.specs.declared.counting.Tally.{Tally}
use Rattle.trace_records.specs.declared.record.Record.{Record}
use Rattle.trace_records.specs.declared.start.Start.{Start}
use Rattle.trace_records.specs.Front.{Front, no_records, after, places_of, rings_after}
use Rattle.trace_records.specs.Tallies.{places, rings, is_ring}
use Rattle.trace_records.proofs.Counted.{rings-after}
use Rattle.trace_stream.proofs.Going.{Going, ended}
use Rattle.trace_stream.specs.Streams.{behind, trace_of, Steps, Gives, HasTally, ReadsAll}
use Rattle.trace_stream.specs.declared.stream.Stream.{Stream}

-- the places and rings behind records
behind_places : (front : Front) (rs : List Record) → (behind front rs).places ≡ front.places + places rs
behind_places front [] = sym (add-zero front.places)
behind_places front (r ∷ rs) =
    let one : places (r ∷ rs) ≡ places_of r + places rs = sum_by-cons places_of r rs in
    let same : (front.places + places_of r) + places rs ≡ front.places + places (r ∷ rs) = omega (arith, one) in
    behind_places (after front r) rs ∙ same

behind_rings : (front : Front) (rs : List Record) → length (behind front rs).rings ≡ length front.rings + rings rs
behind_rings front [] = sym (add-zero (length front.rings))
behind_rings front (r ∷ rs) =
    let one : rings (r ∷ rs) ≡ cond (is_ring r) 1 0 + rings rs = sum_by-cons (λ x. cond (is_ring x) 1 0) r rs in
    let same : length (rings_after front.rings r) + rings rs ≡ length front.rings + rings (r ∷ rs) = omega (arith, one, rings-after front.rings r) in
    behind_rings (after front r) rs ∙ same

zero-add : (n : ℕ) → 0 + n ≡ n
zero-add n = omega arith

pub steps_of : (a b : Option (List ℕ)) (s s' : Stream) (x : Option Record) → Gives a b s s' x → Steps a b s s' (is_some x)
steps_of a b s s' (Some r) g = (r, g)
steps_of a b s s' None g = g

pub on_some : (x : Option Record) (P : Type 0) → IfSome x (λ _. P) → is_some x ≡ true → P
on_some (Some r) P p e = p
on_some None P p e = absurd (cc)

pub counted : (ahead : List ℕ) (a b d : Option (List ℕ)) (c : Start) (s s' : Stream) (rs : List Record) (tally : Tally) → Going ahead a b c s rs → Steps b d s s' false
    → tally.places ≡ s'.front.places → tally.rings ≡ length s'.front.rings → ReadsAll ahead a d (HasTally tally)
counted ahead a b d c s s' rs tally g step ps ns =
    let front : s'.front ≡ behind no_records rs = (step.2 c (ahead ++ g.more) rs g.stands).2 in
    let whole = ended ahead a b d c s s' rs g step in
    record {
      more = whole.more;
      taken = whole.taken;
      ended = whole.ended;
      is = (
        trace_of c rs,
        whole.is,
        record {
          places_are = ps ∙ ap (λ (f : Front). f.places) front ∙ behind_places no_records rs ∙ zero-add (places rs);
          rings_are = ns ∙ ap (λ (f : Front). length f.rings) front ∙ behind_rings no_records rs ∙ zero-add (rings rs);
        },
      );
    }
