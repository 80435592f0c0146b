-- A trace of version 3 that some bytes spell has at most as many places as such a trace may have.
use Rattle.std.proofs.Common.{◌≡◌, ◌+◌, ◌≤◌, List, [], ◌∷◌, length, refl, arith}
use Rattle.std.proofs.lemmas.List.Sums.{sum_by-cons}
use Rattle.trace_records.specs.declared.record.Record.{Record}
use Rattle.trace_records.specs.declared.trace.Trace.{Trace}
use Rattle.trace_records.specs.Front.{Front, after, places_of, no_records as no_front, places_limit}
use Rattle.trace_records.specs.Tallies.{places}
use Rattle.trace_records.specs.Whole.{Ends}
use Rattle.recording.specs.Growing.{Grown, no_records, with_record}
use Rattle.recording.specs.Spelled.{IsSpelled}
use Rattle.recording.proofs.RecordsFacts.{AllFit, GrownFits, records_fit}

behind : (f : Front) (g : Grown) (rs : List Record) → AllFit 0 f g rs → f.places + places rs ≤ places_limit
behind f g [] fits =
    let h : GrownFits 0 f g = fits in
    let same : f.places ≡ length g.steps = h.places_are in
    let few : length g.steps ≤ places_limit = h.few_steps in
    let none : places [] ≡ 0 = refl in
    omega (arith, same, few, none)
behind f g (r ∷ rs) fits =
    let rest : (f.places + places_of r) + places rs ≤ places_limit = behind (after f r) (with_record g r) rs fits.2 in
    let more : places (r ∷ rs) ≡ places_of r + places rs = sum_by-cons places_of r rs in
    omega (arith, rest, more)

pub few_places : (t : Trace) → IsSpelled t → places t.records ≤ places_limit
few_places t h =
    let all : 0 + places t.records ≤ places_limit = behind no_front no_records t.records (records_fit (Ends t.start) h.0 t.start t.records h.1 0) in
    omega (arith, all)
