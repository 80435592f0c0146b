-- What the steps of a record at hand put into slots is among what the trace starts with.
use Rattle.std.proofs.Common.{◌≡◌, ℕ, ◌-◌, List, [], ◌∷◌, ◌++◌, length, map, sym, ap, ◌∙◌, arith}
use Rattle.std.specs.Prelude.{All}
use Rattle.std.specs.List.{slice_get}
use Rattle.std.proofs.lemmas.List.Elements.{All-nil, All-cons, All-map}
use Rattle.trace_format.specs.Submitted.{Submitted}
use Rattle.trace_format.proofs.Spots.{slice_get-append_right}
use Rattle.trace_records.specs.declared.record.Record.{Record}
use Rattle.trace_records.specs.declared.record.Record.TheVariants.{Enter, Fill, Set, Seek, RingStarts, RingEnds}
use Rattle.trace_records.specs.declared.start.Start.{Start}
use Rattle.recording.specs.Forgotten.{blanks}
use Rattle.recording.specs.Fronts.{IsSpelledFront}
use Rattle.recording.specs.Growing.{Grown, submitted, with_records, no_records}
use Rattle.recording.specs.Steps.{Step, submit}
use Rattle.recording.proofs.Blanks.{length-blanks}
use Rattle.recording.proofs.RecordsFacts.{all_at}
use Rattle.stream_laws.specs.Streamed.{place_behind, at_hand}
use Rattle.stream_laws.proofs.Growing.{added, steps_added, blank_steps}
use Rattle.sweep_laws.specs.Holding.{ActionHolds, PlacesHold}
use Rattle.sweep_laws.proofs.HolderFacts.{RecordHolds, last_holds}

-- What a step puts into slots fits.
abbrev StepHolds : (started : ℕ) → Step → Type 0
StepHolds d x = ActionHolds d x.action

-- So do the steps of a record of which it holds.
added_holds : (d p n : ℕ) (r : Record) → RecordHolds d r → All (StepHolds d) (added p n r)
added_holds d p n (Enter ring entries) h =
    All-map (StepHolds d) (λ (e : Submitted). record { ring = ring; from_record = p; action = submit e }) (map submitted entries) (λ k x lt. tt)
added_holds d p n (Fill ring buffer offset filling) h = All-cons (StepHolds d) _ [] tt (All-nil (StepHolds d))
added_holds d p n (Set file content) h = All-cons (StepHolds d) _ [] tt (All-nil (StepHolds d))
added_holds d p n (Seek file position) h = All-cons (StepHolds d) _ [] tt (All-nil (StepHolds d))
added_holds d p n (RingStarts ring) h = All-cons (StepHolds d) _ [] h (All-nil (StepHolds d))
added_holds d p n (RingEnds ring) h = All-nil (StepHolds d)

-- So do those of the record at hand.
pub hand_holds : (b : Start) (front : List Record) (r : Record) → IsSpelledFront b (front ++ r ∷ []) → PlacesHold (at_hand b front r) (place_behind b front)
hand_holds b front r h k from x here =
    let d = length b.descriptions in
    let p = place_behind b front in
    let before : Grown = with_records no_records front in
    let more : List Step = added p (length before.rings) r in
    let steps : (at_hand b front r).steps ≡ blanks p ++ more =
    steps_added (blank_steps before) r ∙ ap (λ n. blanks p ++ added n (length before.rings) r) (length-blanks p) in
    let m = k - p in
    let is = sym (slice_get-append_right (blanks p) more k m (omega (arith, from, length-blanks p))) ∙ ap (λ xs. slice_get xs k) (sym steps) ∙ here in
    all_at (StepHolds d) more m x is (added_holds d p (length before.rings) r (last_holds b front r h))
