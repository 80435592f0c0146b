use Rattle.std.proofs.Common.{◌≡◌, [], refl, ◌∷◌, ◌++◌, append_assoc, ◌∙◌, sym}
use Rattle.trace_records.specs.Whole.{Ends}
use Rattle.recording.specs.Growing.{no_records}
use Rattle.recording.proofs.RecordsFacts.{has_room_for, start_alone, with_records-push}
use Rattle.recording.proofs.recording.Recording.of_records.Goals as goal

pub of_start-requires : goal.of_start-requires
of_start-requires c =
    let t = c.args.trace in
    start_alone (Ends t.start) c.requires.0 t.start t.records c.requires.1

-- there is room for the next record
pub with_record-requires : goal.with_record-requires
with_record-requires c =
    let here : c.loop-next.yielded ++ c.in-Some.next ∷ c.next.new.self.rest.items ≡ c.args.trace.records = rw (← c.in-Some.ensures.steps.0) c.loop-next.invariant.left in
    rw c.loop-next.invariant.so_far (has_room_for c.args.trace c.requires c.loop-next.yielded c.in-Some.next c.next.new.self.rest.items (sym here))

pub loop-next-preserved : goal.loop-next-preserved
loop-next-preserved c = record {
  so_far = c.in_ok-made-2.ensures ∙ rw (c.loop-next.invariant.so_far, with_records-push no_records c.loop-next.yielded c.in-Some.next) refl;
  left = append_assoc c.loop-next.yielded (c.in-Some.next ∷ []) c.next.new.self.rest.items ∙ rw (← c.in-Some.ensures.steps.0) c.loop-next.invariant.left;
}
