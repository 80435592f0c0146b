use Rattle.std.proofs.Common.{◌≤◌, ◌++◌, [], ◌∷◌, ℕ, List}
use Rattle.trace_records.specs.declared.record.Record as three
use Rattle.trace_records.specs.declared.start.Start as three_start
use Rattle.replay_stream.specs.Replayed.{HasRunNext}
use Rattle.report_stream.specs.Written.{IsTextTo}
use Rattle.report_stream.proofs.lines.push_lines.Given as goal

-- the text goes up to the place
abbrev pub invariant-loop-place : goal.invariant-loop-place
invariant-loop-place l = record {
  so_far : (b : three_start.Start) (front : List three.Record) (r : three.Record) (before : List ℕ) → HasRunNext b front r l.replaying → IsTextTo b (front ++ r ∷ []) l.fn.shown l.replaying.first (before ++ l.initial.text.items)
      → IsTextTo b (front ++ r ∷ []) l.fn.shown l.place (before ++ l.text.items);
  from : l.replaying.first ≤ l.place;
  within : l.place ≤ l.place-end;
}
