use Rattle.std.proofs.Common.{◌≡◌, ◌++◌}
use Rattle.recording.specs.Growing.{no_records, recorded, with_records}
use Rattle.recording.proofs.recording.Recording.of_records.Given as goal

-- what the records so far give, and which are left
abbrev pub invariant-loop-next : goal.invariant-loop-next
invariant-loop-next l = record {
  so_far : l.made ≡ recorded l.fn.trace.start (with_records no_records l.yielded);
  left : l.yielded ++ l.next-iterator.rest.items ≡ l.fn.trace.records;
}
