use Rattle.std.proofs.Common.{◌≡◌, ◌++◌, take}
use Rattle.std.specs.Prelude.{map}
use Rattle.trace_text.specs.Below.{brief}
use Rattle.records_text.specs.Below.{kept_lines}
use Rattle.records_text.specs.Shown.{submitted_words}
use Rattle.records_text.proofs.below.add_entries.Given as goal

abbrev pub invariant-loop-entry : goal.invariant-loop-entry
invariant-loop-entry l = kept_lines l.places.items ≡ kept_lines l.initial.places.items ++ map (submitted_words brief) (take l.entry-index l.entries)
