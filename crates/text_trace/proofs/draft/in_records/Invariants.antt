use Rattle.std.proofs.Common.{◌≡◌, ℕ, List, ◌++◌, drop}
use Rattle.std.specs.List.{flat_map}
use Rattle.text_trace.specs.Made.{record_lines}
use Rattle.text_trace.specs.Found.{found_in}
use Rattle.text_trace.proofs.draft.in_records.Given as goal

abbrev pub invariant-loop-made : goal.invariant-loop-made
invariant-loop-made l = record {
  passed : (more : List (List ℕ))
      → found_in l.search (flat_map record_lines (drop l.made-index l.records) ++ more) ≡ found_in l.fn.search (flat_map record_lines l.records ++ more);
}
