use Rattle.std.proofs.Common.{◌≡◌, ℕ, List, ◌++◌, map, drop}
use Rattle.trace_format.specs.Spelling.{entry_text}
use Rattle.text_trace.specs.Found.{found_in}
use Rattle.text_trace.proofs.draft.in_entries.Given as goal

abbrev pub invariant-loop-number : goal.invariant-loop-number
invariant-loop-number l = record {
  passed : (more : List (List ℕ))
      → found_in l.search (map entry_text (drop l.number l.entries) ++ more) ≡ found_in l.fn.search (map entry_text l.entries ++ more);
}
