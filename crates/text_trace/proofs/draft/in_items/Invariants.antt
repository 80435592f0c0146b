use Rattle.std.proofs.Common.{◌≡◌, ℕ, List, ◌++◌, map, drop}
use Rattle.trace_format.specs.Spelling.{item_bytes}
use Rattle.text_trace.specs.Found.{found_in}
use Rattle.text_trace.proofs.draft.in_items.Given as goal

abbrev pub invariant-loop-item : goal.invariant-loop-item
invariant-loop-item l = record {
  passed : (more : List (List ℕ))
      → found_in l.search (map item_bytes (drop l.item-index l.items) ++ more) ≡ found_in l.fn.search (map item_bytes l.items ++ more);
}
