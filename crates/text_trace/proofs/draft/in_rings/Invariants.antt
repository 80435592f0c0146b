use Rattle.std.proofs.Common.{◌≡◌, ℕ, List, ◌++◌, drop}
use Rattle.std.specs.List.{flat_map}
use Rattle.text_trace.specs.Made.{ring_lines}
use Rattle.text_trace.specs.Found.{found_in}
use Rattle.text_trace.proofs.draft.in_rings.Given as goal

abbrev pub invariant-loop-ring : goal.invariant-loop-ring
invariant-loop-ring l = record {
  passed : (more : List (List ℕ))
      → found_in l.search (flat_map ring_lines (drop l.ring-index l.rings) ++ more) ≡ found_in l.fn.search (flat_map ring_lines l.rings ++ more);
}
