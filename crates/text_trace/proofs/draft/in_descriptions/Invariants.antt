use Rattle.std.proofs.Common.{◌≡◌, ℕ, List, ◌++◌, map, drop}
use Rattle.trace_format.specs.Spelling.{description_bytes}
use Rattle.text_trace.specs.Found.{found_in}
use Rattle.text_trace.proofs.draft.in_descriptions.Given as goal

abbrev pub invariant-loop-description : goal.invariant-loop-description
invariant-loop-description l = record {
  passed : (more : List (List ℕ))
      → found_in l.search (map description_bytes (drop l.description-index l.descriptions) ++ more) ≡ found_in l.fn.search
      (map description_bytes l.descriptions ++ more);
}
