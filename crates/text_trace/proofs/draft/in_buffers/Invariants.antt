use Rattle.std.proofs.Common.{◌≡◌, ℕ, List, ◌++◌, map, drop}
use Rattle.trace_format.specs.Spelling.{buffer_bytes}
use Rattle.text_trace.specs.Found.{found_in}
use Rattle.text_trace.proofs.draft.in_buffers.Given as goal

abbrev pub invariant-loop-buffer : goal.invariant-loop-buffer
invariant-loop-buffer l = record {
  passed : (more : List (List ℕ))
      → found_in l.search (map buffer_bytes (drop l.buffer-index l.buffers) ++ more) ≡ found_in l.fn.search (map buffer_bytes l.buffers ++ more);
}
