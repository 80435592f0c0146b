use Rattle.std.proofs.Common.{◌≡◌, ℕ, ◌+◌, ◌<◌, ◌≤◌, length, slice_get}
use Rattle.extent_bytes.specs.Pages.{page_of}
use Rattle.extent_bytes.proofs.page_run.stored_run.Given as goal

-- the pages up to the number are taken
abbrev pub invariant-loop-number : goal.invariant-loop-number
invariant-loop-number l = record {
  within : l.number ≤ l.to;
  count : l.from + length l.run.items ≡ l.number;
  taken : (j : ℕ) → l.from + j < l.number → slice_get l.run.items j ≡ page_of l.pages (l.from + j);
}
