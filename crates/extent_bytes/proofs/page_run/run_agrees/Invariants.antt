use Rattle.std.proofs.Common.{◌≡◌, ℕ, ◌+◌, ◌/◌, ◌<◌}
use Rattle.extent_bytes.specs.Kept.{byte_held}
use Rattle.extent_bytes.specs.Pages.{byte_in}
use Rattle.extent_bytes.proofs.page_run.run_agrees.Given as goal

-- the bytes of the pages below the number are the others
abbrev pub invariant-loop-number : goal.invariant-loop-number
invariant-loop-number l = (i : ℕ) → l.start + i < l.end → (l.start + i) / 4096 < l.number → byte_held l.other (l.other_start + i) ≡ byte_in l.pages (l.start + i)
