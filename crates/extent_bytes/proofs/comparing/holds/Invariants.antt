use Rattle.std.proofs.Common.{◌≡◌, ℕ, ◌+◌, ◌-◌, ◌<◌, ◌≤◌, length, get_or}
use Rattle.extent_bytes.specs.Kept.{byte_held}
use Rattle.extent_bytes.proofs.comparing.holds.Given as goal

-- the first bytes are those of the map
abbrev pub invariant-loop-done : goal.invariant-loop-done
invariant-loop-done l = record {
  within : l.done ≤ length l.bytes;
  held : (i : ℕ) → i < l.done → byte_held l.pages (l.at + i) ≡ get_or l.bytes i 0;
}

abbrev pub decreases-loop-done : goal.decreases-loop-done
decreases-loop-done l = length l.bytes - l.done
