-- Each byte after a range was put in from another list.
use Rattle.std.specs.Prelude.{◌≡◌, ℕ, ◌<◌, ◌≤◌, List, length, slice_index_or, ◌⊎◌}
use native.Mathlib.Omega.{arith}
use Rattle.std.proofs.lemmas.List.{length-take, length-drop}
use Rattle.extent_bytes.specs.Bytes.{range_of}
use Rattle.extent_bytes.proofs.Lengths.{length-overwritten}
use Rattle.extent_bytes.proofs.Lists.{get_or-part}
use Rattle.world_parts.specs.Putting.{pasted}
use Rattle.world_parts.proofs.ByteWords.{byte-overwritten}

pub length-pasted : (old new : List ℕ) (low high : ℕ) → length (pasted old new low high) ≡ length old
unfolding range_of
length-pasted old new low high = grind (arith, length-overwritten, length-take, length-drop)

-- Where an offset lies beside a range, or past the end of one of the lists.
abbrev pub Past : List ℕ → List ℕ → ℕ → ℕ → ℕ → Type 0
Past old new low high p = (p < low) ⊎ ((high ≤ p) ⊎ ((length old ≤ p) ⊎ (length new ≤ p)))

pub byte-pasted : (old new : List ℕ) (low high p : ℕ)
    → ((slice_index_or (pasted old new low high) p 0 ≡ slice_index_or new p 0) × (low ≤ p) × (p < high) × (p < length new)) ⊎ ((slice_index_or (pasted old new low high) p 0 ≡ slice_index_or old p 0) × Past old new low high p)
unfolding range_of
byte-pasted old new low high p = grind (arith, byte-overwritten, length-take, length-drop, get_or-part)
