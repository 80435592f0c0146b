-- How long lists of bytes are after each change.
use Rattle.std.proofs.Common.{◌≡◌, ℕ, ◌+◌, ◌-◌, ◌≤◌, List, length, max, arith}
use Rattle.std.proofs.lemmas.List.{length-append, length-take, length-drop, length-replicate}
use Rattle.extent_bytes.specs.Bytes.{overwritten, overlaid, zeroed, resized, range_of}

pub length-overwritten : (xs : List ℕ) (at : ℕ) (bs : List ℕ) → length (overwritten xs at bs) ≡ max (length xs) (at + length bs)
unfolding overwritten
length-overwritten xs at bs = simp (length-append, length-take, length-replicate, length-drop) (omega arith)

pub length-overlaid : (xs : List ℕ) (at : ℕ) (bs : List ℕ) → length (overlaid xs at bs) ≡ length xs
length-overlaid xs at bs = simp (length-take, length-overwritten) (omega arith)

pub length-zeroed : (xs : List ℕ) (lo hi : ℕ) → length (zeroed xs lo hi) ≡ length xs
length-zeroed xs lo hi = simp (length-overwritten, length-replicate) (omega arith)

pub length-resized : (xs : List ℕ) (n : ℕ) → length (resized xs n) ≡ n
unfolding resized
length-resized xs n = simp (length-append, length-take, length-replicate) (omega arith)

pub length-range_of : (xs : List ℕ) (lo hi : ℕ) → hi ≤ length xs → length (range_of xs lo hi) ≡ hi - lo
unfolding range_of
length-range_of xs lo hi h = simp (length-take, length-drop) (omega arith)
