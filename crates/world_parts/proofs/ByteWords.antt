-- Each byte of a file after a change.
use Rattle.std.specs.Prelude.{◌≡◌, ℕ, cond, leb, ◌+◌, ◌-◌, ◌<◌, ◌≤◌, List, [], length, replicate, slice_index_or, Option, Some, unwrap_or}
use Rattle.std.specs.Option.{option_map}
use Rattle.std.specs.List.{slice_get}
use native.Mathlib.Omega.{arith}
use Rattle.std.proofs.lemmas.Grind.{common_steps}
use Rattle.std.proofs.lemmas.List.{get_or-replicate, get_or_past, length-replicate}
use Rattle.std.proofs.lemmas.Option.{gets}
use Rattle.extent_bytes.specs.Bytes.{overwritten, resized, zeroed, range_of}
use Rattle.extent_bytes.proofs.Lengths.{length-resized}
use Rattle.extent_bytes.proofs.Lists.{get_or-overwritten_below, get_or-overwritten_inside, get_or-overwritten_above, get_or-part}
use Rattle.world_parts.specs.Items.{within}

zeros-byte : (n p : ℕ) → ◌≡◌ {A = ℕ} (slice_index_or (replicate n 0) p 0) 0
zeros-byte n p = grind (arith, get_or-replicate, get_or_past, length-replicate)

pub byte-resized : (old : List ℕ) (at p : ℕ) → p < at → slice_index_or (resized old at) p 0 ≡ slice_index_or old p 0
unfolding resized
byte-resized old at p h = grind (arith, common_steps, zeros-byte)

pub past_end : (xs : List ℕ) (p : ℕ) → length xs ≤ p → slice_index_or xs p 0 ≡ 0
past_end xs p h = get_or_past xs p 0 h

-- Each byte of a file that was cut or extended.
pub each-resized : (bs : List ℕ) (n p : ℕ) → slice_index_or (resized bs n) p 0 ≡ cond (leb n p) 0 (slice_index_or bs p 0)
each-resized bs n p = grind (arith, length-resized, byte-resized, past_end)

-- Each byte after bytes were put at an offset.
pub byte-overwritten : (old new : List ℕ) (at p : ℕ) → slice_index_or (overwritten old at new) p 0 ≡ cond (within at (at + length new) p) (slice_index_or new (p - at) 0) (slice_index_or old p 0)
byte-overwritten old new at p = grind (arith, get_or-overwritten_below, get_or-overwritten_inside, get_or-overwritten_above)

-- Each byte after a range was made zero.
pub byte-zeroed : (old : List ℕ) (low high p : ℕ) → slice_index_or (zeroed old low high) p 0 ≡ cond (within low high p) 0 (slice_index_or old p 0)
byte-zeroed old low high p = grind (arith, byte-overwritten, length-replicate, zeros-byte, past_end)

-- Lists of one length that have the same byte at an offset, or none there.
pub get_alike : (xs ys : List ℕ) (p : ℕ) → length xs ≡ length ys → slice_index_or xs p 0 ≡ slice_index_or ys p 0 → slice_get xs p ≡ slice_get ys p
get_alike xs ys p l e = grind (arith, gets)

-- A byte of a range.
pub byte-range : (xs : List ℕ) (low high p : ℕ) → low ≤ p → p < high → slice_index_or (range_of xs low high) (p - low) 0 ≡ slice_index_or xs p 0
unfolding range_of
byte-range xs low high p a b = get_or-part xs low high (p - low) p (omega arith) (omega arith)

-- How long bytes are that may be there.
pub length-there : (o : Option (List ℕ)) → unwrap_or (option_map length o) 0 ≡ length (unwrap_or o [])
length-there o = grind arith

pub size-some : (o : Option (List ℕ)) (size : ℕ) → Some size ≡ option_map length o → length (unwrap_or o []) ≡ size
size-some o size e = grind arith
