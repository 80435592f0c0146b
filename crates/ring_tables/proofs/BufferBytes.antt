-- Changes of the bytes of a buffer.
use Rattle.std.proofs.Common.{◌≡◌, ℕ, ◌+◌, ◌-◌, ◌≤◌, List, length, take, replicate, get_or, min, cond, ltb, leb, ◌&&◌, arith}
use Rattle.std.proofs.lemmas.Grind.{same_number_lists}
use Rattle.std.proofs.lemmas.List.{get_or-take, get_or-replicate, get_or_past, length-take, length-replicate}
use Rattle.extent_bytes.specs.Bytes.{overlaid, overwritten, zeroed}
use Rattle.extent_bytes.proofs.Lengths.{length-overwritten, length-overlaid, length-zeroed}
use Rattle.extent_bytes.proofs.Lists.{get_or-overwritten_below, get_or-overwritten_inside, get_or-overwritten_above}

-- each byte after others were put at an offset
byte_put : (old : List ℕ) (at : ℕ) (new : List ℕ) (i : ℕ)
    → get_or (overwritten old at new) i 0 ≡ cond (leb at i && ltb i (at + length new)) (get_or new (i - at) 0) (get_or old i 0)
byte_put old at new i = grind (arith, get_or-overwritten_below, get_or-overwritten_inside, get_or-overwritten_above)

-- bytes that lie past a buffer change nothing
pub overlaid-past : (old : List ℕ) (at : ℕ) (new : List ℕ) → length old ≤ at → overlaid old at new ≡ old
overlaid-past old at new h = same_number_lists _ _ (length-overlaid old at new) (λ i l. grind (arith, length-overlaid old at new, get_or-take, byte_put))

-- those that fit into it alone are put over it
pub overlaid-clipped : (old : List ℕ) (at : ℕ) (new : List ℕ) (n : ℕ) → at ≤ length old → n ≡ min (length new) (length old - at) → overwritten old at (take n new) ≡ overlaid old at new
overlaid-clipped old at new n h e =
    same_number_lists _ _ (grind (arith, length-overwritten, length-overlaid, length-take))
    (λ i l. grind (arith, length-overwritten, length-take, get_or-take, byte_put))

-- zeros in the part of a range where a buffer has bytes are zeros put over it
pub zeroed-overlaid : (old : List ℕ) (low high first last : ℕ) → last ≡ min high (length old) → first ≡ min low last → zeroed old first last ≡ overlaid old low (replicate (high - low) 0)
zeroed-overlaid old low high first last l f =
    same_number_lists _ _ (grind (arith, length-zeroed, length-overlaid))
    (λ i k. grind (arith, length-zeroed, length-replicate, get_or-take, get_or-replicate, get_or_past, byte_put))
