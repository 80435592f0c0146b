-- Parts of lists of bytes that transfers move.
use Rattle.std.proofs.Common.{◌≡◌, ℕ, ◌+◌, ◌-◌, ◌≤◌, List, length, take, drop, refl, sym, ◌∙◌, arith, inl, inr, take_all}
use Rattle.std.specs.Prelude.{min}
use Rattle.std.proofs.lemmas.List.{length-take, length-drop}
use Rattle.std.proofs.lemmas.Bool.{cases_lt}
use Rattle.extent_bytes.specs.Bytes.{range_of}

-- The first bytes of a list, as many as it has.
pub take-min : (bytes : List ℕ) (n : ℕ) → take (min (length bytes) n) bytes ≡ take n bytes
take-min bytes n = elim (cases_lt n (length bytes)) [
  | inl shorter ↦ let e : min (length bytes) n ≡ n = omega arith in rw e refl
  | inr longer ↦ let e : min (length bytes) n ≡ length bytes = omega arith in rw e (take_all (length bytes) bytes (omega arith) ∙ sym (take_all n bytes longer))
]

-- The bytes from an offset up to the end of n more, or of the list.
pub range_from : (bytes : List ℕ) (at n end : ℕ) → end ≡ min (length bytes) (at + n) → range_of bytes at end ≡ take n (drop at bytes)
unfolding range_of
range_from bytes at n end e =
    let count : end - at ≡ min (length (drop at bytes)) n = omega (arith, length-drop at bytes) in
    rw count (take-min (drop at bytes) n)

-- How many bytes there are from an offset on, of so many.
pub length-taken : (bytes : List ℕ) (at n : ℕ) → length (take n (drop at bytes)) ≤ n
length-taken bytes at n = omega (arith, length-take n (drop at bytes))
