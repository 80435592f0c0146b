-- Steps that fill the same slots, each in a record of its own.
use Rattle.std.proofs.Common.{◌≡◌, ℕ, ◌<◌, List, [], length, map, Some, ap, ◌∙◌, arith}
use Rattle.std.specs.List.{slice_get, range_with_len}
use Rattle.std.proofs.lemmas.List.FromFn.{length-map-range_with_len, get_or-map-range_with_len}
use Rattle.std.proofs.lemmas.Option.{slice_get-get_or}
use Rattle.trace_records.specs.declared.record.FullSlot.{FullSlot}
use Rattle.recording.specs.Forgotten.{filling, blanks}

pub length-blanks : (count : ℕ) → length (blanks count) ≡ count
length-blanks count = length-map-range_with_len (filling []) 0 count

-- the step at a place
pub filling_at : (slots : List FullSlot) (count k : ℕ) → k < count → slice_get (map (filling slots) (range_with_len 0 count)) k ≡ Some (filling slots k)
filling_at slots count k lt =
    let within : k < length (map (filling slots) (range_with_len 0 count)) = omega (arith, length-map-range_with_len (filling slots) 0 count) in
    slice_get-get_or _ k (filling slots k) within ∙ ap Some (get_or-map-range_with_len (filling slots) 0 count k k (filling slots k) lt (omega arith))
