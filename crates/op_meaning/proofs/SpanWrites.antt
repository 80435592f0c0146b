-- Writes of a span's bytes that are accepted.
use Rattle.std.proofs.Common.{◌≡◌, ◌≢◌, ℕ, ◌+◌, ◌-◌, ◌<◌, Bool, true, false, inl, inr, min, List, [], length, take, drop, Option, Some, None, Result, Ok, refl, sym, ap, ◌∙◌, arith, length-take}
use Rattle.std.specs.Prelude.{◌==◌, ltb, unwrap_or, ok_or, if◌then◌else◌}
use Rattle.std.proofs.lemmas.Bool.{cases_lt, eqb-false, lt-ltb, ne_eqb}
use Rattle.std.proofs.lemmas.List.{take_min, take-take}
use Rattle.sqe_codec.specs.Answers.{◌>>◌, require}
use Rattle.extent_bytes.specs.Bytes.{range_of}
use Rattle.std.specs.Option.{option_map}
use Rattle.sqe_codec.specs.declared.errno.Errno.{Errno}
use Rattle.sqe_codec.specs.declared.errno.Errno.TheVariants.{EFAULT, EFBIG}
use Rattle.recording.specs.declared.recording.Recording.{Recording}
use Rattle.trace_format.specs.Sides.{most_moved}
use Rattle.entry_checks.specs.Operation.{Span, file_limit}
use Rattle.world_parts.specs.World.{World, buffer}
use Rattle.op_meaning.specs.Site.{in_ring}
use Rattle.op_meaning.specs.Meaning.{Effect, Handle, done, is_bad_offset, span_start, span_bytes, writable, write_meaning, write_effect, write_start}

-- the bytes of a buffer from an offset on, as many as a transfer of a length moves
abbrev pub bytes_from : Option (List ℕ) → ℕ → ℕ → List ℕ
bytes_from b at n = take (min n most_moved) (drop at (unwrap_or b []))

-- What a write of some bytes answers that passes its tests.
write_accepted : (s : World) (there : Option Handle) (o : ℕ) (h : Handle) (start : ℕ) (new : List ℕ) → writable there ≡ Ok h → is_bad_offset o ≡ false → start ≡ write_start s o h → (0 < length new → start < file_limit)
    → write_meaning s o there (Ok new) ≡ Ok (if length new == 0 then done [] else write_effect o h start (take (file_limit - start) new))
write_accepted s there o h start new passed good at below = rw (passed, good) (rw (sym at) (either (length new == 0) refl))
  where
    either : (b : Bool) → (length new == 0) ≡ b
        → ◌≡◌ {A = Result Effect Errno} (if b then Ok (done []) else (require (ltb start file_limit) EFBIG >> Ok (write_effect o h start (take (file_limit - start) new)))) (Ok (if b then done [] else write_effect o h start (take (file_limit - start) new)))
    either true is = refl
    either false is =
        let some : length new ≢ 0 = eqb-false (length new) 0 is in
        let less : ltb start file_limit ≡ true = lt-ltb start file_limit (below (omega arith)) in
        rw less refl

-- How many bytes are none.
none_moved : (n count limit start : ℕ) → (0 < n → start < limit) → count ≡ min n (limit - start) → (n == 0) ≡ (count == 0)
none_moved n count limit start below e = elim (cases_lt 0 n) [
  | inl some ↦ (let room : start < limit = below some in ne_eqb n 0 (λ z. absurd (omega arith)) ∙ sym (ne_eqb count 0 (λ z. absurd (omega arith))))
  | inr none ↦ (let x : n ≡ 0 = omega arith in let y : count ≡ 0 = omega arith in rw (x, y) refl)
]

-- The bytes that are moved are those of a range.
moved_range : (bs : List ℕ) (at n limit count : ℕ) → count ≡ min (length (take n (drop at bs))) limit → take limit (take n (drop at bs)) ≡ range_of bs at (at + count)
unfolding range_of
moved_range bs at n limit count e =
    let ys : List ℕ = drop at bs in
    let same : at + count - at ≡ count = omega arith in
    let both : min limit (length (take n ys)) ≡ count = omega arith in
    sym (take_min limit (take n ys)) ∙ ap (λ k. take k (take n ys)) both ∙ take-take count n ys (omega (arith, length-take n ys)) ∙ ap (λ k. take k ys) (sym same)

-- What a write of a span's bytes answers that passes its tests.
pub span_written : (t : Recording) (s : World) (r : ℕ) (there : Option Handle) (o : ℕ) (x : Span) (h : Handle) (at start count : ℕ) → writable there ≡ Ok h → Some at ≡ span_start (in_ring t r) x → is_bad_offset o ≡ false → start ≡ write_start s o h
    → (0 < length (bytes_from (buffer s r x.index) at x.length) → start < file_limit) → count ≡ min (length (bytes_from (buffer s r x.index) at x.length)) (file_limit - start)
    → write_meaning s o there (span_bytes (in_ring t r) s x) ≡ Ok (if count == 0 then done [] else write_effect o h start (range_of (unwrap_or (buffer s r x.index) []) at (at + count)))
span_written t s r there o x h at start count passed starts good begins below e =
    let new : List ℕ = bytes_from (buffer s r x.index) at x.length in
    sym (ap (λ (a : Option ℕ). write_meaning s o there (ok_or (option_map (λ (p : ℕ). bytes_from (buffer s r x.index) p x.length) a) EFAULT)) starts)
    ∙ write_accepted s there o h start new passed good begins below
    ∙ (λ i. Ok (if none_moved (length new) count file_limit start below e i then done [] else write_effect o h start (moved_range (unwrap_or (buffer s r x.index) []) at (min x.length most_moved) (file_limit - start) count e i)))

pub found_at : (o : Option ℕ) (e : Errno) (at : ℕ) → ok_or o e ≡ Ok at → Some at ≡ o
found_at (Some k) e at is = sym (cc)
found_at None e at is = absurd (cc)
