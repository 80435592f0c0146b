-- The bytes that are held in a buffer, when more is read behind them.
use Rattle.std.proofs.Common.{◌≡◌, ℕ, ◌+◌, ◌-◌, ◌≤◌, ◌++◌, ◌∷◌, [], zero, suc, refl, not, nat_eq, List, Option, length, take, drop, sym, ap, ◌∙◌, arith}
use Rattle.std.proofs.Math.Dec.{eqb-suc-zero}
use Rattle.std.proofs.Math.Seq.{take-add, take-append_seam}
use Rattle.std.proofs.lemmas.List.{drop-take, drop-drop, length-take, length-drop, take-take}
use Rattle.std.specs.Io.{StartsWith}
use Rattle.std.specs.Io.KnownBytes.{IsAtEnd}
use Rattle.trace_stream.specs.Held.{Came}

-- what was there, and behind it what was read
pub range_grown : (old new : List ℕ) (used end count : ℕ) → used ≤ end → take end new ≡ take end old
    → take (end + count - used) (drop used new) ≡ take (end - used) (drop used old) ++ take count (drop end new)
range_grown old new used end count le same =
    let parts : end + count - used ≡ (end - used) + count = omega (arith, le) in
    let whole : used + (end - used) ≡ end = omega (arith, le) in
    let front : (xs : List ℕ) → drop used (take end xs) ≡ take (end - used) (drop used xs) = λ xs. ap (λ n. drop used (take n xs)) (sym whole) ∙ drop-take used (end - used) xs in
    ap (λ n. take n (drop used new)) parts
    ∙ take-add (end - used) count (drop used new)
    ∙ ap (λ (xs : List ℕ). xs ++ take count (drop (end - used) (drop used new))) (sym (front new) ∙ ap (drop used) same ∙ front old)
    ∙ ap (λ (xs : List ℕ). take (end - used) (drop used old) ++ take count xs) (drop-drop (end - used) used new ∙ ap (λ n. drop n new) whole)

-- so many bytes came
pub came : (count : ℕ) (more : List ℕ) (left : Option (List ℕ)) → length more ≡ count → (count ≡ 0 → IsAtEnd left) → Came (not (nat_eq count 0)) more left
came zero [] left long ends = (refl, ends refl)
came zero (x ∷ xs) left long ends = absurd (omega (arith, long))
came (suc n) more left long ends = rw (eqb-suc-zero n) (omega (arith, long))

-- how many bytes a part of a buffer has
pub part_long : (xs : List ℕ) (from count : ℕ) → from + count ≤ length xs → length (take count (drop from xs)) ≡ count
part_long xs from count le = omega (arith, le, length-take count (drop from xs), length-drop from xs)

-- bytes that were put over the first ones of a buffer are its first ones
pub starts_over : (bytes rest : List ℕ) (long : ℕ) → length bytes ≤ long → StartsWith (take long (bytes ++ rest)) bytes
starts_over bytes rest long le = take-take (length bytes) long (bytes ++ rest) le ∙ take-append_seam bytes rest
