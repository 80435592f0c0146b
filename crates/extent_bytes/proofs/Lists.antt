-- Bytes written over a list, byte by byte.
use Rattle.std.proofs.Common.{◌≡◌, ℕ, ◌+◌, ◌-◌, ◌<◌, ◌≤◌, List, ◌++◌, length, take, drop, replicate, get_or, arith, sym, ◌∙◌, ap, refl, min, ⊎_elim, []}
use Rattle.std.proofs.lemmas.List.{length-append, length-take, length-drop, length-replicate, get_or-append_right, get_or_append_left, get_or-take, get_or-drop, get_or-replicate, get_or_past, drop-drop, append_assoc}
use Rattle.std.proofs.lemmas.Grind.{same_number_lists}
use Rattle.std.proofs.lemmas.Bool.{cases_lt}
use borrow.Rule.Slice.PartMut.{put_mid}
use Rattle.extent_bytes.specs.Bytes.{overwritten, zeroed, range_of, resized}
use Rattle.extent_bytes.proofs.Lengths.{length-overwritten}
use Rattle.std.proofs.Math.Seq.{take-nil, drop-nil}

-- a write to a part of a slice
pub put_mid-overwritten : (xs bs ys : List ℕ) (at k : ℕ) → at + k ≤ length xs → k ≡ length bs → ys ≡ bs → put_mid at k xs ys ≡ overwritten xs at bs
unfolding overwritten
put_mid-overwritten xs bs ys at k h e f =
    let z : at - length xs ≡ 0 = omega arith in
    rw (z, f, e, drop-drop) refl

-- zeros over a range within the list
pub zeroed_within : (xs : List ℕ) (lo hi : ℕ) → lo ≤ hi → hi ≤ length xs → zeroed xs lo hi ≡ overwritten xs lo (replicate (hi - lo) 0)
zeroed_within xs lo hi h l =
    let a : min lo (length xs) ≡ lo = omega arith in
    let b : min hi (length xs) ≡ hi = omega arith in
    ap (λ n. overwritten xs n (replicate (min hi (length xs) - lo) 0)) a ∙ ap (λ n. overwritten xs lo (replicate (n - lo) 0)) b

pub put_mid-replicate : (xs ys : List ℕ) (lo hi k : ℕ) → lo ≤ hi → hi ≤ length xs → k ≡ hi - lo → ys ≡ replicate k 0 → put_mid lo k xs ys ≡ overwritten xs lo (replicate (hi - lo) 0)
put_mid-replicate xs ys lo hi k l h e f =
    put_mid-overwritten xs (replicate (hi - lo) 0) ys lo k (omega arith) (e ∙ sym (length-replicate (hi - lo) 0)) (f ∙ ap (λ n. replicate n 0) e)

-- a write within the list keeps its length
pub length-overwritten_within : (xs : List ℕ) (at : ℕ) (bs : List ℕ) → at + length bs ≤ length xs → length (overwritten xs at bs) ≡ length xs
length-overwritten_within xs at bs h = length-overwritten xs at bs ∙ omega arith

-- what lies before the write
pub get_or-overwritten_below : (xs : List ℕ) (at : ℕ) (bs : List ℕ) (i : ℕ) → i < at → get_or (overwritten xs at bs) i 0 ≡ get_or xs i 0
unfolding overwritten
get_or-overwritten_below xs at bs i h =
    ⊎_elim
    (λ (k : i < length xs).
    let l : i < length (take at xs) = rw length-take (omega arith) in
    get_or_append_left (take at xs) _ 0 i l ∙ get_or-take at xs i 0 h)
    (λ (k : length xs ≤ i).
    let e : length (take at xs) ≡ length xs = rw length-take (omega arith) in
    let g : i - length xs < at - length xs = omega arith in
    get_or-append_right (take at xs) _ (length xs) i 0 e k
    ∙ get_or_append_left (replicate (at - length xs) 0) _ 0 (i - length xs) (rw length-replicate g)
    ∙ get_or-replicate (at - length xs) (i - length xs) 0 0 g
    ∙ sym (get_or_past xs i 0 k))
    (cases_lt i (length xs))

-- what was written
pub get_or-overwritten_inside : (xs : List ℕ) (at : ℕ) (bs : List ℕ) (i : ℕ) → at ≤ i → i < at + length bs → get_or (overwritten xs at bs) i 0 ≡ get_or bs (i - at) 0
unfolding overwritten
get_or-overwritten_inside xs at bs i h k =
    let e : length (take at xs ++ replicate (at - length xs) 0) ≡ at = simp (length-append, length-take, length-replicate) (omega arith) in
    let g : i - at < length bs = omega arith in
    ap (λ l. get_or l i 0) (sym (append_assoc (take at xs) (replicate (at - length xs) 0) (bs ++ drop (at + length bs) xs)))
    ∙ get_or-append_right (take at xs ++ replicate (at - length xs) 0) (bs ++ drop (at + length bs) xs) at i 0 e h
    ∙ get_or_append_left bs _ 0 (i - at) g

-- what lies past the write
pub get_or-overwritten_above : (xs : List ℕ) (at : ℕ) (bs : List ℕ) (i : ℕ) → at + length bs ≤ i → get_or (overwritten xs at bs) i 0 ≡ get_or xs i 0
unfolding overwritten
get_or-overwritten_above xs at bs i h =
    let e : length (take at xs ++ replicate (at - length xs) 0) ≡ at = simp (length-append, length-take, length-replicate) (omega arith) in
    ap (λ l. get_or l i 0) (sym (append_assoc (take at xs) (replicate (at - length xs) 0) (bs ++ drop (at + length bs) xs)))
    ∙ get_or-append_right (take at xs ++ replicate (at - length xs) 0) (bs ++ drop (at + length bs) xs) at i 0 e (omega arith)
    ∙ get_or-append_right bs (drop (at + length bs) xs) (length bs) (i - at) 0 refl (omega arith)
    ∙ get_or-drop (at + length bs) xs (i - at - length bs) 0
    ∙ ap (λ n. get_or xs n 0) (omega arith)

-- a part of a list
pub length-part : (xs : List ℕ) (lo hi : ℕ) → lo ≤ hi → hi ≤ length xs → length (take (hi - lo) (drop lo xs)) ≡ hi - lo
length-part xs lo hi h l = simp (length-take, length-drop) (omega arith)

pub get_or-part : (xs : List ℕ) (lo hi i j : ℕ) → i < hi - lo → lo + i ≡ j → get_or (take (hi - lo) (drop lo xs)) i 0 ≡ get_or xs j 0
get_or-part xs lo hi i j h e = get_or-take (hi - lo) (drop lo xs) i 0 h ∙ get_or-drop lo xs i 0 ∙ ap (λ k. get_or xs k 0) e

-- a write of nothing within the list
pub overwritten_none : (xs : List ℕ) (at : ℕ) (bs : List ℕ) → length bs ≡ 0 → at ≤ length xs → overwritten xs at bs ≡ xs
overwritten_none xs at bs e h =
    same_number_lists (overwritten xs at bs) xs (length-overwritten_within xs at bs (omega arith)) (λ i l. grind (arith, get_or-overwritten_below, get_or-overwritten_above))

-- a write over the whole list
pub overwritten_all : (xs : List ℕ) (at : ℕ) (bs : List ℕ) → at ≡ 0 → length bs ≡ length xs → overwritten xs at bs ≡ bs
overwritten_all xs at bs z e =
    let n = length-overwritten_within xs at bs (omega arith) in
    same_number_lists (overwritten xs at bs) bs (n ∙ sym e) (λ i l. grind (arith, n, get_or-overwritten_inside))

-- a range of no bytes
pub range_of-none : (lo hi : ℕ) → range_of [] lo hi ≡ []
unfolding range_of
range_of-none lo hi = ap (take (hi - lo)) (drop-nil lo) ∙ take-nil (hi - lo)

-- such a range, put over others, changes nothing
pub none_put : (lo hi : ℕ) → lo ≤ hi → hi ≤ 0 → (xs : List ℕ) → overwritten xs lo (range_of [] lo hi) ≡ xs
none_put lo hi h l xs = overwritten_none xs lo (range_of [] lo hi) (ap length (range_of-none lo hi)) (omega arith)

-- what is made longer from no bytes is zeros
pub resized-none : (n : ℕ) → resized [] n ≡ replicate n 0
unfolding resized
resized-none n = ap (λ (xs : List ℕ). xs ++ replicate {A = ℕ} (n - 0) 0) (take-nil {A = ℕ} n) ∙ ap (λ m. replicate {A = ℕ} m 0) (omega arith)
