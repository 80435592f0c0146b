-- From the mask of a load to the bytes that it tells of.
use Rattle.std.proofs.Common.{◌≡◌, ℕ, zero, suc, ◌+◌, ◌%◌, ◌^◌, ◌<◌, ◌≤◌, eqb, cond, Bool, true, false, not, ◌||◌, List, [], ◌∷◌, ◌++◌, map, length, take, drop, get_or, Fits, w8, refl, subst, sym, ap, ◌∙◌, append_assoc, arith}
use Rattle.std.proofs.lemmas.Bool.{agree_below, agree_below_at, false≢true, not-true}
use Rattle.std.proofs.lemmas.Simd.{map-map, mask_l-mod, first_set_mask_l, ones-mask_l, get_or-chunk, put_chunk_is}
use Rattle.std.proofs.lemmas.List.{length-map, length-drop, length-take-le, take-append-le}
use Rattle.std.proofs.lemmas.List.Sums.{prefix_len_passes, prefix_len-le-length, sum_by-cons}
use Rattle.std.proofs.Math.Seq.{take-append-add}
use Rattle.std.specs.List.{count_by, flat_map, prefix_len}
use Rattle.std.specs.Int.RustNames.{count_ones}
use Rattle.text_forms.specs.Strings.{escape_letter, hex_escape, is_printable, quoted_byte}
use borrow.Rule.Slice.PartMut.{mid_of, post_of, put_mid}
use lib.Count.{count_trailing_zeros}
use lib.Lanes.{chunk, mask_l, put_chunk, top}

-- the mask of lanes that were computed one by one
mask_is : (f : ℕ → ℕ) (v z : List ℕ) (n : ℕ) → n ≤ 64 → length v ≡ n → z ≡ map f v → mask_l (map (top 7) z) % 2 ^ 64 ≡ mask_l (map (λ x. top 7 (f x)) v)
mask_is f v z n small long lanes =
    let stops = λ (x : ℕ). top 7 (f x) in
    ap (λ l. mask_l l % 2 ^ 64) (ap (map (top 7)) lanes ∙ map-map (top 7) f v) ∙ mask_l-mod (map stops v) 64 (omega (arith, length-map v stops, long, small))

-- bytes of a load fit
pub chunk_fits : (xs : List ℕ) (i n : ℕ) → ((k : ℕ) → Fits w8 (get_or xs k 0)) → (k : ℕ) → k < n → get_or (chunk i n xs) k 0 < 256
chunk_fits xs i n fits k lt = subst (λ x. x < 256) (sym (get_or-chunk i n xs k 0 lt)) ((fits (i + k)).fits)

same_count : (p q : ℕ → Bool) (xs : List ℕ) → ((k : ℕ) → k < length xs → p (get_or xs k 0) ≡ q (get_or xs k 0)) → count_by p xs ≡ count_by q xs
same_count p q [] h = refl
same_count p q (x ∷ xs) h =
    sum_by-cons (λ (y : ℕ). cond (p y) 1 0) x xs ∙ ap (λ (b : Bool). cond b 1 0 + count_by p xs) (h 0 (omega arith))
    ∙ ap (λ (n : ℕ). cond (q x) 1 0 + n) (same_count p q xs (λ k lt. h (suc k) (omega (arith, lt))))
    ∙ sym (sum_by-cons (λ (y : ℕ). cond (q y) 1 0) x xs)

-- how many bytes of a load pass a test
pub ones_are : (q : ℕ → Bool) (v z : List ℕ) (n : ℕ) → n ≤ 64 → length v ≡ n → ((k : ℕ) → k < n → get_or v k 0 < 256)
    → (f : ℕ → ℕ) → z ≡ map f v → agree_below (λ x. top 7 (f x)) q 256 ≡ true → count_ones (mask_l (map (top 7) z) % 2 ^ 64) ≡ count_by q v
ones_are q v z n small long fits f lanes all =
    ap count_ones (mask_is f v z n small long lanes) ∙ ones-mask_l (λ x. top 7 (f x)) v
    ∙ same_count (λ x. top 7 (f x)) q v (λ k lt. agree_below_at (λ x. top 7 (f x)) q 256 (get_or v k 0) all (fits k (omega (arith, lt, long))))

-- a byte that stands for itself in a string
abbrev pub stands : ℕ → Bool
stands b = cond (eqb (escape_letter b) 0) (is_printable b) false

stands_is : (some : Bool) (shown : Bool) (b letter : ℕ) → cond some shown false ≡ true
    → cond some (cond shown (b ∷ []) (hex_escape b)) (92 ∷ letter ∷ []) ≡ b ∷ []
stands_is true true b letter h = refl
stands_is true false b letter h = absurd (false≢true h)
stands_is false shown b letter h = absurd (false≢true h)

themselves : (xs : List ℕ) (n : ℕ) → n ≤ length xs → ((k : ℕ) → k < n → stands (get_or xs k 0) ≡ true) → flat_map quoted_byte (take n xs) ≡ take n xs
themselves xs zero le h = refl
themselves [] (suc n) le h = absurd (omega (arith, le))
themselves (x ∷ xs) (suc n) le h =
    ap (λ (l : List ℕ). l ++ flat_map quoted_byte (take n xs)) (stands_is (eqb (escape_letter x) 0) (is_printable x) x (escape_letter x) (h 0 (omega arith)))
    ∙ ap (λ (l : List ℕ). x ∷ l) (themselves xs n (omega (arith, le)) (λ k lt. h (suc k) (omega (arith, lt))))

-- a load, and the place of the first of its lanes that stops
module _ (v z : List ℕ) (n r : ℕ) (small : n ≤ 64) (long : length v ≡ n)
    (found : r ≡ cond (eqb (mask_l (map (top 7) z) % 2 ^ 64) 0) n (count_trailing_zeros 64 (mask_l (map (top 7) z) % 2 ^ 64)))
    (f : ℕ → ℕ) (lanes : z ≡ map f v) where
  counted : r ≡ prefix_len (λ x. not (top 7 (f x))) v
  counted =
      found ∙ ap (λ m. cond (eqb m 0) n (count_trailing_zeros 64 m)) (mask_is f v z n small long lanes) ∙ first_set_mask_l (λ x. top 7 (f x)) v n long small

  pub within : r ≤ n
  within = omega (arith, counted, long, prefix_len-le-length (λ x. not (top 7 (f x))) v)

  -- the bytes before it
  pub quoted_front : ((k : ℕ) → k < n → get_or v k 0 < 256) → agree_below (λ x. top 7 (f x) || stands x) (λ _. true) 256 ≡ true
      → (m : ℕ) → m ≤ r → flat_map quoted_byte (take m v) ≡ take m v
  quoted_front fits all m le =
      themselves v m (omega (arith, le, within, long))
      (λ k lt.
      let goes = not-true (top 7 (f (get_or v k 0))) (prefix_len_passes (λ x. not (top 7 (f x))) v k 0 (omega (arith, lt, le, counted))) in
      ap (λ b. b || stands (get_or v k 0)) (sym goes)
      ∙ agree_below_at (λ x. top 7 (f x) || stands x) (λ _. true) 256 (get_or v k 0) all (fits k (omega (arith, lt, le, within))))

-- lanes that were stored behind what is used of some room
pub stored : (room ch : List ℕ) (used k n : ℕ) → used + k ≡ length room → length ch ≡ 16 → 16 ≤ k → n ≤ 16
    → take (used + n) (put_mid used k room (put_chunk 0 (mid_of used k room) ch)) ≡ take used room ++ take n ch
stored room ch used k n fits long enough few =
    let mid = mid_of used k room in
    let front : length (take used room) ≡ used = length-take-le used room (omega (arith, fits)) in
    let size : length mid ≡ k = length-take-le k (drop used room) (omega (arith, fits, length-drop used room)) in
    let put : put_chunk 0 mid ch ≡ ch ++ drop (length ch) mid = put_chunk_is 0 mid ch (omega (arith, long, enough, size)) in
    ap (λ (m : ℕ). take (m + n) (put_mid used k room (put_chunk 0 mid ch))) (sym front)
    ∙ take-append-add (take used room) (put_chunk 0 mid ch ++ post_of used k room) n
    ∙ ap (λ (l : List ℕ). take used room ++ take n (l ++ post_of used k room)) put
    ∙ ap (λ (l : List ℕ). take used room ++ l)
    (ap (take n) (append_assoc ch (drop (length ch) mid) (post_of used k room)) ∙ take-append-le n ch (drop (length ch) mid ++ post_of used k room) (omega (arith, long, few)))
