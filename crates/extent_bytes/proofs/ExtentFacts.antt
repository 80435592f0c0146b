-- The list of bytes that stored pages stand for, after each kind of change.
use Rattle.std.proofs.Common.{None, ◌≡◌, ℕ, ◌+◌, ◌-◌, ◌*◌, ◌/◌, ◌%◌, ◌<◌, ◌≤◌, List, ◌++◌, [], length, take, drop, get_or, replicate, min, max, arith, sym, ◌∙◌, ap, refl, ◌↔◌}
use Rattle.std.proofs.lemmas.List.{length-append, length-take, length-replicate, get_or-replicate, get_or_append_left, get_or-append_right, get_or-take, get_or_past}
use Rattle.std.proofs.lemmas.List.FromFn.{length-map-range_with_len, get_or-map-range_with_len}
use Rattle.std.proofs.lemmas.Grind.{same_number_lists}
use Rattle.extent_bytes.specs.Bytes.{overwritten, zeroed, resized, range_of}
use Rattle.extent_bytes.specs.Pages.{page_of, PageMap, byte_at, bytes_from, bytes_of, SameBytes, SameBelow, SameRange, StoredAgree, Overlaid, WrittenAt}
use Rattle.extent_bytes.proofs.Outcomes.{some_or_none}
use Rattle.extent_bytes.proofs.Lists.{get_or-overwritten_above, get_or-overwritten_below, get_or-overwritten_inside, get_or-part, length-overwritten_within, length-part, zeroed_within}
use Rattle.extent_bytes.proofs.Lengths.{length-overwritten}
use Rattle.extent_bytes.proofs.PageFacts.{byte_at-empty, byte_at-none}

pub length-bytes_from : (f : ℕ → ℕ) (s n : ℕ) → length (bytes_from f s n) ≡ n
unfolding bytes_from
length-bytes_from f s n = length-map-range_with_len (λ p. f (s + p)) 0 n

pub get_or-bytes_from : (f : ℕ → ℕ) (s n i : ℕ) → i < n → get_or (bytes_from f s n) i 0 ≡ f (s + i)
unfolding bytes_from
get_or-bytes_from f s n i h = get_or-map-range_with_len (λ p. f (s + p)) 0 n i i 0 h (omega arith)

-- a list with the byte at each position
pub bytes_from-is : (f : ℕ → ℕ) (s n : ℕ) (xs : List ℕ) → length xs ≡ n → ((i : ℕ) → i < n → f (s + i) ≡ get_or xs i 0) → bytes_from f s n ≡ xs
bytes_from-is f s n xs e h =
    let l = length-bytes_from f s n in
    same_number_lists (bytes_from f s n) xs (l ∙ sym e) (λ k b. let b2 : k < n = omega (arith, l) in get_or-bytes_from f s n k b2 ∙ h k b2)

pub bytes_from-none : (f : ℕ → ℕ) (s n : ℕ) → n ≡ 0 → bytes_from f s n ≡ []
bytes_from-none f s n e = bytes_from-is f s n [] (sym e) (λ i h. absurd (omega arith))

-- two ranges that meet
pub bytes_from-append : (f : ℕ → ℕ) (s n t k total : ℕ) → t ≡ s + n → total ≡ n + k → bytes_from f s n ++ bytes_from f t k ≡ bytes_from f s total
bytes_from-append f s n t k total e d =
    let a = length-bytes_from f s n in
    let b = length-bytes_from f t k in
    sym (bytes_from-is f s total (bytes_from f s n ++ bytes_from f t k) (length-append (bytes_from f s n) (bytes_from f t k) ∙ omega (arith, a, b))
    (λ i h. grind (arith, a, b, get_or-bytes_from, get_or_append_left, get_or-append_right)))

-- a part of such a list, whose bytes another function gives too
pub bytes_from-range : (f g : ℕ → ℕ) (s len t lo hi : ℕ) → lo ≤ hi → hi ≤ len → ((i : ℕ) → i < hi - lo → g (t + i) ≡ f (s + lo + i)) → bytes_from g t (hi - lo) ≡ range_of (bytes_from f s len) lo hi
unfolding range_of
bytes_from-range f g s len t lo hi h k e =
    let xs : List ℕ = bytes_from f s len in
    let l : length xs ≡ len = length-bytes_from f s len in
    bytes_from-is g t (hi - lo) (take (hi - lo) (drop lo xs)) (length-part xs lo hi h (omega (arith, l)))
    (λ i b. e i b ∙ ap f (omega arith) ∙ sym (get_or-bytes_from f s len (lo + i) (omega arith)) ∙ sym (get_or-part xs lo hi i (lo + i) b refl))

-- a part of a page, and zeros where there is none
pub part_of-page : (f : ℕ → ℕ) (k from to : ℕ) (page : List ℕ) → from ≤ to → to ≤ 4096 → length page ≡ 4096 → ((i : ℕ) → i < 4096 → f (k * 4096 + i) ≡ get_or page i 0)
    → take (to - from) (drop from page) ≡ bytes_from f (k * 4096 + from) (to - from)
part_of-page f k from to page h b long at =
    sym (bytes_from-is f (k * 4096 + from) (to - from) _ (length-part page from to h (omega (arith, long)))
    (λ i l. ap f (omega arith) ∙ at (from + i) (omega arith) ∙ sym (get_or-part page from to i (from + i) l refl)))

pub part_of-none : (f : ℕ → ℕ) (k from to : ℕ) → to ≤ 4096 → ((i : ℕ) → i < 4096 → f (k * 4096 + i) ≡ 0) → bytes_from f (k * 4096 + from) (to - from) ≡ replicate (to - from) 0
part_of-none f k from to b at =
    bytes_from-is f (k * 4096 + from) (to - from) (replicate (to - from) 0) (length-replicate (to - from) 0)
    (λ i l. ap f (omega arith) ∙ at (from + i) (omega arith) ∙ sym (get_or-replicate (to - from) i 0 0 l))

pub length-bytes_of : (m : PageMap) (s n : ℕ) → length (bytes_of m s n) ≡ n
length-bytes_of m = length-bytes_from (byte_at m)

pub get_or-bytes_of : (m : PageMap) (s n i : ℕ) → i < n → get_or (bytes_of m s n) i 0 ≡ byte_at m (s + i)
get_or-bytes_of m = get_or-bytes_from (byte_at m)

-- the length of a list that pages stand for
pub length_seen : (m : PageMap) (s n : ℕ) (xs : List ℕ) → bytes_of m s n ≡ xs → length xs ≡ n
length_seen m s n xs e = ap length (sym e) ∙ length-bytes_of m s n

-- pages stand for a list if they have its bytes
pub bytes_of-is : (m : PageMap) (s n : ℕ) (xs : List ℕ) → length xs ≡ n → ((i : ℕ) → i < n → byte_at m (s + i) ≡ get_or xs i 0) → bytes_of m s n ≡ xs
bytes_of-is m = bytes_from-is (byte_at m)

pub bytes_of-below : (m n : PageMap) (s len : ℕ) → SameBelow m n (s + len) → bytes_of n s len ≡ bytes_of m s len
bytes_of-below m n s len h =
    bytes_of-is n s len (bytes_of m s len) (length-bytes_of m s len) (λ i l. h (s + i) (omega arith) ∙ sym (get_or-bytes_of m s len i l))

pub bytes_of-same : (m n : PageMap) (s len : ℕ) → SameBytes m n → bytes_of n s len ≡ bytes_of m s len
bytes_of-same m n s len h = bytes_of-below m n s len (λ p l. h p)

-- a write, and the gap before it
pub bytes_of-written : (m n : PageMap) (s len at : ℕ) (bs : List ℕ) → WrittenAt m n (s + min at len) (s + at) bs → bytes_of n s (max len (at + length bs)) ≡ overwritten (bytes_of m s len) at bs
bytes_of-written m n s len at bs w =
    let l = length-bytes_of m s len in
    bytes_of-is n s (max len (at + length bs)) (overwritten (bytes_of m s len) at bs) (grind (arith, l, length-overwritten))
    (λ i h. grind (arith, l, w.below, w.gap, w.inside, w.above, get_or-bytes_of, get_or_past, get_or-overwritten_below, get_or-overwritten_inside, get_or-overwritten_above))

-- zeros written over a range
pub bytes_of-zeroed : (m n : PageMap) (s len lo hi : ℕ) → lo ≤ hi → hi ≤ len → Overlaid m n (s + lo) (s + hi) (λ _. 0) → bytes_of n s len ≡ zeroed (bytes_of m s len) lo hi
bytes_of-zeroed m n s len lo hi h k o =
    let l = length-bytes_of m s len in
    let z = length-replicate {A = ℕ} (hi - lo) 0 in
    bytes_of-is n s len (overwritten (bytes_of m s len) lo (replicate (hi - lo) 0)) (length-overwritten_within _ lo _ (omega (arith, l, z)) ∙ l)
    (λ i b. grind (arith, l, z, o.below, o.inside, o.above, get_or-bytes_of, get_or-replicate, get_or-overwritten_below, get_or-overwritten_inside, get_or-overwritten_above))
    ∙ sym (zeroed_within _ lo hi h (omega (arith, l)))

-- all pages gone
pub bytes_of-cleared : (m n : PageMap) (s len lo hi : ℕ) → lo ≡ 0 → hi ≡ len → ((j : ℕ) → page_of n j ≡ None) → bytes_of n s len ≡ zeroed (bytes_of m s len) lo hi
bytes_of-cleared m n s len lo hi z h e =
    let l = length-bytes_of m s len in
    let k = length-replicate {A = ℕ} (hi - lo) 0 in
    bytes_of-is n s len (overwritten (bytes_of m s len) lo (replicate (hi - lo) 0)) (length-overwritten_within _ lo _ (omega (arith, l, k)) ∙ l)
    (λ i b. grind (arith, l, k, byte_at-empty n e, get_or-replicate, get_or-overwritten_inside))
    ∙ sym (zeroed_within _ lo hi (omega arith) (omega (arith, l)))

-- a longer list
pub bytes_of-extended : (m n : PageMap) (s len to : ℕ) → len ≤ to → Overlaid m n (s + len) (s + to) (λ _. 0) → bytes_of n s to ≡ resized (bytes_of m s len) to
unfolding resized
bytes_of-extended m n s len to h o =
    let xs : List ℕ = bytes_of m s len in
    let l : length xs ≡ len = length-bytes_of m s len in
    bytes_of-is n s to (take to xs ++ replicate (to - length xs) 0) (simp (length-append, length-take, length-replicate) (omega (arith, l)))
    (λ i b. grind (arith, l, o.below, o.inside, get_or-bytes_of, length-take, get_or_append_left, get_or-append_right, get_or-take, get_or-replicate))

-- a shorter list
pub bytes_of-shortened : (m n : PageMap) (s len to : ℕ) → to ≤ len → ((i : ℕ) → i < to → byte_at n (s + i) ≡ byte_at m (s + i)) → bytes_of n s to ≡ resized (bytes_of m s len) to
unfolding resized
bytes_of-shortened m n s len to h e =
    let xs : List ℕ = bytes_of m s len in
    let l : length xs ≡ len = length-bytes_of m s len in
    bytes_of-is n s to (take to xs ++ replicate (to - length xs) 0) (simp (length-append, length-take, length-replicate) (omega (arith, l)))
    (λ i b. grind (arith, l, e, get_or-bytes_of, length-take, get_or_append_left, get_or-take))

-- a part of the list
pub bytes_of-range : (m n : PageMap) (s len t lo hi : ℕ) → lo ≤ hi → hi ≤ len → SameRange m (s + lo) n t (hi - lo) → bytes_of n t (hi - lo) ≡ range_of (bytes_of m s len) lo hi
bytes_of-range m n = bytes_from-range (byte_at m) (byte_at n)

-- a part put over a range
pub bytes_of-put_back : (m n part patch : PageMap) (s len lo t count : ℕ) → lo + count ≤ len
    → Overlaid m n (s + lo) (s + lo + count) (λ p. byte_at patch (p - (s + lo) / 4096 * 4096))
    → SameRange part t patch ((s + lo) % 4096) (t + count - t) → bytes_of n s len ≡ overwritten (bytes_of m s len) lo (bytes_of part t count)
bytes_of-put_back m n part patch s len lo t count h o same =
    let z = length-bytes_of part t count in
    let l = length-bytes_of m s len in
    let inside = λ (j : ℕ) (k : j < count). o.inside (s + lo + j) (omega arith) (omega arith) ∙ ap (byte_at patch) (omega arith) ∙ same j (omega arith) in
    bytes_of-is n s len (overwritten (bytes_of m s len) lo (bytes_of part t count)) (length-overwritten_within _ lo _ (omega (arith, l, z)) ∙ l)
    (λ i b. grind (arith, l, z, o.below, o.above, inside (i - lo), get_or-bytes_of, get_or-overwritten_below, get_or-overwritten_inside, get_or-overwritten_above))

-- stored bytes that agree both ways make equal lists
pub bytes_of-agree : (m n : PageMap) (s t len k : ℕ) → len ≡ k → StoredAgree m s (s + len) (byte_at n) t → StoredAgree n t (t + k) (byte_at m) s → bytes_of m s len ≡ bytes_of n t k
bytes_of-agree m n s t len k e there back =
    bytes_of-is m s len (bytes_of n t k) (length-bytes_of n t k ∙ sym e)
    (λ i h. grind (arith, there i, back i, byte_at-none, get_or-bytes_of, some_or_none))

-- equal lists agree on all their bytes
pub stored_of_equal : (m n : PageMap) (s t len k : ℕ) → len ≡ k → bytes_of m s len ≡ bytes_of n t k → StoredAgree m s (s + len) (byte_at n) t
stored_of_equal m n s t len k d e = λ i h stored.
    sym (get_or-bytes_of n t k i (omega arith)) ∙ ap (λ xs. get_or xs i 0) (sym e) ∙ get_or-bytes_of m s len i (omega arith)

-- where the stored bytes of one agree, those of the other do so just where both lists are equal
pub agree_if_equal : (m n : PageMap) (s t len k : ℕ) (xs ys : List ℕ) → len ≡ k → bytes_of m s len ≡ xs → bytes_of n t k ≡ ys → StoredAgree m s (s + len) (byte_at n) t
    → StoredAgree n t (t + k) (byte_at m) s ↔ (xs ≡ ys)
agree_if_equal m n s t len k xs ys e mine theirs there = (
  (λ back. sym mine ∙ bytes_of-agree m n s t len k e there back ∙ theirs),
  (λ same. stored_of_equal n m t s k len (sym e) (theirs ∙ sym same ∙ sym mine)),
)

-- how a list begins whose bytes are zeros up to there
pub begins_with-zeros : (m : PageMap) (s len n : ℕ) (xs : List ℕ) → bytes_of m s len ≡ xs → n ≤ len → ((i : ℕ) → i < n → byte_at m (s + i) ≡ 0) → take n xs ≡ replicate n 0
begins_with-zeros m s len n xs e h zeros =
    let long = length_seen m s len xs e in
    same_number_lists (take n xs) (replicate n 0) (omega (arith, length-take n xs, length-replicate {A = ℕ} n 0, long))
    (λ i l.
    let below : i < n = omega (arith, length-take n xs, long) in
    get_or-take n xs i 0 below ∙ ap (λ ys. get_or ys i 0) (sym e) ∙ get_or-bytes_of m s len i (omega arith) ∙ zeros i below ∙ sym (get_or-replicate n i 0 0 below))
