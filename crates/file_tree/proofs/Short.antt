-- The sixteen bytes of a short name are in the order of the names.
use Rattle.std.proofs.Common.{◌≡◌, ℕ, zero, suc, ◌+◌, ◌*◌, ◌-◌, ◌^◌, ◌<◌, ◌≤◌, List, [], ◌∷◌, ◌++◌, length, get_or, take, drop, set, refl, sym, ap, ◌∙◌, arith}
use Rattle.std.specs.List.{AllByRecursion}
use Rattle.std.specs.Int.{from_be_bytes, sum_through, byte_worth, w128}
use Rattle.std.specs.declared.cmp.Ordering.{Ordering}
use Rattle.std.specs.declared.cmp.Ordering.TheVariants.{Less, Equal}
use Rattle.std.specs.Ordering.{nat_cmp, ordering_then, ordering_reverse}
use Rattle.std.specs.Cmp.{nat_cmp_is, tied_itself}
use Rattle.std.specs.Cmp.Lexicographic.{slice_cmp, nat_list_cmp_total}
use Rattle.std.proofs.Math.Nat.{pow-suc, mul-le-mul_right}
use Rattle.file_tree.specs.Short.{padded, filled, name_in, AreFilled}

abbrev AreBytes : List ℕ → Type 0
AreBytes bs = AllByRecursion (λ b. b < 256) bs

-- the number that bytes make, the first one the highest
abbrev number : List ℕ → ℕ
number [] = 0
number (b ∷ bs) = b * 256 ^ length bs + number bs

one_more : (b p n : ℕ) → b < 256 → n < p → b * p + n < p * 256
one_more b p n s t =
    let most : b * p ≤ 255 * p = mul-le-mul_right p (omega arith) in
    omega (arith, most)

number_below : (bs : List ℕ) → AreBytes bs → number bs < 256 ^ length bs
number_below [] h = omega arith
number_below (b ∷ bs) h = rw (pow-suc 256 (length bs)) (one_more b (256 ^ length bs) (number bs) h.0 (number_below bs h.1))

-- a number in front decides, and else what stands behind it
lower : (p a b i j : ℕ) → i < p → a < b → a * p + i < b * p + j
lower p a b i j f g =
    let most : suc a * p ≤ b * p = mul-le-mul_right p (omega arith) in
    omega (arith, most)

in_front : (x y p n m : ℕ) (r : Ordering) → n < p → m < p → nat_cmp n m ≡ r → nat_cmp (x * p + n) (y * p + m) ≡ ordering_then (nat_cmp x y) r
in_front x y p n m r s t e = grind (arith, lower p x y n m s, lower p y x m n t)

number_cmp : (xs ys : List ℕ) → length xs ≡ length ys → AreBytes xs → AreBytes ys → nat_cmp (number xs) (number ys) ≡ slice_cmp nat_cmp xs ys
number_cmp [] [] l f g = refl
number_cmp [] (y ∷ ys) l f g = absurd (omega arith)
number_cmp (x ∷ xs) [] l f g = absurd (omega arith)
number_cmp (x ∷ xs) (y ∷ ys) l f g =
    let same : length xs ≡ length ys = omega arith in
    ap (λ k. nat_cmp (x * 256 ^ k + number xs) (number (y ∷ ys))) same
    ∙ in_front x y (256 ^ length ys) (number xs) (number ys) (slice_cmp nat_cmp xs ys)
    (rw (← same) (number_below xs f.1)) (number_below ys g.1) (number_cmp xs ys same f.1 g.1)

first_apart : (f : ℕ → ℕ) (k : ℕ) → sum_through f (suc k) ≡ f 0 + sum_through (λ i. f (suc i)) k
first_apart f zero = refl
first_apart f (suc k) = omega (arith, first_apart f k)

number_summed : (k : ℕ) (bs : List ℕ) → length bs ≡ suc k → sum_through (λ i. byte_worth (k - i) (get_or bs i 0)) k ≡ number bs
number_summed k [] l = absurd (omega arith)
number_summed zero (b ∷ c ∷ bs) l = absurd (omega arith)
number_summed zero (b ∷ []) l = omega arith
number_summed (suc k) (b ∷ bs) l =
    let rest : length bs ≡ suc k = omega arith in
    let top : suc k - 0 ≡ suc k = omega arith in
    let lower : (i : ℕ) → suc k - suc i ≡ k - i = λ i. omega arith in
    first_apart (λ i. byte_worth (suc k - i) (get_or (b ∷ bs) i 0)) k
    ∙ (λ j. byte_worth (top j) b + sum_through (λ i. byte_worth (lower i j) (get_or bs i 0)) k)
    ∙ (λ j. b * 256 ^ sym rest j + number_summed k bs rest j)

are_bytes : (bs : List ℕ) → ((i : ℕ) → get_or bs i 0 < 256) → AreBytes bs
are_bytes [] h = tt
are_bytes (b ∷ bs) h = (h 0, are_bytes bs (λ i. h (suc i)))

-- the order of sixteen bytes is that of the numbers
pub be_cmp : (xs ys : List ℕ) → length xs ≡ 16 → length ys ≡ 16 → ((i : ℕ) → get_or xs i 0 < 256) → ((i : ℕ) → get_or ys i 0 < 256)
    → nat_cmp (from_be_bytes w128 xs) (from_be_bytes w128 ys) ≡ slice_cmp nat_cmp xs ys
be_cmp xs ys l k f g = (λ i. nat_cmp (number_summed 15 xs l i) (number_summed 15 ys k i)) ∙ number_cmp xs ys (l ∙ sym k) (are_bytes xs f) (are_bytes ys g)

-- ---- names filled up with zeros

padded_less : (w : ℕ) (ys : List ℕ) (m n : ℕ) → m < n → slice_cmp nat_cmp (padded w [] m) (padded w ys n) ≡ Less
padded_less zero ys m n h = ap (λ r. ordering_then r Equal) (sym (nat_cmp_is m n Less h))
padded_less (suc w) [] m n h = padded_less w [] m n h
padded_less (suc w) (y ∷ ys) m n h = grind (arith, padded_less w ys m n h)

padded_cmp : (w : ℕ) (xs ys : List ℕ) (m n : ℕ) → length xs ≤ w → length ys ≤ w → m + length ys ≡ n + length xs
    → slice_cmp nat_cmp (padded w xs m) (padded w ys n) ≡ slice_cmp nat_cmp xs ys
padded_cmp w [] [] m n f g e =
    let same : m ≡ n = omega arith in
    ap (λ k. slice_cmp nat_cmp (padded w [] k) (padded w [] n)) same ∙ tied_itself nat_list_cmp_total (padded w [] n)
padded_cmp w [] (y ∷ ys) m n f g e = padded_less w (y ∷ ys) m n (omega arith)
padded_cmp w (x ∷ xs) [] m n f g e = nat_list_cmp_total.antisymm (padded w (x ∷ xs) m) (padded w [] n) ∙ ap ordering_reverse (padded_less w (x ∷ xs) n m (omega arith))
padded_cmp zero (x ∷ xs) (y ∷ ys) m n f g e = absurd (omega arith)
padded_cmp (suc w) (x ∷ xs) (y ∷ ys) m n f g e = ap (ordering_then (nat_cmp x y)) (padded_cmp w xs ys m n (omega arith) (omega arith) (omega arith))

last-padded : (w : ℕ) (xs : List ℕ) (n : ℕ) → length xs ≤ w → get_or (padded w xs n) w 0 ≡ n
last-padded zero xs n h = refl
last-padded (suc w) [] n h = last-padded w [] n (omega arith)
last-padded (suc w) (x ∷ xs) n h = last-padded w xs n (omega arith)

take-padded : (w : ℕ) (xs : List ℕ) (n : ℕ) → length xs ≤ w → take (length xs) (padded w xs n) ≡ xs
take-padded w [] n h = refl
take-padded zero (x ∷ xs) n h = absurd (omega arith)
take-padded (suc w) (x ∷ xs) n h = ap (λ ys. x ∷ ys) (take-padded w xs n (omega arith))

pub name_in-filled : (name : List ℕ) → length name ≤ 15 → name_in (filled name) ≡ name
name_in-filled name h = ap (λ k. take k (filled name)) (last-padded 15 name (length name) h) ∙ take-padded 15 name (length name) h

pub AreFilled-filled : (name : List ℕ) → length name ≤ 15 → AreFilled (filled name)
AreFilled-filled name h =
    let same = name_in-filled name h in
    (rw same h, ap filled (sym same))

abbrev zeros : ℕ → List ℕ
zeros zero = []
zeros (suc k) = 0 ∷ zeros k

written_at : (w : ℕ) (name : List ℕ) (n : ℕ) → length name ≤ w → set (name ++ drop (length name) (zeros (suc w))) w n ≡ padded w name n
written_at zero [] n h = refl
written_at zero (b ∷ bs) n h = absurd (omega arith)
written_at (suc w) [] n h = ap (λ ys. 0 ∷ ys) (written_at w [] n (omega arith))
written_at (suc w) (b ∷ bs) n h = ap (λ ys. b ∷ ys) (written_at w bs n (omega arith))

-- the bytes that are written for a name
pub written : (name : List ℕ) → length name ≤ 15 → set (name ++ drop (length name) (0 ∷ 0 ∷ 0 ∷ 0 ∷ 0 ∷ 0 ∷ 0 ∷ 0 ∷ 0 ∷ 0 ∷ 0 ∷ 0 ∷ 0 ∷ 0 ∷ 0 ∷ 0 ∷ [])) 15 (length name) ≡ filled name
written name h = written_at 15 name (length name) h

-- filled names are in the order of the names
pub filled_cmp : (xs ys : List ℕ) → AreFilled xs → AreFilled ys → slice_cmp nat_cmp xs ys ≡ slice_cmp nat_cmp (name_in xs) (name_in ys)
filled_cmp xs ys a b =
    (λ i. slice_cmp nat_cmp (a.1 i) (b.1 i))
    ∙ padded_cmp 15 (name_in xs) (name_in ys) (length (name_in xs)) (length (name_in ys)) a.0 b.0 (omega arith)
