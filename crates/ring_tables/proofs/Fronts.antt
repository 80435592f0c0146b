-- How far the numbers of blocks are known to be taken, and the first number that is free.
use Rattle.std.specs.Prelude.{◌≡◌, ◌≢◌, ℕ, zero, suc, ◌+◌, ◌%◌, ◌≤◌, ◌<◌, Bool, true, false, cond, List, T, Option, Some, None, is_none, ltb, refl}
use Rattle.std.specs.Bool.{then_some}
use Rattle.std.specs.List.{find, range_with_len}
use Rattle.std.specs.Ordering.{nat_cmp, eq_by_cmp, is_eq}
use Rattle.std.specs.declared.cmp.Ordering.{Ordering}
use Rattle.std.specs.declared.cmp.Ordering.TheVariants.{Less, Equal, Greater}
use Rattle.std.proofs.lemmas.Cmp.{ranked}
use Rattle.finite_maps.specs.Table.{Table, get, get-insert, get-remove, insert, number_keys, remove}
use Rattle.ring_tables.specs.Fronts.{AreTaken, front_at}
use native.Mathlib.Omega.{arith}
use mathlib.Core.Path.{ap, sym, ◌∙◌, subst}

taken_or : (b : Bool) (o : Option ℕ) (x : ℕ) → is_none o ≡ false → is_none (cond b (Some x) o) ≡ false
taken_or true o x h = refl
taken_or false o x h = h

-- what is taken stays so where a number is taken
pub taken-more : (t : Table nat_cmp ℕ) (fronts : List ℕ) (k x : ℕ) → AreTaken t fronts → AreTaken (insert number_keys.total t k x) fronts
taken-more t fronts k x h n below = ap is_none (get-insert number_keys.total t k x n) ∙ taken_or (eq_by_cmp nat_cmp n k) (get t n) x (h n below)

left_taken : (n k : ℕ) (o : Option ℕ) (r : Ordering) → r ≡ nat_cmp n k → n ≢ k → is_none o ≡ false → is_none (cond (is_eq r) None o) ≡ false
left_taken n k o Less e ne h = h
left_taken n k o Equal e ne h = absurd (ne (ranked n k Equal e))
left_taken n k o Greater e ne h = h

-- and where one is freed, in front of which its block ends
pub taken-less : (t : Table nat_cmp ℕ) (fronts lower : List ℕ) (k : ℕ) → AreTaken t fronts → ((n : ℕ) → front_at lower n ≤ front_at fronts n) → front_at lower k ≤ k % 256 → AreTaken (remove t k) lower
taken-less t fronts lower k h less there n below =
    ap is_none (get-remove number_keys.total t k n)
    ∙ left_taken n k (get t n) (nat_cmp n k) refl (λ e. let same : k % 256 < front_at lower k = subst (λ m. m % 256 < front_at lower m) e below in omega arith)
    (h n (let le = less n in omega arith))

first_free : (free : ℕ → Bool) (from len k : ℕ) (b : Bool) → b ≡ free from → ((n : ℕ) → from ≤ n → n < k → free n ≡ false) → from ≤ k → k < from + suc len → free k ≡ true
    → (from + 1 ≤ k → find free (range_with_len (from + 1) len) ≡ Some k)
    → cond b (Some from) (find free (range_with_len (from + 1) len)) ≡ Some k
first_free free from len k true e h low high there rest = by (ltb from k) refl
  where
    by : (b : Bool) → b ≡ ltb from k → Some from ≡ Some k
    by true l = absurd (subst T (e ∙ h from (omega arith) (grind arith)) tt)
    by false l = ap Some (let same : from ≡ k = grind arith in same)
first_free free from len k false e h low high there rest = rest (let ne : from ≢ k = λ same. absurd (subst T (sym (e ∙ ap free same ∙ there)) tt) in omega arith)

-- the first number that is free
pub find-first : (free : ℕ → Bool) (from len k : ℕ) → ((n : ℕ) → from ≤ n → n < k → free n ≡ false) → from ≤ k → k < from + len → free k ≡ true → find free (range_with_len from len) ≡ Some k
find-first free from zero k h low high there = absurd (omega arith)
find-first free from (suc len) k h low high there =
    first_free free from len k (free from) refl h low high there (λ more. find-first free (from + 1) len k (λ n l m. h n (omega arith) m) more (omega arith) there)

-- none is free
pub find-none : (free : ℕ → Bool) (from len : ℕ) → ((n : ℕ) → from ≤ n → n < from + len → free n ≡ false) → find free (range_with_len from len) ≡ None
find-none free from zero h = refl
find-none free from (suc len) h = rw (h from (omega arith) (omega arith)) (find-none free (from + 1) len (λ n l m. h n (omega arith) (omega arith)))

-- the first that is free, found behind numbers that are taken
pub find-behind : (free : ℕ → Bool) (front count k : ℕ) → ((n : ℕ) → n < front → free n ≡ false) → ((n : ℕ) → front ≤ n → n < k → free n ≡ false) → k ≤ count → (k < count → free k ≡ true)
    → then_some (ltb k count) k ≡ find free (range_with_len 0 count)
find-behind free front count k ahead behind most there = by (ltb k count) refl
  where
    taken_at : (n : ℕ) → n < k → (b : Bool) → b ≡ ltb n front → free n ≡ false
    taken_at n l true e = ahead n (grind arith)
    taken_at n l false e = behind n (grind arith) l

    taken : (n : ℕ) → n < k → free n ≡ false
    taken n l = taken_at n l (ltb n front) refl

    by : (b : Bool) → b ≡ ltb k count → then_some b k ≡ find free (range_with_len 0 count)
    by true e = sym (find-first free 0 count k (λ n z l. taken n l) (omega arith) (grind arith) (there (grind arith)))
    by false e = sym (find-none free 0 count (λ n z l. taken n (grind arith)))

-- the same of the same table, and of fronts that end alike
pub taken-in : {s t : Table nat_cmp ℕ} (fronts : List ℕ) → s ≡ t → AreTaken t fronts → AreTaken s fronts
taken-in fronts e h = subst (λ t. AreTaken t fronts) (sym e) h

pub taken-alike : (t : Table nat_cmp ℕ) (old new : List ℕ) → ((n : ℕ) → front_at new n ≡ front_at old n) → AreTaken t old → AreTaken t new
taken-alike t old new same h n below = h n (let e = same n in omega arith)

-- the same of one number
pub taken-seen : {s t : Table nat_cmp ℕ} {b : Bool} → s ≡ t → (n : ℕ) → is_none (get s n) ≡ b → is_none (get t n) ≡ b
taken-seen e n h = ap (λ t. is_none (get t n)) (sym e) ∙ h
