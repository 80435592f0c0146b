-- Which numbers a list has, and which places are pending.
use Rattle.std.proofs.Common.{◌≡◌, ◌≢◌, ℕ, zero, suc, ◌<◌, ◌≤◌, Bool, true, false, List, [], ◌∷◌, ◌++◌, take, filter, ◌⊎◌, inl, inr, refl, arith, if◌then◌else◌}
use Rattle.std.proofs.lemmas.Bool.{cases_Bool, cases_eq}
use Rattle.interleaving.specs.Machine.{has}
use Rattle.interleaving.specs.Gather.{AllDifferent}
use Rattle.interleaving.specs.Rounds.{pending}

pub has-here : (k : ℕ) (ks : List ℕ) → has (k ∷ ks) k ≡ true
has-here k ks = grind arith

pub has-other : (j k : ℕ) (ks : List ℕ) → j ≢ k → has (k ∷ ks) j ≡ has ks j
has-other j k ks ne = grind arith

-- a member of a list is another number than one that the list hasn't
pub has-different : (j k : ℕ) (ks : List ℕ) → has ks k ≡ false → has ks j ≡ true → j ≢ k
has-different j k ks out inside = grind arith

pub has-later : (j k : ℕ) (ks : List ℕ) → has ks j ≡ true → has (k ∷ ks) j ≡ true
has-later j k ks h = grind arith

-- a member is the head or in the tail
pub has-cases : (k x : ℕ) (xs : List ℕ) → has (x ∷ xs) k ≡ true → (k ≡ x) ⊎ (has xs k ≡ true)
has-cases k x xs h = grind arith

pub has-filter : (p : ℕ → Bool) (xs : List ℕ) (k : ℕ) → has (filter p xs) k ≡ true → (p k ≡ true) × (has xs k ≡ true)
has-filter p [] k h = (cc)
has-filter p (x ∷ xs) k h = grind (arith, has-filter p xs k)

-- what passes and is in the list is in the filtered list
pub filter-keeps : (p : ℕ → Bool) (xs : List ℕ) (k : ℕ) → p k ≡ true → has xs k ≡ true → has (filter p xs) k ≡ true
filter-keeps p [] k e h = h
filter-keeps p (x ∷ xs) k e h = grind (arith, filter-keeps p xs k e)

pub has-take : (w : ℕ) (xs : List ℕ) (k : ℕ) → has (take w xs) k ≡ true → has xs k ≡ true
has-take zero xs k h = (cc)
has-take (suc w) [] k h = h
has-take (suc w) (x ∷ xs) k h = grind (arith, has-take w xs k)

-- what lists that are joined have
pub has-append : (xs ys : List ℕ) (k : ℕ) → has (xs ++ ys) k ≡ (if has xs k then true else has ys k)
has-append [] ys k = refl
has-append (x ∷ xs) ys k = grind (arith, has-append xs ys k)

pub has-front : (xs ys : List ℕ) (k : ℕ) → has xs k ≡ true → has (xs ++ ys) k ≡ true
has-front xs ys k m = grind (arith, has-append xs ys k)

pub has-back : (xs ys : List ℕ) (k : ℕ) → has ys k ≡ true → has (xs ++ ys) k ≡ true
has-back xs ys k h = grind (arith, has-append xs ys k)

pub has-middle : (xs : List ℕ) (k : ℕ) (rest : List ℕ) → has (xs ++ k ∷ rest) k ≡ true
has-middle xs k rest = grind (arith, has-append xs (k ∷ rest) k)

pub has-either : (xs ys : List ℕ) (k : ℕ) → has (xs ++ ys) k ≡ true → (has xs k ≡ true) ⊎ (has ys k ≡ true)
has-either xs ys k m = grind (arith, has-append xs ys k)

pub has-snoc : (xs : List ℕ) (y k : ℕ) → has (xs ++ (y ∷ [])) k ≡ true → (has xs k ≡ true) ⊎ (k ≡ y)
has-snoc xs y k h = grind (arith, has-append xs (y ∷ []) k)

pub different-filter : (p : ℕ → Bool) (xs : List ℕ) → AllDifferent xs → AllDifferent (filter p xs)
different-filter p [] h = tt
different-filter p (x ∷ xs) h = grind (arith, has-filter p xs x, different-filter p xs h.1)

different-take : (w : ℕ) (xs : List ℕ) → AllDifferent xs → AllDifferent (take w xs)
different-take zero xs h = tt
different-take (suc w) [] h = tt
different-take (suc w) (x ∷ xs) h = grind (arith, has-take w xs x, different-take w xs h.1)

different-snoc : (xs : List ℕ) (y : ℕ) → AllDifferent xs → has xs y ≡ false → AllDifferent (xs ++ (y ∷ []))
different-snoc [] y h out = (refl, tt)
different-snoc (x ∷ xs) y h out = grind (arith, has-append xs (y ∷ []) x, different-snoc xs y h.1)

pub pending-out : (done : ℕ → Bool) (n : ℕ) → done n ≡ true → pending done (suc n) ≡ pending done n
pending-out done n e = rw e refl

pub pending-in : (done : ℕ → Bool) (n : ℕ) → done n ≡ false → pending done (suc n) ≡ pending done n ++ (n ∷ [])
pending-in done n e = rw e refl

pub has-pending : (done : ℕ → Bool) (n k : ℕ) → has (pending done n) k ≡ true → (k < n) × (done k ≡ false)
has-pending done zero k h = (cc)
has-pending done (suc n) k h = grind (arith, has-pending done n k, has-append (pending done n) (n ∷ []) k)

different-pending : (done : ℕ → Bool) (n : ℕ) → AllDifferent (pending done n)
different-pending done zero = tt
different-pending done (suc n) = elim (cases_Bool (done n)) [
  | inl d ↦ rw d (different-pending done n)
  | inr d ↦ rw d (different-snoc (pending done n) n (different-pending done n) (grind (arith, has-pending done n n)))
]

-- the choice is of different pending places that pass the test
pub different-choice : (p : ℕ → Bool) (w : ℕ) (done : ℕ → Bool) (n : ℕ) → AllDifferent (filter p (take w (pending done n)))
different-choice p w done n = different-filter p (take w (pending done n)) (different-take w (pending done n) (different-pending done n))

pub has-choice : (p : ℕ → Bool) (w : ℕ) (done : ℕ → Bool) (n k : ℕ) → has (filter p (take w (pending done n))) k ≡ true
    → (p k ≡ true) × (k < n) × (done k ≡ false)
has-choice p w done n k h =
    let passed = has-filter p (take w (pending done n)) k h in
    let open_k = has-pending done n k (has-take w (pending done n) k passed.1) in
    (passed.0, open_k.0, open_k.1)

pub pending-none : (done : ℕ → Bool) (n : ℕ) → ((k : ℕ) → k < n → done k ≡ true) → pending done n ≡ []
pending-none done zero all = refl
pending-none done (suc n) all = grind (arith, all n, pending-none done n)

-- the first place that isn't done comes first
pending-first : (done : ℕ → Bool) (n r : ℕ) → ((k : ℕ) → k < r → done k ≡ true) → done r ≡ false → r < n → (rest : List ℕ) × (pending done n ≡ r ∷ rest)
pending-first done zero r all d lt = absurd (omega arith)
pending-first done (suc n) r all d lt = elim (cases_eq r n) [
  | inl e ↦ ([], grind (arith, pending-none done n))
  | inr ne ↦
      let found = pending-first done n r all d (omega arith) in
      elim (cases_Bool (done n)) [ inl dn ↦ (found.0, rw dn found.1) | inr dn ↦ (found.0 ++ (n ∷ []), cc (found.1, dn)) ]
]

-- so it is in the choice where it passes the test
pub first-chosen : (p : ℕ → Bool) (w : ℕ) (done : ℕ → Bool) (n r : ℕ) → 1 ≤ w → ((k : ℕ) → k < r → done k ≡ true) → done r ≡ false → r < n → p r ≡ true
    → has (filter p (take w (pending done n))) r ≡ true
first-chosen p zero done n r le all d lt pass = absurd (omega arith)
first-chosen p (suc w) done n r le all d lt pass = let found = pending-first done n r all d lt in grind (arith, found.1)

-- the first place that isn't done
pub first_open : (done : ℕ → Bool) (n : ℕ) → ((k : ℕ) → k < n → done k ≡ true)
    ⊎ ((r : ℕ) × (r < n) × (done r ≡ false) × ((k : ℕ) → k < r → done k ≡ true))
first_open done zero = inl (λ k lt. absurd (omega arith))
first_open done (suc n) = elim (first_open done n) [
  | inr found ↦ inr (found.0, omega arith, found.2, found.3)
  | inl all ↦ elim (cases_Bool (done n)) [ inl d ↦ inl (λ k lt. grind (arith, all k)) | inr d ↦ inr (n, omega arith, d, all) ]
]
