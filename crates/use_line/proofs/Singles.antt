-- Numbers that are used one by one, and the ranges of the others.
use Rattle.std.specs.Prelude.{◌≡◌, ℕ, zero, suc, ◌+◌, ◌^◌, ◌<◌, ◌≤◌, Bool, true, false, not, ◌&&◌, ◌||◌, ◌⊎◌, ◌==◌, ltb, List, [], ◌∷◌, ◌++◌, if◌then◌else◌, refl, slice_index_or}
use Rattle.std.proofs.Common.{sym, ◌∙◌, subst, arith, inl, inr}
use Rattle.std.proofs.lemmas.Bool.{cases_Bool, cases_eq, or_cases, or_left, or_right}
use Rattle.std.proofs.lemmas.Bool.Decides.{nat_tests}
use Rattle.use_line.specs.Spans.{within, written_by}
use Rattle.use_line.specs.Known.{AddsTold, AddsToldBy, HasRead, Known, RangeUses, Uses, is_among, is_none, known_at, range_at, spot_at, told_of, written_at}
use Rattle.use_line.specs.declared.line.Span.{Span}
use Rattle.use_line.proofs.Telling.{read_same}

-- what a list has beyond its end is no different where it is longer by that
pub or_pushed : {A : Type 0} (d : A) (xs : List A) (i : ℕ) → slice_index_or (xs ++ d ∷ []) i d ≡ slice_index_or xs i d
or_pushed d [] zero = refl
or_pushed d [] (suc i) = refl
or_pushed d (x ∷ xs) zero = refl
or_pushed d (x ∷ xs) (suc i) = or_pushed d xs i

pub known_spot : (u : Uses) (b : ℕ) → b < 2 ^ 76 → known_at u b ≡ spot_at u.spots b
known_spot u b less = let yes : ltb b (2 ^ 76) ≡ true = grind (arith, nat_tests, less) in rw yes refl

pub known_range : (u : Uses) (b : ℕ) → 2 ^ 76 ≤ b → known_at u b ≡ range_at u.ranges b
known_range u b le = let no₁ : ltb b (2 ^ 76) ≡ false = grind (arith, nat_tests, le) in rw no₁ refl

-- one number more is told
pub told_number : (known : ℕ → Known) (own : List Span) (written : Bool) (low number : ℕ) (told mid new : List ℕ) → low ≤ number → AddsToldBy known own written low number told mid
    → ((j : ℕ) → is_among new j ≡ (is_among mid j || told_of (known number) written (written_by own number) j)) → AddsToldBy known own written low (number + 1) told new
told_number known own written low number told mid new from before more j = (
  (λ h. elim (or_cases (is_among mid j) _ (sym (more j) ∙ h)) [
    | inl m ↦ elim ((before j).0 m) [
      | inl t ↦ inl t
      | inr e ↦ let b : ℕ = e.0 in let w : within low number b ≡ true = e.1 in inr (b, grind (arith, nat_tests), e.2)
    ]
    | inr n ↦ inr (number, grind (arith, nat_tests, from), n)
  ]),
  (λ d. elim d [
    | inl t ↦ more j ∙ or_left (is_among mid j) _ ((before j).1 (inl t))
    | inr e ↦
        let b : ℕ = e.0 in
        let w : within low (number + 1) b ≡ true = e.1 in
        elim (cases_eq b number) [
          | inl same ↦ more j ∙ or_right (is_among mid j) _ (subst (λ n. told_of (known n) written (written_by own n) j ≡ true) same e.2)
          | inr other ↦ more j ∙ or_left (is_among mid j) _ ((before j).1 (inr (b, grind (arith, nat_tests, other), e.2)))
        ]
  ]),
)

-- and then the rest, as a range
pub told_rest : (u : Uses) (own : List Span) (written : Bool) (low number high : ℕ) (told mid new : List ℕ) → low ≤ number → 2 ^ 76 ≤ number → number < high
    → AddsTold u own written low number told mid → AddsToldBy (range_at u.ranges) own written number high mid new → AddsTold u own written low high told new
told_rest u own written low number high told mid new from far less before after j = (
  (λ h. elim ((after j).0 h) [
    | inl m ↦ elim ((before j).0 m) [
      | inl t ↦ inl t
      | inr e ↦ let b : ℕ = e.0 in let w : within low number b ≡ true = e.1 in inr (b, grind (arith, nat_tests, less), e.2)
    ]
    | inr e ↦
        let b : ℕ = e.0 in
        let w : within number high b ≡ true = e.1 in
        let le : number ≤ b = grind (arith, nat_tests) in
        inr (b, grind (arith, nat_tests, from), subst (λ k. told_of k written (written_by own b) j ≡ true) (sym (known_range u b (omega (arith, far, le)))) e.2)
  ]),
  (λ d. elim d [
    | inl t ↦ (after j).1 (inl ((before j).1 (inl t)))
    | inr e ↦
        let b : ℕ = e.0 in
        let w : within low high b ≡ true = e.1 in
        elim (cases_Bool (within low number b)) [
          | inl down ↦ (after j).1 (inl ((before j).1 (inr (b, down, e.2))))
          | inr up ↦
              let le : number ≤ b = grind (arith, nat_tests) in
              (after j).1 (inr (b, grind (arith, nat_tests, le), subst (λ k. told_of k written (written_by own b) j ≡ true) (known_range u b (omega (arith, far, le))) e.2))
        ]
  ]),
)

-- what has been read of a number, and then once more
pub read_both : (old mid new : Known) (x y z : Bool) (place : ℕ) → z ≡ (x || y) → HasRead old mid x place → HasRead mid new y place → HasRead old new z place
read_both old mid new x y z place is f s = rw is (record {
  writer = s.writer ∙ f.writer;
  readers = λ j. s.readers j ∙ (λ k. f.readers j k || (y && place == j)) ∙ spread (is_among old.1 j) (place == j);
  unread = s.unread ∙ (λ k. f.unread k && not y) ∙ both (is_none old.1);
})
  where
    spread : (o p : Bool) → ((o || (x && p)) || (y && p)) ≡ (o || ((x || y) && p))
    spread o p = grind arith

    both : (o : Bool) → ((o && not x) && not y) ≡ (o && not (x || y))
    both o = grind arith

pub spot_read : (rows rows₁ : List (List Known)) (r : RangeUses) (number place : ℕ) → number < 2 ^ 76 → ((b : ℕ) → HasRead (spot_at rows b) (spot_at rows₁ b) (b == number) place)
    → (b : ℕ) → HasRead (known_at (record { spots = rows; ranges = r }) b) (known_at (record { spots = rows₁; ranges = r }) b) (b == number) place
spot_read rows rows₁ r number place less read b = elim (cases_Bool (ltb b (2 ^ 76))) [
  | inl t ↦ rw t (read b)
  | inr f ↦ let other : (b == number) ≡ false = grind (arith, nat_tests, less) in rw (f, other) (read_same (range_at r b) place)
]

pub range_read : (rows : List (List Known)) (r r₁ : RangeUses) (number high place : ℕ) → 2 ^ 76 ≤ number → ((b : ℕ) → HasRead (range_at r b) (range_at r₁ b) (within number high b) place)
    → (b : ℕ) → HasRead (known_at (record { spots = rows; ranges = r }) b) (known_at (record { spots = rows; ranges = r₁ }) b) (within number high b) place
range_read rows r r₁ number high place far read b = elim (cases_Bool (ltb b (2 ^ 76))) [
  | inl t ↦ let other : within number high b ≡ false = grind (arith, nat_tests, far) in rw (t, other) (read_same (spot_at rows b) place)
  | inr f ↦ rw f (read b)
]

-- what has been written of a number, and then once more
pub spot_written : (rows rows₁ : List (List Known)) (r : RangeUses) (number place : ℕ) → number < 2 ^ 76 → ((b : ℕ) → spot_at rows₁ b ≡ (if b == number then written_at place else spot_at rows b))
    → (b : ℕ) → known_at (record { spots = rows₁; ranges = r }) b ≡ (if b == number then written_at place else known_at (record { spots = rows; ranges = r }) b)
spot_written rows rows₁ r number place less wrote b = elim (cases_Bool (ltb b (2 ^ 76))) [
  | inl t ↦ rw t (wrote b)
  | inr f ↦ let other : (b == number) ≡ false = grind (arith, nat_tests, less) in rw (f, other) refl
]

pub range_written : (rows : List (List Known)) (r r₁ : RangeUses) (number high place : ℕ) → 2 ^ 76 ≤ number → ((b : ℕ) → range_at r₁ b ≡ (if within number high b then written_at place else range_at r b))
    → (b : ℕ) → known_at (record { spots = rows; ranges = r₁ }) b ≡ (if within number high b then written_at place else known_at (record { spots = rows; ranges = r }) b)
range_written rows r r₁ number high place far wrote b = elim (cases_Bool (ltb b (2 ^ 76))) [
  | inl t ↦ let other : within number high b ≡ false = grind (arith, nat_tests, far) in rw (t, other) refl
  | inr f ↦ rw f (wrote b)
]

pub written_both : (old mid new written : Known) (x y z : Bool) → z ≡ (x || y) → mid ≡ (if x then written else old) → new ≡ (if y then written else mid) → new ≡ (if z then written else old)
written_both old mid new written true true z is f s = rw is s
written_both old mid new written true false z is f s = rw is (s ∙ f)
written_both old mid new written false true z is f s = rw is s
written_both old mid new written false false z is f s = rw is (s ∙ f)

-- a range by its parts
pub next_part : (low number b : ℕ) → low ≤ number → within low (number + 1) b ≡ (within low number b || b == number)
next_part low number b from = grind (arith, nat_tests, from)

pub last_part : (low number high b : ℕ) → low ≤ number → number < high → within low high b ≡ (within low number b || within number high b)
last_part low number high b from less = grind (arith, nat_tests, from, less)

pub whole_part : (low number high b : ℕ) → low ≤ number → high ≤ number → (number ≤ high) ⊎ (number ≡ low) → within low number b ≡ within low high b
whole_part low number high b from past (inl to) = grind (arith, nat_tests, past, to)
whole_part low number high b from past (inr same) = grind (arith, nat_tests, past, same)
