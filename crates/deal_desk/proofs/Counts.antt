-- How often a number stands in a list of places, and lists in which each number below n stands at most once.
use Rattle.std.proofs.Common.{◌≡◌, ℕ, suc, ◌+◌, ◌<◌, ◌≤◌, ◌==◌, min, if◌then◌else◌, Bool, true, false, eqb, List, [], ◌∷◌, ◌++◌, map, length, ap, arith}
use Rattle.std.specs.Prelude.{Contains}
use Rattle.std.proofs.lemmas.Bool.{lt-ltb, le-ltb}
use Rattle.std.proofs.lemmas.Bool.Decides.{nat_tests}
use Rattle.std.proofs.lemmas.List.Sums.{sum_by-append, sum_by-cons}
use Rattle.std.specs.List.{AllByRecursion, IsDistinct, list_any}
use Rattle.std.proofs.lemmas.Map.Steps.{length-le_from_distinct_below}
use mathlib.Core.Logic.{dite}
use native.Mathlib.Decide.{ℕ_discrete}
use Rattle.deal_desk.specs.Hands.{times, once_below, IsPartOfDeal}

pub times-append : (x : ℕ) (xs ys : List ℕ) → times x (xs ++ ys) ≡ times x xs + times x ys
times-append x xs ys = sum_by-append (λ (y : ℕ). if y == x then 1 else 0) xs ys

times-cons : (x y : ℕ) (ys : List ℕ) → times x (y ∷ ys) ≡ (if y == x then 1 else 0) + times x ys
times-cons x y ys = sum_by-cons (λ (z : ℕ). if z == x then 1 else 0) y ys

pub times-itself : (k : ℕ) → times k (k ∷ []) ≡ 1
times-itself k = grind (arith, nat_tests)

pub once_below_past : (x n : ℕ) → n ≤ x → once_below x n ≡ 0
once_below_past x n h = ap (λ (b : Bool). if b then 1 else 0) (le-ltb x n h)

pub once_below_there : (x n : ℕ) → x < n → once_below x n ≡ 1
once_below_there x n h = ap (λ (b : Bool). if b then 1 else 0) (lt-ltb x n h)

pub once_below_most : (x n : ℕ) → once_below x n ≤ 1
once_below_most x n = grind (arith, nat_tests)

pub once_below_rises : (x m n : ℕ) → m ≤ n → once_below x m ≤ once_below x n
once_below_rises x m n le = grind (arith, nat_tests)

pub once_below_next : (x c n : ℕ) → c < n → once_below x (min (c + 1) n) ≡ (if c == x then 1 else 0) + once_below x (min c n)
once_below_next x c n h = grind (arith, nat_tests)

pub once_below_all : (x c n : ℕ) → n ≤ c → once_below x (min c n) ≡ once_below x n
once_below_all x c n h = let e : min c n ≡ n = omega arith in ap (once_below x) e

-- a number that stands among the places of a list of results has its result there
pub result_there : {D : Type 0} (k : ℕ) (ps : List (ℕ × D)) → 0 < times k (map (λ (p : ℕ × D). p.0) ps) → (d : D) × Contains ps (k, d)
result_there k [] h = absurd (omega arith)
result_there {D} k (p ∷ ps) h =
    let parts = times-cons k p.0 (map (λ (q : ℕ × D). q.0) ps) in
    dite (ℕ_discrete p.0 k)
    (λ e. (p.1, (0, omega arith, ap (λ (i : ℕ). (i, p.1)) e)))
    (λ e. let more : 0 < times k (map (λ (q : ℕ × D). q.0) ps) = grind (arith, nat_tests) in let r = result_there k ps more in (r.0, (suc r.1.0, omega (arith, r.1.1), r.1.2)))

-- what stands nowhere in a list is none of its numbers, and what is one of them stands there
others_from_none : (x : ℕ) (xs : List ℕ) → times x xs ≡ 0 → AllByRecursion (λ y. eqb x y ≡ false) xs
others_from_none x [] h = tt
others_from_none x (y ∷ ys) h =
    let parts = times-cons x y ys in
    (grind (arith, nat_tests), others_from_none x ys (omega arith))

stands_from_any : (x : ℕ) (xs : List ℕ) → list_any (eqb x) xs ≡ true → 0 < times x xs
stands_from_any x [] h = absurd (cc)
stands_from_any x (y ∷ ys) h = let parts = times-cons x y ys in let rest = stands_from_any x ys in grind (arith, nat_tests)

different_from_once : (xs : List ℕ) → ((x : ℕ) → times x xs ≤ 1) → IsDistinct eqb xs
unfolding IsDistinct
different_from_once [] h = tt
different_from_once (y ∷ ys) h = (
  others_from_none y ys (omega (arith, h y, times-cons y y ys, times-itself y, times-cons y y [])),
  different_from_once ys (λ x. omega (arith, h x, times-cons x y ys)),
)

-- no more numbers below n than n, each once
pub part_of_deal_length : (n : ℕ) (xs : List ℕ) → IsPartOfDeal n xs → length xs ≤ n
part_of_deal_length n xs h = length-le_from_distinct_below xs n (different_from_once xs (λ x. omega (arith, h x, once_below_most x n)))
    (λ x any. let there = stands_from_any x xs any in let few = h x in grind (arith, nat_tests))
