-- Byte strings with the same front are in the order of what is behind it.
use Rattle.std.proofs.Common.{◌≡◌, ℕ, zero, suc, ◌+◌, List, [], ◌∷◌, ◌++◌, length, ◌-◌, take, drop, refl, ap, sym, ◌∙◌, arith}
use Rattle.std.proofs.lemmas.Bool.Decides.{Decides-eqb}
use Rattle.std.proofs.lemmas.List.{drop-take, length-drop, take-append-drop, take-take, take_all}
use Rattle.std.proofs.lemmas.Slice.Eq.{slice_eq-Decides}
use Rattle.std.specs.Cmp.{nat_cmp_total, tied_itself}
use Rattle.std.specs.Cmp.Lexicographic.{pointwise, slice_cmp}
use Rattle.std.specs.Prelude.{Bool, true, false, not, IsTrue, nat_eq}
use Rattle.std.specs.Ordering.{nat_cmp, ordering_then}
use Rattle.std.specs.declared.cmp.Ordering.{Ordering}
use Rattle.std.specs.declared.cmp.Ordering.TheVariants.{Equal}

pub behind_front : (n : ℕ) (xs ys : List ℕ) → take n xs ≡ take n ys → slice_cmp nat_cmp (drop n xs) (drop n ys) ≡ slice_cmp nat_cmp xs ys
behind_front zero xs ys e = refl
behind_front (suc n) [] [] e = refl
behind_front (suc n) [] (y ∷ ys) e = cc
behind_front (suc n) (x ∷ xs) [] e = cc
behind_front (suc n) (x ∷ xs) (y ∷ ys) e =
    let head : x ≡ y = cc in
    let rest : take n xs ≡ take n ys = cc in
    let tied : nat_cmp x y ≡ Equal = ap (nat_cmp x) (sym head) ∙ tied_itself nat_cmp_total x in
    behind_front n xs ys rest ∙ sym (ap (λ (r : Ordering). ordering_then r (slice_cmp nat_cmp xs ys)) tied)

cut : (n k : ℕ) (xs : List ℕ) → take (n + k) xs ≡ take n xs ++ take k (drop n xs)
cut n k xs = sym (rw (take-take n (n + k) xs (omega arith), drop-take n k xs) at (take-append-drop n (take (n + k) xs)))

-- a front, and what lies behind it
pub longer_front : (n k : ℕ) (xs ys : List ℕ) → take n xs ≡ take n ys → take k (drop n xs) ≡ take k (drop n ys) → take (n + k) xs ≡ take (n + k) ys
longer_front n k xs ys e d = cut n k xs ∙ (λ i. e i ++ d i) ∙ sym (cut n k ys)

-- two parts that a test does not tell apart
told_same : (b : Bool) → false ≡ not b → IsTrue b
told_same true e = refl
told_same false e = absurd (cc e)

pub same_part : (xs ys : List ℕ) → false ≡ not (pointwise nat_eq xs ys) → xs ≡ ys
same_part xs ys e = (slice_eq-Decides Decides-eqb xs ys (pointwise nat_eq xs ys) refl).0 (told_same (pointwise nat_eq xs ys) e)

-- a slice from a place on
pub from_place : (n : ℕ) (xs : List ℕ) → take (length xs - n) (drop n xs) ≡ drop n xs
from_place n xs = take_all (length xs - n) (drop n xs) (omega (arith, length-drop n xs))
