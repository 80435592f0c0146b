-- Bytes so often.
use Rattle.std.proofs.Common.{◌≡◌, ℕ, zero, suc, ◌+◌, List, [], ◌∷◌, ◌++◌, length, get_or, replicate, refl, ap, ◌∙◌, sym, append_assoc, append-nil, arith}
use Rattle.std.specs.List.{repeat}

one_often : (n x : ℕ) → repeat n (x ∷ []) ≡ replicate n x
one_often zero x = refl
one_often (suc n) x = ap (λ (l : List ℕ). x ∷ l) (one_often n x)

pub one_is : (xs : List ℕ) (n : ℕ) → length xs ≡ 1 → repeat n xs ≡ replicate n (get_or xs 0 0)
one_is [] n one = absurd (omega (arith, one))
one_is (x ∷ []) n one = one_often n x
one_is (x ∷ y ∷ xs) n one = absurd (omega (arith, one))

none_often : (n : ℕ) → repeat {A = ℕ} n [] ≡ []
none_often zero = refl
none_often (suc n) = none_often n

pub repeat_none : (n : ℕ) (xs : List ℕ) → length xs ≡ 0 → repeat n xs ≡ []
repeat_none n [] none = none_often n
repeat_none n (x ∷ xs) none = absurd (omega (arith, none))

last_of : (n : ℕ) (xs : List ℕ) → repeat (suc n) xs ≡ repeat n xs ++ xs
last_of zero xs = append-nil xs
last_of (suc n) xs = ap (λ (l : List ℕ). xs ++ l) (last_of n xs) ∙ sym (append_assoc xs (repeat n xs) xs)

pub repeat_more : (n : ℕ) (xs : List ℕ) → repeat (n + 1) xs ≡ repeat n xs ++ xs
repeat_more n xs =
    let k : n + 1 ≡ suc n = omega arith in
    ap (λ (m : ℕ). repeat m xs) k ∙ last_of n xs
