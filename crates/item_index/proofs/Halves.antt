-- The first element that passes a test, of a list in two parts.
use Rattle.std.specs.Prelude.{◌≡◌, ℕ, ◌+◌, Bool, true, false, cond, ◌||◌, List, [], ◌∷◌, ◌++◌, length, take, drop, Option, Some, refl}
use Rattle.std.specs.List.{list_any, position_from}
use Rattle.std.specs.Option.{is_some, option_map, option_or}
use Rattle.std.proofs.lemmas.List.{take-append-drop}
use native.Mathlib.Omega.{arith}
use mathlib.Core.Path.{ap, sym, ◌∙◌}

found_step : (b : Bool) (n : ℕ) (o : Option ℕ) (r : Bool) → is_some o ≡ r → is_some (cond b (Some n) o) ≡ (b || r)
found_step true n o r h = refl
found_step false n o r h = h

-- there is a first one exactly where one passes
pub is_some-position : {X : Type 0} (p : X → Bool) (n : ℕ) (xs : List X) → is_some (position_from p n xs) ≡ list_any p xs
is_some-position p n [] = refl
is_some-position p n (x ∷ xs) = found_step (p x) n (position_from p (n + 1) xs) (list_any p xs) (is_some-position p (n + 1) xs)

from_same : {X : Type 0} (p : X → Bool) (xs : List X) (n m : ℕ) → n ≡ m → position_from p n xs ≡ position_from p m xs
from_same p xs n m h = ap (λ k. position_from p k xs) h

parts_step : (b : Bool) (n : ℕ) (all one other later : Option ℕ) → all ≡ option_or one later → later ≡ other
    → cond b (Some n) all ≡ option_or (cond b (Some n) one) other
parts_step true n all one other later h e = refl
parts_step false n all one other later h e = h ∙ ap (option_or one) e

position-parts : {X : Type 0} (p : X → Bool) (n : ℕ) (xs ys : List X) → position_from p n (xs ++ ys) ≡ option_or (position_from p n xs) (position_from p (n + length xs) ys)
position-parts p n [] ys = from_same p ys n (n + 0) (grind arith)
position-parts p n (x ∷ xs) ys =
    parts_step (p x) n (position_from p (n + 1) (xs ++ ys)) (position_from p (n + 1) xs) (position_from p (n + length (x ∷ xs)) ys) (position_from p (n + 1 + length xs) ys)
    (position-parts p (n + 1) xs ys) (from_same p ys (n + 1 + length xs) (n + length (x ∷ xs)) (grind arith))

later_step : (b : Bool) (n k : ℕ) (o q : Option ℕ) → o ≡ option_map (λ m. k + m) q → cond b (Some (k + n)) o ≡ option_map (λ m. k + m) (cond b (Some n) q)
later_step true n k o q h = refl
later_step false n k o q h = h

position-later : {X : Type 0} (p : X → Bool) (k n : ℕ) (xs : List X) → position_from p (k + n) xs ≡ option_map (λ m. k + m) (position_from p n xs)
position-later p k n [] = refl
position-later p k n (x ∷ xs) =
    later_step (p x) n k (position_from p (k + n + 1) xs) (position_from p (n + 1) xs)
    (from_same p xs (k + n + 1) (k + (n + 1)) (grind arith) ∙ position-later p k (n + 1) xs)

-- the first of a list is that of its front, or else that of its back
pub position-halves : {X : Type 0} (p : X → Bool) (all : List X) (middle : ℕ) (front back : List X) (one other : Option ℕ) → front ≡ take middle all → back ≡ drop middle all
    → one ≡ position_from p 0 front → other ≡ position_from p 0 back → option_or one (option_map (λ m. length front + m) other) ≡ position_from p 0 all
position-halves p all middle front back one other is-front is-back f g =
    let joined : front ++ back ≡ all = rw (is-front, is-back) (take-append-drop middle all) in
    rw (← joined, f, g)
    (sym (position-parts p 0 front back ∙ ap (option_or (position_from p 0 front))
    (from_same p back (0 + length front) (length front + 0) (grind arith) ∙ position-later p (length front) 0 back)))
