-- Whether some pair of two lists passes a test.
use Rattle.std.proofs.Common.{◌≡◌, ◌||◌, ◌&&◌, Bool, true, false, List, [], ◌∷◌, refl, sym, ap, ◌∙◌}
use Rattle.std.specs.List.{list_any}

or-middle : (a b c d : Bool) → ((a || b) || (c || d)) ≡ ((a || c) || (b || d))
or-middle true b c d = refl
or-middle false true true d = refl
or-middle false true false d = refl
or-middle false false c d = refl

module _ {Y : Type 0} where
  any-never : (ys : List Y) → list_any (λ y. false) ys ≡ false
  any-never [] = refl
  any-never (y ∷ ys) = any-never ys

  any-or : (p q : Y → Bool) (ys : List Y) → list_any (λ y. p y || q y) ys ≡ (list_any p ys || list_any q ys)
  any-or p q [] = refl
  any-or p q (y ∷ ys) = ap (λ (b : Bool). (p y || q y) || b) (any-or p q ys) ∙ or-middle (p y) (q y) (list_any p ys) (list_any q ys)

  any-and : (b : Bool) (q : Y → Bool) (ys : List Y) → list_any (λ y. b && q y) ys ≡ (b && list_any q ys)
  any-and true q ys = refl
  any-and false q ys = any-never ys

-- Pairs are asked for in either order: a test of the first alone comes before one of the pair.
pub any-exchange : {X Y : Type 0} (p : X → Bool) (r : X → Y → Bool) (xs : List X) (ys : List Y)
    → list_any (λ x. p x && list_any (r x) ys) xs ≡ list_any (λ y. list_any (λ x. p x && r x y) xs) ys
any-exchange p r [] ys = sym (any-never ys)
any-exchange p r (x ∷ xs) ys =
    ap (λ (b : Bool). (p x && list_any (r x) ys) || b) (any-exchange p r xs ys)
    ∙ ap (λ (b : Bool). b || list_any (λ y. list_any (λ z. p z && r z y) xs) ys) (sym (any-and (p x) (r x) ys))
    ∙ sym (any-or (λ y. p x && r x y) (λ y. list_any (λ z. p z && r z y) xs) ys)
