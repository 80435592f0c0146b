-- Where the last range of a file ends.
use Rattle.std.proofs.Common.{◌≡◌, ℕ, zero, suc, ◌+◌, List, [], ◌∷◌, length, get_or, sym, ap, arith}
use Rattle.trace_records.specs.Fields.{end_of}

pub last_end : {X : Type 0} (end : X → ℕ) (low : ℕ) (xs : List X) (n : ℕ) (x : X) → n + 1 ≡ length xs → x ≡ get_or xs n x → end_of end low xs ≡ end x
last_end end low [] n x e is = absurd (omega (arith, e))
last_end end low (y ∷ []) zero x e is = ap end (sym is)
last_end end low (y ∷ z ∷ zs) zero x e is = absurd (omega (arith, e))
last_end end low (y ∷ xs) (suc n) x e is = last_end end (end y) xs n x (omega (arith, e)) is
