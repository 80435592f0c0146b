-- A word and a single bit of it.
use Rattle.std.proofs.Common.{◌≡◌, ℕ, zero, suc, ◌*◌, ◌^◌, ◌<◌, true, not, eqb, nat_eq, bit_and, arith, inl, inr}
use Rattle.std.specs.Int.{bit_at}
use Rattle.std.proofs.lemmas.Bool.{eqb-true, or_cases}
use Rattle.std.proofs.lemmas.Bool.Decides.{nat_tests}
use Rattle.std.proofs.lemmas.Nat.{pow_pos}
use Rattle.std.proofs.lemmas.Nat.Bits.{and_pow, bit_at-lt}
use Rattle.sqe_codec.specs.Flags.{has, is_bit_below}

power_of : (n word : ℕ) → is_bit_below n word ≡ true → (k : ℕ) × (word ≡ 2 ^ k)
power_of zero word h = absurd (cc h)
power_of (suc n) word h = elim (or_cases _ _ h) [
  | inl e ↦ (n, eqb-true word (2 ^ n) e)
  | inr more ↦ power_of n word more
]

one_or_none : (b p : ℕ) → b < 2 → 0 < p → not (nat_eq (b * p) 0) ≡ eqb b 1
one_or_none b p lt positive = grind (arith, nat_tests)

-- A word masked with a flag is not zero where it has the flag.
pub has_masked : (word flag : ℕ) → is_bit_below 32 flag ≡ true → not (nat_eq (bit_and word flag) 0) ≡ has word flag
has_masked word flag h =
    let k = power_of 32 flag h in
    rw (k.1, and_pow word k.0) (one_or_none (bit_at word k.0) (2 ^ k.0) (bit_at-lt word k.0) (pow_pos k.0))
