-- Which name of a list a word is.
use Rattle.std.proofs.Common.{◌≡◌, ℕ, zero, suc, ◌+◌, ◌<◌, ◌≤◌, Bool, true, false, List, [], ◌∷◌, length, get_or, Option, None, Some, refl, ap, ◌∙◌, arith}
use Rattle.std.proofs.Common.{◌*◌, ◌^◌, ◌%◌, eqb, lit≤}
use Rattle.std.specs.List.{position_from}
use Rattle.std.specs.Str.{bytes_eq}
use Rattle.std.proofs.lemmas.Grind.{common_steps}
use Rattle.trace_text.specs.declared.names.FlagSet.{FlagSet}
use Rattle.trace_text.specs.declared.names.FlagSet.TheVariants.{Open, Transfer, Sync, Rename, Unlink, Link, Allocate}
use Rattle.trace_text.specs.Names.{flag_names}

abbrev pub some : ℕ → Option ℕ
some n = Some n

-- the first one that passes
pub first_is : (t : List ℕ → Bool) (names : List (List ℕ)) (i bit : ℕ) → t [] ≡ false → t (get_or names bit []) ≡ true → ((k : ℕ) → k < bit → t (get_or names k []) ≡ false) → position_from t i names ≡ Some (i + bit)
first_is t [] i bit none hit miss = absurd cc
first_is t (x ∷ xs) i zero none hit miss =
    let k : i ≡ i + 0 = omega arith in
    rw (position_from, hit) (ap (λ (n : ℕ). some n) k)
first_is t (x ∷ xs) i (suc bit) none hit miss =
    let k : i + 1 + bit ≡ i + suc bit = omega arith in
    rw (position_from, miss 0 (omega arith)) (first_is t xs (i + 1) bit none hit (λ j lt. miss (suc j) (omega arith)) ∙ ap (λ (n : ℕ). some n) k)

-- none passes
pub none_is : (t : List ℕ → Bool) (names : List (List ℕ)) (i : ℕ) → ((k : ℕ) → k < length names → t (get_or names k []) ≡ false) → position_from t i names ≡ None
none_is t [] i miss = refl
none_is t (x ∷ xs) i miss = rw (position_from, miss 0 (omega arith)) (none_is t xs (i + 1) (λ j lt. miss (suc j) (omega arith)))

-- no word is the empty one
pub no_word : (word : List ℕ) → false ≡ eqb (length word) 0 → bytes_eq [] word ≡ false
no_word [] h = absurd cc
no_word (x ∷ xs) h = refl

pub few_names : (set : FlagSet) → length (flag_names set) ≤ 32
unfolding flag_names
few_names Open = lit≤ tt
few_names Transfer = lit≤ tt
few_names Sync = lit≤ tt
few_names Rename = lit≤ tt
few_names Unlink = lit≤ tt
few_names Link = lit≤ tt
few_names Allocate = lit≤ tt

-- a bit, as code has it
pub bit_is : (k : ℕ) → k < 32 → 1 * 2 ^ k % 18446744073709551616 ≡ 2 ^ (0 + k)
bit_is k lt = grind (arith, common_steps)
