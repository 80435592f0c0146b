-- The item of a number, from 1 on.
use Rattle.std.proofs.Common.{◌≡◌, ℕ, ◌-◌, ◌<◌, ◌≤◌, Bool, true, false, List, length, get_or, refl, arith}
use Rattle.std.specs.Prelude.{◌||◌, ◌&&◌, ◌==◌, nat_le}
use Rattle.std.proofs.lemmas.Bool.{le-leb}
use Rattle.std.proofs.lemmas.Bool.Decides.{nat_tests}
use Rattle.std.proofs.lemmas.Option.{slice_get_past, slice_get_read}
use Rattle.trace_records.specs.declared.start.Item.{Item}
use Rattle.trace_records.specs.declared.start.Node.{Node}
use Rattle.trace_records.specs.Start.{is_item}

never : (b : Bool) → (b && false) ≡ false
never true = refl
never false = refl

-- there is none past the end
pub no_item : (test : Node → Bool) (items : List Item) (number : ℕ) → length items ≤ number - 1 → is_item test items number ≡ false
no_item test items number h = rw (slice_get_past items (number - 1) h) (never (nat_le 1 number))

-- one that is there passes the test or does not
pub an_item : (test : Node → Bool) (items : List Item) (number : ℕ) (i : Item) → (number ≡ 0 → ⊥)
    → number - 1 < length items → i ≡ get_or items (number - 1) i → is_item test items number ≡ test i.node
an_item test items number i some lt here =
    let first : nat_le 1 number ≡ true = le-leb _ _ (omega arith) in
    rw (first, slice_get_read items (length items) (number - 1) i refl lt here) refl

not_zero : (n : ℕ) → (n ≡ 0 → ⊥) → (n == 0) ≡ false
not_zero n some = grind (arith, nat_tests)

-- the same, where 0 is the root
pub not_there : (test : Node → Bool) (items : List Item) (number : ℕ) → (number ≡ 0 → ⊥) → length items ≤ number - 1 → (number == 0 || is_item test items number) ≡ false
not_there test items number some h = rw (not_zero number some) (no_item test items number h)

pub one_there : (test : Node → Bool) (items : List Item) (number : ℕ) (i : Item) → (number ≡ 0 → ⊥)
    → number - 1 < length items → i ≡ get_or items (number - 1) i → (number == 0 || is_item test items number) ≡ test i.node
one_there test items number i some lt here = rw (not_zero number some) (an_item test items number i some lt here)
