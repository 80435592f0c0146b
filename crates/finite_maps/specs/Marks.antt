-- A helper: sets of numbers that are marked one after another.
use Rattle.std.specs.Prelude.{◌≡◌, ℕ, Bool, ◌||◌, nat_eq}
use Rattle.indexmap.specs.IndexSet.{IndexSet, contains}

module _ {S : Type 0} where
  -- A set got the numbers for which a test holds.
  abbrev pub Marks : (ℕ → Bool) → IndexSet ℕ S → IndexSet ℕ S → Type 0
  Marks p old new = (i : ℕ) → contains nat_eq new i ≡ (contains nat_eq old i || p i)

  -- A set that has got some of those numbers, and the numbers that it has still to get.
  abbrev pub AreMarked : (left all : ℕ → Bool) → IndexSet ℕ S → IndexSet ℕ S → Type 0
  AreMarked left all old now = (i : ℕ) → (contains nat_eq now i || left i) ≡ (contains nat_eq old i || all i)
