-- The model: for which earlier places a place waits by itself, where the others follow.
use Rattle.std.specs.Prelude.{◌≡◌, ℕ, ◌<◌, Bool, true, false, ◌&&◌, ◌||◌}

-- Two places clash on something that each place may use, and may write: both use it, and one of them writes it.
abbrev pub clash_on : (ℕ → Bool) → (ℕ → Bool) → ℕ → ℕ → Bool
clash_on uses writes k j = (uses k && uses j) && (writes k || writes j)

-- A place comes directly before a later one: they clash, and no place between them clashes with both.
pub record IsDirect (clash : ℕ → ℕ → Bool) (k j : ℕ) : Type 0 where
  pub earlier : j < k
  pub clashes : clash k j ≡ true
  pub none_between : (i : ℕ) → j < i → i < k → clash k i ≡ true → clash i j ≡ false
