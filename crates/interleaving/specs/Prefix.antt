-- A law: rounds that never overtake, each the longest beginning of what is pending in which no two access sets collide.
use Rattle.std.specs.Prelude.{ℕ, zero, suc, ◌≤◌, if◌then◌else◌, List, [], ◌∷◌, take}
use Rattle.interleaving.specs.System.{System, is_clear}
use Rattle.interleaving.specs.Machine.{has, State, opening, run, IsSequential}
use Rattle.interleaving.specs.Gather.{SideBySide}
use Rattle.interleaving.specs.Rounds.{pending, in_turn}

module _ (m : System) where
  -- the longest beginning of the places in which none collides with an earlier one or with these
  abbrev pub apart_prefix : m.World → List m.Footprint → List ℕ → List ℕ
  apart_prefix s fs [] = []
  apart_prefix s fs (k ∷ ks) = if is_clear m (m.foot k s) fs then k ∷ apart_prefix s (m.foot k s ∷ fs) ks else []

  -- of the first w pending places, the longest beginning in which no two collide
  abbrev pub prefix : ℕ → ℕ → State m → List ℕ
  prefix n w s = apart_prefix s.world [] (take w (pending (has s.finished) n))

  -- r rounds, each of which runs its prefix in order
  abbrev pub prefix_rounds : ℕ → ℕ → ℕ → State m → State m
  prefix_rounds n w zero s = s
  prefix_rounds n w (suc r) s = prefix_rounds n w r (run m s (in_turn (prefix n w s)))

  -- prefix rounds give what one place at a time gives
  abbrev pub PrefixRoundsAreSequential : Type 0
  PrefixRoundsAreSequential = (n w r : ℕ) → 1 ≤ w → n ≤ r → IsSequential m n (prefix_rounds n w r (opening m))

  -- the places of each prefix may run side by side
  abbrev pub PrefixesAreSideBySide : Type 0
  PrefixesAreSideBySide = (n w r : ℕ) → let s = prefix_rounds n w r (opening m) in SideBySide m s.world (prefix n w s)
