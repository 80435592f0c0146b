-- A law: which earlier places each place depends on, told by the sequential run; any order that keeps to it gives what one place at a time gives.
use Rattle.std.specs.Prelude.{◌≡◌, ℕ, ◌<◌, Bool, true, false, List, [], ◌∷◌}
use Rattle.interleaving.specs.System.{System, sequential}
use Rattle.interleaving.specs.Machine.{Event, Start, Finish, has, State, opening, happens, run, IsComplete, IsSequential}

-- a place is led to another one: it waits for it, or for one that is led to it
pub data Leads (waits : ℕ → ℕ → Bool) : ℕ → ℕ → Type 0 where
  at_once : (k j : ℕ) → waits k j ≡ true → Leads waits k j
  onward : (k i j : ℕ) → waits k i ≡ true → Leads waits i j → Leads waits k j

module _ (m : System) where
  -- the access set of a place when the places run one at a time
  abbrev pub foot_in_turn : ℕ → m.Footprint
  foot_in_turn k = m.foot k (sequential m k)

  -- a place depends on an earlier one where they share something then that one of them writes
  abbrev pub depends_on : ℕ → ℕ → Bool
  depends_on k j = m.collide (foot_in_turn k) (foot_in_turn j)

  -- of n places, one may start for whose sake all that it waits for has finished, and one may finish that has started
  abbrev pub IsDue : (ℕ → ℕ → Bool) → ℕ → State m → Event → Type 0
  IsDue waits n s (Start k) = (k < n) × (has s.started k ≡ false) × ((j : ℕ) → waits k j ≡ true → has s.finished j ≡ true)
  IsDue waits n s (Finish k) = (has s.started k ≡ true) × (has s.finished k ≡ false)

  abbrev pub AllDue : (ℕ → ℕ → Bool) → ℕ → State m → List Event → Type 0
  AllDue waits n s [] = Unit {0}
  AllDue waits n s (e ∷ es) = IsDue waits n s e × AllDue waits n (happens m s e) es

  -- where each place is led to all earlier ones that it depends on
  abbrev pub Suffices : (ℕ → ℕ → Bool) → ℕ → Type 0
  Suffices waits n = (k j : ℕ) → j < k → k < n → depends_on k j ≡ true → Leads waits k j

  -- every complete list of starts and finishes that waits so gives what one place at a time gives
  abbrev pub DependenciesSuffice : Type 0
  DependenciesSuffice = (waits : ℕ → ℕ → Bool) (n : ℕ) (es : List Event) → Suffices waits n
      → AllDue waits n (opening m) es → IsComplete m n (run m (opening m) es) → IsSequential m n (run m (opening m) es)
