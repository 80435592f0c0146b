-- The model: a system of numbered places, each with a step that reads and writes a few atoms of a world.
use Rattle.std.specs.Prelude.{◌≡◌, ℕ, zero, suc, Bool, true, false, if◌then◌else◌, List, [], ◌∷◌}
use Rattle.std.specs.List.{AllByRecursion}

-- worlds, the step of each place, and its access sets. An atom is the least part of a world that is read or written by itself
pub record System : Type 1 where
  pub World : Type 0
  pub Reply : Type 0
  pub Footprint : Type 0
  pub Atom : Type 0
  pub Value : Atom → Type 0
  -- the world before the first step
  pub start : World
  -- what the step of a place makes of a world, and its reply there
  pub step : ℕ → World → World
  pub reply : ℕ → World → Reply
  -- what an atom holds
  pub value : World → (a : Atom) → Value a
  -- the atoms of an access set, and those that it writes
  pub touches : Footprint → Atom → Bool
  pub writes : Footprint → Atom → Bool
  -- whether two access sets share something that one of them writes
  pub collide : Footprint → Footprint → Bool
  -- what the step of a place reads and writes in a world
  pub foot : ℕ → World → Footprint
  -- what it may read and write once earlier places, with these may-access sets, have run: the latest place first
  pub reach : ℕ → World → List Footprint → Footprint
  -- the worlds that steps lead to
  pub IsWorld : World → Type 0
  -- the numbers that the place gives to what it makes are free
  pub Unused : ℕ → World → Type 0
  -- whatever has a number has it from the start or from an earlier place
  pub IsBefore : ℕ → World → Type 0
  -- so has all that the place looks up, also what it would look up once places with these may-access sets have run
  pub Known : ℕ → World → List Footprint → Type 0

module _ (m : System) where
  open m use {World, Reply, Footprint, Atom, start, step, reply, value, touches, writes, collide, foot, reach}

  -- the two worlds have the same values on the access set
  abbrev pub AgreeOn : Footprint → World → World → Type 0
  AgreeOn f s t = (a : Atom) → touches f a ≡ true → value s a ≡ value t a

  -- neither access set writes what the other has
  abbrev pub Apart : Footprint → Footprint → Type 0
  Apart f g = ((a : Atom) → writes f a ≡ true → touches g a ≡ false) × ((a : Atom) → writes g a ≡ true → touches f a ≡ false)

  -- the first access set has all of the second, written where that one writes
  abbrev pub Holds : Footprint → Footprint → Type 0
  Holds r f = ((a : Atom) → touches f a ≡ true → touches r a ≡ true) × ((a : Atom) → writes f a ≡ true → writes r a ≡ true)

  -- none of the access sets writes the atom
  abbrev pub NoneWrites : List Footprint → Atom → Type 0
  NoneWrites fs a = AllByRecursion (λ f. writes f a ≡ false) fs

  -- the two worlds differ only where one of the access sets writes
  abbrev pub DifferOnlyBy : List Footprint → World → World → Type 0
  DifferOnlyBy fs s t = (a : Atom) → NoneWrites fs a → value s a ≡ value t a

  -- the access set collides with none of these
  abbrev pub is_clear : Footprint → List Footprint → Bool
  is_clear f [] = true
  is_clear f (r ∷ rs) = if collide f r then false else is_clear f rs

  -- the world after the places below n that aren't left out, in order
  abbrev pub stepped : (ℕ → Bool) → World → ℕ → World
  stepped out s zero = s
  stepped out s (suc n) = if out n then stepped out s n else step n (stepped out s n)

  -- the may-access sets of these places in the world, the latest first
  abbrev pub reaches : (ℕ → Bool) → World → ℕ → List Footprint
  reaches out s zero = []
  reaches out s (suc n) = if out n then reaches out s n else reach n s (reaches out s n) ∷ reaches out s n

  -- the world before place n when the places run one at a time in order
  abbrev pub sequential : ℕ → World
  sequential n = stepped (λ k. false) start n

-- what is left of a list of may-access sets when some are dropped and some hold less
pub data Thinner (m : System) : List m.Footprint → List m.Footprint → Type 0 where
  none : Thinner m [] []
  drop : (r : m.Footprint) (thin rs : List m.Footprint) → Thinner m thin rs → Thinner m thin (r ∷ rs)
  keep : (r₁ r : m.Footprint) (thin rs : List m.Footprint) → Holds m r r₁ → Thinner m thin rs → Thinner m (r₁ ∷ thin) (r ∷ rs)
