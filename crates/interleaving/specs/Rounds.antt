-- The model: rounds of places that start together; laws of them at the end.
use Rattle.std.specs.Prelude.{◌≡◌, ℕ, zero, suc, ◌<◌, ◌≤◌, Bool, true, false, if◌then◌else◌, List, [], ◌∷◌, ◌++◌, take, filter, length}
use Rattle.interleaving.specs.System.{System, sequential}
use Rattle.interleaving.specs.Machine.{Event, Start, Finish, has, State, opening, happens, run, is_free, AllLegal, IsSequential}
use Rattle.interleaving.specs.Gather.{AllDifferent, in_order, SideBySide}

-- the places below n that aren't done, in order
abbrev pub pending : (ℕ → Bool) → ℕ → List ℕ
pending done zero = []
pending done (suc n) = if done n then pending done n else pending done n ++ (n ∷ [])

-- each of these places starts and finishes before the next one
abbrev pub in_turn : List ℕ → List Event
in_turn [] = []
in_turn (k ∷ ks) = Start k ∷ Finish k ∷ in_turn ks

-- the events of all the rounds, one round after another
abbrev pub joined : List (List Event) → List Event
joined [] = []
joined (es ∷ rest) = es ++ joined rest

module _ (m : System) where
  -- of the first w pending places, those whose access set collides with the may-access set of no earlier pending place
  abbrev pub chosen : ℕ → ℕ → State m → List ℕ
  chosen n w s = filter (is_free m s) (take w (pending (has s.finished) n))

  -- a round steps the chosen places in order
  abbrev pub round : ℕ → ℕ → State m → State m
  round n w s = run m s (in_turn (chosen n w s))

  -- r rounds, one after another
  abbrev pub rounds : ℕ → ℕ → ℕ → State m → State m
  rounds n w zero s = s
  rounds n w (suc r) s = rounds n w r (round n w s)

  -- the events are of these places, each of which starts and finishes once at most
  abbrev pub AreOf : List ℕ → State m → List Event → Type 0
  AreOf ks s [] = Unit {0}
  AreOf ks s (Start k ∷ es) = (has ks k ≡ true) × (has s.started k ≡ false) × AreOf ks (happens m s (Start k)) es
  AreOf ks s (Finish k ∷ es) = (has s.started k ≡ true) × (has s.finished k ≡ false) × AreOf ks (happens m s (Finish k)) es

  -- the events start and finish each of the round's places once, in any order
  abbrev pub IsRound : ℕ → ℕ → State m → List Event → Type 0
  IsRound n w s es = AreOf (chosen n w s) s es × ((k : ℕ) → has (chosen n w s) k ≡ true → has (run m s es).finished k ≡ true)

  -- each list of events is a round of the state that the ones before it lead to
  abbrev pub AreRounds : ℕ → ℕ → State m → List (List Event) → Type 0
  AreRounds n w s [] = Unit {0}
  AreRounds n w s (es ∷ rest) = IsRound n w s es × AreRounds n w (run m s es) rest

  -- whatever the order within each round, the events are legal, and after n rounds they are complete
  abbrev pub RoundsAreLegal : Type 0
  RoundsAreLegal = (n w : ℕ) (rs : List (List Event)) → 1 ≤ w → AreRounds n w (opening m) rs
      → AllLegal m n (opening m) (joined rs) × ((k : ℕ) → k < n → k < length rs → has (run m (opening m) (joined rs)).finished k ≡ true)

  -- the rounds give what one place at a time gives
  abbrev pub RoundsAreSequential : Type 0
  RoundsAreSequential = (n w r : ℕ) → 1 ≤ w → n ≤ r → IsSequential m n (rounds n w r (opening m))

  -- each round begins in a world, its places may run side by side there, no two collide, and their replies there are those of one place at a time
  abbrev pub RoundsAreGathered : Type 0
  RoundsAreGathered = (n w r : ℕ) → let s = rounds n w r (opening m) in let ks = chosen n w s in
      m.IsWorld s.world
      × SideBySide m s.world ks
      × ((j k : ℕ) → has ks j ≡ true → has ks k ≡ true → j < k → m.collide (m.foot k s.world) (m.foot j s.world) ≡ false)
      × ((round n w s).world ≡ in_order m s.world ks)
      × ((k : ℕ) → has ks k ≡ true → m.reply k s.world ≡ m.reply k (sequential m k))

  -- a round has a place where one is pending
  abbrev pub RoundsGoOn : Type 0
  RoundsGoOn = (n w : ℕ) (s : State m) (k : ℕ) → 1 ≤ w → k < n → has s.finished k ≡ false → (j : ℕ) × (has (chosen n w s) j ≡ true)

  -- a place whose access set always collides with an earlier place's may-access set runs in a later round
  abbrev pub RoundsKeepOrder : Type 0
  RoundsKeepOrder = (n w r i k : ℕ) → i < k → ((s : m.World) (rs : List m.Footprint) → m.collide (m.foot k s) (m.reach i s rs) ≡ true)
      → let s = rounds n w r (opening m) in has (chosen n w s) k ≡ true → has s.finished i ≡ true

  -- any places of a round may have started, and any of those finished, while it runs: the world is then its first one, stepped at the finished ones
  abbrev pub AnySetsOccur : Type 0
  AnySetsOccur = (n w r : ℕ) (begun ended : List ℕ) → let s = rounds n w r (opening m) in AllDifferent begun → AllDifferent ended
      → ((k : ℕ) → has begun k ≡ true → has (chosen n w s) k ≡ true) → ((k : ℕ) → has ended k ≡ true → has begun k ≡ true)
      → (es : List Event) × (rest : List Event) × IsRound n w s (es ++ rest)
      × ((k : ℕ) → has (run m s es).started k ≡ (if has begun k then true else has s.started k))
      × ((k : ℕ) → has (run m s es).finished k ≡ (if has ended k then true else has s.finished k))
      × ((run m s es).world ≡ in_order m s.world ended)
