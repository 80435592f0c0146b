-- A law: may-access sets by rows, what a place may touch at first in full, then as the places before it settle what it looks up.
use Rattle.std.specs.Prelude.{◌≡◌, ℕ, Bool, true, false, if◌then◌else◌, List}
use Rattle.interleaving.specs.System.{System, AgreeOn, Holds, NoneWrites, DifferOnlyBy, Thinner}

-- the rows of a system: for each place, the access sets that it has by what is known of it
pub record Rows (m : System) : Type 1 where
  -- what a place looks up before it knows what to touch, the atoms that tell it, and what it finds in a world
  pub Look : Type 0
  pub sees : Look → m.Atom → Bool
  pub look : ℕ → m.World → Look
  -- whether the place is called off in the world, and gives its reply without running
  pub canceled : ℕ → m.World → Bool
  -- the access set of a place that is called off, and of one that runs
  pub bare : ℕ → m.Footprint
  pub row : ℕ → m.World → m.Footprint
  -- the access set that it has at most, with these may-access sets before it: given what it looks up, and given nothing
  pub accepted : ℕ → m.World → List m.Footprint → m.Footprint
  pub wide : ℕ → m.World → List m.Footprint → m.Footprint
  -- whether one of the may-access sets writes what may call the place off, what it looks up, or something of the access set
  pub waits : ℕ → List m.Footprint → Bool
  pub unresolved : Look → List m.Footprint → Bool
  pub disturbed : m.Footprint → List m.Footprint → Bool
  -- whatever is looked up has its number from the start or from an earlier place
  pub Bounded : ℕ → Look → Type 0

module _ (m : System) (r : Rows m) where
  -- the place isn't called off, or may yet not be
  abbrev pub runs : ℕ → m.World → List m.Footprint → Bool
  runs j s rs = if r.waits j rs then true else (if r.canceled j s then false else true)

  -- what a place that runs may touch: all, all that its look-up leaves open, or its row
  abbrev pub running_reach : ℕ → m.World → List m.Footprint → m.Footprint
  running_reach j s rs = if r.unresolved (r.look j s) rs then r.wide j s rs else (if r.disturbed (r.row j s) rs then r.accepted j s rs else r.row j s)

  -- what a place may touch once places with these may-access sets have run
  abbrev pub reach_by_rows : ℕ → m.World → List m.Footprint → m.Footprint
  reach_by_rows j s rs = if runs j s rs then running_reach j s rs else r.bare j

  -- what a place touches in the world
  abbrev pub foot_by_rows : ℕ → m.World → m.Footprint
  foot_by_rows j s = if r.canceled j s then r.bare j else r.row j s

  -- whatever a place that runs looks up has its number from the start or from an earlier place
  abbrev pub known_by_rows : ℕ → m.World → List m.Footprint → Type 0
  known_by_rows j s rs = runs j s rs ≡ true → r.Bounded j (r.look j s)

  -- worlds in which the place may run
  abbrev pub Ready : ℕ → m.World → Type 0
  Ready j s = m.IsWorld s × m.Unused j s

  -- what the rows of each operation owe
  pub record RowLaws : Type 0 where
    -- whether a place is called off, what it looks up and its row are told by what they touch
    pub canceled_same : (j : ℕ) (s t : m.World) → AgreeOn m (r.bare j) s t → r.canceled j t ≡ r.canceled j s
    pub look_same : (j : ℕ) (s t : m.World) → ((a : m.Atom) → r.sees (r.look j s) a ≡ true → m.value s a ≡ m.value t a) → r.look j t ≡ r.look j s
    pub row_same : (j : ℕ) (s t : m.World) → Ready j s → Ready j t → AgreeOn m (r.row j s) s t → r.row j t ≡ r.row j s
    -- the row has what is looked up, and each access set holds the one that knows more
    pub look_in_row : (j : ℕ) (s : m.World) (a : m.Atom) → r.sees (r.look j s) a ≡ true → m.touches (r.row j s) a ≡ true
    pub row_holds_bare : (j : ℕ) (s : m.World) → Holds m (r.row j s) (r.bare j)
    pub accepted_holds_row : (j : ℕ) (s : m.World) (rs : List m.Footprint) → Holds m (r.accepted j s rs) (r.row j s)
    pub wide_holds_accepted : (j : ℕ) (s : m.World) (rs : List m.Footprint) → r.Bounded j (r.look j s) → Holds m (r.wide j s rs) (r.accepted j s rs)
    -- the two wider access sets are told by what no may-access set writes and what is looked up, or by the row; with fewer may-access sets they hold less
    pub accepted_same : (j : ℕ) (s t : m.World) (rs : List m.Footprint) → r.look j t ≡ r.look j s → DifferOnlyBy m rs s t → r.accepted j t rs ≡ r.accepted j s rs
    pub wide_same : (j : ℕ) (s t : m.World) (rs : List m.Footprint) → DifferOnlyBy m rs s t → r.wide j t rs ≡ r.wide j s rs
    pub accepted_told : (j : ℕ) (s t : m.World) (rs : List m.Footprint) → r.look j t ≡ r.look j s → AgreeOn m (r.row j s) s t → r.accepted j t rs ≡ r.accepted j s rs
    pub wide_told : (j : ℕ) (s t : m.World) (rs : List m.Footprint) → AgreeOn m (r.row j s) s t → r.wide j t rs ≡ r.wide j s rs
    pub accepted_thin : (j : ℕ) (s : m.World) (rs thin : List m.Footprint) → Thinner m thin rs → Holds m (r.accepted j s rs) (r.accepted j s thin)
    pub wide_thin : (j : ℕ) (s : m.World) (rs thin : List m.Footprint) → Thinner m thin rs → Holds m (r.wide j s rs) (r.wide j s thin)
    -- a test that says no tells what no may-access set writes, and says no of fewer may-access sets
    pub waits_no : (j : ℕ) (s t : m.World) (rs : List m.Footprint) → r.waits j rs ≡ false → DifferOnlyBy m rs s t → r.canceled j t ≡ r.canceled j s
    pub unresolved_no : (l : r.Look) (rs : List m.Footprint) (a : m.Atom) → r.unresolved l rs ≡ false → r.sees l a ≡ true → NoneWrites m rs a
    pub disturbed_no : (f : m.Footprint) (rs : List m.Footprint) (a : m.Atom) → r.disturbed f rs ≡ false → m.touches f a ≡ true → NoneWrites m rs a
    pub waits_thin : (j : ℕ) (rs thin : List m.Footprint) → Thinner m thin rs → r.waits j rs ≡ false → r.waits j thin ≡ false
    pub unresolved_thin : (l : r.Look) (rs thin : List m.Footprint) → Thinner m thin rs → r.unresolved l rs ≡ false → r.unresolved l thin ≡ false
    pub disturbed_thin : (f : m.Footprint) (rs thin : List m.Footprint) → Thinner m thin rs → r.disturbed f rs ≡ false → r.disturbed f thin ≡ false

  -- may-access sets by rows hold what is to come, and they and what is known are told by what they touch
  pub record RowsForesee : Type 0 where
    pub reach_holds_foot : (j : ℕ) (s t : m.World) (rs : List m.Footprint) → Ready j s → Ready j t
        → known_by_rows j t rs → DifferOnlyBy m rs s t → Holds m (reach_by_rows j s rs) (foot_by_rows j t)
    pub reach_holds_reach : (j : ℕ) (s t : m.World) (rs thin : List m.Footprint) → Ready j s → Ready j t
        → known_by_rows j t rs → DifferOnlyBy m rs s t → Thinner m thin rs → Holds m (reach_by_rows j s rs) (reach_by_rows j t thin)
    pub reach_same : (j : ℕ) (s t : m.World) (rs : List m.Footprint) → Ready j s → Ready j t
        → known_by_rows j s rs → AgreeOn m (reach_by_rows j s rs) s t → reach_by_rows j t rs ≡ reach_by_rows j s rs
    pub known_same : (j : ℕ) (s t : m.World) (rs : List m.Footprint) → Ready j s → Ready j t
        → known_by_rows j s rs → AgreeOn m (reach_by_rows j s rs) s t → known_by_rows j t rs
    pub known_thinner : (j : ℕ) (s : m.World) (rs thin : List m.Footprint) → Thinner m thin rs → known_by_rows j s rs → known_by_rows j s thin
