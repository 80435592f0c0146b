-- A law: what a system has to keep. Its access sets cover its steps, and its may-access sets hold every access set to come.
use Rattle.std.specs.Prelude.{◌≡◌, ◌≢◌, ℕ, ◌<◌, true, false, List}
use Rattle.interleaving.specs.System.{System, AgreeOn, Apart, Holds, DifferOnlyBy, Thinner}

-- access sets cover their steps
pub record Cover (m : System) : Type 0 where
  -- a world is what its atoms hold
  pub same_world : (s t : m.World) → m.IsWorld s → m.IsWorld t → ((a : m.Atom) → m.value s a ≡ m.value t a) → s ≡ t
  -- steps lead to worlds, and a place makes nothing but what has its own numbers
  pub start_is_world : m.IsWorld m.start
  pub step_is_world : (k : ℕ) (s : m.World) → m.IsWorld s → m.Unused k s → m.IsWorld (m.step k s)
  pub start_is_before : (j : ℕ) → m.IsBefore j m.start
  pub step_is_before : (j k : ℕ) (s : m.World) → m.IsWorld s → m.Unused k s → k < j → m.IsBefore j s → m.IsBefore j (m.step k s)
  pub before_unused : (j : ℕ) (s : m.World) → m.IsBefore j s → m.Unused j s
  pub step_keeps_unused : (j k : ℕ) (s : m.World) → m.IsWorld s → m.Unused k s → m.Unused j s → j ≢ k → m.Unused j (m.step k s)
  -- two worlds that agree on the access set are alike to the step, and it keeps what it doesn't write
  pub writes_touches : (f : m.Footprint) (a : m.Atom) → m.writes f a ≡ true → m.touches f a ≡ true
  pub foot_same : (k : ℕ) (s t : m.World) → m.IsWorld s → m.IsWorld t → m.Unused k s → m.Unused k t
      → AgreeOn m (m.foot k s) s t → m.foot k t ≡ m.foot k s
  pub reply_same : (k : ℕ) (s t : m.World) → m.IsWorld s → m.IsWorld t → m.Unused k s → m.Unused k t
      → AgreeOn m (m.foot k s) s t → m.reply k t ≡ m.reply k s
  pub values_same : (k : ℕ) (s t : m.World) → m.IsWorld s → m.IsWorld t → m.Unused k s → m.Unused k t
      → AgreeOn m (m.foot k s) s t → AgreeOn m (m.foot k s) (m.step k s) (m.step k t)
  pub others_kept : (k : ℕ) (s : m.World) (a : m.Atom) → m.IsWorld s → m.Unused k s
      → m.writes (m.foot k s) a ≡ false → m.value (m.step k s) a ≡ m.value s a
  -- access sets that don't collide are apart
  pub apart_from_collide : (f g : m.Footprint) → m.collide f g ≡ false → Apart m f g

-- may-access sets hold what is to come
pub record Laws (m : System) : Type 0 where
  pub cover : Cover m
  pub open cover use *
  -- what doesn't collide with an access set doesn't collide with less
  pub collide_held : (f r r₁ : m.Footprint) → Holds m r r₁ → m.collide f r ≡ false → m.collide f r₁ ≡ false
  -- where whatever has a number has it from the start or from an earlier place, so has what the place looks up
  pub before_known : (j : ℕ) (s : m.World) (rs : List m.Footprint) → m.IsWorld s → m.IsBefore j s → m.Known j s rs
  -- that stays so in worlds that agree on the may-access set, and with fewer or smaller may-access sets before the place
  pub known_same : (j : ℕ) (s t : m.World) (rs : List m.Footprint) → m.IsWorld s → m.IsWorld t → m.Unused j s → m.Unused j t
      → m.Known j s rs → AgreeOn m (m.reach j s rs) s t → m.Known j t rs
  pub known_thinner : (j : ℕ) (s : m.World) (rs thin : List m.Footprint) → Thinner m thin rs → m.Known j s rs → m.Known j s thin
  -- the may-access set holds the access set and the may-access set that the place has once some of the places before it have run
  pub reach_holds_foot : (j : ℕ) (s t : m.World) (rs : List m.Footprint) → m.IsWorld s → m.IsWorld t → m.Unused j s → m.Unused j t
      → m.Known j t rs → DifferOnlyBy m rs s t → Holds m (m.reach j s rs) (m.foot j t)
  pub reach_holds_reach : (j : ℕ) (s t : m.World) (rs thin : List m.Footprint) → m.IsWorld s → m.IsWorld t → m.Unused j s → m.Unused j t
      → m.Known j t rs → DifferOnlyBy m rs s t → Thinner m thin rs → Holds m (m.reach j s rs) (m.reach j t thin)
  -- worlds that agree on the may-access set give the same may-access set
  pub reach_same : (j : ℕ) (s t : m.World) (rs : List m.Footprint) → m.IsWorld s → m.IsWorld t → m.Unused j s → m.Unused j t
      → m.Known j s rs → AgreeOn m (m.reach j s rs) s t → m.reach j t rs ≡ m.reach j s rs
