-- A law: places that run side by side in one world, and the world that is gathered from what they wrote.
use Rattle.std.specs.Prelude.{◌≡◌, ◌≢◌, ℕ, Bool, true, false, if◌then◌else◌, List, [], ◌∷◌, map}
use Rattle.interleaving.specs.System.{System, Apart}
use Rattle.interleaving.specs.Machine.{has}

-- no number twice
abbrev pub AllDifferent : List ℕ → Type 0
AllDifferent [] = Unit {0}
AllDifferent (k ∷ ks) = (has ks k ≡ false) × AllDifferent ks

-- the places may run side by side from the world: different ones, each pair apart
pub record SideBySide (m : System) (s : m.World) (ks : List ℕ) : Type 0 where
  pub different : AllDifferent ks
  pub unused : (k : ℕ) → has ks k ≡ true → m.Unused k s
  pub apart : (j k : ℕ) → has ks j ≡ true → has ks k ≡ true → j ≢ k → Apart m (m.foot j s) (m.foot k s)

module _ (m : System) where
  -- the world after the places in the list's order
  abbrev pub in_order : m.World → List ℕ → m.World
  in_order s [] = s
  in_order s (k ∷ ks) = in_order (m.step k s) ks

  -- their replies, each in the world that it meets
  abbrev pub replies_in_order : m.World → List ℕ → List m.Reply
  replies_in_order s [] = []
  replies_in_order s (k ∷ ks) = m.reply k s ∷ replies_in_order (m.step k s) ks

  -- t has what each place's step of s wrote, and all else as in s
  abbrev pub Gathered : m.World → List ℕ → m.World → Type 0
  Gathered s ks t =
      ((k : ℕ) → has ks k ≡ true → (a : m.Atom) → m.writes (m.foot k s) a ≡ true → m.value t a ≡ m.value (m.step k s) a)
      × ((a : m.Atom) → ((k : ℕ) → has ks k ≡ true → m.writes (m.foot k s) a ≡ false) → m.value t a ≡ m.value s a)

  -- places side by side give, gathered, what they give in order, with the replies of the world that they began in
  abbrev pub GatherIsInOrder : Type 0
  GatherIsInOrder = (s : m.World) (ks : List ℕ) → m.IsWorld s → SideBySide m s ks
      → m.IsWorld (in_order s ks)
      × (replies_in_order s ks ≡ map (λ k. m.reply k s) ks)
      × Gathered s ks (in_order s ks)
      × ((t : m.World) → m.IsWorld t → Gathered s ks t → t ≡ in_order s ks)

  -- what is put back after the others: its written atoms as its step of s left them, all else as it stands
  abbrev pub PutsBack : m.World → List ℕ → ℕ → m.World → Type 0
  PutsBack s ks k t =
      ((a : m.Atom) → m.writes (m.foot k s) a ≡ true → m.value t a ≡ m.value (m.step k s) a)
      × ((a : m.Atom) → m.writes (m.foot k s) a ≡ false → m.value t a ≡ m.value (in_order s ks) a)

  -- putting one more part back is one more step
  abbrev pub PutIsStep : Type 0
  PutIsStep = (s : m.World) (ks : List ℕ) (k : ℕ) → m.IsWorld s → SideBySide m s (k ∷ ks)
      → m.IsWorld (m.step k (in_order s ks))
      × PutsBack s ks k (m.step k (in_order s ks))
      × ((t : m.World) → m.IsWorld t → PutsBack s ks k t → t ≡ m.step k (in_order s ks))

  -- v is the world t with holes: it holds what t does, but for what the parts that are out have taken
  abbrev pub AgreesButFor : (ℕ → m.Atom → Bool) → List ℕ → ((a : m.Atom) → m.Value a) → m.World → Type 0
  AgreesButFor taken out v t = (a : m.Atom) → ((j : ℕ) → has out j ≡ true → taken j a ≡ false) → v a ≡ m.value t a

  -- putting a part back, with all that it has taken, fills its hole and is one more step
  abbrev pub PutFills : Type 0
  PutFills = (s : m.World) (ks out : List ℕ) (k : ℕ) (taken : ℕ → m.Atom → Bool) (v w : (a : m.Atom) → m.Value a) → m.IsWorld s → SideBySide m s (k ∷ ks)
      → ((a : m.Atom) → m.writes (m.foot k s) a ≡ true → taken k a ≡ true)
      → ((a : m.Atom) → taken k a ≡ true → m.touches (m.foot k s) a ≡ true)
      → AgreesButFor taken (k ∷ out) v (in_order s ks)
      → ((a : m.Atom) → taken k a ≡ true → w a ≡ m.value (m.step k s) a)
      → ((a : m.Atom) → taken k a ≡ false → w a ≡ v a)
      → AgreesButFor taken out w (m.step k (in_order s ks))

  -- the parts of these places put back one after another, each with all that it has taken, as its step of s left it
  abbrev pub puts : (ℕ → m.Atom → Bool) → m.World → List ℕ → ((a : m.Atom) → m.Value a) → (a : m.Atom) → m.Value a
  puts taken s [] v = v
  puts taken s (k ∷ ks) v = puts taken s ks (λ a. if taken k a then m.value (m.step k s) a else v a)

  -- all parts cut out of a world, stepped and put back: the world stepped in order
  abbrev pub PutsAreInOrder : Type 0
  PutsAreInOrder = (s : m.World) (ks : List ℕ) (taken : ℕ → m.Atom → Bool) (v : (a : m.Atom) → m.Value a) → m.IsWorld s → SideBySide m s ks
      → ((k : ℕ) (a : m.Atom) → has ks k ≡ true → m.writes (m.foot k s) a ≡ true → taken k a ≡ true)
      → ((k : ℕ) (a : m.Atom) → has ks k ≡ true → taken k a ≡ true → m.touches (m.foot k s) a ≡ true)
      → AgreesButFor taken ks v s
      → (a : m.Atom) → puts taken s ks v a ≡ m.value (in_order s ks) a

  -- the same places in another order give the same world
  abbrev pub OrderIsFree : Type 0
  OrderIsFree = (s : m.World) (js ks : List ℕ) → m.IsWorld s → SideBySide m s js → SideBySide m s ks
      → ((k : ℕ) → has js k ≡ has ks k) → in_order s js ≡ in_order s ks
