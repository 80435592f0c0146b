-- The model: places that start and finish, and which orders of that are legal; laws of what they give at the end.
use Rattle.std.specs.Prelude.{◌≡◌, ℕ, ◌<◌, Bool, true, false, if◌then◌else◌, ◌==◌, List, [], ◌∷◌, ◌++◌, Option, Some, None}
use Rattle.interleaving.specs.System.{System, Holds, is_clear, stepped, reaches, sequential}

-- a place starts, or it finishes
pub data Event : Type 0 where
  Start : ℕ → Event
  Finish : ℕ → Event

-- whether the list has the number
abbrev pub has : List ℕ → ℕ → Bool
has [] k = false
has (j ∷ js) k = if k == j then true else has js k

-- the reply that was kept for the place
abbrev pub reply_of : {R : Type 0} → List (ℕ × R) → ℕ → Option R
reply_of [] k = None
reply_of (p ∷ ps) k = if k == p.0 then Some p.1 else reply_of ps k

-- the world of the finished places, which places have started and finished, and their replies
pub record State (m : System) : Type 0 where
  pub world : m.World
  pub started : List ℕ
  pub finished : List ℕ
  pub replies : List (ℕ × m.Reply)

module _ (m : System) where
  -- nothing has started
  abbrev pub opening : State m
  opening = record { world = m.start; started = []; finished = []; replies = [] }

  -- a finish applies the step and keeps its reply
  abbrev pub happens : State m → Event → State m
  happens s (Start k) = record { world = s.world; started = k ∷ s.started; finished = s.finished; replies = s.replies }
  happens s (Finish k) = record { world = m.step k s.world; started = s.started; finished = k ∷ s.finished; replies = (k, m.reply k s.world) ∷ s.replies }

  -- one event after another
  abbrev pub run : State m → List Event → State m
  run s [] = s
  run s (e ∷ es) = run (happens s e) es

  -- the access set of the place collides with the may-access set of no earlier unfinished place
  abbrev pub is_free : State m → ℕ → Bool
  is_free s k = is_clear m (m.foot k s.world) (reaches m (has s.finished) s.world k)

  -- of n places, one may start that is free, and one may finish that has started
  abbrev pub IsLegal : ℕ → State m → Event → Type 0
  IsLegal n s (Start k) = (k < n) × (has s.started k ≡ false) × (is_free s k ≡ true)
  IsLegal n s (Finish k) = (has s.started k ≡ true) × (has s.finished k ≡ false)

  -- each event is legal when it happens
  abbrev pub AllLegal : ℕ → State m → List Event → Type 0
  AllLegal n s [] = Unit {0}
  AllLegal n s (e ∷ es) = IsLegal n s e × AllLegal n (happens s e) es

  -- all n places have finished
  abbrev pub IsComplete : ℕ → State m → Type 0
  IsComplete n s = (k : ℕ) → k < n → has s.finished k ≡ true

  -- the world and the replies are those of the places run one at a time in order
  abbrev pub IsSequential : ℕ → State m → Type 0
  IsSequential n s = (s.world ≡ sequential m n) × ((k : ℕ) → k < n → reply_of s.replies k ≡ Some (m.reply k (sequential m k)))

  -- every legal and complete list of events gives what one place at a time gives
  abbrev pub EveryOrder : Type 0
  EveryOrder = (n : ℕ) (es : List Event) → AllLegal n opening es → IsComplete n (run opening es) → IsSequential n (run opening es)

  -- a place whose access set always collides with an earlier place's may-access set starts after that place has finished
  abbrev pub KeepsOrder : Type 0
  KeepsOrder = (n i k : ℕ) → i < k → ((s : m.World) (rs : List m.Footprint) → m.collide (m.foot k s) (m.reach i s rs) ≡ true)
      → (before after : List Event) → AllLegal n opening (before ++ (Start k ∷ after)) → has (run opening before).finished i ≡ true

  -- after legal events, the may-access set of an unfinished place holds its access set in each world that some earlier unfinished places, or none, leave
  abbrev pub ReachesHold : Type 0
  ReachesHold = (n : ℕ) (es : List Event) → AllLegal n opening es → let s = run opening es in
      (j : ℕ) → has s.finished j ≡ false → (out : ℕ → Bool) → ((i : ℕ) → has s.finished i ≡ true → out i ≡ true)
      → Holds m (m.reach j s.world (reaches m (has s.finished) s.world j)) (m.foot j (stepped m out s.world j))

  -- no legal event makes a may-access set hold what it didn't hold before
  abbrev pub ReachesShrink : Type 0
  ReachesShrink = (n : ℕ) (es : List Event) (e : Event) → AllLegal n opening (es ++ (e ∷ [])) → let s = run opening es in let t = happens s e in
      (j : ℕ) → has t.finished j ≡ false
      → Holds m (m.reach j s.world (reaches m (has s.finished) s.world j)) (m.reach j t.world (reaches m (has t.finished) t.world j))
