-- A view of code: what a scheduler keeps of the places that wait, and what it has seen of a round.
use Rattle.std.specs.Prelude.{◌≡◌, ◌≢◌, ℕ, suc, ◌<◌, Bool, true, false, ◌||◌, T, ◌⊎◌, List, [], map, take, length, slice_get, Some}
use Rattle.std.specs.Option.{option_map}
use Rattle.std.proofs.Math.ListN.{set}
use Rattle.interleaving.specs.System.{is_clear}
use Rattle.interleaving.specs.Machine.{has}
use Rattle.interleaving.specs.Rounds.{pending}
use Rattle.interleaving.specs.Gather.{AllDifferent}
use Rattle.recording.specs.declared.recording.Recording.{Recording}
use Rattle.recording.specs.Steps.{places}
use Rattle.world_parts.specs.World.{World}
use Rattle.world_parts.specs.Items.{Item, Footprint}
use Rattle.foot_print.specs.Replayed.{replayed}
use Rattle.item_index.specs.Ahead.{touched, touched_before, written, written_before}
use Rattle.item_index.specs.Touching.{touched_by, touches_item, written_by, writes_item}
use Rattle.item_index.specs.declared.ahead.Ahead.{Ahead}
use Rattle.item_index.specs.declared.behind.Behind.{Behind}
use Rattle.wave_pick.specs.Picking.{free_from}
use Rattle.wave_pick.specs.Resting.{RestsOnAll}
use Rattle.wave_pick.specs.Rounds.{state_after}
use Rattle.wave_pick.specs.Holds.{Waits, world_after, footprint_after, reaches_after, reach_after}
use Rattle.wave_pick.specs.declared.wave.Chosen.{Chosen}
use Rattle.round_scheduler.specs.declared.scheduler.Scheduler.{Scheduler}
use Rattle.round_scheduler.specs.declared.scheduler.Rest.{Rest}
use Rattle.round_scheduler.specs.declared.scheduler.View.{View}

-- A place is to be looked at.
abbrev pub IsAgain : Scheduler → ℕ → Type 0
IsAgain s k = slice_get s.again.items k ≡ Some true

-- The table has this may-access set of a place.
abbrev pub HasReach : Scheduler → ℕ → Footprint → Type 0
HasReach s k f = slice_get s.reaches.items k ≡ Some (Some f)

-- A place is listed among those that rest on another one.
pub record IsListed (s : Scheduler) (i k : ℕ) : Type 0 where
  pub list : List ℕ
  pub at : option_map (λ v. v.items) (slice_get s.resting.items i) ≡ Some list
  pub has_it : has list k ≡ true

-- After r rounds a place rests on some earlier ones that wait.
pub record RestsOnThese (t : Recording) (window r : ℕ) (on : List ℕ) (k : ℕ) : Type 0 where
  pub before : (i : ℕ) → has on i ≡ true → (i < k) × Waits t window r i
  pub rests : RestsOnAll t window r on k

-- It is listed with each of them.
pub record RestsListed (t : Recording) (window r k : ℕ) (s : Scheduler) : Type 0 where
  pub on : List ℕ
  pub these : RestsOnThese t window r on k
  pub listed : (i : ℕ) → has on i ≡ true → IsListed s i k

-- What is known of a place in the round after r others: its may-access set there, and, unless it is to be looked at again, on which places it rests.
pub record IsKnown (t : Recording) (window r k : ℕ) (s : Scheduler) : Type 0 where
  pub reach : HasReach s k (reach_after t window r k)
  pub rests : IsAgain s k ⊎ RestsListed t window r k s

-- An index has all that an access set writes and touches.
pub record Covers (ahead : Ahead) (f : Footprint) : Type 0 where
  pub writes : (x : Item) → T (writes_item f x) → T (written ahead x)
  pub touches : (x : Item) → T (touches_item f x) → T (touched ahead x)

-- In the round after the last one a place that was seen then rests still while it isn't known that the may-access set of one of the others has changed; unless the index is made anew, it has its may-access set.
pub record RestsStill (t : Recording) (window q k : ℕ) (exact : Bool) (s : Scheduler) : Type 0 where
  pub last : ℕ
  pub next : q ≡ suc last
  pub by : RestsListed t window last k s
  pub reach : HasReach s k (reach_after t window last k)
  pub others_wait : (i : ℕ) → has by.on i ≡ true → Waits t window (suc last) i
  pub other_reaches : (i : ℕ) → has by.on i ≡ true → HasReach s i (reach_after t window last i)
  pub within : length (pending (has (state_after t window last).finished) k) < window
  pub covered : exact ≡ false → Covers s.ahead (reach_after t window last k)

-- There is room for what is kept of so many places.
pub record HasRoom (n : ℕ) (s : Scheduler) : Type 0 where
  pub reaches : length s.reaches.items ≡ n
  pub again : length s.again.items ≡ n
  pub resting : length s.resting.items ≡ n

-- What a scheduler has between two rounds: each place that waits is to be looked at, or rests.
pub record Remembers (t : Recording) (window : ℕ) (s : Scheduler) : Type 0 where
  pub room : HasRoom (places t) s
  pub each : (k : ℕ) → k < places t → Waits t window s.round k → IsAgain s k ⊎ RestsStill t window s.round k false s

-- In the world after q rounds these are the first places that wait.
pub record AreFirst (t : Recording) (window : ℕ) (w : World) (q : ℕ) (ks : List ℕ) : Type 0 where
  pub world : w ≡ world_after t window q
  pub first : ks ≡ take window (pending (has (state_after t window q).finished) (places t))

-- The table has these may-access sets of these places.
abbrev pub HaveReaches : Scheduler → List ℕ → List Footprint → Type 0
HaveReaches s ks fs = map (slice_get s.reaches.items) ks ≡ map (λ f. Some (Some f)) fs

-- The index has these may-access sets: alone, or with others.
pub record IsIndex (s : Scheduler) (reaches : List Footprint) : Type 0 where
  pub alone : s.exact ≡ true → ((x : Item) → written s.ahead x ≡ written_by reaches x) × ((x : Item) → touched s.ahead x ≡ touched_by reaches x)
  pub among : s.exact ≡ false → (y : ℕ) (g : Footprint) → slice_get reaches y ≡ Some g → Covers s.ahead g

-- What these may-access sets touch and write is before a place.
pub record IsBehind (reaches : List Footprint) (b : Behind) : Type 0 where
  pub writes : (x : Item) → written_before b x ≡ written_by reaches x
  pub touches : (x : Item) → touched_before b x ≡ touched_by reaches x

-- A place that waits after q rounds, and the places that wait before it, whose may-access sets the table has.
pub record AreBefore (t : Recording) (window q k : ℕ) (earlier : List ℕ) (s : Scheduler) : Type 0 where
  pub waits : Waits t window q k
  pub places_are : earlier ≡ pending (has (state_after t window q).finished) k
  pub reaches_are : HaveReaches s earlier (map (reach_after t window q) earlier)

-- What is seen of a place after q rounds.
pub record IsView (t : Recording) (window q k : ℕ) (v : View) : Type 0 where
  pub reach : v.reach ≡ reach_after t window q k
  pub rests : (r : Rest) → v.rest ≡ Some r → RestsOnThese t window q r.on.items k
  pub free : v.free ≡ is_clear (replayed t) (footprint_after t window q k) (reaches_after t window q k)

-- A look at a place: where the index has the may-access sets before it, what is seen of it is right.
abbrev pub Sees : Recording → World → ℕ → List ℕ → Scheduler → View → Type 0
Sees t w k earlier s v = (window : ℕ) → w ≡ world_after t window s.round → AreBefore t window s.round k earlier s → IsIndex s (map (reach_after t window s.round) earlier) → IsView t window s.round k v

-- What is known after q rounds once these places have been looked at, or passed over, and which of them are free.
pub record HaveSeen (t : Recording) (window q : ℕ) (ks : List ℕ) (s : Scheduler) (free : List ℕ) : Type 0 where
  pub index : IsIndex s (map (reach_after t window q) ks)
  pub seen : (k : ℕ) → has ks k ≡ true → IsKnown t window q k s
  pub others : (k : ℕ) → k < places t → Waits t window q k → has ks k ≡ false → IsAgain s k ⊎ RestsStill t window q k s.exact s
  pub free_are : free ≡ free_from t (world_after t window q) [] ks

-- Looks over the first places that wait.
abbrev pub LooksOver : Recording → World → List ℕ → Scheduler → Scheduler → List ℕ → Type 0
LooksOver t w first s later free = (window : ℕ) → AreFirst t window w s.round first → HaveSeen t window s.round [] s [] → HaveSeen t window s.round first later free

-- The number of rounds, and how much room there is, are as they were.
pub record IsSameRound (s later : Scheduler) : Type 0 where
  pub round : later.round ≡ s.round
  pub reaches : length later.reaches.items ≡ length s.reaches.items
  pub again : length later.again.items ≡ length s.again.items
  pub resting : length later.resting.items ≡ length s.resting.items

-- An index has one may-access set more.
pub record AddsReach (before after : Ahead) (f : Footprint) : Type 0 where
  pub writes : (x : Item) → written after x ≡ (written before x || writes_item f x)
  pub touches : (x : Item) → touched after x ≡ (touched before x || touches_item f x)

-- The index is as it was, or made anew of the may-access sets of the places before: it has these still, and is exact then.
pub record Freshens (earlier : List ℕ) (s later : Scheduler) : Type 0 where
  pub index : (reaches : List Footprint) → HaveReaches s earlier reaches → IsIndex s reaches → IsIndex later reaches
  pub others : later.exact ≡ false → (s.exact ≡ false) × (later.ahead ≡ s.ahead)
  pub rest : later ≡ record s { ahead = later.ahead; exact = later.exact; added = later.added }

-- A place is passed over: an index that is exact has its may-access set more, another one stays.
pub record Passes (k : ℕ) (s later : Scheduler) : Type 0 where
  pub exact : s.exact ≡ true → (f : Footprint) → HasReach s k f → AddsReach s.ahead later.ahead f
  pub others : s.exact ≡ false → later.ahead ≡ s.ahead
  pub rest : later ≡ record s { ahead = later.ahead; added = later.added }

-- These places are to be looked at, and those that were are still.
pub record Flags (ks : List ℕ) (again later : List Bool) : Type 0 where
  pub many : length later ≡ length again
  pub still : (k : ℕ) → slice_get again k ≡ Some true → slice_get later k ≡ Some true
  pub these : (k : ℕ) → has ks k ≡ true → k < length again → slice_get later k ≡ Some true

-- Those that are listed with a place are to be looked at; the lists of the others stay.
pub record Wakes (i : ℕ) (s later : Scheduler) : Type 0 where
  pub many_again : length later.again.items ≡ length s.again.items
  pub many_resting : length later.resting.items ≡ length s.resting.items
  pub still : (k : ℕ) → IsAgain s k → IsAgain later k
  pub woken : (k : ℕ) → IsListed s i k → k < length s.again.items → IsAgain later k
  pub others : (j : ℕ) → j ≢ i → slice_get later.resting.items j ≡ slice_get s.resting.items j
  pub rest : later ≡ record s { again = later.again; resting = later.resting }

-- The table has a new may-access set of a place; those that are listed with it are to be looked at, unless it had that may-access set.
pub record Renews (i : ℕ) (f : Footprint) (s later : Scheduler) : Type 0 where
  pub reaches : later.reaches.items ≡ set s.reaches.items i (Some f)
  pub many_again : length later.again.items ≡ length s.again.items
  pub many_resting : length later.resting.items ≡ length s.resting.items
  pub still : (k : ℕ) → IsAgain s k → IsAgain later k
  pub woken : (k : ℕ) → IsListed s i k → k < length s.again.items → IsAgain later k ⊎ (HasReach s i f × IsListed later i k)
  pub others : (j : ℕ) → j ≢ i → slice_get later.resting.items j ≡ slice_get s.resting.items j
  pub rest : later ≡ record s { reaches = later.reaches; again = later.again; resting = later.resting }

-- A place is to be looked at still if it was, or is listed with those on which it rests; other lists and places stay.
pub record Lists (k : ℕ) (on : List ℕ) (s later : Scheduler) : Type 0 where
  pub many_again : length later.again.items ≡ length s.again.items
  pub many_resting : length later.resting.items ≡ length s.resting.items
  pub still : (j : ℕ) → j ≢ k → IsAgain s j → IsAgain later j
  pub listed : (i j : ℕ) → IsListed s i j → IsListed later i j
  pub rests : (IsAgain s k → IsAgain later k) ⊎ ((i : ℕ) → has on i ≡ true → IsListed later i k)
  pub rest : later ≡ record s { again = later.again; resting = later.resting }

-- What is seen of a place is kept.
pub record Keeps (k : ℕ) (v : View) (s later : Scheduler) : Type 0 where
  pub same : IsSameRound s later
  pub exact : later.exact ≡ s.exact
  pub index : AddsReach s.ahead later.ahead v.reach
  pub reaches : later.reaches.items ≡ set s.reaches.items k (Some v.reach)
  pub still : (j : ℕ) → j ≢ k → IsAgain s j → IsAgain later j
  pub listed : (i j : ℕ) → i ≢ k → IsListed s i j → IsListed later i j
  pub woken : (j : ℕ) → j ≢ k → j < length s.again.items → IsListed s k j → IsAgain later j ⊎ (HasReach s k v.reach × IsListed later k j)
  pub rests : (IsAgain s k → IsAgain later k) ⊎ ((r : Rest) × ((v.rest ≡ Some r) × ((i : ℕ) → has r.on.items i ≡ true → IsListed later i k)))

-- The places that run are given with their may-access sets, and those that are listed with one of them are to be looked at; what is kept of others stays.
pub record Releases (free : List ℕ) (s later : Scheduler) (chosen : List Chosen) : Type 0 where
  pub same : IsSameRound s later
  pub ahead : later.ahead ≡ s.ahead
  pub still : (k : ℕ) → IsAgain s k → IsAgain later k
  pub woken : (i k : ℕ) → has free i ≡ true → IsListed s i k → k < length s.again.items → IsAgain later k
  pub others : (i : ℕ) → has free i ≡ false → (slice_get later.reaches.items i ≡ slice_get s.reaches.items i) × (slice_get later.resting.items i ≡ slice_get s.resting.items i)
  pub chosen_are : (reach : ℕ → Footprint) → AllDifferent free → ((k : ℕ) → has free k ≡ true → HasReach s k (reach k)) → chosen ≡ map (λ k. record { place = k; footprint = reach k }) free
