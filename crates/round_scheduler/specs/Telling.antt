-- A view of code: which of the first places that wait are blocked, so far as they are asked for, by the may-access sets that a table has of them.
use Rattle.std.specs.Prelude.{◌≡◌, ℕ, Bool, true, false, ◌==◌, List, [], map, filter, find, reverse, slice_get, Option, Some, None}
use Rattle.std.specs.List.{filter_map}
use Rattle.std.specs.Option.{option_map, option_and_then}
use Rattle.interleaving.specs.Machine.{State, has}
use Rattle.interleaving.specs.Rounds.{pending}
use Rattle.recording.specs.declared.recording.Recording.{Recording}
use Rattle.world_parts.specs.World.{World}
use Rattle.world_parts.specs.Items.{Footprint, collide}
use Rattle.world_parts.specs.Uses.{item_meant}
use Rattle.foot_print.specs.Replayed.{replayed}
use Rattle.wave_pick.specs.Holding.{Holder, shared_of, reach_in, holder_in}
use Rattle.wave_pick.specs.Picking.{chosen_at, free_from}
use Rattle.round_scheduler.specs.Scheduling.{AreFirst, HaveSeen, Remembers}
use Rattle.round_scheduler.specs.declared.telling.Held.{Held}
use Rattle.round_scheduler.specs.declared.scheduler.Scheduler.{Scheduler}
use Rattle.wave_pick.specs.declared.wave.Wave.{Wave}

-- The place that is meant, with its holder.
abbrev pub held_meant : Held → ℕ × Holder
held_meant h = (h.place, record { place = h.holder; item = item_meant h.item })

-- A place with its holder, if it has one.
abbrev pub with_holder : ℕ → Option Holder → Option (ℕ × Holder)
with_holder k o = option_map (λ h. (k, h)) o

-- Of these places, in order, those that something blocks, each with its holder.
abbrev pub held_among : (t : Recording) → State (replayed t) → List ℕ → List (ℕ × Holder)
held_among t s ks = filter_map (λ k. with_holder k (holder_in t s k)) ks

-- Whether a number is the one that is asked for.
abbrev pub is_number : ℕ → Option ℕ → Bool
is_number n (Some m) = m == n
is_number n None = false

-- Whether a list has this number of a place.
abbrev pub has_number : List ℕ → ℕ → ℕ → Bool
has_number numbers n k = is_number n (slice_get numbers k)

-- The may-access set that a table has of a place, if it has one.
abbrev pub kept_reach : Option (Option Footprint) → Option Footprint
kept_reach (Some f) = f
kept_reach None = None

-- Whether a may-access set collides with an access set, if there is one.
abbrev pub collides_with : Footprint → Option Footprint → Bool
collides_with f (Some g) = collide f g
collides_with f None = false

-- A table has these may-access sets of these places.
abbrev pub HasReaches : List (Option Footprint) → List ℕ → (ℕ → Footprint) → Type 0
HasReaches table ks reach = (k : ℕ) → has ks k ≡ true → slice_get table k ≡ Some (Some (reach k))

-- The latest of some places whose may-access set collides with an access set, with what the two share.
abbrev pub latest_holder : Footprint → List ℕ → (ℕ → Footprint) → Option Holder
latest_holder f ks reach = option_and_then (λ i. option_map (λ x. record { place = i; item = x }) (shared_of f (reach i))) (find (λ i. collide f (reach i)) (reverse ks))

-- A place with that one of these earlier ones, whose may-access sets a table has.
abbrev pub IsTold : ℕ → Footprint → List ℕ → List (Option Footprint) → Option (ℕ × Holder) → Type 0
IsTold k f earlier table told = (reach : ℕ → Footprint) → HasReaches table earlier reach → told ≡ with_holder k (latest_holder f earlier reach)

-- In each state of the machine with this world, where these are the pending ones of the first n places, and a table has their may-access sets: those of them that are asked for and that something blocks, each with its holder.
abbrev pub AreTold : Recording → World → List ℕ → List (Option Footprint) → (ℕ → Bool) → List Held → Type 0
AreTold t w first table asked held =
    (s : State (replayed t)) (n : ℕ) → w ≡ s.world → first ≡ pending (has s.finished) n → HasReaches table first (reach_in t s) → map held_meant held ≡ held_among t s (filter asked first)

-- What is known before the first look leads to what is known after all.
abbrev pub Surveys : Recording → World → List ℕ → Scheduler → Scheduler → List ℕ → Type 0
Surveys t w first s later free = (window : ℕ) → AreFirst t window w s.round first → Remembers t window s → HaveSeen t window s.round first later free

-- The round of the places that may run: with their access sets, and with what the next round has to know.
pub record IsSettled (t : Recording) (window : ℕ) (w : World) (first : List ℕ) (later : Scheduler) (wave : Wave) : Type 0 where
  pub wave_is : wave.places ≡ map (chosen_at t w) (free_from t w [] first)
  pub remembers : Remembers t window later

abbrev pub Settles : Recording → List ℕ → Scheduler → Scheduler → Wave → Type 0
Settles t free s later wave = (window : ℕ) (w : World) (first : List ℕ) → AreFirst t window w s.round first → HaveSeen t window s.round first s free → IsSettled t window w first later wave
