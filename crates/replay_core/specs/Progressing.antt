-- A helper: what a replay has after so many rounds, and while a round runs.
use Rattle.std.specs.Prelude.{◌≡◌, ℕ, ◌+◌, ◌-◌, ◌<◌, ◌≤◌, ◌⊎◌, Bool, true, List, ◌++◌, map, filter, length, Option, Some, None, slice_get, if◌then◌else◌, ◌==◌, [], ◌∷◌}
use Rattle.std.specs.List.{range_with_len}
use Rattle.finite_maps.specs.Table.{get}
use Rattle.interleaving.specs.Machine.{State, has, reply_of}
use Rattle.interleaving.specs.Rounds.{pending}
use Rattle.recording.specs.declared.recording.Recording.{Recording}
use Rattle.recording.specs.Steps.{places}
use Rattle.world_parts.specs.World.{World}
use Rattle.world_parts.specs.Items.{Footprint}
use Rattle.world_parts.specs.Part.{Part, Divided, whole}
use Rattle.world_parts.specs.Cutting.{holed_by}
use Rattle.op_meaning.specs.declared.reply.Reply.{Reply}
use Rattle.foot_print.specs.Footprint.{footprint}
use Rattle.foot_print.specs.Replayed.{replayed}
use Rattle.foot_print.specs.Parts.{AreReady, footprints}
use Rattle.round_scheduler.specs.declared.telling.Held.{Held}
use Rattle.wave_pick.specs.declared.wave.Wave.{Wave}
use Rattle.wave_pick.specs.Picking.{chosen_at}
use Rattle.wave_pick.specs.Rounds.{state_after, wave_after, round_of, waves}
use Rattle.round_scheduler.specs.Scheduling.{Remembers}
use Rattle.round_scheduler.specs.Telling.{has_number, held_among, held_meant}
use Rattle.replay_core.specs.declared.run.Run.{Run}
use Rattle.replay_core.specs.declared.progress.Progress.{Progress}
use Rattle.replay_core.specs.Jobs.{AreOf}

-- What is kept of each place: its reply and its round where it has finished in the machine's state.
pub record Keeps (t : Recording) (window : ℕ) (x : State (replayed t)) (replies : List Reply) (rounds_of : List ℕ) (done : List Bool) : Type 0 where
  pub many_replies : length replies ≡ places t
  pub many_rounds : length rounds_of ≡ places t
  pub many_done : length done ≡ places t
  pub finished : (k : ℕ) (o : Option Reply) → k < places t → reply_of x.replies k ≡ Some o → (slice_get replies k ≡ o) × (slice_get rounds_of k ≡ Some (round_of (waves t window) k))
  pub is_done : (k : ℕ) → k < places t → slice_get done k ≡ Some (has x.finished k)

-- The first unfinished places, as many as the window has, and the place from which on all are unfinished.
pub record IsFront (t : Recording) (window : ℕ) (x : State (replayed t)) (front : List ℕ) (next : ℕ) : Type 0 where
  pub within : next ≤ places t
  pub all : pending (has x.finished) (places t) ≡ front ++ range_with_len next (places t - next)
  pub below : (k : ℕ) → has front k ≡ true → k < next
  pub few : length front ≤ window
  pub full : (length front ≡ window) ⊎ (next ≡ places t)

-- What a replay keeps of each place after r rounds.
abbrev pub KeptAfter : Recording → ℕ → Progress → Type 0
KeptAfter t r p = Keeps t p.window (state_after t p.window r) p.replies p.rounds.items p.done.items

-- Its scheduler has picked the first r rounds, and remembers what it has to for the next one.
abbrev pub HasPicked : Recording → ℕ → Progress → Type 0
HasPicked t r p = (p.scheduler.round ≡ r) × Remembers t p.window p.scheduler

-- Neither the round has changed, nor the places that it looks at, nor what is known of them.
abbrev pub IsSameRound : Progress → Progress → Type 0
IsSameRound old new = (new.window ≡ old.window) × (new.round ≡ old.round) × (new.front.items ≡ old.front.items) × (new.next ≡ old.next) × (new.scheduler ≡ old.scheduler)

-- What a replay has after its rounds so far.
pub record Stands (t : Recording) (p : Progress) : Type 0 where
  pub window : 1 ≤ p.window
  pub world : p.world ≡ whole (state_after t p.window p.round).world
  pub keeps : KeptAfter t p.round p
  pub front : IsFront t p.window (state_after t p.window p.round) p.front.items p.next
  pub picked : HasPicked t p.round p

-- It stands, and its next round has been picked.
pub record IsReady (t : Recording) (p : Progress) : Type 0 where
  pub window : 1 ≤ p.window
  pub world : p.world ≡ whole (state_after t p.window p.round).world
  pub keeps : KeptAfter t p.round p
  pub front : IsFront t p.window (state_after t p.window p.round) p.front.items p.next
  pub picked : HasPicked t (p.round + 1) p

-- Of the places that the round looks at, those whose number in a list is that of the round after it and that something blocks, each with its holder.
abbrev pub HasTold : Recording → List ℕ → Progress → List Held → Type 0
HasTold t numbers p held = map held_meant held ≡ held_among t (state_after t p.window p.round) (filter (has_number numbers (p.round + 1)) p.front.items)

-- A round begins: no part of the world is out, and what is kept is as the rounds before it left it.
pub record Begins (t : Recording) (p : Progress) : Type 0 where
  pub world : p.world ≡ whole (state_after t p.window p.round).world
  pub keeps : KeptAfter t p.round p

-- The places of the round that begins, each with its access set.
abbrev pub HasChosen : Recording → Progress → Wave → Type 0
HasChosen t p wave = wave.places ≡ map (chosen_at t (state_after t p.window p.round).world) (wave_after t p.window p.round)

-- Its places have run: the world is as the round leaves it, and their replies are kept.
pub record HasRun (t : Recording) (old new : Progress) : Type 0 where
  pub world : new.world ≡ whole (state_after t old.window (old.round + 1)).world
  pub keeps : KeptAfter t (old.round + 1) new
  pub rest : IsSameRound old new

-- The parts of the jobs.
abbrev pub parts_of : List Run → List Part
parts_of jobs = map (λ (run : Run). run.part) jobs

-- The access set of the part that is out for a place, if one is.
abbrev pub out_for : Recording → World → List Part → ℕ → Option Footprint
out_for t s [] k = None
out_for t s (p ∷ ps) k = if k == p.place then Some (footprint t p.place s) else out_for t s ps k

-- Of a world s these parts are out and have yet to be put back, while the places before them have led to the world u.
pub record AreOut (t : Recording) (s u : World) (ps : List Part) (d : Divided) : Type 0 where
  pub ready : AreReady t s u ps
  pub world : d.world ≡ holed_by (footprints t s ps) u
  pub out : (k : ℕ) → get d.out k ≡ out_for t s ps k

-- The jobs of a round: its places in order, each with its part, all cut out of the world.
pub record AreDealt (t : Recording) (window r : ℕ) (jobs : List Run) (d : Divided) : Type 0 where
  pub trace : AreOf t jobs
  pub wave : map (λ (p : Part). p.place) (parts_of jobs) ≡ wave_after t window r
  pub out : AreOut t (state_after t window r).world (state_after t window r).world (parts_of jobs) d
