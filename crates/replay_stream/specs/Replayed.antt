-- The model: what a replay has run that takes a record at a time.
use Rattle.std.specs.Prelude.{◌≡◌, ◌⊎◌, ℕ, List, [], ◌∷◌, ◌++◌}
use Rattle.trace_records.specs.declared.record.Record.{Record}
use Rattle.trace_records.specs.declared.start.Start.{Start}
use Rattle.recording.specs.declared.recording.Recording.{Recording}
use Rattle.recording.specs.Fronts.{IsOfFront, IsSpelledFront}
use Rattle.recording.specs.Growing.{let_go}
use Rattle.recording.specs.Steps.{places}
use Rattle.world_parts.specs.Sweeping.{swept}
use Rattle.world_parts.specs.World.{World}
use Rattle.op_meaning.specs.declared.reply.Reply.{Reply}
use Rattle.op_meaning.specs.Step.{run_replies}
use Rattle.stream_laws.specs.Streamed.{at_hand, gone, place_behind, recording_of}
use Rattle.sweep_laws.specs.Swept.{IsSweptBehind}
use Rattle.replay_stream.specs.declared.replaying.Replaying.{Replaying}

-- A world is another one, or that without what nothing leads to.
pub record MayLack (started : ℕ) (s w : World) : Type 0 where
  pub is : (w ≡ s) ⊎ (w ≡ swept started s)

-- The records so far were run: the recording is theirs, whose steps may be let go, and the world has what something leads to of that of the sequential run behind them.
pub record HasRun (b : Start) (front : List Record) (p : Replaying) : Type 0 where
  pub recording : IsOfFront p.recording b front
  pub gone : let_go p.recording ≡ gone b front
  pub state : IsSweptBehind b front p.state

-- The replies are those of the sequential run, from a place on.
abbrev pub AreReplies : Recording → (first end : ℕ) → List Reply → Type 0
AreReplies u first end replies = run_replies u first ++ replies ≡ run_replies u end

-- So was the next one, which is at hand. Whatever comes behind it, its replies are those of the sequential run of the whole.
pub record HasRunNext (b : Start) (front : List Record) (r : Record) (p : Replaying) : Type 0 where
  pub run : HasRun b (front ++ r ∷ []) p
  pub at_hand : p.recording ≡ at_hand b front r
  pub first : p.first ≡ place_behind b front
  pub replies : (back : List Record) → AreReplies (recording_of b (front ++ r ∷ back)) p.first (places p.recording) p.replies

-- Some records were run, and the next one may come behind them.
abbrev pub MayRun : Replaying → Record → Type 0
MayRun p r = (b : Start) × (front : List Record) × HasRun b front p × IsSpelledFront b (front ++ r ∷ [])

-- Some record was run last.
abbrev pub HasRunSome : Replaying → Type 0
HasRunSome p = (b : Start) × (front : List Record) × (r : Record) × HasRunNext b front r p
