-- A law: a replay that lets go of each record that it has run gives what the sequential run of the whole trace gives.
use Rattle.std.specs.Prelude.{◌≡◌, ℕ, ◌+◌, ◌-◌, ◌<◌, ◌≤◌, List, [], ◌∷◌, ◌++◌}
use Rattle.trace_records.specs.declared.record.Record.{Record}
use Rattle.trace_records.specs.declared.start.Start.{Start}
use Rattle.recording.specs.declared.recording.Recording.{Recording}
use Rattle.recording.specs.Accepted.{IsAccepted}
use Rattle.recording.specs.Growing.{let_go, of_start}
use Rattle.recording.specs.Steps.{places}
use Rattle.chain_plan.specs.Stretch.{IsApart, chains_ahead}
use Rattle.world_parts.specs.World.{World}
use Rattle.world_parts.specs.Start.{start}
use Rattle.op_meaning.specs.Step.{step_reply, step_world, run_world, run_replies, sequential_reply, sequential_world}
use Rattle.stream_laws.specs.Standing.{StandsFor, Follows}
use Rattle.stream_laws.specs.Streamed.{recording_of, gone, at_hand, place_behind, replies_from, world_before, world_within}

-- A place gives the same reply in both recordings, and worlds that follow one another.
pub record IsAlike (v u : Recording) (first k : ℕ) (s w : World) : Type 0 where
  pub reply : step_reply v k s ≡ step_reply u k w
  pub world : Follows v u first (step_world v k s) (step_world u k w)

-- So it is wherever a recording stands for another.
abbrev pub PlacesAreAlike : Type 0
PlacesAreAlike = (v u : Recording) (first k : ℕ) (s w : World) → StandsFor v u first → IsAccepted v → first ≤ k → k < places v → Follows v u first s w → IsAlike v u first k s w

-- A world stands for the sequential run, behind these records, of each trace that begins with them.
abbrev pub IsBehind : Start → List Record → World → Type 0
IsBehind b front s = (back : List Record) → let u = recording_of b (front ++ back) in Follows (gone b front) u (place_behind b front) s (run_world u (place_behind b front))

-- A replay begins with the world of the start.
abbrev pub StreamBegins : Type 0
StreamBegins = (b : Start) → (of_start b ≡ gone b []) × IsBehind b [] (start (of_start b))

-- The places of the record at hand give the replies of the sequential run, whatever comes behind the record.
abbrev pub StreamReplies : Type 0
StreamReplies = (b : Start) (front back : List Record) (r : Record) (s : World) (i : ℕ) → IsAccepted (at_hand b front r) → IsBehind b front s → place_behind b front + i < places (at_hand b front r)
    → step_reply (at_hand b front r) (place_behind b front + i) (world_within b front r s i) ≡ sequential_reply (recording_of b (front ++ r ∷ back)) (place_behind b front + i)

-- So all of them, in order, are the replies of these places.
abbrev pub RepliesAreInOrder : Type 0
RepliesAreInOrder = (b : Start) (front back : List Record) (r : Record) (s : World) → IsAccepted (at_hand b front r) → IsBehind b front s
    → let u = recording_of b (front ++ r ∷ back) in let first = place_behind b front in let end = places (at_hand b front r) in
    run_replies u first ++ replies_from (at_hand b front r) first (end - first) (world_before b front r s) ≡ run_replies u end

-- The record at hand stands for each trace that has it behind the same records.
abbrev pub RecordStands : Type 0
RecordStands = (b : Start) (front back : List Record) (r : Record) → StandsFor (at_hand b front r) (recording_of b (front ++ r ∷ back)) (place_behind b front)

-- The record at hand with its steps let go is one of the records before the next.
abbrev pub RecordIsLetGo : Type 0
RecordIsLetGo = (b : Start) (front : List Record) (r : Record) → let_go (at_hand b front r) ≡ gone b (front ++ r ∷ [])

-- No chain goes on over the first place of the record at hand, and each place before it is a chain of its own.
abbrev pub RecordIsAlone : Type 0
RecordIsAlone = (b : Start) (front : List Record) (r : Record) → IsApart (at_hand b front r) (place_behind b front) × (chains_ahead (at_hand b front r) (place_behind b front) ≡ place_behind b front)

-- When all places of the record have run, and it is let go, the world stands for the sequential run behind it.
abbrev pub StreamGoesOn : Type 0
StreamGoesOn = (b : Start) (front : List Record) (r : Record) (s : World) → IsAccepted (at_hand b front r) → IsBehind b front s
    → IsBehind b (front ++ r ∷ []) (world_within b front r s (places (at_hand b front r) - place_behind b front))

-- Two worlds are equal in all but which chains broke: so in all that a report shows.
pub record ShowAlike (s w : World) : Type 0 where
  pub nodes : s.nodes ≡ w.nodes
  pub descriptions : s.descriptions ≡ w.descriptions
  pub slots : s.slots ≡ w.slots
  pub descriptors : s.descriptors ≡ w.descriptors
  pub buffers : s.buffers ≡ w.buffers

-- At the end of a trace the world is that of the sequential run.
abbrev pub StreamEnds : Type 0
StreamEnds = (b : Start) (records : List Record) (s : World) → IsBehind b records s → ShowAlike s (sequential_world (recording_of b records))
