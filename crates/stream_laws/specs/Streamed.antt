-- The model: the replay of a trace of version 3 that has one record at hand, and lets go of the steps of the records before it.
use Rattle.std.specs.Prelude.{ℕ, zero, suc, ◌+◌, List, [], ◌∷◌, ◌++◌, length, None, Some}
use Rattle.std.specs.List.{slice_get}
use Rattle.sqe_codec.specs.Answers.{each}
use Rattle.trace_records.specs.declared.record.Record.{Record}
use Rattle.trace_records.specs.declared.start.Start.{Start}
use Rattle.recording.specs.declared.recording.Recording.{Recording}
pub use Rattle.recording.specs.Fronts.{front as recording_of}
use Rattle.recording.specs.Growing.{let_go, with_next}
use Rattle.recording.specs.Steps.{places}
use Rattle.world_parts.specs.World.{World}
use Rattle.world_parts.specs.Start.{buffers_from}
use Rattle.op_meaning.specs.declared.reply.Reply.{Reply}
use Rattle.op_meaning.specs.Step.{step_reply, step_world}

-- The recording of a start and some records once all its steps are let go; and the same with one more record, which is at hand.
abbrev pub gone : Start → List Record → Recording
gone b front = let_go (recording_of b front)

abbrev pub at_hand : Start → List Record → Record → Recording
at_hand b front r = with_next (gone b front) r

-- The place of the first step behind some records.
abbrev pub place_behind : Start → List Record → ℕ
place_behind b front = places (recording_of b front)

-- The world with the buffers of the ring of a number, if there is one.
abbrev pub with_ring_of : Recording → ℕ → World → World
with_ring_of t n s = elim (slice_get t.rings n) [ None ↦ s | Some ring ↦ record s { buffers = buffers_from n 0 ring.buffers s.buffers } ]

-- The world after some places of a recording, the first of which is at a place.
abbrev pub world_from : Recording → (first count : ℕ) → World → World
world_from t first zero s = s
world_from t first (suc n) s = step_world t (first + n) (world_from t first n s)

-- The replies of these places, in order.
abbrev pub replies_from : Recording → (first count : ℕ) → World → List Reply
replies_from t first zero s = []
replies_from t first (suc n) s = replies_from t first n s ++ each (λ reply. reply ∷ []) (step_reply t (first + n) (world_from t first n s))

-- The world as the record at hand comes, on that which the records before it leave: with the buffers of its ring, if it starts one.
abbrev pub world_before : Start → List Record → Record → World → World
world_before b front r s = with_ring_of (at_hand b front r) (length (gone b front).rings) s

-- The world after its first places.
abbrev pub world_within : Start → List Record → Record → World → (count : ℕ) → World
world_within b front r s n = world_from (at_hand b front r) (place_behind b front) n (world_before b front r s)
