-- The model: the world of a replay that takes a record at a time and drops what nothing leads to; laws of it.
use Rattle.std.specs.Prelude.{◌≡◌, ◌-◌, List, [], ◌∷◌, ◌++◌, length}
use Rattle.trace_records.specs.declared.record.Record.{Record}
use Rattle.trace_records.specs.declared.start.Start.{Start}
use Rattle.recording.specs.Accepted.{IsAccepted}
use Rattle.recording.specs.Fronts.{IsSpelledFront}
use Rattle.recording.specs.Growing.{of_start}
use Rattle.recording.specs.Steps.{places}
use Rattle.world_parts.specs.Start.{start}
use Rattle.world_parts.specs.Sweeping.{swept}
use Rattle.world_parts.specs.World.{World, IsWorld}
use Rattle.op_meaning.specs.Step.{run_replies, sequential_world}
use Rattle.foot_print.specs.Replayed.{IsBefore}
use Rattle.stream_laws.specs.Laws.{IsBehind, ShowAlike}
use Rattle.stream_laws.specs.Streamed.{at_hand, gone, place_behind, recording_of, replies_from, world_before, world_within}
use Rattle.sweep_laws.specs.Within.{IsWithin}

-- Behind these records, a world has what something leads to of one that stands for the sequential run.
pub record IsSweptBehind (b : Start) (front : List Record) (w : World) : Type 0 where
  pub whole : World
  pub behind : IsBehind b front whole
  -- that is a world, in which later numbers are unused
  pub is_world : IsWorld whole
  pub unused : IsBefore (gone b front) (place_behind b front) whole
  pub within : IsWithin (length b.descriptions) whole w

-- A replay begins with the world of the start.
abbrev pub SweptBegins : Type 0
SweptBegins = (b : Start) → IsSpelledFront b [] → IsSweptBehind b [] (start (of_start b))

-- The places of the record at hand give the replies of the sequential run, whatever comes behind the record.
abbrev pub SweptReplies : Type 0
SweptReplies = (b : Start) (front back : List Record) (r : Record) (w : World) → IsAccepted (at_hand b front r) → IsSpelledFront b (front ++ r ∷ []) → IsSweptBehind b front w
    → let u = recording_of b (front ++ r ∷ back) in let first = place_behind b front in let end = places (at_hand b front r) in
    run_replies u first ++ replies_from (at_hand b front r) first (end - first) (world_before b front r w) ≡ run_replies u end

-- So it goes on when all of them have run.
abbrev pub SweptGoesOn : Type 0
SweptGoesOn = (b : Start) (front : List Record) (r : Record) (w : World) → IsAccepted (at_hand b front r) → IsSpelledFront b (front ++ r ∷ []) → IsSweptBehind b front w
    → IsSweptBehind b (front ++ r ∷ []) (world_within b front r w (places (at_hand b front r) - place_behind b front))

-- So it does when what nothing leads to is dropped.
abbrev pub SweepIsBehind : Type 0
SweepIsBehind = (b : Start) (front : List Record) (w : World) → IsSweptBehind b front w → IsSweptBehind b front (swept (length b.descriptions) w)

-- At the end of a trace, the world is within one that shows what that of the sequential run does.
pub record EndsWithin (b : Start) (records : List Record) (w : World) : Type 0 where
  pub whole : World
  pub shows : ShowAlike whole (sequential_world (recording_of b records))
  pub is_world : IsWorld whole
  pub within : IsWithin (length b.descriptions) whole w

abbrev pub SweptEnds : Type 0
SweptEnds = (b : Start) (records : List Record) (w : World) → IsSweptBehind b records w → EndsWithin b records w
