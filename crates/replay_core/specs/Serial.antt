-- The model: what a replay in recorded order gives.
use Rattle.std.specs.Prelude.{◌≡◌}
use Rattle.std.specs.List.{range_with_len}
use Rattle.recording.specs.declared.recording.Recording.{Recording}
use Rattle.recording.specs.Steps.{places}
use Rattle.world_parts.specs.Part.{whole}
use Rattle.op_meaning.specs.Step.{sequential_world, sequential_replies}
use Rattle.replay_core.specs.declared.serial.Replay.{Replay}

-- The world and the replies of the sequential run, with no part of the world out; each place in a round of its own.
pub record IsSequential (t : Recording) (replay : Replay) : Type 0 where
  pub world : replay.world ≡ whole (sequential_world t)
  pub replies : replay.replies ≡ sequential_replies t
  pub rounds : replay.rounds ≡ range_with_len 0 (places t)
