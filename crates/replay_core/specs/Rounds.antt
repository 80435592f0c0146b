-- The model: what a replay in rounds gives.
use Rattle.std.specs.Prelude.{◌≡◌, ℕ}
use Rattle.recording.specs.declared.recording.Recording.{Recording}
use Rattle.world_parts.specs.Part.{whole}
use Rattle.op_meaning.specs.Step.{sequential_world, sequential_replies}
use Rattle.wave_pick.specs.Rounds.{rounds}
use Rattle.replay_core.specs.declared.serial.Replay.{Replay}

-- The world and the replies of the sequential run, with no part of the world out; of each place the number of its round, which rises along chains and across barriers (LinksAndDrainsRise).
pub record IsReplay (t : Recording) (window : ℕ) (replay : Replay) : Type 0 where
  pub world : replay.world ≡ whole (sequential_world t)
  pub replies : replay.replies ≡ sequential_replies t
  pub rounds : replay.rounds ≡ rounds t window
