-- A helper: the replay of an accepted recording keeps the laws of access sets and may-access sets.
use Rattle.interleaving.specs.Laws.{Cover, Laws}
use Rattle.recording.specs.declared.recording.Recording.{Recording}
use Rattle.recording.specs.Accepted.{IsAccepted}
use Rattle.foot_print.specs.Replayed.{replayed}
use Rattle.foot_print.proofs.Starts.{starts_in_world}
use Rattle.foot_print.proofs.Lawful.{replay_covers, replay_lawful}

-- Its access sets suffice.
pub covered : (t : Recording) → IsAccepted t → Cover (replayed t)
covered t s = replay_covers t (starts_in_world t s)

-- Its may-access sets hold what is to come.
pub lawful : (t : Recording) → IsAccepted t → Laws (replayed t)
lawful t s = replay_lawful t (starts_in_world t s)
