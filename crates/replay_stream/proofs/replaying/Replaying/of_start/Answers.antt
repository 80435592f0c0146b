use Rattle.std.proofs.Common.{subst, sym, ◌∙◌}
use Rattle.recording.specs.Accepted.{IsAccepted}
use Rattle.recording.proofs.Fronts.{start_is_of_front}
use Rattle.replay_stream.proofs.Onward.{begins}
use Rattle.replay_stream.proofs.replaying.Replaying.of_start.Goals as goal

pub of-requires : goal.of-requires
of-requires c = subst IsAccepted (sym c.in_ok-recording.ensures) (start_is_of_front c.args.start c.requires).accepted

pub returns : goal.returns
returns c = begins c.args.start _ c.requires c.in_ok-recording.ensures (c.copy_texts.ensures ∙ c.in_ok-state.ensures)
