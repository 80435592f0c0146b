use Rattle.std.proofs.Common.{refl}
use Rattle.replay_stream.proofs.Onward.{may_lack}
use Rattle.replay_stream.proofs.replaying.Replaying.swept.Goals as goal

pub sweep_if_due-requires : goal.sweep_if_due-requires
sweep_if_due-requires c = c.requires.3.run.recording.accepted

pub returns : goal.returns
returns c = λ b front r h. may_lack b front r c.args.self h _ refl refl refl c.in_ok-room.ensures
