use Rattle.trace_format.proofs.Sizes.{sizes}
use Rattle.recording.proofs.recording.Recording.of_whole.Goals as goal

pub rings_of-requires : goal.rings_of-requires
rings_of-requires c = rw c.into_vec-2.ensures (sizes c.args.trace c.requires).rings
