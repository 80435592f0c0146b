use Rattle.recording.proofs.RecordsFacts.{descriptors_within}
use Rattle.recording.proofs.recording.Recording.of_start.Goals as goal

pub table_of-requires : goal.table_of-requires
table_of-requires c = rw c.as_slice.ensures (descriptors_within c.args.start c.requires)
