use Rattle.std.proofs.Common.{rules}
use Rattle.extent_bytes.specs.Bytes.{range_of}
use Rattle.op_meaning.proofs.replies.ReplyRef.read.Goals as goal

pub returns-in-Copied : goal.returns-in-Copied
unfolding range_of
returns-in-Copied c = search rules
