use Rattle.ring_tables.specs.Contents.{bytes_at}
use Rattle.world_parts.specs.Putting.{pasted}
use Rattle.world_parts.proofs.PutTables.{rewritten_at-none}
use Rattle.world_parts.proofs.putting.put_buffer.Goals as goal

pub returns-in_default : goal.returns-in_default
returns-in_default c = rewritten_at-none c.args.buffers.now c.args.ring c.args.index (λ bs. pasted bs (bytes_at c.args.part.now c.args.ring c.args.index) c.args.low c.args.high) c.in_default.ensures.value
