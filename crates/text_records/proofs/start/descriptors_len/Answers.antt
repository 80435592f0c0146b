use Rattle.std.proofs.Common.{sym}
use Rattle.text_records.proofs.Lens.{descriptors_len}
use Rattle.text_records.proofs.start.descriptors_len.Goals as goal

pub returns : goal.returns
returns c = sym (descriptors_len c.args.descriptors.now)
