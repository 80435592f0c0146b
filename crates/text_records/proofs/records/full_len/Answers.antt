use Rattle.std.proofs.Common.{sym}
use Rattle.text_records.proofs.Lens.{full_len}
use Rattle.text_records.proofs.records.full_len.Goals as goal

pub returns : goal.returns
returns c = sym (full_len c.args.full.now)
