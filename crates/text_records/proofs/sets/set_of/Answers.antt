use Rattle.text_records.proofs.Lens.{set_len}
use Rattle.text_records.proofs.sets.set_of.Goals as goal

pub returns-clause-len : goal.returns-clause-len
returns-clause-len c = set_len _ _ _ _ c.file_len.ensures.len c.content_len.ensures.len
