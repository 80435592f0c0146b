use Rattle.text_records.proofs.Lens.{seek_len}
use Rattle.text_records.proofs.sets.seek_of.Goals as goal

pub returns-clause-len : goal.returns-clause-len
returns-clause-len c = seek_len _ _ _ c.file_len-len.ensures.len
