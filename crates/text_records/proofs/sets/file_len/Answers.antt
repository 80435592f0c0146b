use Rattle.std.proofs.Common.{sym}
use Rattle.text_records.proofs.Lens.{file_len}
use Rattle.text_records.proofs.sets.file_len.Goals as goal

pub returns-clause-len : goal.returns-clause-len
returns-clause-len c = sym (file_len c.args._file)
