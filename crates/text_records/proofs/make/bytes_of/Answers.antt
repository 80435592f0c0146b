use Rattle.text_records.proofs.Told.{of_text}
use Rattle.text_records.proofs.make.bytes_of.Goals as goal

pub returns-in-Err-clause-fault : goal.returns-in-Err-clause-fault
returns-in-Err-clause-fault c = of_text c.args.text.now c.in-Err.error c.in-Err.ensures

pub returns-in-Ok-checked-clause-bytes : goal.returns-in-Ok-checked-clause-bytes
returns-in-Ok-checked-clause-bytes c =
    ((c.in-Ok.read.0, c.in-Ok.read.1.items), c.in-Ok.ensures, c.in-Ok-checked.ensures.bytes, c.in-Ok-checked.ensures.trace)
