use Rattle.text_records.proofs.records.fill_of.Goals as goal

pub returns-clause-len : goal.returns-clause-len
returns-clause-len c = c.fill_len-len.ensures 0 0 _
