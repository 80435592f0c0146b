use Rattle.op_meaning.proofs.rows.decide.Goals as goal

pub returns-in-Readv-clause-meaning : goal.returns-in-Readv-clause-meaning
returns-in-Readv-clause-meaning c = rw c.in-Readv.is c.reading.ensures.meaning

pub returns-in-Readv-clause-limits : goal.returns-in-Readv-clause-limits
returns-in-Readv-clause-limits c = λ _. c.reading.ensures.limits

pub returns-in-ReadFixed-clause-meaning : goal.returns-in-ReadFixed-clause-meaning
returns-in-ReadFixed-clause-meaning c = rw c.in-ReadFixed.is c.reading_fixed.ensures.meaning

pub returns-in-ReadFixed-clause-limits : goal.returns-in-ReadFixed-clause-limits
returns-in-ReadFixed-clause-limits c = λ _. c.reading_fixed.ensures.limits

pub returns-in-WriteFixed-clause-meaning : goal.returns-in-WriteFixed-clause-meaning
returns-in-WriteFixed-clause-meaning c = rw c.in-WriteFixed.is c.writing_fixed.ensures.meaning

pub returns-in-WriteFixed-clause-limits : goal.returns-in-WriteFixed-clause-limits
returns-in-WriteFixed-clause-limits c = λ _. c.writing_fixed.ensures.limits

pub returns-in-Read-clause-meaning : goal.returns-in-Read-clause-meaning
returns-in-Read-clause-meaning c = rw (c.in-Read.is, ← c.from.ensures) c.reading-in-Read.ensures.meaning

pub returns-in-Read-clause-limits : goal.returns-in-Read-clause-limits
returns-in-Read-clause-limits c = λ _. c.reading-in-Read.ensures.limits

pub returns-in-Writev-clause-meaning : goal.returns-in-Writev-clause-meaning
returns-in-Writev-clause-meaning c = rw c.in-Writev.is c.writing.ensures.meaning

pub returns-in-Writev-clause-limits : goal.returns-in-Writev-clause-limits
returns-in-Writev-clause-limits c = rw c.in-Writev.is c.writing.ensures.limits

pub returns-in-Write-clause-meaning : goal.returns-in-Write-clause-meaning
returns-in-Write-clause-meaning c = rw c.in-Write.is c.writing-in-Write.ensures.meaning

pub returns-in-Write-clause-limits : goal.returns-in-Write-clause-limits
returns-in-Write-clause-limits c = rw c.in-Write.is c.writing-in-Write.ensures.limits
