use Rattle.op_meaning.proofs.decision.carry_out.Goals as goal

pub returns-in-Read-clause-answer : goal.returns-in-Read-clause-answer
returns-in-Read-clause-answer c = rw c.in-Read.is c.read.ensures.answer

pub returns-in-Read-clause-state : goal.returns-in-Read-clause-state
returns-in-Read-clause-state c = rw c.in-Read.is c.read.ensures.state

pub returns-in-Write-clause-answer : goal.returns-in-Write-clause-answer
returns-in-Write-clause-answer c = rw c.in-Write.is c.write.ensures.answer

pub returns-in-Write-clause-state : goal.returns-in-Write-clause-state
returns-in-Write-clause-state c = rw c.in-Write.is c.write.ensures.state

pub returns-in-ReadFixed-clause-answer : goal.returns-in-ReadFixed-clause-answer
returns-in-ReadFixed-clause-answer c = rw c.in-ReadFixed.is c.read_fixed.ensures.answer

pub returns-in-ReadFixed-clause-state : goal.returns-in-ReadFixed-clause-state
returns-in-ReadFixed-clause-state c = rw c.in-ReadFixed.is c.read_fixed.ensures.state

pub returns-in-WriteFixed-clause-answer : goal.returns-in-WriteFixed-clause-answer
returns-in-WriteFixed-clause-answer c = rw c.in-WriteFixed.is c.write_fixed.ensures.answer

pub returns-in-WriteFixed-clause-state : goal.returns-in-WriteFixed-clause-state
returns-in-WriteFixed-clause-state c = rw c.in-WriteFixed.is c.write_fixed.ensures.state

pub returns-in-Open-clause-answer : goal.returns-in-Open-clause-answer
returns-in-Open-clause-answer c = rw c.in-Open.is c.open.ensures.answer

pub returns-in-Open-clause-state : goal.returns-in-Open-clause-state
returns-in-Open-clause-state c = rw c.in-Open.is c.open.ensures.state
