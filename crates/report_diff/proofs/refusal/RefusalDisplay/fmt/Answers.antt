use Rattle.report_diff.proofs.refusal.RefusalDisplay.fmt.Goals as goal

pub returns-in-Otherwise-clause-writes : goal.returns-in-Otherwise-clause-writes
returns-in-Otherwise-clause-writes g c =
    rw (c.in-Otherwise.is, ← c.name-side.ensures, ← c.as_str-subject-in-Otherwise.ensures.value) c.write-in-Otherwise.ensures.writes
