use Rattle.replay_core.proofs.compared.compared_by.Goals as goal

pub returns-in-Ok-clause-ok : goal.returns-in-Ok-clause-ok
returns-in-Ok-clause-ok g c =
    record {
      one = c.in_ok-one.one.value;
      other = c.in_ok-other.other.value;
      first = c.in_ok-one.ensures.ok;
      second = c.in_ok-other.ensures.ok;
      verdict = rw (← c.deref.ensures, ← c.deref-2.ensures) c.in-Ok.ensures;
    }
