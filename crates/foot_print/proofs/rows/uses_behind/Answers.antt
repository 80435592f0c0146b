use Rattle.entry_checks.specs.Meant.{meant}
use Rattle.op_meaning.specs.Meaning.{shape}
use Rattle.foot_print.proofs.Looks.{finds}
use Rattle.op_meaning.specs.Shape.{look}
use Rattle.foot_print.proofs.rows.uses_behind.Goals as goal

pub accepts-accepted-requires-clause-lookup : goal.accepts-accepted-requires-clause-lookup
accepts-accepted-requires-clause-lookup c = let a = c.args in finds a.site.trace.now a.site.ring a.state.now (look (shape (meant a.op))) a.lookup c.requires.lookup
