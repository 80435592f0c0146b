use Rattle.std.proofs.Common.{arith, ◌∙◌}
use Rattle.std.specs.Prelude.{None}
use Rattle.std.proofs.lemmas.Bool.Decides.{nat_tests}
use Rattle.use_line.proofs.Entries.{keys_more, none_more, rises_more, same_more}
use Rattle.use_line.proofs.steps.Steps.split_at.Goals as goal

pub invariant_of-self-2 : goal.invariant_of-self-2
invariant_of-self-2 c = rw c.in_ok-insert.ensures.entries (rises_more c.args.at c.in-Some.value c.self.inside.entries.entries c.self.invariant)

pub returns-clause-same : goal.returns-clause-same
returns-clause-same c = λ b.
    let es = c.self.inside.entries.entries in
    let h = rw (← c.self.view_is) at c.in-Some.ensures in
    rw (c.in_ok-insert.ensures.entries, ← c.self.view_is) (same_more c.args.at c.in-Some.value None es h.1 c.self.invariant h.0 b)

pub returns-clause-key : goal.returns-clause-key
returns-clause-key c = rw c.in_ok-insert.ensures.entries (keys_more c.args.at c.in-Some.value c.self.inside.entries.entries c.args.at ∙ grind (arith, nat_tests))

pub returns-clause-none : goal.returns-clause-none
returns-clause-none c = λ f.
    let es = c.self.inside.entries.entries in
    let h = rw (← c.self.view_is) at c.in-Some.ensures in
    rw c.in_ok-insert.ensures.entries (none_more c.args.at c.in-Some.value c.args.low c.in-Some.start es (grind (arith, nat_tests, f)) h.2)
