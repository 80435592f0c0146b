use Rattle.std.proofs.Common.{◌∙◌, arith}
use Rattle.std.specs.Prelude.{None}
use Rattle.std.specs.BTreeMap.{is_at}
use Rattle.std.specs.Ordering.{nat_cmp}
use Rattle.std.proofs.lemmas.Bool.Decides.{nat_tests}
use Rattle.use_line.proofs.Entries.{cut_at, keys_cut, rises_cut, fewer}
use Rattle.use_line.proofs.steps.Steps.remove_within.Goals as goal

pub invariant_of-self : goal.invariant_of-self
invariant_of-self c = rw c.remove.ensures.entries (rises_cut (is_at (nat_cmp c.in-Some.key)) c.self.inside.entries.entries c.self.invariant)

pub loop-key-preserved : goal.loop-key-preserved
loop-key-preserved c =
    let es = c.self.inside.entries.entries in
    let k = c.in-Some.key in
    let found = rw (← c.self.view_is) at c.in-Some.ensures in
    let last = rw (← c.self.view_is) at c.loop-key.invariant.last in
    record {
      last = rw c.remove.ensures.entries (keys_cut k es c.args.high (λ e. omega (arith, e, found.1)) ∙ last);
      outside = λ b out. rw c.remove.ensures.entries (cut_at k c.args.high found.1 None es b c.self.invariant found.2 last (let above = found.0 in grind (arith, nat_tests, above)) ∙ (rw c.self.view_is (c.loop-key.invariant.outside b out)));
    }

pub loop-key-smaller : goal.loop-key-smaller
loop-key-smaller c =
    let found = rw (← c.self.view_is) at c.in-Some.ensures in
    rw (c.remove.ensures.entries, ← c.self.view_is) (fewer c.in-Some.key c.self.inside.entries.entries found.2)

pub returns-clause-none : goal.returns-clause-none
returns-clause-none c = λ k more under. c.in_default.ensures k (omega (arith, more)) under
