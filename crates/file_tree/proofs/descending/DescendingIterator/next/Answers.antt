use Rattle.std.proofs.Common.{◌++◌, sym, subst}
use Rattle.std.specs.Prelude.{map}
use Rattle.file_tree.specs.Listed.{as_name, listed, names_in, TakesLast}
use Rattle.file_tree.specs.Tree.{Names}
use Rattle.file_tree.proofs.Listing.{gives_short, gives_long, left_short, left_long, goes}
use Rattle.file_tree.proofs.descending.DescendingIterator.next.Goals as goal

pub invariant_of-self : goal.invariant_of-self
invariant_of-self c =
    left_short c.self.inside.shorts (map as_name c.self.inside.longs) c.self.inside.short c.self.inside.long c.self.invariant
    c.last_short-self-inside.new.names c.last_short-self-inside.result c.last_short-self-inside.ensures.taken c.last_short-self-inside.ensures.none

pub invariant_of-self-else-comes_behind : goal.invariant_of-self-else-comes_behind
invariant_of-self-else-comes_behind c =
    left_long c.self.inside.shorts (map as_name c.self.inside.longs) c.self.inside.short c.self.inside.long c.self.invariant
    (map as_name c.last_long-self-inside.new.names) c.last_long-self-inside.result c.last_long-self-inside.ensures.taken c.last_long-self-inside.ensures.none

pub returns-then-comes_behind-clause-steps : goal.returns-then-comes_behind-clause-steps
returns-then-comes_behind-clause-steps c =
    let shorts = c.last_short-self-inside.new.names ++ listed c.last_short-self-inside.result in
    let longs = map as_name c.self.inside.longs ++ listed c.self.inside.long in
    subst (λ (old : Names). TakesLast old c.self.inside.short (names_in shorts longs)) c.self.view_is
    (gives_short c.self.inside.shorts (map as_name c.self.inside.longs) c.self.inside.short c.self.inside.long c.self.invariant
    c.last_short-self-inside.new.names c.last_short-self-inside.result c.last_short-self-inside.ensures.taken (sym c.if-comes_behind.ensures))

pub returns-then-comes_behind-clause-goes : goal.returns-then-comes_behind-clause-goes
returns-then-comes_behind-clause-goes c = goes _ _ _ (returns-then-comes_behind-clause-steps c)

pub returns-else-comes_behind-clause-steps : goal.returns-else-comes_behind-clause-steps
returns-else-comes_behind-clause-steps c =
    let shorts = c.self.inside.shorts ++ listed c.self.inside.short in
    let longs = map as_name c.last_long-self-inside.new.names ++ listed c.last_long-self-inside.result in
    subst (λ (old : Names). TakesLast old c.self.inside.long (names_in shorts longs)) c.self.view_is
    (gives_long c.self.inside.shorts (map as_name c.self.inside.longs) c.self.inside.short c.self.inside.long c.self.invariant
    (map as_name c.last_long-self-inside.new.names) c.last_long-self-inside.result c.last_long-self-inside.ensures.taken (sym c.if-comes_behind.ensures))

pub returns-else-comes_behind-clause-goes : goal.returns-else-comes_behind-clause-goes
returns-else-comes_behind-clause-goes c = goes _ _ _ (returns-else-comes_behind-clause-steps c)
