use Rattle.std.proofs.Common.{ℕ, List, Vec, Global, ◌≡◌}
use Rattle.std.specs.Prelude.{None}
use Rattle.foot_waits.specs.Names.{number_at}
use Rattle.foot_waits.proofs.Numbering.{number_more, known_more, kept_more, numbered_more, seen}
use Rattle.foot_waits.proofs.names.Names.add.Goals as goal

pub invariant_of-self-2 : goal.invariant_of-self-2
invariant_of-self-2 c =
    let items : Vec ℕ Global → List ℕ = λ v. v.items in
    let es = c.self.inside.numbers.entries in
    let key = c.args.key.items in
    let none : number_at (seen items es) key ≡ None = rw c.self.view_is c.requires in
    let law = λ (q : List ℕ). number_more items c.args.key c.self.inside.next es q none in
    let h = c.in-Some.ensures in
    rw (c.in_ok-insert.ensures.entries, h.1) (numbered_more (seen items es) _ key c.self.inside.next law c.self.invariant)

pub returns-clause-number : goal.returns-clause-number
returns-clause-number c =
    let items : Vec ℕ Global → List ℕ = λ v. v.items in
    let es = c.self.inside.numbers.entries in
    let key = c.args.key.items in
    let none : number_at (seen items es) key ≡ None = rw c.self.view_is c.requires in
    rw c.in_ok-insert.ensures.entries (known_more (seen items es) _ key c.self.inside.next (λ q. number_more items c.args.key c.self.inside.next es q none))

pub returns-clause-kept : goal.returns-clause-kept
returns-clause-kept c =
    let items : Vec ℕ Global → List ℕ = λ v. v.items in
    let es = c.self.inside.numbers.entries in
    let key = c.args.key.items in
    let none : number_at (seen items es) key ≡ None = rw c.self.view_is c.requires in
    rw (c.in_ok-insert.ensures.entries, ← c.self.view_is) (kept_more (seen items es) _ key c.self.inside.next (λ q. number_more items c.args.key c.self.inside.next es q none) none)
