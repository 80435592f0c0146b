use Rattle.std.proofs.Common.{ℕ, List, Vec, Global, sym, ◌∙◌}
use Rattle.item_index.proofs.Sets.{any-insert_name, any-named}
use Rattle.item_index.proofs.names.Names.insert.Goals as goal

pub returns : goal.returns
returns c = λ t.
    let items : Vec ℕ Global → List ℕ = λ v. v.items in
    rw (c.in_ok-insert.ensures.keys, ← c.self.view_is, ← c.in_ok-from_slice.ensures.items)
    (any-insert_name items t c.self.inside.names.keys c.in_ok-from_slice.field-0)

pub returns-then-has : goal.returns-then-has
returns-then-has c = λ t. any-named t c.args.self.now c.args.name.now (sym c.has.ensures ∙ c.if-has.true)
