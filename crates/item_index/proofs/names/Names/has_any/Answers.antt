use Rattle.std.proofs.Common.{ℕ, List, Vec, Global, true, ap, ◌∙◌}
use Rattle.std.specs.List.{list_any}
use Rattle.item_index.proofs.Sets.{some_name}
use Rattle.item_index.proofs.names.Names.has_any.Goals as goal

pub returns : goal.returns
returns c =
    let items : Vec ℕ Global → List ℕ = λ v. v.items in
    some_name items c.self.inside.names.keys c.is_empty.result c.is_empty.ensures.0 c.is_empty.ensures.1 ∙ ap (list_any (λ n. true)) c.self.view_is
