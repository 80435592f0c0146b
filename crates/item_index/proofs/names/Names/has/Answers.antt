use Rattle.std.proofs.Common.{ℕ, List, Vec, Global, ap, ◌∙◌}
use Rattle.std.specs.List.{list_any}
use Rattle.std.specs.Str.{bytes_eq}
use Rattle.item_index.proofs.Sets.{any_name}
use Rattle.item_index.proofs.names.Names.has.Goals as goal

pub returns : goal.returns
returns c =
    let items : Vec ℕ Global → List ℕ = λ v. v.items in
    c.contains.ensures ∙ any_name items c.self.inside.names.keys c.args.name.now ∙ ap (list_any (bytes_eq c.args.name.now)) c.self.view_is
