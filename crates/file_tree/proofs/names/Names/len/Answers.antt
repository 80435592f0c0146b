use Rattle.std.proofs.Common.{◌+◌, ap, sym, ◌∙◌}
use Rattle.std.specs.Prelude.{map}
use Rattle.std.proofs.lemmas.List.{length-map}
use Rattle.finite_maps.specs.Table.{count}
use Rattle.file_tree.specs.Listed.{as_name}
use Rattle.file_tree.specs.Tree.{Names}
use Rattle.file_tree.proofs.Split.{counted, sorted_seen_names}
use Rattle.file_tree.proofs.names.Names.len.Goals as goal

pub returns : goal.returns
returns c =
    let short = c.self.inside.short.entries in
    let long = c.self.inside.long.entries in
    (λ i. c.len.ensures.len i + (c.len-2.ensures.len ∙ sym (length-map long as_name)) i)
    ∙ counted short (map as_name long) c.self.invariant.0 c.self.invariant.1 c.len.ensures.ordered (sorted_seen_names long c.len-2.ensures.ordered)
    ∙ ap (λ (m : Names). count m) c.self.view_is
