use Rattle.std.proofs.Common.{ap, sym, ◌∙◌}
use Rattle.std.specs.Prelude.{map}
use Rattle.finite_maps.specs.Table.{get, text_keys}
use Rattle.finite_maps.specs.Maps.{table_of}
use Rattle.finite_maps.proofs.Maps.{get-table_of}
use Rattle.finite_maps.proofs.TextMaps.{get-seen_table}
use Rattle.file_tree.specs.Listed.{as_name}
use Rattle.file_tree.specs.Tree.{Names}
use Rattle.file_tree.proofs.Split.{get_short, get_long}
use Rattle.file_tree.proofs.names.Names.get.Goals as goal

pub returns-in-Some : goal.returns-in-Some
returns-in-Some c =
    let name = c.args.name.now in
    let short = c.self.inside.short.entries in
    let long = map as_name c.self.inside.long.entries in
    c.copied.ensures ∙ c.get.ensures.value ∙ sym (get-table_of text_keys short c.in-Some.short) ∙ ap (λ k. get (table_of text_keys.total short) k) c.in-Some.ensures.1
    ∙ sym (get_short short long name c.self.invariant.1 c.in-Some.ensures.0) ∙ ap (λ (m : Names). get m name) c.self.view_is

pub returns-in-None : goal.returns-in-None
returns-in-None c =
    let name = c.args.name.now in
    let short = c.self.inside.short.entries in
    let long = c.self.inside.long.entries in
    c.copied-in-None.ensures ∙ c.get-in-None.ensures.value ∙ sym (get-seen_table text_keys (λ k. k.items) long name)
    ∙ sym (get_long short (map as_name long) name c.self.invariant.0 c.in-None.ensures) ∙ ap (λ (m : Names). get m name) c.self.view_is
