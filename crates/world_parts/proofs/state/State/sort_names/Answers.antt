use Rattle.std.proofs.Common.{ℕ, List, ◌∷◌, ◌++◌, [], ap, sym, ◌∙◌}
use Rattle.std.specs.Prelude.{map}
use Rattle.std.specs.List.{flat_map}
use Rattle.std.proofs.lemmas.List.Concat.{flat_map_single}
use Rattle.std.proofs.lemmas.List.Folds.{flat_map-map}
use Rattle.finite_maps.specs.Table.{text_keys}
use Rattle.file_tree.specs.Tree.{Tree}
use Rattle.world_parts.specs.declared.image.NameEntry.{NameEntry}
use Rattle.world_parts.specs.Image.{all_paths, name_entry}
use Rattle.finite_maps.proofs.Ordered.{seen_entries_of}
use Rattle.world_parts.proofs.state.State.sort_names.Goals as goal

abbrev seen : List ℕ × ℕ → List ℕ × ℕ
seen e = (e.0, e.1)

abbrev line : Tree → List ℕ × ℕ → List NameEntry
line tree e = name_entry tree e ∷ []

pub loop-path-init : goal.loop-path-init
loop-path-init c =
    let tree = c.args.self.now.nodes in
    let given = c.into_iter-path-iterator.ensures.into_iter_gives in
    ap (λ es. es ++ flat_map (λ e. line tree (seen e)) c.into_iter-path-iterator.result) c.requires
    ∙ (sym (flat_map-map (line tree) seen c.into_iter-path-iterator.result)
    ∙ ap (λ es. flat_map (line tree) (map seen es)) given.0
    ∙ ap (flat_map (line tree)) (seen_entries_of text_keys (λ path. path) c.in_ok-items.items.entries (all_paths tree) given.5 c.in_ok-items.ensures)
    ∙ flat_map_single (name_entry tree) (all_paths tree).entries)
