use Rattle.std.specs.Prelude.{◌≡◌, ℕ, List, [], ◌∷◌, map, refl, T}
use mathlib.Core.Path.{sym, subst, ap}
use Rattle.std.specs.Ordering.{nat_cmp}
use Rattle.std.specs.Cmp.Lexicographic.{slice_cmp}
use Rattle.std.specs.FinMap.Entries.{is_sorted}
use Rattle.file_tree.specs.Tree.{Tree}
use Rattle.world_parts.specs.Image.{all_paths, name_entry}
use Rattle.world_parts.specs.declared.image.NameEntry.{NameEntry}
use Rattle.world_parts.proofs.laws.paths_are_listed_once.Goals as goal

entries : (tree : Tree) (es : List (List ℕ × ℕ)) → map (λ (e : NameEntry). (e.path, e.node)) (map (name_entry tree) es) ≡ es
entries tree [] = refl
entries tree (e ∷ es) = ap (λ (xs : List (List ℕ × ℕ)). e ∷ xs) (entries tree es)

pub returns : goal.returns
returns c = λ s. subst (λ (es : List (List ℕ × ℕ)). T (is_sorted (slice_cmp nat_cmp) es)) (sym (entries s.nodes (all_paths s.nodes).entries)) (all_paths s.nodes).sorted
