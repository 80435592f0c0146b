-- Two worlds with the same atoms are one.
use Rattle.std.specs.Prelude.{◌≡◌, ℕ, Option}
use Rattle.std.specs.Option.{option_and_then}
use native.Mathlib.Omega.{arith}
use Rattle.finite_maps.specs.Table.{get}
use Rattle.file_tree.specs.Tree.{Node, names_of_node, others_of_node, count_of_node}
use Rattle.world_parts.specs.World.{names}
use Rattle.world_parts.specs.Items.{name_at, names_in}
use Rattle.world_parts.specs.Laws.{AtomsMakeTheWorld}
use Rattle.world_parts.proofs.Raw.{raw-same, same_listing, raws_make_one}

-- How many names aren't shown, by how many there are.
same_others : (x y : Option Node) → option_and_then names_of_node x ≡ option_and_then names_of_node y
    → option_and_then count_of_node x ≡ option_and_then count_of_node y → option_and_then others_of_node x ≡ option_and_then others_of_node y
same_others x y n c = grind arith

pub atoms_make_the_world : AtomsMakeTheWorld
atoms_make_the_world s u h = raws_make_one s u (λ i. same_others (get s.nodes i) (get u.nodes i) (listing i) (h (names_in i))) (λ a. raw-same s u a (h a))
  where
    listing : (i : ℕ) → names s i ≡ names u i
    listing i = same_listing (names s i) (names u i) (raw-same s u (names_in i) (h (names_in i))) (λ n. raw-same s u (name_at i n) (h (name_at i n)))
