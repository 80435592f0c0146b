-- A world that awaits a place has nothing of what the place makes.
use native.Mathlib.Omega.{arith}
use Rattle.std.specs.Prelude.{◌≡◌, ℕ, true, T, Option, Some, None, is_some, refl, IfSome}
use Rattle.std.specs.Option.{option_map, option_and_then}
use mathlib.Core.Path.{sym, subst, ap, ◌∙◌}
use Rattle.recording.specs.declared.recording.Recording.{Recording}
use Rattle.finite_maps.specs.Table.{get}
use Rattle.file_tree.specs.Tree.{Names, target, kind_of_node}
use Rattle.world_parts.specs.World.{World, IsWorld, kind, names, Description, opened_by}
use Rattle.op_meaning.specs.Meaning.{made_node}
use Rattle.foot_print.specs.Laws.{Awaits, Unused}
use Rattle.world_parts.proofs.ChangesOfMaking as making
use Rattle.world_parts.proofs.Trees.{some_apart}

-- A number that no node has is unused in a world.
pub unused_number : (s : World) (i : ℕ) → IsWorld s → get s.nodes i ≡ None → making.Unused s i
unused_number s i w free = record {
  no_node = free;
  unnamed = λ d n. target_apart (option_and_then (λ (ns : Names). get ns n) (names s d)) (w.tree.names_lead d n);
  unopened = λ d. opened_apart (get s.descriptions d) (w.descriptions_lead d);
}
  where
    apart : (j : ℕ) → is_some (kind s j) ≡ true → ¬ (j ≡ i)
    apart j h e = subst T (sym h ∙ ap (λ x. is_some (kind s x)) e ∙ ap (λ x. is_some (option_map kind_of_node x)) free) tt

    target_apart : (o : Option ℕ) → IfSome (option_map (target s.nodes) o) (λ x. is_some x.kind ≡ true) → IfSome (option_map (target s.nodes) o) (λ x. ¬ (x.node ≡ i))
    target_apart o h = grind (arith, apart)

    opened_apart : (o : Option Description) → IfSome (option_map (opened_by s) o) (λ x. is_some x.target.kind ≡ true) → IfSome (option_map (opened_by s) o) (λ x. ¬ (x.target.node ≡ i))
    opened_apart o h = grind (arith, apart)

pub awaits_unused : (t : Recording) (k : ℕ) (s : World) → Awaits t k s → Unused t k s
awaits_unused t k s w =
    let u = unused_number s (made_node t k) w.is_world w.no_node in
    record { no_node = w.no_node; no_description = w.no_description; unnamed = u.unnamed; unopened = u.unopened }

-- The number of the node that a place makes is unused.
pub node_unused : (t : Recording) (k : ℕ) (u : World) → Unused t k u → making.Unused u (made_node t k)
node_unused t k u v = record { no_node = v.no_node; unnamed = v.unnamed; unopened = v.unopened }

-- What is made of nothing is made of none.
pub nothing : {A B : Type 0} (f : A → B) (x : Option A) → option_map f x ≡ None → x ≡ None
nothing f None e = refl
nothing f (Some a) e = absurd (some_apart e)
