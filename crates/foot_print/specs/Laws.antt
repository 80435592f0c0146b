-- A law: access sets cover their places, and steps keep worlds and commute.
use Rattle.std.specs.Prelude.{◌≡◌, ℕ, List, not, T, None, IfSome}
use Rattle.recording.specs.declared.recording.Recording.{Recording}
use Rattle.finite_maps.specs.Table.{get}
use Rattle.world_parts.specs.World.{World, IsWorld, name, opened}
use Rattle.world_parts.specs.Items.{Atom, value, Footprint, writes_atom, collide, Agree}
use Rattle.op_meaning.specs.Meaning.{made_node, made_description}
use Rattle.op_meaning.specs.Step.{step_world, step_reply}
use Rattle.foot_print.specs.Footprint.{footprint}

-- A world in which the numbers that a place makes are unused.
pub record Awaits (t : Recording) (k : ℕ) (s : World) : Type 0 where
  pub is_world : IsWorld s
  pub no_node : get s.nodes (made_node t k) ≡ None
  pub no_description : get s.descriptions (made_description t k) ≡ None

-- Nothing that a place makes is there yet: neither its node, nor its description, and no name and no description leads to its node.
pub record Unused (t : Recording) (k : ℕ) (u : World) : Type 0 where
  pub no_node : get u.nodes (made_node t k) ≡ None
  pub no_description : get u.descriptions (made_description t k) ≡ None
  pub unnamed : (d : ℕ) (n : List ℕ) → IfSome (name u d n) (λ x. ¬ (x.node ≡ made_node t k))
  pub unopened : (d : ℕ) → IfSome (opened u d) (λ o. ¬ (o.target.node ≡ made_node t k))

-- An access set covers a place in a world: in any world or part of one that agrees on it the place has the same access set and reply,
-- the worlds that the step leaves agree on it, and no other atom changes than those that it writes.
pub record CoversAt (t : Recording) (k : ℕ) (f : Footprint) (s u : World) : Type 0 where
  pub same_footprint : footprint t k u ≡ footprint t k s
  pub same_reply : step_reply t k u ≡ step_reply t k s
  pub agree_after : Agree f (step_world t k s) (step_world t k u)
  pub nothing_else : (a : Atom) → T (not (writes_atom f a)) → value (step_world t k u) a ≡ value u a

abbrev pub Covers : Recording → ℕ → Footprint → World → Type 0
Covers t k f s = (u : World) → Unused t k u → Agree f s u → CoversAt t k f s u

-- Every access set covers its place.
abbrev pub FootprintsCover : Type 0
FootprintsCover = (t : Recording) (k : ℕ) (s : World) → Awaits t k s → Covers t k (footprint t k s) s

-- A step leaves a world, and leaves the numbers of other places unused.
abbrev pub StepsKeepWorlds : Type 0
StepsKeepWorlds = (t : Recording) (k : ℕ) (s : World) → Awaits t k s → IsWorld (step_world t k s) × ((j : ℕ) → ¬ (j ≡ k) → Awaits t j s → Awaits t j (step_world t k s))

-- Commuting: two places whose access sets don't collide step in either order, with one world and the same replies.
abbrev pub StepsCommute : Type 0
StepsCommute = (t : Recording) (j k : ℕ) (s : World) → Awaits t j s → Awaits t k s → ¬ (j ≡ k) → T (not (collide (footprint t j s) (footprint t k s)))
    → (step_world t k (step_world t j s) ≡ step_world t j (step_world t k s))
    × (step_reply t j (step_world t k s) ≡ step_reply t j s)
    × (step_reply t k (step_world t j s) ≡ step_reply t k s)
