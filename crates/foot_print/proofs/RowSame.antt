-- The row of a place as running is decided by its own items: it is the access set in the world in which no chain is broken.
use Rattle.std.specs.Prelude.{◌≡◌, ℕ, T, ◌++◌, Option, Some, refl}
use mathlib.Core.Path.{sym, subst, ap, ◌∙◌}
use Rattle.op_meaning.specs.Site.{sited}
use Rattle.recording.specs.declared.recording.Recording.{Recording}
use Rattle.sqe_codec.specs.Answers.{each}
use Rattle.entry_checks.specs.Operation.{Operation, nop}
use Rattle.finite_maps.specs.Table.{empty}
use Rattle.world_parts.specs.World.{World, IsWorld}
use Rattle.op_meaning.specs.Step.{Turn, called, runs}
use Rattle.world_parts.specs.Items.{Atom, chain_flag, value, has_atom, Agree}
use Rattle.foot_print.specs.Footprint.{footprint, row_in, turn_uses}
use Rattle.foot_print.specs.Laws.{Awaits, FootprintsCover}
use Rattle.foot_print.proofs.Awaiting.{awaits_unused}
use Rattle.foot_print.specs.Reach.{task, order_of, running_row}

-- A world with all its chains running.
abbrev unbroken : World → World
unbroken s = record s { broken = empty }

module _ (t : Recording) (k : ℕ) where
  row_unbroken : (r : ℕ) (s : World) (o : Operation) → row_in (sited t k r) (unbroken s) o ≡ row_in (sited t k r) s o
  row_unbroken r s nop = refl
  row_unbroken r s _ = refl

  uses_unbroken : (s : World) (x : Option Turn) → each (turn_uses t k (unbroken s)) x ≡ each (turn_uses t k s) x
  uses_unbroken s (Some (runs r e o)) = row_unbroken r s o
  uses_unbroken s (Some (called r o)) = row_unbroken r s o
  uses_unbroken s _ = refl

  row_is_footprint : (s : World) → footprint t k (unbroken s) ≡ running_row t k s
  row_is_footprint s = ap (λ x. order_of t k ++ x) (uses_unbroken s (task t k))

  world_unbroken : (s : World) → IsWorld s → IsWorld (unbroken s)
  world_unbroken s w = assumption

  awaits_unbroken : (s : World) → Awaits t k s → Awaits t k (unbroken s)
  awaits_unbroken s a = record { is_world = world_unbroken s a.is_world; no_node = a.no_node; no_description = a.no_description }

  same_unbroken : (s u : World) (a : Atom) → value s a ≡ value u a → value (unbroken s) a ≡ value (unbroken u) a
  same_unbroken s u (chain_flag c) e = refl
  same_unbroken s u _ e = e

  pub running_row_same : FootprintsCover → (s u : World) → Awaits t k s → Awaits t k u → ((a : Atom) → T (has_atom (running_row t k s) a) → value s a ≡ value u a) → running_row t k u ≡ running_row t k s
  running_row_same cover s u ws wu same =
      let agree : Agree (footprint t k (unbroken s)) (unbroken s) (unbroken u) = record { same = λ a h. same_unbroken s u a (same a (subst (λ f. T (has_atom f a)) (row_is_footprint s) h)) } in
      sym (row_is_footprint u)
      ∙ (cover t k (unbroken s) (awaits_unbroken s ws) (unbroken u) (awaits_unused t k (unbroken u) (awaits_unbroken u wu)) agree).same_footprint
      ∙ row_is_footprint s
