-- Opening a file leaves a world.
use Rattle.std.specs.Prelude.{◌≡◌, ℕ, Bool, true, false, cond, not, ◌&&◌, ◌||◌, T, [], ◌∷◌, ◌++◌, Option, Some, None, Ok, is_some, is_ok, refl, IfSome}
use mathlib.Core.Path.{sym, subst, ap, ◌∙◌}
use native.Mathlib.Omega.{arith}
use lib.Dec.{eqb_refl}
use Rattle.trace_format.specs.declared.trace.Access.TheVariants.{Read}
use Rattle.recording.specs.declared.recording.Recording.{Recording}
use Rattle.entry_checks.specs.Operation.{openat, Path, OpenFlags, File, in_slot, at_descriptor}
use Rattle.world_parts.specs.World.{World, kind, name, Opened, opened, set_name, set_size, set_slot, set_descriptor, make_node, make_description, apply}
use Rattle.file_tree.specs.Tree.{a_directory, a_file, Target, IsTree, rewritten_node}
use Rattle.extent_bytes.specs.Bytes.{resized}
use Rattle.finite_maps.specs.Table.{adjust_number}
use Rattle.file_tree.specs.Walk.{Place, walk}
use Rattle.op_meaning.specs.Site.{in_ring, sited}
use Rattle.op_meaning.specs.Meaning.{Effect, made_node, made_description, room, filled, may_open, found_or_made, open_changes, opened_with, access_of, open_as, opened_in}
use Rattle.world_parts.specs.Items.{description_at}
use Rattle.foot_print.specs.Laws.{Awaits}
use Rattle.world_parts.proofs.Collision.{true_of}
use Rattle.world_parts.proofs.Changes.{rewriting-kind, rewriting-names, name_kept}
use Rattle.world_parts.proofs.ChangesOfNames.{Leads, naming-kind}
use Rattle.world_parts.proofs.ChangesOfMaking.{made-kind, make_description-value}
use Rattle.foot_print.proofs.CoverWalk.{walk_leads, walk_finds}
use Rattle.foot_print.proofs.Awaiting.{awaits_unused, node_unused}
use Rattle.foot_print.proofs.CoverOpen.{second_test}
use Rattle.foot_print.proofs.Accepted.{ok_same, ok_bind, ok_then}
use Rattle.world_parts.proofs.KeepWorld.{IsSound, sound, is_world, sizing_sound, describing_sound, slotting_sound, holding_sound}
use Rattle.foot_print.proofs.KeepNames.{parent_there, made_and_named, Leaves, Keeps}

zero_asked : (directory create truncate zero : Bool) → directory ≡ true → T (not (directory && (create || truncate || not zero))) → zero ≡ true
zero_asked directory create truncate zero e h = grind arith

-- A directory is opened to read alone.
reads_alone : (g : OpenFlags) (x : Target) → T (is_ok (may_open g (Some x))) → x.kind ≡ Some a_directory → access_of g.access ≡ Read
reads_alone g x h c = grind (arith, zero_asked, second_test)

-- A description that is made, and put into its room.
pub described_leaves : (t : Recording) (k r : ℕ) (z : World) (o : Opened) → IsTree (name z) → IsSound z → kind z o.target.node ≡ o.target.kind → is_some o.target.kind ≡ true → (o.target.kind ≡ Some a_directory → o.access ≡ Read)
    → (at : File) → Leaves t k z (make_description (made_description t k) o ∷ (filled r at (made_description t k)).changes)
described_leaves t k r z o w v h l c = by
  where
    d : ℕ
    d = made_description t k

    after : World
    after = apply (make_description d o) z

    described : IsSound after
    described = describing_sound z d o h l c v

    there : is_some (opened after d) ≡ true
    there = ap is_some (make_description-value z d o (description_at d) h) ∙ ap (λ b. is_some (cond b (Some o) (opened z d))) (true_of _ (eqb_refl d))

    by : (y : File) → Leaves t k z (make_description d o ∷ (filled r y d).changes)
    by (in_slot n) = (is_world (apply (set_slot r n (Some d)) after) w (slotting_sound after r n (Some d) there described), (refl, (tt, tt)))
    by (at_descriptor n) = (is_world (apply (set_descriptor n (Some d)) after) w (holding_sound after n (Some d) there described), (refl, (tt, tt)))

module _ (t : Recording) (k r : ℕ) (g : OpenFlags) (at : File) where
  abbrev d : ℕ
  d = made_description t k

  abbrev i : ℕ
  i = made_node t k

  opened_world : (z : World) (x : Target) → IsTree (name z) → IsSound z → kind z x.node ≡ x.kind → is_some x.kind ≡ true → (x.kind ≡ Some a_directory → access_of g.access ≡ Read)
      → Leaves t k z (make_description d (opened_with g x) ∷ (filled r at d).changes)
  opened_world z x w v h l c = described_leaves t k r z (opened_with g x) w v h l c at

  open_leaves : (s : World) → Awaits t k s → (q : Place) → kind s q.parent ≡ Some a_directory → (z : Option Target) → z ≡ name s q.parent q.name → Leads s z → T (is_ok (may_open g z))
      → Leaves t k s (open_changes g i q z ++ make_description d (opened_with g (found_or_made i z)) ∷ (filled r at d).changes)
  open_leaves s w q p None f l c =
      let x = found_or_made i None in
      let between = apply (set_name q.parent q.name (Some x)) (apply (make_node i a_file) s) in
      let z = made_and_named s i q.parent q.name a_file w.is_world (node_unused t k s (awaits_unused t k s w)) p refl in
      let o = opened_world between x z.tree (sound between z) (naming-kind q.name (Some x) (apply (make_node i a_file) s) q.parent i ∙ made-kind s i a_file) refl (λ e. (cc)) in
      (o.0, (refl, (tt, o.1)))
  open_leaves s w q p (Some y) f l c = by g.truncate
    where
      some_kind : is_some y.kind ≡ true
      some_kind = subst (λ o. IfSome o (λ x. is_some x.kind ≡ true)) (sym f) (w.is_world.tree.names_lead q.parent q.name)

      by : (b : Bool) → Leaves t k s (cond b (set_size y.node 0 ∷ []) [] ++ make_description d (opened_with g y) ∷ (filled r at d).changes)
      by false = opened_world s y w.is_world.tree (sound s w.is_world) l some_kind (reads_alone g y c)
      by true =
          let cut = apply (set_size y.node 0) s in
          let look : name cut ≡ name s = λ j e m. name_kept s (adjust_number (rewritten_node (λ bs. resized bs 0)) s.nodes y.node) (rewriting-kind (λ bs. resized bs 0) s y.node) e m (rewriting-names (λ bs. resized bs 0) s y.node e) j in
          let o = opened_world cut y (subst IsTree (sym look) w.is_world.tree) (sizing_sound s y.node 0 (omega arith) (sound s w.is_world)) (rewriting-kind (λ bs. resized bs 0) s y.node y.node ∙ l) some_kind (reads_alone g y c) in
          (o.0, (tt, o.1))

-- What opens in a room.
pub opened_keeps : (t : Recording) (k r : ℕ) (s : World) (p : Path) (g : OpenFlags) (at : File) → Awaits t k s → (e : Effect) → opened_in (sited t k r) g (Ok at) (walk s.nodes p) ≡ Ok e → Leaves t k s e.changes
opened_keeps t k r s p g at w e h =
    let q = ok_bind (walk s.nodes p) _ e h in
    let last = ok_then (may_open g q.0.target) _ e q.2 in
    subst (λ (x : Effect). Leaves t k s x.changes) (ok_same (open_as (sited t k r) g at q.0) e last.0)
    (open_leaves t k r g at s w q.0 (parent_there s w.is_world p q.0 q.1) q.0.target (walk_finds s p q.0 q.1) (walk_leads s p q.0 q.1) last.1)

pub openat_keeps : (t : Recording) (k r : ℕ) (s : World) (p : Path) (g : OpenFlags) (asked : Option ℕ) → Awaits t k s → Keeps t k r s (openat p g asked)
openat_keeps t k r s p g asked w e h =
    let at = ok_bind (room (in_ring t r) s asked) _ e h in
    opened_keeps t k r s p g at.0 w e at.2
