-- Each operation's row as accepted holds its row, and its row where it is unresolved holds the one as accepted.
use native.Mathlib.Omega.{arith}
use Rattle.std.specs.Prelude.{ℕ, Bool, true, false, cond, not, ◌&&◌, ◌||◌, ◌==◌, ◌+◌, T, List, [], ◌∷◌, ◌++◌, Option, Some, None, Result, Ok, Err, is_ok}
use mathlib.Core.Path.{subst}
use Rattle.sqe_codec.specs.declared.errno.Errno.{Errno}
use Rattle.recording.specs.declared.recording.Recording.{Recording}
use Rattle.sqe_codec.specs.Answers.{each, each_ok}
use Rattle.entry_checks.specs.Operation.{Operation, File, Path, OpenFlags, at_position, file_limit}
use Rattle.world_parts.specs.World.{World}
use Rattle.file_tree.specs.Tree.{Target}
use Rattle.file_tree.specs.Walk.{Place}
use Rattle.op_meaning.specs.Site.{at_place, in_ring, sited}
use Rattle.op_meaning.specs.Meaning.{meaning, made_node, Handle, allocation, Allocation, extend, zero_extend, Found, found, shape}
use Rattle.world_parts.specs.Items.{Atom, description_at, position_of, size_of, byte_at, name_at, names_in, same_atom, Item, one, file_bytes, all_names, all_bytes_and_sizes, all_descriptors, member_of, Use, reads, writes, Footprint, has_atom, writes_atom}
use Rattle.foot_print.specs.Footprint.{shape_row, look_reads, uses, allocated_content, content_of, moved_uses, position_use, position_written, transfer_range, write_content, tried, foreseen, use_of, span_use, allocation_uses, name_written, made_where, room_uses, description_made, open_uses, opened_at, opening_uses, file_item, held_path_uses, directory_made, row_in, would_extend}
use Rattle.op_meaning.specs.Shape.{Shape, moving, allocating, opening, making, holding_path, holding_other, look}
use Rattle.foot_print.specs.Reach.{written_by, shape_makes, shape_asked, room_at, node_made, room_taken}
use Rattle.world_parts.proofs.Collision.{same_atom-eq}
use Rattle.foot_print.proofs.Holding.{Over, always, drop_false, over_self, over_nothing, over_trans, over_all, over_first, over_second, over_both, over_written, over_reads, over_taken, over_content}

module _ (t : Recording) (k r : ℕ) (s : World) where
  abbrev shape_room : List Footprint → Shape → Footprint
  shape_room earlier x = each (room_at (in_ring t r) s (written_by earlier)) (shape_asked x)

  abbrev pub shape_part : List Footprint → Shape → Footprint
  shape_part earlier x = shape_row (sited t k r) s foreseen x ++ (shape_makes t k x ++ shape_room earlier x)

  -- The same by what is found, apart from what is read where the operation looks.
  abbrev uses_part : List Footprint → Shape → Found → Footprint
  uses_part earlier x z = uses (sited t k r) s foreseen x z ++ (shape_makes t k x ++ shape_room earlier x)

  abbrev pub accepted_part : List Footprint → Operation → Footprint
  accepted_part earlier o = shape_part earlier (shape o)

  write_held : (b : Bool) (o n : ℕ) (y : Option Handle) → Over always (content_of (write_content s foreseen o n) y) (content_of (write_content s (tried b) o n) y)
  write_held b o n y = over_content always (write_content s foreseen o n) (write_content s (tried b) o n) (λ i h.
      let rest = writes (transfer_range i (h.opened.append || o == at_position) o n) ∷ position_written h o in
      over_both always (writes (one (size_of i)) ∷ []) rest (use_of (h.opened.append || o == at_position || (not (n == 0) && would_extend s i (o + n))) (one (size_of i)) ∷ []) rest (over_written always _ (one (size_of i))) (over_self always rest)) y

  moved_held : (b w : Bool) (o n : ℕ) (y : Option Handle) → Over always (moved_uses s foreseen w o n y) (moved_uses s (tried b) w o n y)
  moved_held b false o n y = over_self always _
  moved_held b true o n y = over_both always _ (position_use o y) _ (position_use o y) (write_held b o n y) (over_self always _)

  allocation_held : (b : Bool) (i at end : ℕ) (a : Option Allocation) → Over always (allocation_uses true i at end a) (allocation_uses b i at end a)
  allocation_held b i at end (Some extend) = over_written always _ (one (size_of i))
  allocation_held b i at end (Some zero_extend) = over_both always (writes (one (size_of i)) ∷ []) _ (use_of b (one (size_of i)) ∷ []) _ (over_written always b (one (size_of i))) (over_self always _)
  allocation_held b i at end _ = over_self always _

  any_descriptor : (n : ℕ) → Over always (writes all_descriptors ∷ []) (room_uses (in_ring t r) s None)
  any_descriptor n = over_all always (writes all_descriptors ∷ []) (reads all_descriptors ∷ []) _ (over_reads always (writes all_descriptors ∷ [])) (at _)
    where
      at : (x : Option ℕ) → Over always (writes all_descriptors ∷ []) (each (λ m. writes (one (Rattle.world_parts.specs.Items.descriptor_at m)) ∷ []) x)
      at None = over_nothing always _
      at (Some m) = record { has = number; writes = number }
        where
          number : (a : Atom) → T (always a) → T (same_atom (Rattle.world_parts.specs.Items.descriptor_at m) a || false) → T (member_of all_descriptors a || false)
          number a e h = subst (λ (b : Atom). T (member_of all_descriptors b || false)) (same_atom-eq (Rattle.world_parts.specs.Items.descriptor_at m) a (drop_false _ h)) tt

  room_held : (asked : Option ℕ) (earlier : List Footprint) → Over always (room_at (in_ring t r) s (written_by earlier) asked) (room_uses (in_ring t r) s asked)
  room_held asked earlier = grind (arith, any_descriptor 0, over_self)

  made_held : (b : Bool) (q f : Footprint) → Over always q f → Over always q (made_where (tried b) f)
  made_held true q f h = h
  made_held false q f h = over_nothing always q

  placed_held : (b : Bool) (g : OpenFlags) (q : Place) (y : Option Target) (z : Footprint) → Over always z (open_uses (at_place t k) foreseen g q y) → Over always z (writes (one (size_of (made_node t k))) ∷ []) → Over always z (open_uses (at_place t k) (tried b) g q y)
  placed_held b g q None z h m =
      elim g.create as (λ c. Over always z (cond c (name_written q ++ []) []) → Over always z (cond c (name_written q ++ made_where (tried b) (writes (one (size_of (made_node t k))) ∷ [])) [])) [
        | true ↦ λ w. over_all always z (name_written q) _ w (made_held b z _ m)
        | false ↦ λ w. w
      ] h
  placed_held b g q (Some y) z h m = h

  led_held : (b : Bool) (g : OpenFlags) (w : Result Place Errno) (z : Footprint) → Over always z (each_ok (opened_at (at_place t k) foreseen g) w) → Over always z (writes (one (size_of (made_node t k))) ∷ []) → Over always z (each_ok (opened_at (at_place t k) (tried b) g) w)
  led_held b g (Ok q) z h m = placed_held b g q q.target z h m
  led_held b g (Err e) z h m = over_nothing always z

  open_held : (b : Bool) (p : Path) (g : OpenFlags) (asked : Option ℕ) (z : Found) (earlier : List Footprint) → Over always (uses_part earlier (opening p g asked) z) (opening_uses (sited t k r) s (tried b) g asked z.place)
  open_held b p g asked z earlier =
      over_all always whole (room_uses (in_ring t r) s asked ++ made_where (tried b) (description_made t k)) _
      (over_all always whole (room_uses (in_ring t r) s asked) _
      (over_second always (uses (sited t k r) s foreseen o z) _ _ (over_second always (shape_makes t k o) _ _ (room_held asked earlier)))
      (made_held b whole _ (made (description_made t k) (over_second always (node_made t k) (description_made t k) _ (over_self always _)))))
      (led_held b g z.place whole (over_first always (uses (sited t k r) s foreseen o z) _ _ (over_self always _)) (made (writes (one (size_of (made_node t k))) ∷ []) (over_first always (node_made t k) (description_made t k) _ (over_first always (writes (one (size_of (made_node t k))) ∷ []) _ _ (over_self always _)))))
    where
      o : Shape
      o = opening p g asked

      whole : Footprint
      whole = uses_part earlier o z

      made : (f : Footprint) → Over always (shape_makes t k o) f → Over always whole f
      made f h = over_second always (uses (sited t k r) s foreseen o z) _ f (over_first always (shape_makes t k o) _ f h)

  -- A new description of a path, behind the slot or descriptor that gets it.
  path_held : (b : Bool) (f : File) (p : Path) (g : OpenFlags) (z : Found) (earlier : List Footprint) → Over always (uses_part earlier (holding_path f p g) z) (writes (file_item r f) ∷ held_path_uses (sited t k r) (tried b) g z.place)
  path_held b f p g z earlier =
      over_all always whole (writes (file_item r f) ∷ []) _ (seen (writes (file_item r f) ∷ []) (over_first always (writes (file_item r f) ∷ []) led _ (over_self always _)))
      (over_all always whole (made_where (tried b) (description_made t k)) _
      (made_held b whole _ (made (description_made t k) (over_second always (node_made t k) (description_made t k) _ (over_self always _))))
      (led_held b g z.place whole (seen led (over_second always (writes (file_item r f) ∷ []) led _ (over_self always _))) (made (writes (one (size_of (made_node t k))) ∷ []) (over_first always (node_made t k) (description_made t k) _ (over_first always (writes (one (size_of (made_node t k))) ∷ []) _ _ (over_self always _))))))
    where
      o : Shape
      o = holding_path f p g

      whole : Footprint
      whole = uses_part earlier o z

      led : Footprint
      led = each_ok (opened_at (at_place t k) foreseen g) z.place

      seen : (h : Footprint) → Over always (writes (file_item r f) ∷ led) h → Over always whole h
      seen h x = over_first always (uses (sited t k r) s foreseen o z) _ h x

      made : (h : Footprint) → Over always (shape_makes t k o) h → Over always whole h
      made h x = over_second always (uses (sited t k r) s foreseen o z) _ h (over_first always (shape_makes t k o) _ h x)

  -- A description of what is no file.
  other_held : (b : Bool) (f : File) (z : Found) (earlier : List Footprint) → Over always (uses_part earlier (holding_other f) z) (reads (one (names_in 0)) ∷ writes (file_item r f) ∷ made_where (tried b) (description_made t k))
  other_held b f z earlier =
      over_both always (reads (one (names_in 0)) ∷ writes (file_item r f) ∷ []) (description_made t k ++ []) (reads (one (names_in 0)) ∷ writes (file_item r f) ∷ []) (made_where (tried b) (description_made t k)) (over_self always _)
      (made_held b (description_made t k ++ []) _ (over_first always (description_made t k) [] _ (over_self always _)))

  mkdir_held : (b : Bool) (p : Path) (z : Found) (earlier : List Footprint) → Over always (uses_part earlier (making p) z) (each_ok (directory_made (at_place t k) (tried b)) z.place)
  mkdir_held b p z earlier =
      at z.place whole (over_first always (uses (sited t k r) s foreseen (making p) z) _ _ (over_self always _))
      (over_second always (uses (sited t k r) s foreseen (making p) z) _ _ (over_first always (shape_makes t k (making p)) _ _ (over_first always (node_made t k) (description_made t k) _ (over_second always (writes (one (size_of (made_node t k))) ∷ writes (file_bytes (made_node t k) 0 file_limit) ∷ []) (writes (one (names_in (made_node t k))) ∷ []) _ (over_self always _)))))
    where
      whole : Footprint
      whole = uses_part earlier (making p) z

      at : (w : Result Place Errno) (z : Footprint) → Over always z (each_ok (λ (q : Place). name_written q ++ []) w) → Over always z (writes (one (names_in (made_node t k))) ∷ []) → Over always z (each_ok (λ (q : Place). name_written q ++ made_where (tried b) (writes (one (names_in (made_node t k))) ∷ [])) w)
      at (Ok q) z h m = over_all always z (name_written q) _ h (made_held b z _ m)
      at (Err e) z h m = over_nothing always z

  uses_held : (b : Bool) (x : Shape) (z : Found) (earlier : List Footprint) → Over always (uses_part earlier x z) (uses (sited t k r) s (tried b) x z)
  uses_held b (moving w f o n None) z earlier = over_first always (moved_uses s foreseen w o n z.file) _ _ (moved_held b w o n z.file)
  uses_held b (moving w f o n (Some x)) z earlier = over_first always (moved_uses s foreseen w o n z.file ++ span_use (in_ring t r) (not w) x) _ _ (over_both always _ (span_use (in_ring t r) (not w) x) _ (span_use (in_ring t r) (not w) x) (moved_held b w o n z.file) (over_self always _))
  uses_held b (allocating f o n mode) z earlier = over_first always (uses (sited t k r) s foreseen (allocating f o n mode) z) _ _ (over_content always (allocated_content s foreseen o n mode) (allocated_content s (tried b) o n mode) (λ i h. allocation_held (would_extend s i (o + n)) i o (o + n) (allocation mode)) z.file)
  uses_held b (opening p g asked) z earlier = open_held b p g asked z earlier
  uses_held b (making p) z earlier = mkdir_held b p z earlier
  uses_held b (holding_path f p g) z earlier = path_held b f p g z earlier
  uses_held b (holding_other f) z earlier = other_held b f z earlier
  uses_held b x z earlier = over_first always (uses (sited t k r) s foreseen x z) _ _ (over_self always _)

  pub accepted_over_row : (o : Operation) (earlier : List Footprint) → Over always (accepted_part earlier o) (row_in (sited t k r) s o)
  accepted_over_row o earlier =
      over_all always whole looks _ (over_first always (looks ++ foreseen_uses) extras looks (over_first always looks foreseen_uses looks (over_self always looks)))
      (over_taken always whole (is_ok (meaning (sited t k r) s o)) _ (over_trans always whole (foreseen_uses ++ extras) _ behind (uses_held (is_ok (meaning (sited t k r) s o)) (shape o) (found (in_ring t r) s (look (shape o))) earlier)))
    where
      looks : Footprint
      looks = look_reads (in_ring t r) s (look (shape o))

      foreseen_uses : Footprint
      foreseen_uses = uses (sited t k r) s foreseen (shape o) (found (in_ring t r) s (look (shape o)))

      extras : Footprint
      extras = shape_makes t k (shape o) ++ shape_room earlier (shape o)

      whole : Footprint
      whole = (looks ++ foreseen_uses) ++ extras

      behind : Over always whole (foreseen_uses ++ extras)
      behind = over_both always (looks ++ foreseen_uses) extras foreseen_uses extras (over_second always looks foreseen_uses foreseen_uses (over_self always foreseen_uses)) (over_self always extras)

  room_at_held : (earlier thin : List Footprint) (asked : Option ℕ) → (T (written_by thin all_descriptors) → T (written_by earlier all_descriptors)) → Over always (room_at (in_ring t r) s (written_by earlier) asked) (room_at (in_ring t r) s (written_by thin) asked)
  room_at_held earlier thin None h =
      elim (written_by earlier all_descriptors) as (λ b. (T (written_by thin all_descriptors) → T b) → Over always (cond b (writes all_descriptors ∷ []) (room_uses (in_ring t r) s None)) (room_at (in_ring t r) s (written_by thin) None)) [
        | true ↦ λ k'. elim (written_by thin all_descriptors) as (λ c. Over always (writes all_descriptors ∷ []) (cond c (writes all_descriptors ∷ []) (room_uses (in_ring t r) s None))) [ true ↦ over_self always _ | false ↦ any_descriptor 0 ]
        | false ↦ λ k'. elim (written_by thin all_descriptors) as (λ c. (T c → ⊥) → Over always (room_uses (in_ring t r) s None) (cond c (writes all_descriptors ∷ []) (room_uses (in_ring t r) s None))) [ true ↦ λ n. absurd (n tt) | false ↦ λ n. over_self always _ ] k'
      ] h
  room_at_held earlier thin (Some n) h = over_self always _

  pub room_thin_held : (earlier thin : List Footprint) (o : Operation) → (T (written_by thin all_descriptors) → T (written_by earlier all_descriptors)) → Over always (room_taken (in_ring t r) s earlier o) (room_taken (in_ring t r) s thin o)
  room_thin_held earlier thin o h = grind (arith, over_nothing, room_at_held)
