-- With the same look, the rows of a place in two worlds have the same items, but for what it makes.
use Rattle.std.specs.Prelude.{◌≡◌, ℕ, Bool, true, false, cond, not, ◌+◌, T, List, [], ◌∷◌, ◌++◌, Option, Some, None, Result, Ok, Err, is_ok, refl}
use Rattle.std.proofs.lemmas.Bool.{true≢false, true_from_ne_false}
use Rattle.std.proofs.Common.{inl, inr, sym, subst, ap}
use Rattle.sqe_codec.specs.declared.errno.Errno.{Errno}
use Rattle.sqe_codec.specs.Answers.{each, each_ok}
use Rattle.recording.specs.declared.recording.Recording.{Recording}
use Rattle.entry_checks.specs.Operation.{Operation, File, OpenFlags}
use Rattle.file_tree.specs.Tree.{Target}
use Rattle.file_tree.specs.Walk.{Place}
use Rattle.world_parts.specs.World.{World}
use Rattle.world_parts.specs.Items.{Atom, descriptor_at, size_of, names_in, one, all_descriptors, member_of, Use, reads, writes, Footprint, has_atom}
use Rattle.world_parts.proofs.Collision.{either_left, same_atom-eq}
use Rattle.op_meaning.specs.Site.{at_place, in_ring, sited}
use Rattle.op_meaning.specs.Meaning.{Found, found, meaning, made_node, Handle, is_file, allocation, Allocation, extend, lowest_free, shape}
use Rattle.foot_print.specs.Footprint.{tried, foreseen, shape_row, look_reads, uses, uses_in, content_of, moved_uses, opening_uses, opened_at, directory_made, file_item, held_path_uses, as_reads, would_extend, position_use, span_use, allocation_uses, name_written, made_where, room_uses, description_made, open_uses, row_in, turn_uses, write_content}
use Rattle.op_meaning.specs.Shape.{Shape, moving, allocating, opening, making, holding_path, holding_other, look}
use Rattle.op_meaning.specs.Step.{Turn, filled, registered, called, runs}
use Rattle.foot_print.specs.Reach.{shape_asked, room_asked, room_at, written_by, is_met, taken, makes, room_taken, LookedUp, look_of, task, order_of, running_row}
use Rattle.foot_print.proofs.Agreement.{in_left, in_right, has_atom-as_reads}
use Rattle.foot_print.proofs.Holding.{split, drop_false}
use Rattle.foot_print.proofs.RowsHeld.{accepted_over_row}
use Rattle.foot_print.proofs.Unmet.{unmet_part}
use Rattle.foot_print.proofs.Writing.{is_false, not_false}
use Rattle.wave_pick.specs.Waiting.{made_of, RowItems}

-- One access set has the atoms of another.
record Has (g f : Footprint) : Type 0 where
  has : (a : Atom) → T (has_atom f a) → T (has_atom g a)

has_all : (q f g : Footprint) → Has q f → Has q g → Has q (f ++ g)
has_all q f g x y = record { has = λ a h. elim (split (λ (v : Use). member_of v.item a) f g h) [ inl m ↦ x.has a m | inr m ↦ y.has a m ] }

has_first : (g q f : Footprint) → Has g f → Has (g ++ q) f
has_first g q f x = record { has = λ a h. in_left (λ (v : Use). member_of v.item a) g q (x.has a h) }

has_second : (g q f : Footprint) → Has q f → Has (g ++ q) f
has_second g q f x = record { has = λ a h. in_right (λ (v : Use). member_of v.item a) g q (x.has a h) }

has_both : (g q f e : Footprint) → Has g f → Has q e → Has (g ++ q) (f ++ e)
has_both g q f e x y = has_all (g ++ q) f e (has_first g q f x) (has_second g q e y)

has_self : (f : Footprint) → Has f f
has_self f = record { has = λ a h. h }

has_nothing : (f : Footprint) → Has f []
has_nothing f = record { has = λ a h. absurd h }

module _ (t : Recording) (k r : ℕ) (s : World) where
  has_content : (c d : ℕ → Handle → Footprint) → ((i : ℕ) (h : Handle) → Has (c i h) (d i h)) → (x : Option Handle) → Has (content_of c x) (content_of d x)
  has_content c d x None = has_nothing []
  has_content c d x (Some h) = elim (is_file h.opened) as (λ b. Has (cond b (c h.opened.target.node h) []) (cond b (d h.opened.target.node h) [])) [ true ↦ x h.opened.target.node h | false ↦ has_nothing [] ]

  -- What an operation has as accepted, and its room where no may-access set before it writes a descriptor.
  abbrev shape_items : Shape → Footprint
  shape_items x = shape_row (sited t k r) s foreseen x ++ each (room_at (in_ring t r) s (written_by [])) (shape_asked x)

  abbrev accepted_items : Operation → Footprint
  accepted_items o = shape_items (shape o)

  only : (f g : Footprint) → Has f g → Has f (g ++ [])
  only f g h = has_all f g [] h (has_nothing f)

  moved_has : (b w : Bool) (o n : ℕ) (x : Option Handle) → Has (moved_uses s (tried b) w o n x) (moved_uses s foreseen w o n x)
  moved_has b false o n x = has_self _
  moved_has b true o n x = has_both _ (position_use o x) _ (position_use o x) (has_content (write_content s (tried b) o n) (write_content s foreseen o n) (λ i h. record { has = λ a m. m }) x) (has_self (position_use o x))

  allocation_has : (b : Bool) (i at end : ℕ) (x : Option Allocation) → Has (allocation_uses b i at end x) (allocation_uses true i at end x)
  allocation_has b i at end (Some extend) = record { has = λ a m. m }
  allocation_has b i at end _ = record { has = λ a m. m }

  room_has : (asked : Option ℕ) → Has (room_uses (in_ring t r) s asked) (room_at (in_ring t r) s (written_by []) asked)
  room_has None = has_self (room_uses (in_ring t r) s None)
  room_has (Some n) = has_self (room_uses (in_ring t r) s (Some n))

  opened_has : (b : Bool) (g : OpenFlags) (w : Result Place Errno) → Has (each_ok (opened_at (at_place t k) (tried b) g) w) (each_ok (opened_at (at_place t k) foreseen g) w)
  opened_has b g (Err e) = has_nothing []
  opened_has b g (Ok q) = placed q.target
    where
      placed : (y : Option Target) → Has (open_uses (at_place t k) (tried b) g q y) (open_uses (at_place t k) foreseen g q y)
      placed None = elim g.create as (λ c. Has (cond c (name_written q ++ made_where (tried b) (writes (one (size_of (made_node t k))) ∷ [])) []) (cond c (name_written q ++ []) [])) [ true ↦ has_first (name_written q) _ _ (has_self (name_written q)) | false ↦ has_nothing [] ]
      placed (Some y) = has_self (open_uses (at_place t k) foreseen g q (Some y))

  open_has : (b : Bool) (g : OpenFlags) (asked : Option ℕ) (z : Result Place Errno) → Has (opening_uses (sited t k r) s (tried b) g asked z) (each_ok (opened_at (at_place t k) foreseen g) z ++ room_at (in_ring t r) s (written_by []) asked)
  open_has b g asked z =
      has_all (opening_uses (sited t k r) s (tried b) g asked z) (each_ok (opened_at (at_place t k) foreseen g) z) _
      (has_second (room_uses (in_ring t r) s asked ++ made_where (tried b) (description_made t k)) _ _ (opened_has b g z))
      (has_first _ _ _ (has_first _ _ _ (room_has asked)))

  held_path_has : (b : Bool) (f : File) (g : OpenFlags) (z : Result Place Errno) → Has (writes (file_item r f) ∷ held_path_uses (sited t k r) (tried b) g z) (writes (file_item r f) ∷ held_path_uses (sited t k r) foreseen g z)
  held_path_has b f g z = has_both (writes (file_item r f) ∷ []) _ (writes (file_item r f) ∷ []) _ (has_self (writes (file_item r f) ∷ []))
      (has_second (made_where (tried b) (description_made t k)) _ _ (opened_has b g z))

  mkdir_has : (b : Bool) (z : Result Place Errno) → Has (each_ok (directory_made (at_place t k) (tried b)) z) (each_ok (directory_made (at_place t k) foreseen) z)
  mkdir_has b (Ok q) = has_both (name_written q) _ (name_written q) [] (has_self (name_written q)) (has_nothing _)
  mkdir_has b (Err e) = has_nothing []

  uses_has : (b : Bool) (x : Shape) (z : Found) → Has (uses (sited t k r) s (tried b) x z) (uses (sited t k r) s foreseen x z ++ each (room_at (in_ring t r) s (written_by [])) (shape_asked x))
  uses_has b (moving w f o n None) z = only _ _ (moved_has b w o n z.file)
  uses_has b (moving w f o n (Some x)) z = only _ _ (has_both _ (span_use (in_ring t r) (not w) x) _ (span_use (in_ring t r) (not w) x) (moved_has b w o n z.file) (has_self _))
  uses_has b (allocating f o n mode) z = only _ _ (has_content _ _ (λ i h. allocation_has (would_extend s i (o + n)) i o (o + n) (allocation mode)) z.file)
  uses_has b (opening p g asked) z = open_has b g asked z.place
  uses_has b (making p) z = only _ _ (mkdir_has b z.place)
  uses_has b (holding_path f p g) z = only _ _ (held_path_has b f g z.place)
  uses_has b (holding_other f) z = only _ _ (has_first (reads (one (names_in 0)) ∷ writes (file_item r f) ∷ []) (made_where (tried b) (description_made t k)) _ (has_self (reads (one (names_in 0)) ∷ writes (file_item r f) ∷ [])))
  uses_has b x z = only (uses (sited t k r) s foreseen x z) (uses (sited t k r) s foreseen x z) (has_self (uses (sited t k r) s foreseen x z))

  in_row : (b : Bool) (f : Footprint) → Has (cond b f (as_reads f)) f
  in_row true f = has_self f
  in_row false f = record { has = has_atom-as_reads f }

  -- The row of an operation in a world has them.
  row_in_has : (o : Operation) → Has (row_in (sited t k r) s o) (accepted_items o)
  row_in_has o =
      has_all (row_in (sited t k r) s o) (looks ++ accepted) room
      (has_all (row_in (sited t k r) s o) looks accepted (has_first looks own looks (has_self looks)) (has_second looks own accepted (record { has = λ a m. both.has a (in_left (λ (v : Use). member_of v.item a) accepted room m) })))
      (has_second looks own room (record { has = λ a m. both.has a (in_right (λ (v : Use). member_of v.item a) accepted room m) }))
    where
      looks : Footprint
      looks = look_reads (in_ring t r) s (look (shape o))

      own : Footprint
      own = uses_in (sited t k r) s o (found (in_ring t r) s (look (shape o)))

      accepted : Footprint
      accepted = uses (sited t k r) s foreseen (shape o) (found (in_ring t r) s (look (shape o)))

      room : Footprint
      room = each (room_at (in_ring t r) s (written_by [])) (shape_asked (shape o))

      both : Has (uses_in (sited t k r) s o (found (in_ring t r) s (look (shape o)))) (uses (sited t k r) s foreseen (shape o) (found (in_ring t r) s (look (shape o))) ++ each (room_at (in_ring t r) s (written_by [])) (shape_asked (shape o)))
      both = record { has = λ a m. (in_row (is_ok (meaning (sited t k r) s o)) _).has a ((uses_has (is_ok (meaning (sited t k r) s o)) (shape o) (found (in_ring t r) s (look (shape o)))).has a m) }

module _ (t : Recording) (k : ℕ) (s u : World) where
  any_room : (x : Option ℕ) (a : Atom) → T (has_atom (reads all_descriptors ∷ each (λ n. writes (one (descriptor_at n)) ∷ []) x) a) → T (member_of all_descriptors a)
  any_room None a h = drop_false _ h
  any_room (Some n) a h = elim (split (λ (v : Use). member_of v.item a) (reads all_descriptors ∷ []) (writes (one (descriptor_at n)) ∷ []) h) [
    | inl m ↦ drop_false _ m
    | inr m ↦ subst (λ (b : Atom). T (member_of all_descriptors b)) (same_atom-eq (descriptor_at n) a (drop_false _ m)) tt
  ]

  -- The room of openat has all descriptors in both worlds.
  rooms : (r : ℕ) (x : Option (Option ℕ)) → Has (each (room_at (in_ring t r) u (written_by [])) x) (each (room_at (in_ring t r) s (written_by [])) x)
  rooms r None = has_nothing []
  rooms r (Some None) = record { has = λ a h. either_left (member_of all_descriptors a) _ (any_room (lowest_free t s) a h) }
  rooms r (Some (Some n)) = has_self (room_uses (in_ring t r) s (Some n))

  operation_items : (r : ℕ) (o : Operation) → taken (sited t k r) u o ≡ taken (sited t k r) s o → Has (makes t k o ++ row_in (sited t k r) u o) (row_in (sited t k r) s o)
  operation_items r o same = record { has = at }
    where
      from_row : (a : Atom) → T (has_atom (taken (sited t k r) u o ++ room_taken (in_ring t r) u [] o) a) → T (has_atom (makes t k o ++ row_in (sited t k r) u o) a)
      from_row a m = in_right (λ (v : Use). member_of v.item a) (makes t k o) (row_in (sited t k r) u o) ((row_in_has t k r u o).has a m)

      at : (a : Atom) → T (has_atom (row_in (sited t k r) s o) a) → T (has_atom (makes t k o ++ row_in (sited t k r) u o) a)
      at a h =
          elim (split (λ (v : Use). member_of v.item a) (taken (sited t k r) s o) (makes t k o ++ room_taken (in_ring t r) s [] o) ((accepted_over_row t k r s o []).has a tt h)) [
            | inl m ↦ from_row a (in_left (λ (v : Use). member_of v.item a) (taken (sited t k r) u o) (room_taken (in_ring t r) u [] o) (subst (λ f. T (has_atom f a)) (sym same) m))
            | inr m ↦ elim (split (λ (v : Use). member_of v.item a) (makes t k o) (room_taken (in_ring t r) s [] o) m) [
              | inl n ↦ in_left (λ (v : Use). member_of v.item a) (makes t k o) (row_in (sited t k r) u o) n
              | inr n ↦ from_row a (in_right (λ (v : Use). member_of v.item a) (taken (sited t k r) u o) (room_taken (in_ring t r) u [] o) ((rooms r (room_asked o)).has a n))
            ]
          ]

  turn_items : (x : Option Turn) → look_of t k u x ≡ look_of t k s x → Has (made_of t k x ++ each (turn_uses t k u) x) (each (turn_uses t k s) x)
  turn_items (Some (filled r b at new)) same = has_self _
  turn_items (Some (registered r slots)) same = has_self _
  turn_items (Some (runs r e o)) same = operation_items r o (ap (λ (l : LookedUp). l.items) same)
  turn_items (Some (called r o)) same = operation_items r o (ap (λ (l : LookedUp). l.items) same)
  turn_items _ same = has_nothing _

  abbrev made : Footprint
  made = made_of t k (task t k)

  row_items : look_of t k u (task t k) ≡ look_of t k s (task t k) → Has (made_of t k (task t k) ++ running_row t k u) (running_row t k s)
  row_items same =
      has_all (made ++ running_row t k u) (order_of t k) (each (turn_uses t k s) (task t k))
      (has_second made (running_row t k u) _ (has_first (order_of t k) _ _ (has_self _)))
      (record {
        has = λ a h. elim (split (λ (v : Use). member_of v.item a) made (each (turn_uses t k u) (task t k)) ((turn_items (task t k) same).has a h)) [
          | inl m ↦ in_left (λ (v : Use). member_of v.item a) made (running_row t k u) m
          | inr m ↦ in_right (λ (v : Use). member_of v.item a) made (running_row t k u)
              (in_right (λ (v : Use). member_of v.item a) (order_of t k) (each (turn_uses t k u) (task t k)) m)
        ];
      })

  -- So a row that meets nothing in one world meets nothing in the other.
  unmet_row : (earlier : List Footprint) → look_of t k u (task t k) ≡ look_of t k s (task t k) → is_met (made_of t k (task t k)) earlier ≡ false → is_met (running_row t k u) earlier ≡ false → is_met (running_row t k s) earlier ≡ false
  unmet_row earlier same made free = unmet_part (made_of t k (task t k) ++ running_row t k u) (running_row t k s) earlier (row_items same).has
      (is_false _ (λ h. elim (split (λ (v : Use). written_by earlier v.item) (made_of t k (task t k)) (running_row t k u) h) [ inl m ↦ not_false _ made m | inr m ↦ not_false _ free m ]))

same_by_false : (a b : Bool) → (a ≡ false → b ≡ false) → (b ≡ false → a ≡ false) → a ≡ b
same_by_false true b f g = sym (true_from_ne_false b (λ e. true≢false (g e)))
same_by_false false b f g = sym (f refl)

pub rows_meet_the_same : (t : Recording) → RowItems t
rows_meet_the_same t k s u earlier same made = same_by_false _ _ (unmet_row t k s u earlier same made) (unmet_row t k u s earlier (sym same) made)
