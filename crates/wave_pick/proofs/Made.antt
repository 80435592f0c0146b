-- The may-access set of an earlier place writes nothing that a place makes.
use Rattle.std.specs.Prelude.{◌≡◌, ℕ, suc, Bool, true, false, cond, not, ◌&&◌, ◌||◌, ◌+◌, ◌<◌, ◌≤◌, ltb, leb, length, T, List, [], ◌∷◌, ◌++◌, map, Option, Some, None, refl}
use Rattle.std.proofs.Common.{inl, inr, sym, subst, arith}
use Rattle.std.proofs.lemmas.Bool.{cond_both}
use Rattle.std.specs.List.{flat_map}
use lib.Dec.{ltb→lt, lt→ltb, eqb→eq}
use Rattle.recording.specs.declared.recording.Recording.{Recording}
use Rattle.trace_records.specs.declared.record.FullSlot.{FullSlot}
use Rattle.sqe_codec.specs.Answers.{each}
use Rattle.chain_plan.specs.Chain.{role}
use Rattle.entry_checks.specs.Operation.{File, OpenFlags, Span, file_limit, in_slot, at_descriptor}
use Rattle.world_parts.specs.World.{World}
use Rattle.world_parts.specs.Items.{Atom, chain_flag, ring_order, slot_at, descriptor_at, description_at, position_of, size_of, byte_at, name_at, names_in, buffer_byte, Item, one, file_bytes, buffer_bytes, all_names, all_bytes_and_sizes, all_positions, all_descriptions, all_descriptors, member_of, Use, reads, writes, Footprint, writes_atom}
use Rattle.world_parts.proofs.Collision.{left, right, true_of, writes-has, same_atom-eq}
use Rattle.world_parts.proofs.Sharing.{holds_true}
use Rattle.op_meaning.specs.Site.{in_ring, sited}
use Rattle.op_meaning.specs.Meaning.{made_node, made_description, slot_count, span_start, lowest_free, shape}
use Rattle.foot_print.specs.Footprint.{use_of, held_item, file_item, file_reads, span_use, description_made, holder_item, slot_uses}
use Rattle.op_meaning.specs.Shape.{Shape, idle, looking, moving, allocating, resizing, closing, opening, measuring, making, freeing, linking, renaming, holding, holding_path, holding_copy, holding_other, seeking}
use Rattle.op_meaning.specs.Step.{Turn, filled, registered, called, runs, queue_at}
use Rattle.foot_print.specs.Reach.{shape_makes, room_asked, room_at, unresolved_shape, written_by, is_met, node_made, makes, all_files, any_name, any_position, unresolved_file, unresolved_opening, unresolved_of, extras_of, task, look_of, order_of, running_row, accepted_row, wide_row, is_taken_to_run, reach}
use Rattle.foot_print.specs.Replayed.{is_earlier, Known}
use Rattle.foot_print.proofs.Cover.{all_covered}
use Rattle.foot_print.proofs.Holding.{split, drop_false}
use Rattle.foot_print.proofs.Lawful.{row_laws}
use Rattle.foot_print.proofs.Writing.{is_false, atom_of_writes}
use Rattle.wave_pick.specs.Waiting.{made_of}

-- All atoms that an access set writes are of no place behind k.
record UpTo (t : Recording) (k : ℕ) (f : Footprint) : Type 0 where
  bound : (a : Atom) → T (writes_atom f a) → T (is_earlier t (suc k) a)

module _ (t : Recording) where
  -- What is of an earlier place is of one before any later place.
  later_still : (i j : ℕ) → i ≤ j → (a : Atom) → T (is_earlier t i a) → T (is_earlier t j a)
  later_still i j le (description_at d) h = let l = ltb→lt d (made_description t i) h in lt→ltb d (made_description t j) (omega arith)
  later_still i j le (position_of d) h = let l = ltb→lt d (made_description t i) h in lt→ltb d (made_description t j) (omega arith)
  later_still i j le (size_of n) h = let l = ltb→lt n (made_node t i) h in lt→ltb n (made_node t j) (omega arith)
  later_still i j le (byte_at n p) h = let l = ltb→lt n (made_node t i) h in lt→ltb n (made_node t j) (omega arith)
  later_still i j le (name_at d n) h = let l = ltb→lt d (made_node t i) h in lt→ltb d (made_node t j) (omega arith)
  later_still i j le (names_in d) h = let l = ltb→lt d (made_node t i) h in lt→ltb d (made_node t j) (omega arith)
  later_still i j le _ h = tt

  module _ (k : ℕ) where
    abbrev Bound : Footprint → Type 0
    Bound f = UpTo t k f

    node_here : T (ltb (made_node t k) (made_node t (suc k)))
    node_here = lt→ltb (made_node t k) (made_node t (suc k)) (omega arith)

    description_here : T (ltb (made_description t k) (made_description t (suc k)))
    description_here = lt→ltb (made_description t k) (made_description t (suc k)) (omega arith)

    up_to : (a : Atom) → T (is_earlier t k a) → T (is_earlier t (suc k) a)
    up_to = later_still k (suc k) (omega arith)

    nothing : Bound []
    nothing = record { bound = λ a h. absurd h }

    all : (f g : Footprint) → Bound f → Bound g → Bound (f ++ g)
    all f g x y = record { bound = λ a h. elim (split (λ (v : Use). v.written && member_of v.item a) f g h) [ inl m ↦ x.bound a m | inr m ↦ y.bound a m ] }

    atom : (b : Atom) (v : Bool) → T (is_earlier t (suc k) b) → Bound (use_of v (one b) ∷ [])
    atom b v e = record { bound = λ a h. subst (λ c. T (is_earlier t (suc k) c)) (same_atom-eq b a (right v _ (drop_false _ h))) e }

    item : (x : Item) (v : Bool) → ((a : Atom) → T (member_of x a) → T (is_earlier t (suc k) a)) → Bound (use_of v x ∷ [])
    item x v g = record { bound = λ a h. g a (right v _ (drop_false _ h)) }

    read : (x : Item) → Bound (reads x ∷ [])
    read x = record { bound = λ a h. absurd h }

    of_buffer : (r b low high : ℕ) (a : Atom) → T (member_of (buffer_bytes r b low high) a) → T (is_earlier t (suc k) a)
    of_buffer r b low high (buffer_byte q c p) h = tt
    of_buffer r b low high _ h = absurd h

    of_descriptors : (a : Atom) → T (member_of all_descriptors a) → T (is_earlier t (suc k) a)
    of_descriptors (descriptor_at n) h = tt
    of_descriptors _ h = absurd h

    of_names : (a : Atom) → T (member_of (all_names (made_node t k)) a) → T (is_earlier t (suc k) a)
    of_names (name_at d n) h = up_to (name_at d n) h
    of_names (names_in d) h = up_to (names_in d) h
    of_names _ h = absurd h

    of_files : (a : Atom) → T (member_of (all_bytes_and_sizes (made_node t k)) a) → T (is_earlier t (suc k) a)
    of_files (byte_at i p) h = up_to (byte_at i p) h
    of_files (size_of i) h = up_to (size_of i) h
    of_files _ h = absurd h

    of_positions : (a : Atom) → T (member_of (all_positions (made_description t k)) a) → T (is_earlier t (suc k) a)
    of_positions (position_of d) h = up_to (position_of d) h
    of_positions _ h = absurd h

    of_descriptions : (a : Atom) → T (member_of (all_descriptions (made_description t k)) a) → T (is_earlier t (suc k) a)
    of_descriptions (description_at d) h = up_to (description_at d) h
    of_descriptions _ h = absurd h

    of_made_file : (a : Atom) → T (member_of (file_bytes (made_node t k) 0 file_limit) a) → T (is_earlier t (suc k) a)
    of_made_file (byte_at j p) h = subst (λ n. T (ltb n (made_node t (suc k)))) (eqb→eq (made_node t k) j (left _ _ h)) node_here
    of_made_file _ h = absurd h

    held : (v : Bool) (r : ℕ) (f : File) → Bound (map (use_of v) (held_item (in_ring t r) f))
    held v r (in_slot n) = elim (ltb n (slot_count t r)) as (λ c. Bound (map (use_of v) (cond c (one (slot_at r n) ∷ []) []))) [ true ↦ atom (slot_at r n) v tt | false ↦ nothing ]
    held v r (at_descriptor n) = elim (ltb n (length t.descriptors)) as (λ c. Bound (map (use_of v) (cond c (one (descriptor_at n) ∷ []) []))) [ true ↦ atom (descriptor_at n) v tt | false ↦ nothing ]

    -- the slot or the descriptor of any number, which is written
    file_written : (r : ℕ) (f : File) → Bound (writes (file_item r f) ∷ [])
    file_written r (in_slot n) = atom (slot_at r n) true tt
    file_written r (at_descriptor n) = atom (descriptor_at n) true tt

    order : Bound (order_of t k)
    order = all (use_of (role t k).barrier (one (ring_order (queue_at t k))) ∷ []) _ (atom (ring_order (queue_at t k)) (role t k).barrier tt)
        (cond_both (leb 2 (role t k).length) _ _ Bound (λ _. atom (chain_flag (role t k).chain) true tt) (λ _. nothing))

    description : Bound (description_made t k)
    description = all (writes (one (description_at (made_description t k))) ∷ []) _ (atom (description_at (made_description t k)) true description_here) (atom (position_of (made_description t k)) true description_here)

    made : Bound (node_made t k ++ description_made t k)
    made =
        all (writes (one (size_of (made_node t k))) ∷ []) _ (atom (size_of (made_node t k)) true node_here)
        (all (writes (file_bytes (made_node t k) 0 file_limit) ∷ []) _ (item (file_bytes (made_node t k) 0 file_limit) true of_made_file)
        (all (writes (one (names_in (made_node t k))) ∷ []) (description_made t k) (atom (names_in (made_node t k)) true node_here) description))

    makes_bound : (x : Shape) → Bound (shape_makes t k x)
    makes_bound (opening p g asked) = made
    makes_bound (making p) = made
    makes_bound (holding_path f p g) = made
    makes_bound (holding_other f) = description
    makes_bound _ = nothing

    room_bound : (s : World) (r : ℕ) (earlier : List Footprint) (x : Option (Option ℕ)) → Bound (each (room_at (in_ring t r) s (written_by earlier)) x)
    room_bound s r earlier None = nothing
    room_bound s r earlier (Some (Some n)) = held true r (in_slot n)
    room_bound s r earlier (Some None) =
        cond_both (written_by earlier all_descriptors) _ _ Bound (λ _. item all_descriptors true of_descriptors)
        (λ _. all (reads all_descriptors ∷ []) _ (item all_descriptors false of_descriptors) (at (lowest_free t s)))
      where
        at : (y : Option ℕ) → Bound (each (λ n. writes (one (descriptor_at n)) ∷ []) y)
        at None = nothing
        at (Some n) = atom (descriptor_at n) true tt

    span_bound : (v : Bool) (r : ℕ) (x : Span) → Bound (span_use (in_ring t r) v x)
    span_bound v r x = at (span_start (in_ring t r) x)
      where
        at : (y : Option ℕ) → Bound (each (λ p. use_of v (buffer_bytes r x.index p (p + x.length)) ∷ []) y)
        at None = nothing
        at (Some p) = item (buffer_bytes r x.index p (p + x.length)) v (of_buffer r x.index p (p + x.length))

    file_bound : (r : ℕ) (f : File) → Bound (unresolved_file (sited t k r) f)
    file_bound r f = all (file_reads (in_ring t r) f) (all_files t k) (held false r f)
        (all (writes (all_bytes_and_sizes (made_node t k)) ∷ []) _ (item _ true of_files)
        (all (writes (all_positions (made_description t k)) ∷ []) _ (item _ true of_positions) (item _ false of_descriptions)))

    names_bound : Bound (any_name t k)
    names_bound = item _ true of_names

    opening_bound : (r : ℕ) (g : OpenFlags) → Bound (unresolved_opening (sited t k r) g)
    opening_bound r g = all (any_name t k) _ names_bound
        (cond_both g.truncate _ _ Bound (λ _. item (all_bytes_and_sizes (made_node t k)) true of_files) (λ _. nothing))

    shape_bound : (r : ℕ) (x : Shape) → Bound (unresolved_shape (sited t k r) x)
    shape_bound r idle = nothing
    shape_bound r (looking f) = held false r f
    shape_bound r (moving w f o n None) = file_bound r f
    shape_bound r (moving w f o n (Some x)) = all (unresolved_file (sited t k r) f) _ (file_bound r f) (span_bound (not w) r x)
    shape_bound r (allocating f o n mode) = file_bound r f
    shape_bound r (resizing f n) = file_bound r f
    shape_bound r (closing f) = held true r f
    shape_bound r (opening p g asked) = opening_bound r g
    shape_bound r (measuring p) = all (reads (all_names (made_node t k)) ∷ []) _ (read (all_names (made_node t k))) (read (all_bytes_and_sizes (made_node t k)))
    shape_bound r (making p) = names_bound
    shape_bound r (freeing p removes) = names_bound
    shape_bound r (linking old new) = names_bound
    shape_bound r (renaming old new) = names_bound
    shape_bound r (holding f) = file_written r f
    shape_bound r (holding_path f p g) = all (writes (file_item r f) ∷ []) _ (file_written r f) (opening_bound r g)
    shape_bound r (holding_copy f q source) = all (reads (file_item q source) ∷ []) _ (read (file_item q source)) (file_written r f)
    shape_bound r (holding_other f) = all (reads (one (names_in 0)) ∷ []) _ (read (one (names_in 0))) (file_written r f)
    shape_bound r (seeking f) = all (file_reads (in_ring t r) f) (any_position t k) (held false r f)
        (all (writes (all_positions (made_description t k)) ∷ []) _ (item _ true of_positions) (item _ false of_descriptions))

    -- What the slots of a new ring get is read, and the slots are written.
    slots_bound : (r : ℕ) (slots : List FullSlot) → Bound (flat_map (slot_uses r) slots)
    slots_bound r [] = nothing
    slots_bound r (x ∷ xs) = all (slot_uses r x) _ (all (reads (holder_item x.holds) ∷ []) _ (read (holder_item x.holds)) (atom (slot_at r x.number) true tt)) (slots_bound r xs)

    module _ (s : World) (earlier : List Footprint) where
      unresolved_of_bound : (x : Option Turn) → Bound (unresolved_of t k s x)
      unresolved_of_bound (Some (filled r b at new)) = item _ true (of_buffer r b at (at + length new))
      unresolved_of_bound (Some (runs r e o)) = shape_bound r (shape o)
      unresolved_of_bound (Some (called r o)) = shape_bound r (shape o)
      unresolved_of_bound _ = nothing

      extras_bound : (x : Option Turn) → Bound (extras_of t k s earlier x)
      extras_bound (Some (registered r slots)) = slots_bound r slots
      extras_bound (Some (runs r e o)) = all (makes t k o) _ (makes_bound (shape o)) (room_bound s r earlier (room_asked o))
      extras_bound (Some (called r o)) = all (makes t k o) _ (makes_bound (shape o)) (room_bound s r earlier (room_asked o))
      extras_bound _ = nothing

      wide_bound : Bound (wide_row t k s earlier)
      wide_bound = all (order_of t k) _ order (all (unresolved_of t k s (task t k)) _ (unresolved_of_bound (task t k)) (extras_bound (task t k)))

      -- A may-access set writes nothing of later places.
      reach_bound : Known t k s earlier → Bound (reach t k s earlier)
      reach_bound known =
          cond_both (is_taken_to_run t k s earlier) _ _ Bound
          (λ run. cond_both (is_met (look_of t k s (task t k)).deciding earlier) _ _ Bound (λ _. wide_bound)
          (λ _. cond_both (is_met (running_row t k s) earlier) _ _ Bound (λ _. accepted_bound run) (λ _. row_bound run)))
          (λ _. order)
        where
          accepted_bound : is_taken_to_run t k s earlier ≡ true → Bound (accepted_row t k s earlier)
          accepted_bound e = all (order_of t k) _ order (all (look_of t k s (task t k)).items _ (record { bound = λ a h. up_to a (holds_true _ (known e a (true_of _ (writes-has _ a h)))) }) (extras_bound (task t k)))

          row_bound : is_taken_to_run t k s earlier ≡ true → Bound (running_row t k s)
          row_bound e = record { bound = λ a h. (accepted_bound e).bound a (holds_true _ (((row_laws t all_covered).accepted_holds_row k s earlier).1 a (true_of _ h))) }

  -- What a place makes is of no earlier place.
  below_itself : (n : ℕ) → T (ltb n n) → ⊥
  below_itself n h = let l = ltb→lt n n h in omega arith

  abbrev Own : ℕ → Item → Type 0
  Own k x = (a : Atom) → T (member_of x a) → T (is_earlier t k a) → ⊥

  own_atom : (k : ℕ) (b : Atom) → (T (is_earlier t k b) → ⊥) → Own k (one b)
  own_atom k b apart a h e = apart (subst (λ c. T (is_earlier t k c)) (sym (same_atom-eq b a h)) e)

  own_file : (k : ℕ) → Own k (file_bytes (made_node t k) 0 file_limit)
  own_file k (byte_at j p) h e = below_itself (made_node t k) (subst (λ n. T (ltb n (made_node t k))) (sym (eqb→eq (made_node t k) j (left _ _ h))) e)
  own_file k _ h e = h

  module _ (k i : ℕ) (lt : i < k) (s : World) (earlier : List Footprint) (known : Known t i s earlier) where
    unwritten_own : (x : Item) → Own k x → written_by (reach t i s earlier ∷ []) x ≡ false
    unwritten_own x own = is_false _ (λ h.
        let c = atom_of_writes x (reach t i s earlier) (drop_false _ h) in
        own c.0 c.2 (later_still (suc i) k (omega arith) c.0 ((reach_bound i s earlier known).bound c.0 c.1)))

    own_one : (b : Atom) → (T (is_earlier t k b) → ⊥) → written_by (reach t i s earlier ∷ []) (one b) ≡ false
    own_one b apart = unwritten_own (one b) (own_atom k b apart)

    own_description_unmet : is_met (description_made t k) (reach t i s earlier ∷ []) ≡ false
    own_description_unmet = λ j.
        own_one (description_at (made_description t k)) (below_itself (made_description t k)) j
        || (own_one (position_of (made_description t k)) (below_itself (made_description t k)) j || false)

    own_unmet : is_met (node_made t k ++ description_made t k) (reach t i s earlier ∷ []) ≡ false
    own_unmet = λ j.
        own_one (size_of (made_node t k)) (below_itself (made_node t k)) j
        || (unwritten_own (file_bytes (made_node t k) 0 file_limit) (own_file k) j
        || (own_one (names_in (made_node t k)) (below_itself (made_node t k)) j || own_description_unmet j))

    makes_unmet : (x : Shape) → is_met (shape_makes t k x) (reach t i s earlier ∷ []) ≡ false
    makes_unmet (opening p g asked) = own_unmet
    makes_unmet (making p) = own_unmet
    makes_unmet (holding_path f p g) = own_unmet
    makes_unmet (holding_other f) = own_description_unmet
    makes_unmet _ = refl

    -- The may-access set of an earlier place writes nothing that a turn makes.
    pub made_unmet : (x : Option Turn) → is_met (made_of t k x) (reach t i s earlier ∷ []) ≡ false
    made_unmet (Some (runs r e o)) = makes_unmet (shape o)
    made_unmet (Some (called r o)) = makes_unmet (shape o)
    made_unmet _ = refl
