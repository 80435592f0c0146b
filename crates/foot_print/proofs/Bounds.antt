-- In a world whose numbers are initial or of earlier places, all that a place looks up is of earlier places.
use Rattle.std.proofs.lemmas.Bool.{cases_lt}
use Rattle.std.specs.Prelude.{◌≡◌, ℕ, Bool, true, false, cond, not, ◌&&◌, ◌||◌, ◌==◌, ltb, ◌+◌, ◌-◌, ◌≤◌, min, length, T, List, [], ◌∷◌, ◌++◌, map, Option, Some, None, Result, Ok, Err, IfSome, IsSome}
use Rattle.std.specs.Option.{option_map, option_and_then, is_some}
use Rattle.std.proofs.Common.{inl, inr}
use mathlib.Core.Path.{sym, subst, ap, ◌∙◌}
use native.Mathlib.Omega.{arith}
use lib.Dec.{ltb→lt, lt→ltb}
use Rattle.sqe_codec.specs.declared.errno.Errno.{Errno}
use Rattle.sqe_codec.specs.declared.errno.Errno.TheVariants.{ENAMETOOLONG, EBADF, ENOTDIR}
use Rattle.recording.specs.declared.recording.Recording.{Recording}
use Rattle.sqe_codec.specs.Answers.{each, each_ok, ◌>>=◌, ◌>>◌, require}
use Rattle.trace_format.specs.Paths.{components}
use Rattle.entry_checks.specs.Operation.{Operation, File, Span, Path, OpenFlags, file_limit, at_position, in_slot, at_descriptor}
use Rattle.finite_maps.specs.Table.{get}
use Rattle.world_parts.specs.World.{World, IsWorld, Description, Opened, opened, opened_by, kind, names, name}
use Rattle.file_tree.specs.Tree.{target, Target, kind_of_node}
use Rattle.file_tree.specs.Walk.{Place, walk, walk_from, names_from, directory_at, fits_name, starts_at_root, is_directory}
use Rattle.op_meaning.specs.Site.{at_place, in_ring, sited}
use Rattle.op_meaning.specs.Meaning.{made_node, made_description, slot_count, Handle, handle, handle_of, held, is_file, allocation, Allocation, found, shape}
use Rattle.world_parts.specs.Items.{Atom, description_at, position_of, size_of, byte_at, name_at, names_in, buffer_byte, Item, one, file_bytes, buffer_bytes, member_of, Use, reads, writes, Footprint, has_atom}
use Rattle.foot_print.specs.Footprint.{foreseen, shape_row, look_reads, uses, file_seen, content_of, moved_content, moved_uses, opened_at, directory_made, name_freed, allocation_uses, open_uses, use_of, held_item, file_reads, range_of, transfer_range, position_written, position_use, span_use, path_reads, name_written, directory_names, allocated_content, resized_content, size_read, measured_at, file_item, position_sought}
use Rattle.op_meaning.specs.Shape.{Shape, idle, looking, moving, allocating, resizing, closing, opening, measuring, making, freeing, linking, renaming, holding, holding_path, holding_copy, holding_other, seeking, Look, at_nothing, at_file, at_path, at_paths, look}
use Rattle.foot_print.specs.Reach.{taken}
use Rattle.foot_print.specs.Replayed.{IsBefore, is_earlier}
use Rattle.world_parts.proofs.Collision.{same_atom-eq}
use Rattle.foot_print.proofs.Holding.{split, drop_false}

none_some : {A : Type 0} (o : Option A) → o ≡ None → is_some o ≡ true → ⊥
none_some o e h = subst T (sym h ∙ ap is_some e) tt

-- Where nothing is at the numbers of a place and of later ones, what is there is at an earlier number.
below_made : {A : Type 0} (k first i : ℕ) (at : ℕ → Option A) → ((j : ℕ) → k ≤ j → at (first + j) ≡ None) → IsSome (at i) → T (ltb i (first + k))
below_made k first i at unused h = elim (cases_lt i (first + k)) [
  | inl l ↦ lt→ltb i (first + k) l
  | inr l ↦
      let same : first + (i - first) ≡ i = omega (arith, l) in
      absurd (none_some (at i) (subst (λ x. at x ≡ None) same (unused (i - first) (omega (arith, l)))) h)
]

module _ (t : Recording) (k : ℕ) (s : World) (w : IsWorld s) (before : IsBefore t k s) where
  node_before : (i : ℕ) → IsSome (kind s i) → T (ltb i (made_node t k))
  node_before i h = below_made k (length t.items + 1) i (kind s) (λ j l. ap (option_map kind_of_node) (before j l).no_node) h

  description_before : (d : ℕ) → IsSome (opened s d) → T (ltb d (made_description t k))
  description_before d h = below_made k (length t.descriptions) d (opened s) (λ j l. ap (option_map (opened_by s)) (before j l).no_description) h

  abbrev Bound : Footprint → Type 0
  Bound f = (a : Atom) → T (has_atom f a) → T (is_earlier t k a)

  bound_nothing : Bound []
  bound_nothing a h = absurd h

  bound_all : (f g : Footprint) → Bound f → Bound g → Bound (f ++ g)
  bound_all f g x y a h = elim (split (λ (u : Use). member_of u.item a) f g h) [ inl m ↦ x a m | inr m ↦ y a m ]

  bound_one : (b : Atom) (v : Bool) → T (is_earlier t k b) → Bound (record { item = one b; written = v } ∷ [])
  bound_one b v e a h = subst (λ c. T (is_earlier t k c)) (same_atom-eq b a (drop_false _ h)) e

  bound_range : (i low high : ℕ) (v : Bool) → T (ltb i (made_node t k)) → Bound (record { item = file_bytes i low high; written = v } ∷ [])
  bound_range i low high v e a h = go a (drop_false _ h)
    where
      go : (b : Atom) → T (member_of (file_bytes i low high) b) → T (is_earlier t k b)
      go (byte_at j p) m = subst (λ n. T (ltb n (made_node t k))) (lib.Dec.eqb→eq i j (Rattle.world_parts.proofs.Collision.left _ _ m)) e
      go _ m = absurd m

  bound_buffer : (r b low high : ℕ) (v : Bool) → Bound (record { item = buffer_bytes r b low high; written = v } ∷ [])
  bound_buffer r b low high v a h = go a (drop_false _ h)
    where
      go : (c : Atom) → T (member_of (buffer_bytes r b low high) c) → T (is_earlier t k c)
      go (buffer_byte q c p) m = tt
      go _ m = absurd m

  bound_held : (v : Bool) (r : ℕ) (f : File) → Bound (map (use_of v) (held_item (in_ring t r) f))
  bound_held v r (in_slot n) = elim (ltb n (slot_count t r)) as (λ c. Bound (map (use_of v) (cond c (one (Rattle.world_parts.specs.Items.slot_at r n) ∷ []) []))) [ true ↦ bound_one (Rattle.world_parts.specs.Items.slot_at r n) v tt | false ↦ bound_nothing ]
  bound_held v r (at_descriptor n) = elim (ltb n (length t.descriptors)) as (λ c. Bound (map (use_of v) (cond c (one (Rattle.world_parts.specs.Items.descriptor_at n) ∷ []) []))) [ true ↦ bound_one (Rattle.world_parts.specs.Items.descriptor_at n) v tt | false ↦ bound_nothing ]

  -- The slot or descriptor of any number.
  bound_file : (v : Bool) (q : ℕ) (f : File) → Bound (record { item = file_item q f; written = v } ∷ [])
  bound_file v q (in_slot n) = bound_one (Rattle.world_parts.specs.Items.slot_at q n) v tt
  bound_file v q (at_descriptor n) = bound_one (Rattle.world_parts.specs.Items.descriptor_at n) v tt

  module _ (r : ℕ) where
    held_leads : (f : File) → IfSome (held (in_ring t r) s f) (λ d. IsSome (opened s d))
    held_leads f = let slots = λ (n : ℕ). w.slots_lead r n in let descriptors = w.descriptors_lead in grind (arith, slots, descriptors)

    bound_position : (o : ℕ) (h : Handle) → T (ltb h.description (made_description t k)) → Bound (position_written h o)
    bound_position o h e = elim (o == at_position) as (λ b. Bound (cond b (writes (one (position_of h.description)) ∷ []) [])) [ true ↦ bound_one (position_of h.description) true e | false ↦ bound_nothing ]

    abbrev BoundContent : (ℕ → Handle → Footprint) → Type 0
    BoundContent c = (i : ℕ) (h : Handle) → T (ltb i (made_node t k)) → T (ltb h.description (made_description t k)) → Bound (c i h)

    bound_seen : (f : File) → Bound (file_seen (in_ring t r) s f)
    bound_seen f = bound_all (file_reads (in_ring t r) f) _ (bound_held false r f) (at (held (in_ring t r) s f) (held_leads f))
      where
        at : (x : Option ℕ) → IfSome x (λ d. IsSome (opened s d)) → Bound (each (λ d. reads (one (description_at d)) ∷ []) x)
        at None l = bound_nothing
        at (Some d) l = bound_one (description_at d) false (description_before d l)

    -- What is open is of earlier places.
    abbrev Before : Option Handle → Type 0
    Before x = IfSome x (λ h. T (ltb h.opened.target.node (made_node t k)) × T (ltb h.description (made_description t k)))

    handle_before : (f : File) → Before (handle (in_ring t r) s f)
    handle_before f = at (held (in_ring t r) s f) (held_leads f)
      where
        leads : (d : ℕ) → T (ltb d (made_description t k)) → (y : Option Description) → IfSome (option_map (opened_by s) y) (λ o. IsSome o.target.kind) → Before (option_map (λ (o : Opened). record { description = d; opened = o }) (option_map (opened_by s) y))
        leads d e None l = tt
        leads d e (Some y) l = (node_before y.node l, e)

        at : (x : Option ℕ) → IfSome x (λ d. IsSome (opened s d)) → Before (option_and_then (handle_of s) x)
        at None l = tt
        at (Some d) l = leads d (description_before d l) (get s.descriptions d) (w.descriptions_lead d)

    bound_content : (c : ℕ → Handle → Footprint) → BoundContent c → (x : Option Handle) → Before x → Bound (content_of c x)
    bound_content c b None l = bound_nothing
    bound_content c b (Some h) l = elim (is_file h.opened) as (λ v. Bound (cond v (c h.opened.target.node h) [])) [ true ↦ b h.opened.target.node h l.0 l.1 | false ↦ bound_nothing ]

    bound_positions : (o : ℕ) (x : Option Handle) → Before x → Bound (position_use o x)
    bound_positions o None l = bound_nothing
    bound_positions o (Some h) l = bound_position o h l.1

    bound_sought : (x : Option Handle) → Before x → Bound (position_sought x)
    bound_sought None l = bound_nothing
    bound_sought (Some h) l = bound_one (position_of h.description) true l.1

    bound_transferred : (v : Bool) (b : Bool) (i o n : ℕ) → T (ltb i (made_node t k)) → Bound (record { item = transfer_range i b o n; written = v } ∷ [])
    bound_transferred v true i o n e = bound_range i 0 (min file_limit file_limit) v e
    bound_transferred v false i o n e = bound_range i o (min (o + n) file_limit) v e

    bound_moved_content : (w : Bool) (o n : ℕ) → BoundContent (moved_content s foreseen w o n)
    bound_moved_content false o n i h e d = bound_all (reads (one (size_of i)) ∷ []) (reads (transfer_range i (o == at_position) o n) ∷ position_written h o) (bound_one (size_of i) false e)
        (bound_all (reads (transfer_range i (o == at_position) o n) ∷ []) (position_written h o) (bound_transferred false (o == at_position) i o n e) (bound_position o h d))
    bound_moved_content true o n i h e d = bound_all (writes (one (size_of i)) ∷ []) (writes (transfer_range i (h.opened.append || o == at_position) o n) ∷ position_written h o) (bound_one (size_of i) true e)
        (bound_all (writes (transfer_range i (h.opened.append || o == at_position) o n) ∷ []) (position_written h o) (bound_transferred true (h.opened.append || o == at_position) i o n e) (bound_position o h d))

    bound_moved : (w : Bool) (o n : ℕ) (x : Option Handle) → Before x → Bound (moved_uses s foreseen w o n x)
    bound_moved w o n x l = bound_all (content_of (moved_content s foreseen w o n) x) _ (bound_content (moved_content s foreseen w o n) (bound_moved_content w o n) x l) (bound_positions o x l)

    bound_span : (v : Bool) (x : Span) → Bound (span_use (in_ring t r) v x)
    bound_span v x = grind (arith, bound_nothing, bound_buffer)

    bound_allocation : (i at end : ℕ) (a : Option Allocation) → T (ltb i (made_node t k)) → Bound (allocation_uses true i at end a)
    bound_allocation i at end a e = grind (arith, bound_one, bound_all, bound_range)

    bound_cut : (i n : ℕ) → T (ltb i (made_node t k)) → Bound (writes (one (size_of i)) ∷ writes (range_of i n file_limit) ∷ [])
    bound_cut i n e = bound_all (writes (one (size_of i)) ∷ []) (writes (range_of i n file_limit) ∷ []) (bound_one (size_of i) true e) (bound_range i n (min file_limit file_limit) true e)

    -- Walks.
    abbrev name_read : ℕ × List ℕ → Use
    name_read e = reads (one (name_at e.0 e.1))

    -- A component leads to a directory of an earlier place, or to an error.
    leads_down : (P : Result ℕ Errno → Type 0) → ((e : Errno) → P (Err e)) → ((x : ℕ) → T (ltb x (made_node t k)) → P (Ok x))
        → (y : Option ℕ) → IfSome (option_map (target s.nodes) y) (λ (g : Target). IsSome g.kind) → P (directory_at (option_map (target s.nodes) y))
    leads_down P fails next None l = fails _
    leads_down P fails next (Some i) l =
        elim (is_directory (kind s i)) as (λ b. P (cond b (Ok i) (Err ENOTDIR))) [ true ↦ next i (node_before i l) | false ↦ fails _ ]

    bound_names : (ns : List (List ℕ)) (d : ℕ) → T (ltb d (made_node t k)) → Bound (map name_read (names_from s.nodes d ns))
    bound_names [] d e = bound_nothing
    bound_names (n ∷ ns) d e =
        elim (fits_name n) as (λ b. Bound (map name_read (cond b ((d, n) ∷ each_ok (λ x. names_from s.nodes x ns) (directory_at (name s d n))) []))) [
          | true ↦ bound_all (name_read (d, n) ∷ []) _ (bound_one (name_at d n) false e)
              (leads_down (λ r. Bound (map name_read (each_ok (λ x. names_from s.nodes x ns) r))) (λ x. bound_nothing) (bound_names ns)
              (option_and_then (λ m. get m n) (names s d)) (w.tree.names_lead d n))
          | false ↦ bound_nothing
        ]

    root_before : T (ltb 0 (made_node t k))
    root_before = lt→ltb 0 (made_node t k) (omega arith)

    bound_path : (p : Path) → Bound (path_reads s p)
    bound_path p = elim (starts_at_root p) as (λ b. Bound (map name_read (cond b (names_from s.nodes 0 (components p.text)) []))) [ true ↦ bound_names (components p.text) 0 root_before | false ↦ bound_nothing ]

    -- Where a walk ends, its directory and what the last name leads to are of earlier places.
    abbrev Placed : Result Place Errno → Type 0
    Placed (Ok q) = T (ltb q.parent (made_node t k)) × IfSome q.target (λ (y : Target). T (ltb y.node (made_node t k)))
    Placed (Err e) = Unit {0}

    leads : (y : Option ℕ) → IfSome (option_map (target s.nodes) y) (λ (g : Target). IsSome g.kind) → IfSome (option_map (target s.nodes) y) (λ (g : Target). T (ltb g.node (made_node t k)))
    leads y l = grind (arith, node_before)

    placed_from : (ns : List (List ℕ)) (d : ℕ) → T (ltb d (made_node t k)) → Placed (walk_from s.nodes d ns)
    placed_from [] d e = tt
    placed_from (n ∷ []) d e = elim (fits_name n) as (λ b. Placed (require b ENAMETOOLONG >> Ok (record { parent = d; name = n; target = name s d n }))) [
      | true ↦ (e, leads (option_and_then (λ m. get m n) (names s d)) (w.tree.names_lead d n))
      | false ↦ tt
    ]
    placed_from (n ∷ m ∷ ns) d e = elim (fits_name n) as (λ b. Placed (require b ENAMETOOLONG >> (directory_at (name s d n) >>= λ x. walk_from s.nodes x (m ∷ ns)))) [
      | true ↦ leads_down (λ r. Placed (r >>= λ x. walk_from s.nodes x (m ∷ ns))) (λ x. tt) (placed_from (m ∷ ns))
          (option_and_then (λ q. get q n) (names s d)) (w.tree.names_lead d n)
      | false ↦ tt
    ]

    placed : (p : Path) → Placed (walk s.nodes p)
    placed p = elim (starts_at_root p) as (λ b. Placed (require b EBADF >> walk_from s.nodes 0 (components p.text))) [ true ↦ placed_from (components p.text) 0 root_before | false ↦ tt ]

    bound_place : (g : Place → Footprint) → ((q : Place) → T (ltb q.parent (made_node t k)) → IfSome q.target (λ (y : Target). T (ltb y.node (made_node t k))) → Bound (g q)) → (x : Result Place Errno) → Placed x → Bound (each_ok g x)
    bound_place g h x l = grind (arith, h)

    bound_name : (q : Place) → T (ltb q.parent (made_node t k)) → Bound (name_written q)
    bound_name q e = bound_all (writes (one (name_at q.parent q.name)) ∷ []) (writes (one (names_in q.parent)) ∷ []) (bound_one (name_at q.parent q.name) true e) (bound_one (names_in q.parent) true e)

    bound_directory : (y : Option Target) → IfSome y (λ (g : Target). T (ltb g.node (made_node t k))) → Bound (directory_names y)
    bound_directory None l = bound_nothing
    bound_directory (Some y) l = elim (is_directory y.kind) as (λ b. Bound (cond b (reads (one (names_in y.node)) ∷ []) [])) [ true ↦ bound_one (names_in y.node) false l | false ↦ bound_nothing ]

    bound_size : (y : Option Target) → IfSome y (λ (g : Target). T (ltb g.node (made_node t k))) → Bound (size_read y)
    bound_size None l = bound_nothing
    bound_size (Some y) l = elim (is_directory y.kind) as (λ b. Bound (cond b [] (reads (one (size_of y.node)) ∷ []))) [ true ↦ bound_nothing | false ↦ bound_one (size_of y.node) false l ]

    bound_removed : (removes : Bool) (y : Option Target) → IfSome y (λ (g : Target). T (ltb g.node (made_node t k))) → Bound (cond removes (directory_names y) [])
    bound_removed true y l = bound_directory y l
    bound_removed false y l = bound_nothing

    bound_opened : (g : OpenFlags) (q : Place) → T (ltb q.parent (made_node t k)) → (y : Option Target) → IfSome y (λ (x : Target). T (ltb x.node (made_node t k))) → Bound (open_uses (at_place t k) foreseen g q y)
    bound_opened g q e None l = elim g.create as (λ b. Bound (cond b (name_written q ++ []) [])) [ true ↦ bound_all (name_written q) [] (bound_name q e) bound_nothing | false ↦ bound_nothing ]
    bound_opened g q e (Some y) l = elim (g.truncate && not (is_directory y.kind)) as (λ b. Bound (cond b (writes (one (size_of y.node)) ∷ writes (range_of y.node 0 file_limit) ∷ []) [])) [ true ↦ bound_cut y.node 0 l | false ↦ bound_nothing ]

    bound_look : (l : Look) → Bound (look_reads (in_ring t r) s l)
    bound_look at_nothing = bound_nothing
    bound_look (at_file f) = bound_seen f
    bound_look (at_path p) = bound_path p
    bound_look (at_paths old new) = bound_all (path_reads s old) _ (bound_path old) (bound_path new)

    bound_freed : (removes : Bool) (x : Result Place Errno) → Placed x → Bound (each_ok (name_freed removes) x)
    bound_freed removes x l = bound_place (name_freed removes) (λ q e m. bound_all (name_written q) _ (bound_name q e) (bound_removed removes q.target m)) x l

    bound_uses : (x : Shape) → Bound (uses (sited t k r) s foreseen x (found (in_ring t r) s (look x)))
    bound_uses idle = bound_nothing
    bound_uses (looking f) = bound_held false r f
    bound_uses (moving w f o n None) = bound_moved w o n (handle (in_ring t r) s f) (handle_before f)
    bound_uses (moving w f o n (Some x)) = bound_all _ (span_use (in_ring t r) (not w) x) (bound_moved w o n (handle (in_ring t r) s f) (handle_before f)) (bound_span (not w) x)
    bound_uses (allocating f o n mode) = bound_content (allocated_content s foreseen o n mode) (λ i h e d. bound_allocation i o (o + n) (allocation mode) e) (handle (in_ring t r) s f) (handle_before f)
    bound_uses (resizing f n) = bound_content (resized_content n) (λ i h e d. bound_cut i n e) (handle (in_ring t r) s f) (handle_before f)
    bound_uses (closing f) = bound_held true r f
    bound_uses (opening p g asked) = bound_place (opened_at (at_place t k) foreseen g) (λ q e l. bound_opened g q e q.target l) (walk s.nodes p) (placed p)
    bound_uses (measuring p) = bound_place measured_at (λ q e l. bound_size q.target l) (walk s.nodes p) (placed p)
    bound_uses (making p) = bound_place (directory_made (at_place t k) foreseen) (λ q e l. bound_all (name_written q) [] (bound_name q e) bound_nothing) (walk s.nodes p) (placed p)
    bound_uses (freeing p removes) = bound_freed removes (walk s.nodes p) (placed p)
    bound_uses (linking old new) = bound_place name_written (λ q e l. bound_name q e) (walk s.nodes new) (placed new)
    bound_uses (renaming old new) = bound_all (each_ok name_written (walk s.nodes old)) _ (bound_place name_written (λ q e l. bound_name q e) (walk s.nodes old) (placed old)) (bound_freed true (walk s.nodes new) (placed new))
    bound_uses (holding f) = bound_file true r f
    bound_uses (holding_path f p g) = bound_all (writes (file_item r f) ∷ []) _ (bound_file true r f) (bound_place (opened_at (at_place t k) foreseen g) (λ q e l. bound_opened g q e q.target l) (walk s.nodes p) (placed p))
    bound_uses (holding_copy f q source) = bound_all (reads (file_item q source) ∷ []) (writes (file_item r f) ∷ []) (bound_file false q source) (bound_file true r f)
    bound_uses (holding_other f) = bound_all (reads (one (names_in 0)) ∷ []) (writes (file_item r f) ∷ []) (bound_one (names_in 0) false root_before) (bound_file true r f)
    bound_uses (seeking f) = bound_sought (handle (in_ring t r) s f) (handle_before f)

    shape_bound : (x : Shape) → Bound (shape_row (sited t k r) s foreseen x)
    shape_bound x = bound_all (look_reads (in_ring t r) s (look x)) _ (bound_look (look x)) (bound_uses x)

    pub taken_bound : (o : Operation) (a : Atom) → T (has_atom (taken (sited t k r) s o) a) → T (is_earlier t k a)
    taken_bound o = shape_bound (shape o)
