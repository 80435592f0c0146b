-- Where all that an operation looks up is of earlier places, its row where it is unresolved holds the one as accepted.
use native.Mathlib.Omega.{arith}
use Rattle.std.specs.Prelude.{ℕ, Bool, true, false, cond, not, ◌&&◌, ◌||◌, ◌==◌, min, T, List, [], ◌∷◌, ◌++◌, map, Option, Some, None, Result, Ok, Err}
use Rattle.std.specs.List.{list_all}
use mathlib.Core.Path.{subst}
use Rattle.sqe_codec.specs.declared.errno.Errno.{Errno}
use Rattle.recording.specs.declared.recording.Recording.{Recording}
use Rattle.sqe_codec.specs.Answers.{each_ok}
use Rattle.entry_checks.specs.Operation.{Operation, File, Path, OpenFlags, file_limit, at_position}
use Rattle.world_parts.specs.World.{World}
use Rattle.file_tree.specs.Tree.{Target}
use Rattle.file_tree.specs.Walk.{Place, walk, is_directory, names_on}
use Rattle.op_meaning.specs.Site.{at_place, in_ring, sited}
use Rattle.op_meaning.specs.Meaning.{made_node, Handle, handle, held, shape}
use Rattle.world_parts.specs.Items.{Atom, description_at, position_of, size_of, byte_at, name_at, names_in, Item, one, file_bytes, all_bytes_and_sizes, member_of, Use, reads, writes, Footprint, has_atom, writes_atom}
use Rattle.foot_print.specs.Footprint.{foreseen, shape_row, file_seen, of_file, content_of, moved_content, moved_uses, open_uses, opened_at, file_reads, range_of, position_written, span_use, path_reads, name_written, allocated_content, resized_content, transfer_range, directory_made, name_freed, size_read, measured_at, file_item, position_sought}
use Rattle.op_meaning.specs.Shape.{Shape, idle, looking, moving, allocating, resizing, closing, opening, measuring, making, freeing, linking, renaming, holding, holding_path, holding_copy, holding_other, seeking}
use Rattle.foot_print.specs.Reach.{unresolved_shape, taken, all_files, any_name, any_position, any_size, unresolved_file, unresolved_row}
use Rattle.foot_print.specs.Replayed.{is_earlier}
use Rattle.world_parts.proofs.Collision.{both, left, right, either_left, same_atom-eq}
use Rattle.foot_print.proofs.Holding.{Over, drop_false, over_self, over_nothing, over_all, over_first, over_second, over_both, over_more, over_uses, all_append, all_each, all_each_ok}

-- Uses of a file and its description, and of names.
abbrev pub is_file_use : Use → Bool
is_file_use u = sort u.item u.written
  where
    sort : Item → Bool → Bool
    sort (one (size_of i)) w = true
    sort (one (position_of d)) w = true
    sort (one (description_at d)) w = not w
    sort (file_bytes i low high) w = true
    sort _ w = false

abbrev pub is_name_use : Use → Bool
is_name_use u = sort u.item
  where
    sort : Item → Bool
    sort (one (name_at d n)) = true
    sort (one (names_in d)) = true
    sort _ = false

-- Uses of positions, and of descriptions that are read.
abbrev pub is_position_use : Use → Bool
is_position_use u = sort u.item u.written
  where
    sort : Item → Bool → Bool
    sort (one (position_of d)) w = true
    sort (one (description_at d)) w = not w
    sort _ w = false

module _ (t : Recording) (k : ℕ) where
  abbrev earlier : Atom → Bool
  earlier = is_earlier t k

  -- A use of one atom is held where the atom is.
  at_atom : (r : Footprint) (b : Atom) (w : Bool) → (T (earlier b) → T (has_atom r b)) → (T (earlier b) → T w → T (writes_atom r b)) → Over earlier r (record { item = one b; written = w } ∷ [])
  at_atom r b w h g = record {
    has = λ a e m. subst (λ c. T (earlier c) → T (has_atom r c)) (same_atom-eq b a (drop_false _ m)) h e;
    writes = λ a e m. subst (λ c. T (earlier c) → T w → T (writes_atom r c)) (same_atom-eq b a (right w _ (drop_false _ m))) g e (left w _ (drop_false _ m));
  }

  whole_file : (i low high : ℕ) (w : Bool) → Over earlier (writes (all_bytes_and_sizes (made_node t k)) ∷ []) (record { item = file_bytes i low high; written = w } ∷ [])
  whole_file i low high w = record { has = λ a e m. go a e (drop_false _ m); writes = λ a e m. go a e (right w _ (drop_false _ m)) }
    where
      go : (a : Atom) → T (earlier a) → T (member_of (file_bytes i low high) a) → T (member_of (all_bytes_and_sizes (made_node t k)) a || false)
      go (byte_at j p) e m = either_left _ _ e
      go _ e m = absurd m

  file_use : (x : Item) (w : Bool) → T (is_file_use (record { item = x; written = w })) → Over earlier (all_files t k) (record { item = x; written = w } ∷ [])
  file_use x w h = grind (arith, at_atom, either_left, over_first, whole_file)

  name_use : (x : Item) (w : Bool) → T (is_name_use (record { item = x; written = w })) → Over earlier (any_name t k) (record { item = x; written = w } ∷ [])
  name_use (one (name_at d n)) w h = at_atom (any_name t k) (name_at d n) w (λ e. either_left _ _ e) (λ e v. either_left _ _ e)
  name_use (one (names_in d)) w h = at_atom (any_name t k) (names_in d) w (λ e. either_left _ _ e) (λ e v. either_left _ _ e)
  name_use _ w h = absurd h

  position_use : (x : Item) (w : Bool) → T (is_position_use (record { item = x; written = w })) → Over earlier (any_position t k) (record { item = x; written = w } ∷ [])
  position_use x w h = grind (arith, at_atom, either_left, over_first)

  files_held : (f : Footprint) → T (list_all is_file_use f) → Over earlier (all_files t k) f
  files_held f h = over_uses earlier (all_files t k) is_file_use (λ (u : Use) m. file_use u.item u.written m) f h

  names_held : (f : Footprint) → T (list_all is_name_use f) → Over earlier (any_name t k) f
  names_held f h = over_uses earlier (any_name t k) is_name_use (λ (u : Use) m. name_use u.item u.written m) f h

  positions_held : (f : Footprint) → T (list_all is_position_use f) → Over earlier (any_position t k) f
  positions_held f h = over_uses earlier (any_position t k) is_position_use (λ (u : Use) m. position_use u.item u.written m) f h

  module _ (r : ℕ) (s : World) where
    position_uses : (o : ℕ) (h : Handle) → T (list_all is_file_use (position_written h o))
    position_uses o h = grind arith

    content_uses : (c : ℕ → Handle → Footprint) → ((i : ℕ) (h : Handle) → T (list_all is_file_use (c i h))) → (y : Option Handle) → T (list_all is_file_use (content_of c y))
    content_uses c h y = all_each is_file_use (of_file c) y (λ g. grind (arith, h))

    moved_content_uses : (w : Bool) (o n i : ℕ) (h : Handle) → T (list_all is_file_use (moved_content s foreseen w o n i h))
    moved_content_uses false o n i h = both (is_file_use (reads (transfer_range i (o == at_position) o n))) _ (grind arith) (position_uses o h)
    moved_content_uses true o n i h = both (is_file_use (writes (transfer_range i (h.opened.append || o == at_position) o n))) _ (grind arith) (position_uses o h)

    seen_held : (f : File) → Over earlier (unresolved_file (sited t k r) f) (file_seen (in_ring t r) s f)
    seen_held f = over_both earlier (file_reads (in_ring t r) f) (all_files t k) (file_reads (in_ring t r) f) _ (over_self earlier (file_reads (in_ring t r) f)) (files_held _ (all_each is_file_use (λ d. reads (one (description_at d)) ∷ []) (held (in_ring t r) s f) (λ d. tt)))

    -- What is used of a file is held among all files.
    content_held : (f : File) (c : ℕ → Handle → Footprint) → ((i : ℕ) (h : Handle) → T (list_all is_file_use (c i h))) → (y : Option Handle) → Over earlier (unresolved_file (sited t k r) f) (content_of c y)
    content_held f c h y = over_second earlier (file_reads (in_ring t r) f) (all_files t k) _ (files_held _ (content_uses c h y))

    moved_held : (f : File) (w : Bool) (o n : ℕ) (y : Option Handle) → Over earlier (unresolved_file (sited t k r) f) (moved_uses s foreseen w o n y)
    moved_held f w o n y = over_all earlier (unresolved_file (sited t k r) f) (content_of (moved_content s foreseen w o n) y) _ (content_held f (moved_content s foreseen w o n) (moved_content_uses w o n) y)
        (over_second earlier (file_reads (in_ring t r) f) (all_files t k) _ (files_held _ (all_each is_file_use (λ g. position_written g o) y (position_uses o))))

    names_on_path : (es : List (ℕ × List ℕ)) → T (list_all is_name_use (map (λ (e : ℕ × List ℕ). reads (one (name_at e.0 e.1))) es))
    names_on_path [] = tt
    names_on_path (e ∷ es) = names_on_path es

    path_names : (p : Path) → T (list_all is_name_use (path_reads s p))
    path_names p = names_on_path (names_on s.nodes p)

    -- What is used where paths lead is of names too.
    names_behind : (looks : Footprint) (g : Place → Footprint) (z : Result Place Errno) → T (list_all is_name_use looks) → ((q : Place) → T (list_all is_name_use (g q)))
        → T (list_all is_name_use (looks ++ each_ok g z))
    names_behind looks g z h k = all_append is_name_use looks _ h (all_each_ok is_name_use g z k)

    two_paths : (old new : Path) → T (list_all is_name_use (path_reads s old ++ path_reads s new))
    two_paths old new = all_append is_name_use (path_reads s old) (path_reads s new) (path_names old) (path_names new)

    cut : Bool → Footprint
    cut b = cond b (writes (all_bytes_and_sizes (made_node t k)) ∷ []) []

    truncated : (i : ℕ) → Over earlier (writes (all_bytes_and_sizes (made_node t k)) ∷ []) (writes (one (size_of i)) ∷ writes (range_of i 0 file_limit) ∷ [])
    truncated i = over_all earlier _ (writes (one (size_of i)) ∷ []) _ (at_atom _ (size_of i) true (λ e. either_left _ _ e) (λ e v. either_left _ _ e)) (whole_file i 0 (min file_limit file_limit) true)

    opened_held : (g : OpenFlags) (q : Place) (y : Option Target) → Over earlier (any_name t k ++ cut g.truncate) (open_uses (at_place t k) foreseen g q y)
    unfolding cut
    opened_held g q None = elim g.create as (λ b. Over earlier (any_name t k ++ cut g.truncate) (cond b (name_written q ++ []) [])) [
      | true ↦ over_first earlier (any_name t k) _ _ (names_held (name_written q ++ []) tt)
      | false ↦ over_nothing earlier _
    ]
    opened_held g q (Some y) = go g.truncate (not (is_directory y.kind))
      where
        go : (b c : Bool) → Over earlier (any_name t k ++ cut b) (cond (b && c) (writes (one (size_of y.node)) ∷ writes (range_of y.node 0 file_limit) ∷ []) [])
        go false c = over_nothing earlier _
        go true false = over_nothing earlier _
        go true true = over_second earlier (any_name t k) _ _ (truncated y.node)

    led_held : (g : OpenFlags) (z : Result Place Errno) → Over earlier (any_name t k ++ cut g.truncate) (each_ok (opened_at (at_place t k) foreseen g) z)
    led_held g (Ok q) = opened_held g q q.target
    led_held g (Err e) = over_nothing earlier _

    looked_held : (p : Path) (b : Bool) → Over earlier (any_name t k ++ cut b) (path_reads s p)
    looked_held p b = over_first earlier (any_name t k) _ _ (names_held _ (path_names p))

    open_held : (p : Path) (g : OpenFlags) (z : Result Place Errno) → Over earlier (any_name t k ++ cut g.truncate) (path_reads s p ++ each_ok (opened_at (at_place t k) foreseen g) z)
    open_held p g z = over_all earlier _ (path_reads s p) _ (looked_held p g.truncate) (led_held g z)

    -- So is what a new description of a path opens, behind the slot or descriptor that gets it.
    path_held : (f : File) (p : Path) (g : OpenFlags) (z : Result Place Errno)
        → Over earlier (writes (file_item r f) ∷ (any_name t k ++ cut g.truncate)) (path_reads s p ++ writes (file_item r f) ∷ each_ok (opened_at (at_place t k) foreseen g) z)
    path_held f p g z =
        over_all earlier _ (path_reads s p) _ (over_second earlier (writes (file_item r f) ∷ []) (any_name t k ++ cut g.truncate) _ (looked_held p g.truncate))
        (over_more earlier (any_name t k ++ cut g.truncate) _ (writes (file_item r f)) (led_held g z))

    -- What a seek uses is held among all positions.
    seek_held : (f : File) → Over earlier (file_reads (in_ring t r) f ++ any_position t k) (file_seen (in_ring t r) s f ++ position_sought (handle (in_ring t r) s f))
    seek_held f =
        over_all earlier _ (file_seen (in_ring t r) s f) _
        (over_both earlier (file_reads (in_ring t r) f) (any_position t k) (file_reads (in_ring t r) f) _ (over_self earlier (file_reads (in_ring t r) f)) (positions_held _ (all_each is_position_use (λ d. reads (one (description_at d)) ∷ []) (held (in_ring t r) s f) (λ d. tt))))
        (over_second earlier (file_reads (in_ring t r) f) (any_position t k) _ (positions_held _ (all_each is_position_use (λ (h : Handle). writes (one (position_of h.description)) ∷ []) (handle (in_ring t r) s f) (λ h. tt))))

    -- What a measured path reads is held among all names and sizes.
    names_read : (es : List (ℕ × List ℕ)) → Over earlier (any_size t k) (map (λ (e : ℕ × List ℕ). reads (one (name_at e.0 e.1))) es)
    names_read [] = over_nothing earlier (any_size t k)
    names_read (e ∷ es) = over_all earlier (any_size t k) (reads (one (name_at e.0 e.1)) ∷ []) _ (at_atom (any_size t k) (name_at e.0 e.1) false (λ h. either_left _ _ h) (λ h v. absurd v)) (names_read es)

    size_held : (y : Option Target) → Over earlier (any_size t k) (size_read y)
    size_held None = over_nothing earlier (any_size t k)
    size_held (Some y) = elim (is_directory y.kind) as (λ b. Over earlier (any_size t k) (cond b [] (reads (one (size_of y.node)) ∷ []))) [
      | true ↦ over_nothing earlier (any_size t k)
      | false ↦ at_atom (any_size t k) (size_of y.node) false (λ h. either_left _ _ h) (λ h v. absurd v)
    ]

    measured_held : (p : Path) (z : Result Place Errno) → Over earlier (any_size t k) (path_reads s p ++ each_ok measured_at z)
    measured_held p z = over_all earlier (any_size t k) (path_reads s p) _ (names_read (names_on s.nodes p)) (at z)
      where
        at : (w : Result Place Errno) → Over earlier (any_size t k) (each_ok measured_at w)
        at (Ok q) = size_held q.target
        at (Err e) = over_nothing earlier (any_size t k)

    unresolved_over_shape : (x : Shape) → Over earlier (unresolved_shape (sited t k r) x) (shape_row (sited t k r) s foreseen x)
    unfolding cut
    unresolved_over_shape idle = over_nothing earlier _
    unresolved_over_shape (looking f) = over_self earlier _
    unresolved_over_shape (moving w f o n None) = over_all earlier _ (file_seen (in_ring t r) s f) _ (seen_held f) (moved_held f w o n (handle (in_ring t r) s f))
    unresolved_over_shape (moving w f o n (Some x)) = over_all earlier _ (file_seen (in_ring t r) s f) _ (over_first earlier (unresolved_file (sited t k r) f) (span_use (in_ring t r) (not w) x) _ (seen_held f))
        (over_both earlier (unresolved_file (sited t k r) f) (span_use (in_ring t r) (not w) x) _ (span_use (in_ring t r) (not w) x) (moved_held f w o n (handle (in_ring t r) s f)) (over_self earlier _))
    unresolved_over_shape (allocating f o n mode) = over_all earlier _ (file_seen (in_ring t r) s f) _ (seen_held f) (content_held f (allocated_content s foreseen o n mode) (λ i h. grind arith) (handle (in_ring t r) s f))
    unresolved_over_shape (resizing f n) = over_all earlier _ (file_seen (in_ring t r) s f) _ (seen_held f) (content_held f (resized_content n) (λ i h. tt) (handle (in_ring t r) s f))
    unresolved_over_shape (closing f) = over_self earlier _
    unresolved_over_shape (opening p g asked) = open_held p g (walk s.nodes p)
    unresolved_over_shape (measuring p) = measured_held p (walk s.nodes p)
    unresolved_over_shape (making p) = names_held _ (names_behind (path_reads s p) (directory_made (at_place t k) foreseen) (walk s.nodes p) (path_names p) (λ q. tt))
    unresolved_over_shape (freeing p removes) = names_held _ (names_behind (path_reads s p) (name_freed removes) (walk s.nodes p) (path_names p) (λ q. grind arith))
    unresolved_over_shape (linking old new) = names_held _ (names_behind (path_reads s old ++ path_reads s new) name_written (walk s.nodes new) (two_paths old new) (λ q. tt))
    unresolved_over_shape (renaming old new) = names_held _ (all_append is_name_use (path_reads s old ++ path_reads s new) _ (two_paths old new)
        (names_behind (each_ok name_written (walk s.nodes old)) (name_freed true) (walk s.nodes new) (all_each_ok is_name_use name_written (walk s.nodes old) (λ q. tt)) (λ q. grind arith)))
    unresolved_over_shape (holding f) = over_self earlier _
    unresolved_over_shape (holding_path f p g) = path_held f p g (walk s.nodes p)
    unresolved_over_shape (holding_copy f q source) = over_self earlier _
    unresolved_over_shape (holding_other f) = over_self earlier _
    unresolved_over_shape (seeking f) = seek_held f

    pub unresolved_over_taken : (o : Operation) → Over earlier (unresolved_row (sited t k r) o) (taken (sited t k r) s o)
    unresolved_over_taken o = unresolved_over_shape (shape o)
