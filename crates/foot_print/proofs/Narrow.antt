-- Access sets of places name single items and ranges.
use native.Mathlib.Omega.{arith}
use Rattle.std.specs.Prelude.{ℕ, Bool, true, false, cond, not, ◌||◌, ◌==◌, leb, ◌+◌, T, List, [], ◌∷◌, ◌++◌, map, Option, Some, None, Result, is_ok}
use Rattle.chain_plan.specs.declared.role.Role.{Role}
use Rattle.chain_plan.specs.Chain.{role}
use Rattle.sqe_codec.specs.declared.errno.Errno.{Errno}
use Rattle.file_tree.specs.Tree.{Target}
use Rattle.recording.specs.declared.recording.Recording.{Recording}
use Rattle.sqe_codec.specs.Answers.{each_ok}
use Rattle.entry_checks.specs.Operation.{Operation, File, Span, Path, OpenFlags, at_position, in_slot, at_descriptor}
use Rattle.file_tree.specs.Walk.{Place, names_on}
use Rattle.world_parts.specs.World.{World}
use Rattle.world_parts.specs.Items.{Atom, chain_flag, descriptor_at, description_at, position_of, name_at, names_in, Item, one, buffer_bytes, Use, reads, writes, Footprint}
use Rattle.world_parts.specs.Cutting.{is_narrow_use, is_narrow}
use Rattle.op_meaning.specs.Site.{at_place, in_ring, sited}
use Rattle.op_meaning.specs.Meaning.{meaning, made_node, span_start, Handle, held, allocation, Allocation, lowest_free, Found, found, shape}
use Rattle.op_meaning.specs.Step.{Turn, called, registered, runs, turn, queue_at}
use Rattle.foot_print.specs.Footprint.{moved_content, moved_uses, content_of, of_file, file_seen, look_reads, uses, opened_at, use_of, as_reads, Taken, tried, is_foreseen, held_item, file_item, file_reads, transfer_range, position_written, span_use, would_extend, allocation_uses, allocated_content, resized_content, path_reads, name_written, made_where, room_where, room_uses, description_made, open_uses, row_in, order_uses, turn_uses, directory_made, name_freed, measured_at}
use Rattle.op_meaning.specs.Shape.{Shape, idle, looking, moving, allocating, resizing, closing, opening, measuring, making, freeing, linking, renaming, holding, holding_path, holding_copy, holding_other, seeking, Look, at_nothing, at_file, at_path, at_paths, look}
use Rattle.foot_print.specs.Parts.{FootprintsAreNarrow}
use Rattle.foot_print.proofs.Holding.{all_append, all_each, all_each_ok}
use Rattle.foot_print.proofs.Registering.{registering_narrow}
use Rattle.world_parts.proofs.Collision.{both, right, left}

both_narrow : (f g : Footprint) → T (is_narrow f) → T (is_narrow g) → T (is_narrow (f ++ g))
both_narrow f g h k = all_append is_narrow_use f g h k

reads_narrow : (f : Footprint) → T (is_narrow f) → T (is_narrow (as_reads f))
reads_narrow [] h = tt
reads_narrow (u ∷ f) h = both (is_narrow_use (reads u.item)) _ (let narrow = left (is_narrow_use u) _ h in grind arith) (reads_narrow f (right (is_narrow_use u) _ h))

-- The slot or descriptor of a number, and what an operation has of an open file.
held_narrow : (g : Item → Use) → ((a : Atom) → T (is_narrow_use (g (one a)))) → (t : Recording) (r : ℕ) (f : File) → T (is_narrow (map g (held_item (in_ring t r) f)))
held_narrow g h t r f = grind (arith, h)

-- The slot or descriptor of any number.
item_narrow : (w : Bool) (r : ℕ) (f : File) → T (is_narrow_use (use_of w (file_item r f)))
item_narrow w r (in_slot n) = tt
item_narrow w r (at_descriptor n) = tt

item_written : (r : ℕ) (f : File) (rest : Footprint) → T (is_narrow rest) → T (is_narrow (writes (file_item r f) ∷ rest))
item_written r f rest h = both (is_narrow_use (writes (file_item r f))) _ (item_narrow true r f) h

module _ (t : Recording) (s : World) (r : ℕ) where
  seen_narrow : (f : File) → T (is_narrow (file_seen (in_ring t r) s f))
  seen_narrow f = both_narrow (file_reads (in_ring t r) f) _ (held_narrow reads (λ a. tt) t r f) (all_each is_narrow_use (λ d. reads (one (description_at d)) ∷ []) (held (in_ring t r) s f) (λ d. tt))

  content_narrow : (c : ℕ → Handle → Footprint) → ((i : ℕ) (h : Handle) → T (is_narrow (c i h))) → (x : Option Handle) → T (is_narrow (content_of c x))
  content_narrow c h x = all_each is_narrow_use (of_file c) x (λ y. grind (arith, h))

  position_narrow : (o : ℕ) (h : Handle) → T (is_narrow (position_written h o))
  position_narrow o h = elim (o == at_position) as (λ b. T (is_narrow (cond b (writes (one (position_of h.description)) ∷ []) []))) [ true ↦ tt | false ↦ tt ]

  moved_narrow : (x : Taken) (w : Bool) (o n : ℕ) (y : Option Handle) → T (is_narrow (moved_uses s x w o n y))
  moved_narrow x w o n y = both_narrow (content_of (moved_content s x w o n) y) _ (content_narrow (moved_content s x w o n) (contents w) y) (all_each is_narrow_use (λ g. position_written g o) y (position_narrow o))
    where
      contents : (v : Bool) (i : ℕ) (h : Handle) → T (is_narrow (moved_content s x v o n i h))
      contents false i h = both (is_narrow_use (reads (transfer_range i (o == at_position) o n))) _ (grind arith) (position_narrow o h)
      contents true i h = both (is_narrow_use (writes (transfer_range i (h.opened.append || o == at_position) o n))) _ (grind arith) (position_narrow o h)

  span_narrow : (w : Bool) (x : Span) → T (is_narrow (span_use (in_ring t r) w x))
  span_narrow w x = all_each is_narrow_use (λ at. use_of w (buffer_bytes r x.index at (at + x.length)) ∷ []) (span_start (in_ring t r) x) (λ at. tt)

  path_narrow : (p : Path) → T (is_narrow (path_reads s p))
  path_narrow p = by (names_on s.nodes p)
    where
      by : (es : List (ℕ × List ℕ)) → T (is_narrow (map (λ e. reads (one (name_at e.0 e.1))) es))
      by [] = tt
      by (e ∷ es) = by es

  made_narrow : (x : Taken) (f : Footprint) → T (is_narrow f) → T (is_narrow (made_where x f))
  made_narrow x f h = grind arith

  roomed_narrow : (x : Taken) (f : Footprint) → T (is_narrow f) → T (is_narrow (room_where x f))
  roomed_narrow x f h = grind arith

  allocation_narrow : (b : Bool) (i at end : ℕ) (a : Option Allocation) → T (is_narrow (allocation_uses b i at end a))
  allocation_narrow b i at end a = grind arith

  opened_narrow : (k : ℕ) (x : Taken) (g : OpenFlags) (q : Place) (y : Option Target) → T (is_narrow (open_uses (at_place t k) x g q y))
  opened_narrow k x g q y = grind arith

  room_narrow : (asked : Option ℕ) → T (is_narrow (room_uses (in_ring t r) s asked))
  room_narrow None = all_each is_narrow_use (λ n. writes (one (descriptor_at n)) ∷ []) (lowest_free t s) (λ n. tt)
  room_narrow (Some n) = held_narrow writes (λ a. tt) t r (in_slot n)

  -- What is used where a path leads.
  there_narrow : (g : Place → Footprint) (z : Result Place Errno) → ((q : Place) → T (is_narrow (g q))) → T (is_narrow (each_ok g z))
  there_narrow g z h = all_each_ok is_narrow_use g z h

  look_narrow : (l : Look) → T (is_narrow (look_reads (in_ring t r) s l))
  look_narrow at_nothing = tt
  look_narrow (at_file f) = seen_narrow f
  look_narrow (at_path p) = path_narrow p
  look_narrow (at_paths old new) = both_narrow (path_reads s old) _ (path_narrow old) (path_narrow new)

  uses_narrow : (k : ℕ) (x : Taken) (y : Shape) (z : Found) → T (is_narrow (uses (sited t k r) s x y z))
  uses_narrow k x idle z = tt
  uses_narrow k x (looking f) z = held_narrow reads (λ a. tt) t r f
  uses_narrow k x (moving w f o n None) z = moved_narrow x w o n z.file
  uses_narrow k x (moving w f o n (Some span)) z = both_narrow (moved_uses s x w o n z.file) _ (moved_narrow x w o n z.file) (span_narrow (not w) span)
  uses_narrow k x (allocating f o n mode) z = content_narrow (allocated_content s x o n mode) (λ i h. allocation_narrow (is_foreseen x || would_extend s i (o + n)) i o (o + n) (allocation mode)) z.file
  uses_narrow k x (resizing f n) z = content_narrow (resized_content n) (λ i h. tt) z.file
  uses_narrow k x (closing f) z = held_narrow writes (λ a. tt) t r f
  uses_narrow k x (opening p g asked) z =
      let room = room_where x (room_uses (in_ring t r) s asked) in
      both_narrow (room ++ made_where x (description_made t k)) _
      (both_narrow room _ (roomed_narrow x (room_uses (in_ring t r) s asked) (room_narrow asked)) (made_narrow x (description_made t k) tt))
      (there_narrow (opened_at (at_place t k) x g) z.place (λ q. opened_narrow k x g q q.target))
  uses_narrow k x (measuring p) z = there_narrow measured_at z.place (λ q. grind arith)
  uses_narrow k x (making p) z = there_narrow (directory_made (at_place t k) x) z.place (λ q. made_narrow x (writes (one (names_in (made_node t k))) ∷ []) tt)
  uses_narrow k x (freeing p removes) z = there_narrow (name_freed removes) z.place (λ q. grind arith)
  uses_narrow k x (linking old new) z = there_narrow name_written z.new_place (λ q. tt)
  uses_narrow k x (renaming old new) z = both_narrow (each_ok name_written z.place) _ (there_narrow name_written z.place (λ q. tt)) (there_narrow (name_freed true) z.new_place (λ q. grind arith))
  uses_narrow k x (holding f) z = item_written r f [] tt
  uses_narrow k x (holding_path f p g) z =
      let led = each_ok (opened_at (at_place t k) x g) z.place in
      item_written r f (made_where x (description_made t k) ++ led)
      (both_narrow (made_where x (description_made t k)) led (made_narrow x (description_made t k) tt) (there_narrow (opened_at (at_place t k) x g) z.place (λ q. opened_narrow k x g q q.target)))
  uses_narrow k x (holding_copy f q source) z = both (is_narrow_use (reads (file_item q source))) _ (item_narrow false q source) (item_written r f [] tt)
  uses_narrow k x (holding_other f) z = item_written r f (made_where x (description_made t k)) (made_narrow x (description_made t k) tt)
  uses_narrow k x (seeking f) z = all_each is_narrow_use (λ (h : Handle). writes (one (position_of h.description)) ∷ []) z.file (λ h. tt)

  row_in_narrow : (k : ℕ) (o : Operation) → T (is_narrow (row_in (sited t k r) s o))
  row_in_narrow k o = both_narrow (look_reads (in_ring t r) s (look (shape o))) _ (look_narrow (look (shape o))) (taken_narrow (is_ok (meaning (sited t k r) s o)))
    where
      taken_narrow : (b : Bool) → T (is_narrow (cond b (uses (sited t k r) s (tried b) (shape o) (found (in_ring t r) s (look (shape o)))) (as_reads (uses (sited t k r) s (tried b) (shape o) (found (in_ring t r) s (look (shape o)))))))
      taken_narrow true = uses_narrow k (tried true) (shape o) (found (in_ring t r) s (look (shape o)))
      taken_narrow false = reads_narrow (uses (sited t k r) s (tried false) (shape o) (found (in_ring t r) s (look (shape o)))) (uses_narrow k (tried false) (shape o) (found (in_ring t r) s (look (shape o))))

order_narrow : (r : ℕ) (c : Role) → T (is_narrow (order_uses r c))
order_narrow r c = elim (leb 2 c.length) as (λ b. T (is_narrow (cond b (writes (one (chain_flag c.chain)) ∷ []) []))) [ true ↦ tt | false ↦ tt ]

pub all_narrow : FootprintsAreNarrow
all_narrow t k s = both_narrow (order_uses (queue_at t k) (role t k)) _ (order_narrow (queue_at t k) (role t k)) (all_each is_narrow_use (turn_uses t k s) (turn t k s) by)
  where
    by : (x : Turn) → T (is_narrow (turn_uses t k s x))
    by (runs r e o) = row_in_narrow t s r k o
    by (called r o) = row_in_narrow t s r k o
    by (registered r slots) = registering_narrow r slots
    by _ = tt
