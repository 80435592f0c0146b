-- The model: what each place reads and writes, a row of uses for each operation.
use Rattle.std.specs.Prelude.{ℕ, Bool, true, false, not, ◌&&◌, ◌||◌, ◌==◌, ltb, leb, ◌+◌, min, List, [], ◌∷◌, ◌++◌, map, length, Option, Some, None, Result, is_ok, if◌then◌else◌}
use Rattle.chain_plan.specs.declared.role.Role.{Role}
use Rattle.recording.specs.declared.recording.Recording.{Recording}
use Rattle.std.specs.List.{flat_map}
use Rattle.trace_records.specs.declared.record.FullSlot.{FullSlot}
use Rattle.trace_records.specs.declared.record.Holder.{Holder}
use Rattle.trace_records.specs.declared.record.Holder.TheVariants.{Slot, Descriptor, Description}
use Rattle.sqe_codec.specs.declared.errno.Errno.{Errno}
use Rattle.sqe_codec.specs.Answers.{each, each_ok}
use Rattle.entry_checks.specs.Operation.{Operation, File, in_slot, at_descriptor, Span, Path, OpenFlags, file_limit, at_position}
use Rattle.chain_plan.specs.Chain.{role}
use Rattle.world_parts.specs.World.{World}
use Rattle.file_tree.specs.Tree.{Target}
use Rattle.file_tree.specs.Walk.{Place, names_on, is_directory}
use Rattle.op_meaning.specs.Meaning.{Site, meaning, made_node, made_description, slot_count, span_start, Handle, held, is_file, bytes_in, allocation, Allocation, extend, reserve, punch, zero_extend, zero_within, lowest_free, Found, found, shape}
use Rattle.op_meaning.specs.Shape.{Shape, idle, looking, moving, allocating, resizing, closing, opening, measuring, making, freeing, linking, renaming, holding, holding_path, holding_copy, holding_other, seeking, Look, at_nothing, at_file, at_path, at_paths, look}
use Rattle.op_meaning.specs.Step.{Turn, filled, registered, called, refused, canceled, runs, turn, queue_at}
use Rattle.world_parts.specs.Items.{chain_flag, ring_order, slot_at, descriptor_at, description_at, position_of, size_of, name_at, names_in, Item, one, file_bytes, buffer_bytes, all_descriptors, Use, reads, writes, Footprint}

abbrev pub use_of : Bool → Item → Use
use_of w x = record { item = x; written = w }

abbrev pub as_reads : Footprint → Footprint
as_reads f = map (λ u. reads u.item) f

-- How the uses of an operation are taken: as tried in a world, which accepts it or doesn't; or as foreseen of an accepted one, without its room and what it makes, where it isn't known whether a file becomes longer.
pub data Taken : Type 0 where
  tried : (accepted : Bool) → Taken
  foreseen : Taken

abbrev pub is_accepted : Taken → Bool
is_accepted (tried b) = b
is_accepted foreseen = false

abbrev pub is_foreseen : Taken → Bool
is_foreseen (tried b) = false
is_foreseen foreseen = true

-- What an operation makes, and its room, where its uses have them.
abbrev pub made_where : Taken → Footprint → Footprint
made_where x f = if is_accepted x then f else []

abbrev pub room_where : Taken → Footprint → Footprint
room_where x f = if is_foreseen x then [] else f

-- The slot or descriptor of a file number, so far as there is one.
abbrev pub held_item : Site → File → List Item
held_item site (in_slot n) = if ltb n (slot_count site.trace site.ring) then one (slot_at site.ring n) ∷ [] else []
held_item site (at_descriptor n) = if ltb n (length site.trace.descriptors) then one (descriptor_at n) ∷ [] else []

abbrev pub file_reads : Site → File → Footprint
file_reads site f = map reads (held_item site f)

-- A range of a file's bytes, below the largest size.
abbrev pub range_of : (node low high : ℕ) → Item
range_of i low high = file_bytes i low (min high file_limit)

-- The bytes that a transfer of n may touch: all, at the position or with an append description.
abbrev pub transfer_range : (node : ℕ) (anywhere : Bool) (offset count : ℕ) → Item
transfer_range i anywhere o n = if anywhere then range_of i 0 file_limit else range_of i o (o + n)

abbrev pub position_written : Handle → (offset : ℕ) → Footprint
position_written h o = if o == at_position then writes (one (position_of h.description)) ∷ [] else []

-- What leads to an open file: the slot or descriptor of its number, and its description.
abbrev pub file_seen : Site → World → File → Footprint
file_seen site s f = file_reads site f ++ each (λ d. reads (one (description_at d)) ∷ []) (held site s f)

-- What an operation has of what is open, where that is a file.
abbrev pub of_file : ((node : ℕ) → Handle → Footprint) → Handle → Footprint
of_file f h = if is_file h.opened then f h.opened.target.node h else []

abbrev pub content_of : ((node : ℕ) → Handle → Footprint) → Option Handle → Footprint
content_of f x = each (of_file f) x

abbrev pub span_use : Site → (written : Bool) → Span → Footprint
span_use site w x = each (λ at. use_of w (buffer_bytes site.ring x.index at (at + x.length)) ∷ []) (span_start site x)

-- The position of what is open, also of a directory, where a transfer uses it.
abbrev pub position_use : (offset : ℕ) → Option Handle → Footprint
position_use o x = each (λ h. position_written h o) x

-- What a read has of its file.
abbrev pub read_content : (offset count node : ℕ) → Handle → Footprint
read_content o n i h = reads (one (size_of i)) ∷ reads (transfer_range i (o == at_position) o n) ∷ position_written h o

-- Whether a change up to an end, below the largest size, would make a file longer.
abbrev pub would_extend : World → (node end : ℕ) → Bool
would_extend s i end = ltb (length (bytes_in s i)) (min end file_limit)

-- What a write has of its file: the size, written where the file may become longer or tells where the write starts.
abbrev pub write_content : World → Taken → (offset count node : ℕ) → Handle → Footprint
write_content s x o n i h =
    let anywhere = h.opened.append || o == at_position in
    use_of (is_foreseen x || anywhere || (not (n == 0) && would_extend s i (o + n))) (one (size_of i)) ∷ writes (transfer_range i anywhere o n) ∷ position_written h o

-- What a transfer, into a file or out of it, has of what is open: the content of a file, and the position of any.
abbrev pub moved_content : World → Taken → (into_file : Bool) (offset count node : ℕ) → Handle → Footprint
moved_content s x false o n = read_content o n
moved_content s x true o n = write_content s x o n

abbrev pub moved_uses : World → Taken → (into_file : Bool) (offset count : ℕ) → Option Handle → Footprint
moved_uses s x w o n y = content_of (moved_content s x w o n) y ++ position_use o y

-- What an allocation up to an end has of the file: its size, written where the file may grow, and the range that becomes zero.
abbrev pub allocation_uses : (grows : Bool) (node start end : ℕ) → Option Allocation → Footprint
allocation_uses grows i at end (Some extend) = use_of grows (one (size_of i)) ∷ []
allocation_uses grows i at end (Some reserve) = reads (one (size_of i)) ∷ []
allocation_uses grows i at end (Some punch) = reads (one (size_of i)) ∷ writes (range_of i at end) ∷ []
allocation_uses grows i at end (Some zero_extend) = use_of grows (one (size_of i)) ∷ writes (range_of i at end) ∷ []
allocation_uses grows i at end (Some zero_within) = reads (one (size_of i)) ∷ writes (range_of i at end) ∷ []
allocation_uses grows i at end None = reads (one (size_of i)) ∷ []

abbrev pub allocated_content : World → Taken → (offset size mode node : ℕ) → Handle → Footprint
allocated_content s x o n mode i h = allocation_uses (is_foreseen x || would_extend s i (o + n)) i o (o + n) (allocation mode)

-- What a new size has of the file: the size, and the bytes behind it.
abbrev pub resized_content : (size node : ℕ) → Handle → Footprint
resized_content n i h = writes (one (size_of i)) ∷ writes (range_of i n file_limit) ∷ []

-- The names that a walk looks up.
abbrev pub path_reads : World → Path → Footprint
path_reads s p = map (λ e. reads (one (name_at e.0 e.1))) (names_on s.nodes p)

-- A name and the number of names of its directory.
abbrev pub name_written : Place → Footprint
name_written p = writes (one (name_at p.parent p.name)) ∷ writes (one (names_in p.parent)) ∷ []

-- Where a target is a directory, its names are read.
abbrev pub directory_names : Option Target → Footprint
directory_names None = []
directory_names (Some y) = if is_directory y.kind then reads (one (names_in y.node)) ∷ [] else []

-- The room of openat: its slot, or all descriptors and the lowest free one.
abbrev pub room_uses : Site → World → (asked : Option ℕ) → Footprint
room_uses site s None = reads all_descriptors ∷ each (λ n. writes (one (descriptor_at n)) ∷ []) (lowest_free site.trace s)
room_uses site s (Some n) = map writes (held_item site (in_slot n))

abbrev pub description_made : (trace : Recording) (place : ℕ) → Footprint
description_made t k = writes (one (description_at (made_description t k))) ∷ writes (one (position_of (made_description t k))) ∷ []

-- What openat writes at the name that it opens: the name where it may make a file, all of a file that it may cut.
abbrev pub open_uses : Site → Taken → OpenFlags → Place → Option Target → Footprint
open_uses site x g q None = if g.create then name_written q ++ made_where x (writes (one (size_of (made_node site.trace site.place))) ∷ []) else []
open_uses site x g q (Some y) = if g.truncate && not (is_directory y.kind) then writes (one (size_of y.node)) ∷ writes (range_of y.node 0 file_limit) ∷ [] else []

abbrev pub opened_at : Site → Taken → OpenFlags → Place → Footprint
opened_at site x g q = open_uses site x g q q.target

-- What openat uses: its room, what it makes, and what it opens.
abbrev pub opening_uses : Site → World → Taken → OpenFlags → (asked : Option ℕ) → Result Place Errno → Footprint
opening_uses site s x g asked led = room_where x (room_uses site s asked) ++ made_where x (description_made site.trace site.place) ++ each_ok (opened_at site x g) led

-- The slot or descriptor that close empties.
abbrev pub closing_uses : Site → File → Footprint
closing_uses site f = map writes (held_item site f)

-- A name that may be freed: of a directory, where that may be removed or replaced, the number of names too.
abbrev pub name_freed : (removes_directory : Bool) → Place → Footprint
name_freed removes q = name_written q ++ (if removes then directory_names q.target else [])

-- What a measured path has of what it leads to: the size of a file.
abbrev pub size_read : Option Target → Footprint
size_read None = []
size_read (Some y) = if is_directory y.kind then [] else reads (one (size_of y.node)) ∷ []

abbrev pub measured_at : Place → Footprint
measured_at q = size_read q.target

-- The name that a directory is made at, and where it is made its number of names.
abbrev pub directory_made : Site → Taken → Place → Footprint
directory_made site x q = name_written q ++ made_where x (writes (one (names_in (made_node site.trace site.place))) ∷ [])

-- A transfer's uses with those of its span, which a read of the file writes.
abbrev pub through : Site → (into_file : Bool) → Option Span → Footprint → Footprint
through site w None f = f
through site w (Some x) f = f ++ span_use site (not w) x

-- The slot of a ring, or the descriptor, of a file number.
abbrev pub file_item : (ring : ℕ) → File → Item
file_item r (in_slot n) = one (slot_at r n)
file_item r (at_descriptor n) = one (descriptor_at n)

-- What a new description of a path uses beside its room: what it makes, and what it opens.
abbrev pub held_path_uses : Site → Taken → OpenFlags → Result Place Errno → Footprint
held_path_uses site x g led = made_where x (description_made site.trace site.place) ++ each_ok (opened_at site x g) led

-- The position of what is open, which a seek writes.
abbrev pub position_sought : Option Handle → Footprint
position_sought x = each (λ h. writes (one (position_of h.description)) ∷ []) x

-- What an operation reads where it looks.
abbrev pub look_reads : Site → World → Look → Footprint
look_reads site s at_nothing = []
look_reads site s (at_file f) = file_seen site s f
look_reads site s (at_path p) = path_reads s p
look_reads site s (at_paths old new) = path_reads s old ++ path_reads s new

-- What an operation of a shape uses by what it finds there, all written that it writes where it is accepted. What is no file is open as the root, and reads that it is a directory by its number of names.
abbrev pub uses : Site → World → Taken → Shape → Found → Footprint
uses site s x idle z = []
uses site s x (looking f) z = file_reads site f
uses site s x (moving w f o n span) z = through site w span (moved_uses s x w o n z.file)
uses site s x (allocating f o n mode) z = content_of (allocated_content s x o n mode) z.file
uses site s x (resizing f n) z = content_of (resized_content n) z.file
uses site s x (closing f) z = closing_uses site f
uses site s x (opening p g asked) z = opening_uses site s x g asked z.place
uses site s x (measuring p) z = each_ok measured_at z.place
uses site s x (making p) z = each_ok (directory_made site x) z.place
uses site s x (freeing p removes) z = each_ok (name_freed removes) z.place
uses site s x (linking old new) z = each_ok name_written z.new_place
uses site s x (renaming old new) z = each_ok name_written z.place ++ each_ok (name_freed true) z.new_place
uses site s x (holding f) z = writes (file_item site.ring f) ∷ []
uses site s x (holding_path f p g) z = writes (file_item site.ring f) ∷ held_path_uses site x g z.place
uses site s x (holding_copy f r source) z = reads (file_item r source) ∷ writes (file_item site.ring f) ∷ []
uses site s x (holding_other f) z = reads (one (names_in 0)) ∷ writes (file_item site.ring f) ∷ made_where x (description_made site.trace site.place)
uses site s x (seeking f) z = position_sought z.file

-- All that an operation of a shape uses: what it reads where it looks, and what it uses by what it finds.
abbrev pub shape_row : Site → World → Taken → Shape → Footprint
shape_row site s x y = look_reads site s (look y) ++ uses site s x y (found site s (look y))

-- The uses of an operation in a world by what it finds: where the world refuses it, nothing is made and all is read.
abbrev pub uses_in : Site → World → Operation → Found → Footprint
uses_in site s o z =
    let ok = is_ok (meaning site s o) in
    let f = uses site s (tried ok) (shape o) z in
    if ok then f else as_reads f

-- All that an operation uses in a world.
abbrev pub row_in : Site → World → Operation → Footprint
row_in site s o = look_reads site s (look (shape o)) ++ uses_in site s o (found site s (look (shape o)))

-- Each place has the order of its ring's queue, written in a barrier, and in a chain of two or more its chain.
abbrev pub order_uses : (queue : ℕ) → Role → Footprint
order_uses q c = use_of c.barrier (one (ring_order q)) ∷ (if leb 2 c.length then writes (one (chain_flag c.chain)) ∷ [] else [])

-- What a slot of a new ring gets is read where it is held, and the slot is written.
abbrev pub holder_item : Holder → Item
holder_item (Slot ring number) = one (slot_at ring number)
holder_item (Descriptor number) = one (descriptor_at number)
holder_item (Description number) = one (description_at number)

abbrev pub slot_uses : (ring : ℕ) → FullSlot → Footprint
slot_uses r x = reads (holder_item x.holds) ∷ writes (one (slot_at r x.number)) ∷ []

-- What a turn uses apart from the order; a refused or canceled place uses nothing.
abbrev pub turn_uses : (trace : Recording) (place : ℕ) → World → Turn → Footprint
turn_uses t k s (filled r b at new) = writes (buffer_bytes r b at (at + length new)) ∷ []
turn_uses t k s (registered r slots) = flat_map (slot_uses r) slots
turn_uses t k s (called r o) = row_in (record { trace = t; place = k; ring = r }) s o
turn_uses t k s (refused e posted) = []
turn_uses t k s (canceled posted) = []
turn_uses t k s (runs r e o) = row_in (record { trace = t; place = k; ring = r }) s o

-- The access set of a place in a world.
abbrev pub footprint : (trace : Recording) (place : ℕ) → World → Footprint
footprint t k s = order_uses (queue_at t k) (role t k) ++ each (turn_uses t k s) (turn t k s)
