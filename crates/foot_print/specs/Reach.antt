-- The model: what a place may use once earlier places that haven't finished have run.
use Rattle.std.specs.Prelude.{ℕ, Bool, true, false, List, [], ◌∷◌, ◌++◌, Option, None, Some, if◌then◌else◌}
use Rattle.std.specs.List.{list_any}
use Rattle.recording.specs.declared.recording.Recording.{Recording}
use Rattle.sqe_codec.specs.Answers.{each}
use Rattle.entry_checks.specs.Operation.{Operation, File, OpenFlags, file_limit}
use Rattle.chain_plan.specs.Chain.{role}
use Rattle.world_parts.specs.World.{World}
use Rattle.op_meaning.specs.Meaning.{Site, made_node, made_description, shape}
use Rattle.op_meaning.specs.Step.{Turn, filled, registered, called, canceled, runs, turn, turn_under, queue_at}
use Rattle.world_parts.specs.Items.{Item, file_bytes, chain_flag, size_of, names_in, one, all_names, all_bytes_and_sizes, all_positions, all_descriptions, all_descriptors, reads, writes, Footprint}
pub use Rattle.item_index.specs.Touching.{written_by}
use Rattle.foot_print.specs.Footprint.{foreseen, look_reads, shape_row, through, file_item, file_reads, room_uses, description_made, closing_uses, order_uses, turn_uses}
use Rattle.op_meaning.specs.Shape.{Shape, idle, looking, moving, allocating, resizing, closing, opening, measuring, making, freeing, linking, renaming, holding, holding_path, holding_copy, holding_other, seeking, look}

-- Whether one of some access sets writes an atom of an item of an access set.
abbrev pub is_met : Footprint → List Footprint → Bool
is_met f earlier = list_any (λ u. written_by earlier u.item) f

-- The slots, descriptors, descriptions and names that decide which items an operation uses: those that it reads where it looks.
-- The slot or descriptor that openat or close changes is none of them, nor is that of fsync.
abbrev pub seen : Site → World → Operation → Footprint
seen site s o = look_reads site s (look (shape o))

-- The row of an operation as accepted, apart from what it makes and from the room of openat.
abbrev pub taken : Site → World → Operation → Footprint
taken site s o = shape_row site s foreseen (shape o)

abbrev pub node_made : (trace : Recording) (place : ℕ) → Footprint
node_made t k = writes (one (size_of (made_node t k))) ∷ writes (file_bytes (made_node t k) 0 file_limit) ∷ writes (one (names_in (made_node t k))) ∷ []

-- What an operation that may make a node or a description writes of their numbers.
abbrev pub shape_makes : (trace : Recording) (place : ℕ) → Shape → Footprint
shape_makes t k (opening p g asked) = node_made t k ++ description_made t k
shape_makes t k (making p) = node_made t k ++ description_made t k
shape_makes t k (holding_path f p g) = node_made t k ++ description_made t k
shape_makes t k (holding_other f) = description_made t k
shape_makes t k _ = []

abbrev pub makes : (trace : Recording) (place : ℕ) → Operation → Footprint
makes t k o = shape_makes t k (shape o)

-- The room for a description that an operation asks for, where it does: in a slot, or at any descriptor.
abbrev pub shape_asked : Shape → Option (Option ℕ)
shape_asked (opening p g asked) = Some asked
shape_asked _ = None

abbrev pub room_asked : Operation → Option (Option ℕ)
room_asked o = shape_asked (shape o)

-- The room that is asked for, told by which items are written: its slot or its free descriptor; whichever it finds free, where a descriptor is written.
abbrev pub room_at : Site → World → (Item → Bool) → (asked : Option ℕ) → Footprint
room_at site s w None = if w all_descriptors then writes all_descriptors ∷ [] else room_uses site s None
room_at site s w (Some n) = room_uses site s (Some n)

-- The room of an operation, given what the earlier may-access sets write.
abbrev pub room_taken : Site → World → List Footprint → Operation → Footprint
room_taken site s earlier o = each (room_at site s (written_by earlier)) (room_asked o)

-- All files and their descriptions, and all names, that are there at the start or are made before a place.
abbrev pub all_files : (trace : Recording) (place : ℕ) → Footprint
all_files t k = writes (all_bytes_and_sizes (made_node t k)) ∷ writes (all_positions (made_description t k)) ∷ reads (all_descriptions (made_description t k)) ∷ []

abbrev pub any_name : (trace : Recording) (place : ℕ) → Footprint
any_name t k = writes (all_names (made_node t k)) ∷ []

-- All names, and the bytes and sizes of all files, that are read.
abbrev pub any_size : (trace : Recording) (place : ℕ) → Footprint
any_size t k = reads (all_names (made_node t k)) ∷ reads (all_bytes_and_sizes (made_node t k)) ∷ []

abbrev pub unresolved_file : Site → File → Footprint
unresolved_file site f = file_reads site f ++ all_files site.trace site.place

-- What an opening may use while it isn't known what its path leads to.
abbrev pub unresolved_opening : Site → OpenFlags → Footprint
unresolved_opening site g = any_name site.trace site.place ++ (if g.truncate then writes (all_bytes_and_sizes (made_node site.trace site.place)) ∷ [] else [])

-- The positions of all descriptions that are there at the start or are made before a place.
abbrev pub any_position : (trace : Recording) (place : ℕ) → Footprint
any_position t k = writes (all_positions (made_description t k)) ∷ reads (all_descriptions (made_description t k)) ∷ []

-- What an operation may use, apart from what it makes and its room, where an item that decides its others isn't known yet.
abbrev pub unresolved_shape : Site → Shape → Footprint
unresolved_shape site idle = []
unresolved_shape site (looking f) = file_reads site f
unresolved_shape site (moving w f o n x) = through site w x (unresolved_file site f)
unresolved_shape site (allocating f o n mode) = unresolved_file site f
unresolved_shape site (resizing f n) = unresolved_file site f
unresolved_shape site (closing f) = closing_uses site f
unresolved_shape site (opening p g asked) = unresolved_opening site g
unresolved_shape site (measuring p) = any_size site.trace site.place
unresolved_shape site (making p) = any_name site.trace site.place
unresolved_shape site (freeing p removes) = any_name site.trace site.place
unresolved_shape site (linking old new) = any_name site.trace site.place
unresolved_shape site (renaming old new) = any_name site.trace site.place
unresolved_shape site (holding f) = writes (file_item site.ring f) ∷ []
unresolved_shape site (holding_path f p g) = writes (file_item site.ring f) ∷ unresolved_opening site g
unresolved_shape site (holding_copy f r source) = reads (file_item r source) ∷ writes (file_item site.ring f) ∷ []
unresolved_shape site (holding_other f) = reads (one (names_in 0)) ∷ writes (file_item site.ring f) ∷ []
unresolved_shape site (seeking f) = file_reads site f ++ any_position site.trace site.place

abbrev pub unresolved_row : Site → Operation → Footprint
unresolved_row site o = unresolved_shape site (shape o)

-- What a place would do if its chain weren't broken.
abbrev pub task : (trace : Recording) (place : ℕ) → Option Turn
task t k = turn_under t k None

abbrev pub is_canceled : Option Turn → Bool
is_canceled (Some (canceled posted)) = true
is_canceled _ = false

-- What a turn looks up: the items that decide its others, and its items as accepted.
pub record LookedUp : Type 0 where
  pub deciding : Footprint
  pub items : Footprint

abbrev pub look_of : (trace : Recording) (place : ℕ) → World → Option Turn → LookedUp
look_of t k s (Some (runs r e o)) = record { deciding = seen (record { trace = t; place = k; ring = r }) s o; items = taken (record { trace = t; place = k; ring = r }) s o }
look_of t k s (Some (called r o)) = record { deciding = seen (record { trace = t; place = k; ring = r }) s o; items = taken (record { trace = t; place = k; ring = r }) s o }
look_of t k s (Some (filled r b at new)) = record { deciding = []; items = turn_uses t k s (filled r b at new) }
look_of t k s _ = record { deciding = []; items = [] }

-- What a turn may use that isn't looked up: what it may make, and the slots of a new ring with what they get.
abbrev pub extras_of : (trace : Recording) (place : ℕ) → World → List Footprint → Option Turn → Footprint
extras_of t k s earlier (Some (runs r e o)) = makes t k o ++ room_taken (record { trace = t; place = k; ring = r }) s earlier o
extras_of t k s earlier (Some (called r o)) = makes t k o ++ room_taken (record { trace = t; place = k; ring = r }) s earlier o
extras_of t k s earlier (Some (registered r slots)) = turn_uses t k s (registered r slots)
extras_of t k s earlier _ = []

abbrev pub unresolved_of : (trace : Recording) (place : ℕ) → World → Option Turn → Footprint
unresolved_of t k s (Some (runs r e o)) = unresolved_row (record { trace = t; place = k; ring = r }) o
unresolved_of t k s (Some (called r o)) = unresolved_row (record { trace = t; place = k; ring = r }) o
unresolved_of t k s (Some (filled r b at new)) = turn_uses t k s (filled r b at new)
unresolved_of t k s _ = []

abbrev pub order_of : (trace : Recording) (place : ℕ) → Footprint
order_of t k = order_uses (queue_at t k) (role t k)

-- The row of a place as running, as accepted, and where an item that decides its others isn't known yet.
abbrev pub running_row : (trace : Recording) (place : ℕ) → World → Footprint
running_row t k s = order_of t k ++ each (turn_uses t k s) (task t k)

abbrev pub accepted_row : (trace : Recording) (place : ℕ) → World → List Footprint → Footprint
accepted_row t k s earlier = order_of t k ++ ((look_of t k s (task t k)).items ++ extras_of t k s earlier (task t k))

abbrev pub wide_row : (trace : Recording) (place : ℕ) → World → List Footprint → Footprint
wide_row t k s earlier = order_of t k ++ (unresolved_of t k s (task t k) ++ extras_of t k s earlier (task t k))

-- Whether a place is taken to run: it does where an earlier member of its chain hasn't finished.
abbrev pub is_taken_to_run : (trace : Recording) (place : ℕ) → World → List Footprint → Bool
is_taken_to_run t k s earlier = if written_by earlier (one (chain_flag (role t k).chain)) then true else (if is_canceled (turn t k s) then false else true)

-- The may-access set of a place in a world, given the may-access sets of the earlier places that haven't finished.
abbrev pub reach : (trace : Recording) (place : ℕ) → World → List Footprint → Footprint
reach t k s earlier =
    if is_taken_to_run t k s earlier then
    (if is_met (look_of t k s (task t k)).deciding earlier then wide_row t k s earlier
    else if is_met (running_row t k s) earlier then accepted_row t k s earlier
    else running_row t k s)
    else order_of t k

-- The may-access sets of places in order, each given those before it; behind those of earlier places.
abbrev pub reaches : Recording → World → List Footprint → (places : List ℕ) → List Footprint
reaches t s earlier [] = earlier
reaches t s earlier (k ∷ ks) = reaches t s (earlier ++ reach t k s earlier ∷ []) ks
