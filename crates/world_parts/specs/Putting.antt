-- A helper: what putting a part back makes of a world, use by use, first of which nodes are there and how long files are, then of all else.
use Rattle.std.specs.Prelude.{ℕ, Bool, true, false, min, max, List, [], ◌∷◌, length, Option, Some, None, unwrap_or, if◌then◌else◌}
use Rattle.std.specs.Option.{is_some}
use Rattle.extent_bytes.specs.Bytes.{overwritten, range_of, resized, zeroed}
use Rattle.finite_maps.specs.Table.{get, assign, adjust_number, number_keys}
use Rattle.file_tree.specs.Tree as tree
use Rattle.file_tree.specs.Tree.{Tree, Node, directory, file, new_node, a_directory, renamed_node, rewritten_node}
use Rattle.file_tree.specs.Found.{node_of}
use Rattle.ring_tables.specs.Contents.{bytes_at, rewritten_at}
use Rattle.world_parts.specs.World.{World, Description, names, name, size, slot, descriptor, broken, set_slot, set_descriptor, apply}
use Rattle.world_parts.specs.declared.footprint.Item.{Item}
use Rattle.world_parts.specs.declared.footprint.Item.TheVariants.{Chain, Slot, Descriptor, Description as Opened, Position, Size, Bytes, Name, Names, Buffer}
use Rattle.world_parts.specs.declared.footprint.Use.{Use}

-- A node that is a file of a size, or that is no file.
abbrev pub sized : Option ℕ → Option Node → Option Node
sized None None = None
sized None (Some (directory ns o)) = Some (directory ns o)
sized None (Some (file bs)) = None
sized (Some n) None = Some (file (resized [] n))
sized (Some n) (Some (directory ns o)) = Some (file (resized [] n))
sized (Some n) (Some (file bs)) = Some (file (resized bs n))

-- A node that is a directory, or that is none.
abbrev pub listed : Bool → Option Node → Option Node
listed false None = None
listed false (Some (directory ns o)) = None
listed false (Some (file bs)) = Some (file bs)
listed true None = Some (new_node a_directory)
listed true (Some (directory ns o)) = Some (directory ns o)
listed true (Some (file bs)) = Some (new_node a_directory)

-- Bytes with those of a range from another list, as far as both go.
abbrev pub pasted : List ℕ → List ℕ → ℕ → ℕ → List ℕ
pasted old new low high =
    let end = min (min high (length old)) (length new) in
    let start = min low end in
    overwritten old start (range_of new start end)

-- A description with all but the position from another one.
abbrev pub redescribed : Option Description → Option Description → Option Description
redescribed None mine = None
redescribed (Some theirs) None = Some theirs
redescribed (Some theirs) (Some mine) = Some (record theirs { position = mine.position })

-- A description with the position from another one.
abbrev pub repositioned : Option Description → Option Description → Option Description
repositioned None mine = None
repositioned (Some theirs) None = Some theirs
repositioned (Some theirs) (Some mine) = Some (record mine { position = theirs.position })

-- A tree whose file shows the bytes of a part's in a range: zeros where the part's file has ended.
abbrev pub with_bytes : ℕ → ℕ → ℕ → Tree → Tree → Tree
with_bytes i low high part nodes =
    let new = unwrap_or (tree.bytes part i) [] in
    let cleared = adjust_number (rewritten_node (λ bs. zeroed bs (max low (length new)) high)) nodes i in
    adjust_number (rewritten_node (λ bs. pasted bs new low high)) cleared i

-- A world in which the node of an item is as a part says.
abbrev pub with_node : Item → World → World → World
with_node (Size i) part s = record s { nodes = assign number_keys.total s.nodes i (sized (size part i) (get s.nodes i)) }
with_node (Names d) part s = record s { nodes = assign number_keys.total s.nodes d (listed (is_some (names part d)) (get s.nodes d)) }
with_node _ part s = s

-- A world in which an item is as a part says.
abbrev pub with_item : Item → World → World → World
with_item (Chain c) part s = record s { broken = assign number_keys.total s.broken c (broken part c) }
with_item (Slot r n) part s = apply (set_slot r n (slot part r n)) s
with_item (Descriptor n) part s = apply (set_descriptor n (descriptor part n)) s
with_item (Opened d) part s = record s { descriptions = assign number_keys.total s.descriptions d (redescribed (get part.descriptions d) (get s.descriptions d)) }
with_item (Position d) part s = record s { descriptions = assign number_keys.total s.descriptions d (repositioned (get part.descriptions d) (get s.descriptions d)) }
with_item (Bytes i low high) part s = record s { nodes = with_bytes i low high part.nodes s.nodes }
with_item (Name d n) part s = record s { nodes = adjust_number (renamed_node n.items (node_of (name part d n.items))) s.nodes d }
with_item (Buffer r b low high) part s = record s { buffers = rewritten_at (λ bs. pasted bs (bytes_at part.buffers r b) low high) s.buffers r b }
with_item _ part s = s

-- The worlds after the written ones of some uses.
abbrev pub with_nodes : List Use → World → World → World
with_nodes [] part s = s
with_nodes (u ∷ us) part s = with_nodes us part (if u.written then with_node u.item part s else s)

abbrev pub with_items : List Use → World → World → World
with_items [] part s = s
with_items (u ∷ us) part s = with_items us part (if u.written then with_item u.item part s else s)
