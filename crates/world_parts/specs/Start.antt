-- The model: the world that a trace starts with.
use Rattle.std.specs.Prelude.{ℕ, zero, suc, ◌==◌, List, [], ◌∷◌, ◌++◌, map, replicate, Some, Result, Ok, Err, if◌then◌else◌}
use Rattle.std.specs.Ordering.{nat_cmp}
use Rattle.sqe_codec.specs.declared.errno.Errno.{Errno}
use Rattle.recording.specs.declared.recording.Recording.{Recording}
use Rattle.recording.specs.declared.recording.Ring.{Ring}
use Rattle.trace_format.specs.declared.trace.Buffer.{Buffer}
use Rattle.trace_records.specs.declared.start.Range.{Range}
use Rattle.trace_records.specs.declared.start.Item as initial_item
use Rattle.trace_records.specs.declared.start.Node as initial_node
use Rattle.trace_records.specs.declared.start.Node.TheVariants.{Directory, File, OtherName}
use Rattle.finite_maps.specs.Table.{Table, empty, insert, number_keys, pair_keys, pair_cmp}
use Rattle.trace_format.specs.Paths.{components}
use Rattle.file_tree.specs.Tree.{Node, a_directory, a_file, target}
use Rattle.world_parts.specs.World.{World, Description, Change, apply, apply_all, make_node, set_name, set_size, write_bytes}
use Rattle.file_tree.specs.Walk.{Place, walk_from}

-- The world with a name put at a path, where its parent is there.
abbrev pub name_at : World → List ℕ → ℕ → World
name_at s path i = put (walk_from s.nodes 0 (components path))
  where
    put : Result Place Errno → World
    put (Ok p) = apply (set_name p.parent p.name (Some (target s.nodes i))) s
    put (Err e) = s

-- The bytes of a range of a file are written.
abbrev pub range_written : ℕ → Range → Change
range_written i r = write_bytes i r.offset r.bytes

-- The world with a name of a node. A directory or a file is made, with the number of its item.
abbrev pub with_node : World → ℕ → List ℕ → initial_node.Node → World
with_node s i path Directory = name_at (apply (make_node i a_directory) s) path i
with_node s i path (File size ranges) = name_at (apply_all (make_node i a_file ∷ map (range_written i) ranges ++ set_size i size ∷ []) s) path i
with_node s i path (OtherName j) = name_at s path j

abbrev pub with_items : World → ℕ → List initial_item.Item → World
with_items s i [] = s
with_items s i (x ∷ xs) = with_items (with_node s i x.path x.node) (suc i) xs

abbrev pub descriptions_from : ℕ → List Description → Table nat_cmp Description
descriptions_from n [] = empty
descriptions_from n (d ∷ ds) = insert number_keys.total (descriptions_from (suc n) ds) n d

-- Slots and descriptors hold a description's number and one, or zero where they are empty.
abbrev pub slots_from : ℕ → ℕ → List ℕ → Table pair_cmp ℕ → Table pair_cmp ℕ
slots_from r n [] m = m
slots_from r n (zero ∷ ds) m = slots_from r (suc n) ds m
slots_from r n (suc d ∷ ds) m = insert pair_keys.total (slots_from r (suc n) ds m) (r, n) d

abbrev pub descriptors_from : ℕ → List ℕ → Table nat_cmp ℕ
descriptors_from n [] = empty
descriptors_from n (zero ∷ ds) = descriptors_from (suc n) ds
descriptors_from n (suc d ∷ ds) = insert number_keys.total (descriptors_from (suc n) ds) n d

-- A buffer that is no empty entry starts as zeros.
abbrev pub buffers_from : ℕ → ℕ → List Buffer → Table pair_cmp (List ℕ) → Table pair_cmp (List ℕ)
buffers_from r n [] m = m
buffers_from r n (b ∷ bs) m =
    let rest = buffers_from r (suc n) bs m in
    if b.len == 0 then rest else insert pair_keys.total rest (r, n) (replicate b.len 0)

abbrev pub ring_slots : ℕ → List Ring → Table pair_cmp ℕ
ring_slots r [] = empty
ring_slots r (x ∷ xs) = slots_from r 0 x.slots (ring_slots (suc r) xs)

abbrev pub ring_buffers : ℕ → List Ring → Table pair_cmp (List ℕ)
ring_buffers r [] = empty
ring_buffers r (x ∷ xs) = buffers_from r 0 x.buffers (ring_buffers (suc r) xs)

-- A world with the root alone.
abbrev pub bare : World
bare = record { nodes = insert number_keys.total empty 0 (Node.directory empty 0); descriptions = empty; slots = empty; descriptors = empty; buffers = empty; broken = empty }

-- A world with the open file descriptions of a trace, and the descriptors that hold some.
abbrev pub opened : Recording → World → World
opened t s = record s { descriptions = descriptions_from 0 t.descriptions; descriptors = descriptors_from 0 t.descriptors }

-- The world that a trace starts with; all chains are running.
abbrev pub start : Recording → World
start t = record (with_items bare 1 t.items) {
  descriptions = descriptions_from 0 t.descriptions;
  slots = ring_slots 0 t.rings;
  descriptors = descriptors_from 0 t.descriptors;
  buffers = ring_buffers 0 t.rings;
}
