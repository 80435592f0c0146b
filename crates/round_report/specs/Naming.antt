-- The model: how a text names the nodes and the items of a trace.
use Rattle.std.specs.Prelude.{ℕ, zero, suc, ◌-◌, ◌==◌, List, ◌++◌, length, codes, Option, Some, None, slice_get, if◌then◌else◌}
use Rattle.std.specs.Fmt.{decimal}
use Rattle.entry_checks.specs.Operation.{file_limit}
use Rattle.recording.specs.declared.recording.Recording.{Recording}
use Rattle.trace_records.specs.declared.start.Item as initial
use Rattle.world_parts.specs.Items.{Atom, chain_flag, ring_order, slot_at, descriptor_at, description_at, position_of, size_of, byte_at, name_at, names_in, buffer_size, buffer_byte, Item, one, file_bytes, buffer_bytes, all_names, all_bytes_and_sizes, all_positions, all_descriptions, all_descriptors}
use Rattle.replay_report.specs.Report.{escaped}

-- A node below the root: by the first path that the trace has for it, or by the place that makes it.
abbrev pub lower_node : Recording → ℕ → Option initial.Item → List ℕ
lower_node t index (Some item) = escaped item.path
lower_node t index None = codes "node of place " ++ decimal (index - length t.items)

abbrev pub node_text : Recording → ℕ → List ℕ
node_text t zero = codes "/"
node_text t (suc index) = lower_node t index (slice_get t.items index)

-- Two numbers, a ring's and that of one of its slots or buffers.
abbrev pub in_ring : ℕ → ℕ → List ℕ
in_ring ring number = decimal ring ++ codes " " ++ decimal number

-- From one offset up to another; a file's range that ends at the greatest size has no other.
abbrev pub offsets : ℕ → ℕ → List ℕ
offsets low high = decimal low ++ codes " to " ++ decimal high

abbrev pub file_offsets : ℕ → ℕ → List ℕ
file_offsets low high = if high == file_limit then codes "from " ++ decimal low else offsets low high

abbrev pub atom_text : Recording → Atom → List ℕ
atom_text t (chain_flag c) = codes "chain " ++ decimal c
atom_text t (ring_order r) = codes "order of ring " ++ decimal r
atom_text t (slot_at r n) = codes "slot " ++ in_ring r n
atom_text t (descriptor_at n) = codes "descriptor " ++ decimal n
atom_text t (description_at d) = codes "description " ++ decimal d
atom_text t (position_of d) = codes "position of description " ++ decimal d
atom_text t (size_of i) = codes "size of " ++ node_text t i
atom_text t (byte_at i p) = codes "byte " ++ decimal p ++ codes " of " ++ node_text t i
atom_text t (name_at d n) = codes "name " ++ escaped n ++ codes " in " ++ node_text t d
atom_text t (names_in d) = codes "number of names in " ++ node_text t d
atom_text t (buffer_size r b) = codes "size of buffer " ++ in_ring r b
atom_text t (buffer_byte r b p) = codes "byte " ++ decimal p ++ codes " of buffer " ++ in_ring r b

-- What an item is called. Items of many nodes or descriptions need no number: all that the trace knows so far are below theirs.
abbrev pub item_text : Recording → Item → List ℕ
item_text t (one a) = atom_text t a
item_text t (file_bytes i low high) = codes "bytes " ++ file_offsets low high ++ codes " of " ++ node_text t i
item_text t (buffer_bytes r b low high) = codes "bytes " ++ offsets low high ++ codes " of buffer " ++ in_ring r b
item_text t (all_names n) = codes "all names"
item_text t (all_bytes_and_sizes n) = codes "all bytes and sizes of files"
item_text t (all_positions n) = codes "all positions"
item_text t (all_descriptions n) = codes "all descriptions"
item_text t all_descriptors = codes "all descriptors"
