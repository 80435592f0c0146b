-- The model: what the report shows of a world, its names in the order of their full paths, its full slots and descriptors, its buffers.
use Rattle.std.specs.Prelude.{ℕ, zero, suc, List, [], ◌∷◌, ◌++◌, map, length}
use Rattle.std.specs.List.{flat_map}
use Rattle.std.specs.Ordering.{nat_cmp}
use Rattle.std.specs.Cmp.Lexicographic.{slice_cmp}
use Rattle.sqe_codec.specs.Answers.{each}
use Rattle.finite_maps.specs.Table.{Table, empty, insert, get, count, text_keys}
use Rattle.file_tree.specs.Tree.{Tree, Names, names, size}
use Rattle.world_parts.specs.declared.image.NameEntry.{NameEntry}
use Rattle.world_parts.specs.declared.image.SlotEntry.{SlotEntry}
use Rattle.world_parts.specs.declared.image.DescriptorEntry.{DescriptorEntry}
use Rattle.world_parts.specs.declared.image.BufferEntry.{BufferEntry}
use Rattle.world_parts.specs.declared.image.Image.{Image}
use Rattle.world_parts.specs.World.{World, Description}

-- The full paths of the names below a directory whose own path is given, each with its node, so many levels deep.
abbrev pub paths_below : ℕ → Tree → List ℕ → ℕ → List (List ℕ × ℕ)
paths_below zero tree path d = []
paths_below (suc levels) tree path d =
    flat_map (λ (e : List ℕ × ℕ). let full = path ++ 47 ∷ e.0 in (full, e.1) ∷ paths_below levels tree full e.1)
    (each (λ (ns : Names). ns.entries) (names tree d))

-- Paths put into a map one after another. Its entries are in the order of the paths.
abbrev pub by_path : Table (slice_cmp nat_cmp) ℕ → List (List ℕ × ℕ) → Table (slice_cmp nat_cmp) ℕ
by_path m [] = m
by_path m (e ∷ es) = by_path (insert text_keys.total m e.0 e.1) es

-- All names by their full paths: no path has more directories than there are nodes.
abbrev pub all_paths : Tree → Table (slice_cmp nat_cmp) ℕ
all_paths tree = by_path empty (paths_below (count tree) tree [] 0)

abbrev pub name_entry : Tree → List ℕ × ℕ → NameEntry
name_entry tree e = record { path = e.0; node = e.1; size = size tree e.1 }

abbrev pub slot_entry : (ℕ × ℕ) × ℕ → Description → SlotEntry
slot_entry e d = record { ring = e.0.0; slot = e.0.1; description = e.1; node = d.node; position = d.position }

abbrev pub descriptor_entry : ℕ × ℕ → Description → DescriptorEntry
descriptor_entry e d = record { number = e.0; description = e.1; node = d.node; position = d.position }

abbrev pub buffer_entry : (ℕ × ℕ) × List ℕ → BufferEntry
buffer_entry e = record { ring = e.0.0; index = e.0.1; len = length e.1 }

-- The image of a world.
abbrev pub image_of : World → Image
image_of s = record {
  names = map (name_entry s.nodes) (all_paths s.nodes).entries;
  slots = flat_map (λ e. each (λ d. slot_entry e d ∷ []) (get s.descriptions e.1)) s.slots.entries;
  descriptors = flat_map (λ e. each (λ d. descriptor_entry e d ∷ []) (get s.descriptions e.1)) s.descriptors.entries;
  buffers = map buffer_entry s.buffers.entries;
}
