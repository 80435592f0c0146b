-- The model: which item, use and flag of a chain each value of the code stands for.
use Rattle.std.specs.Prelude.{false}
use Rattle.world_parts.specs.Items as items
use Rattle.world_parts.specs.World as world
use Rattle.world_parts.specs.declared.broken.Broken as code
use Rattle.world_parts.specs.declared.broken.Broken.TheVariants.{Loud, Quiet}
use Rattle.world_parts.specs.declared.footprint.Item.{Item}
use Rattle.world_parts.specs.declared.footprint.Item.TheVariants.{Chain, Ring, Slot, Descriptor, Description, Position, Size, Bytes, Name, Names, Buffer, AllNames, AllBytesAndSizes, AllPositions, AllDescriptions, AllDescriptors}
use Rattle.world_parts.specs.declared.footprint.Use.{Use}

-- the flag that is meant
abbrev pub broken_meant : code.Broken → world.Broken
broken_meant Loud = world.loud
broken_meant Quiet = world.quiet

-- the item that is meant
abbrev pub item_meant : Item → items.Item
item_meant (Chain c) = items.one (items.chain_flag c)
item_meant (Ring r) = items.one (items.ring_order r)
item_meant (Slot r n) = items.one (items.slot_at r n)
item_meant (Descriptor n) = items.one (items.descriptor_at n)
item_meant (Description d) = items.one (items.description_at d)
item_meant (Position d) = items.one (items.position_of d)
item_meant (Size i) = items.one (items.size_of i)
item_meant (Bytes i low high) = items.file_bytes i low high
item_meant (Name d n) = items.one (items.name_at d n.items)
item_meant (Names d) = items.one (items.names_in d)
item_meant (Buffer r b low high) = items.buffer_bytes r b low high
item_meant (AllNames n) = items.all_names n
item_meant (AllBytesAndSizes n) = items.all_bytes_and_sizes n
item_meant (AllPositions n) = items.all_positions n
item_meant (AllDescriptions n) = items.all_descriptions n
item_meant AllDescriptors = items.all_descriptors

abbrev pub use_meant : Use → items.Use
use_meant u = record { item = item_meant u.item; written = u.written }

-- a use that only reads
abbrev pub only_read : Use → Use
only_read u = record u { written = false }
