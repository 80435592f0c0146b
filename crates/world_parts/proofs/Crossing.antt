-- A world and a part of one may go to another thread and be shared by several, since their trees and buffers may.
use denote.Param.Send.{IsSend, IsSync, recorded_send, recorded_sync, struct_send, struct_sync, sendable}
use denote.Struct.Declared as Struct
use Rattle.std.proofs.Crossing.{crosses}
use Rattle.file_tree.proofs.Crossing.{tree_send, tree_sync}
use Rattle.ring_tables.proofs.Crossing.{buffers_send, buffers_sync}
use Rattle.ring_tables.proofs.descriptions.Descriptions.TheSendSync as descriptions
use Rattle.ring_tables.proofs.descriptors.Descriptors.TheSendSync as descriptors
use Rattle.ring_tables.proofs.slots.Slots.TheSendSync as slots
use Rattle.world_parts.specs.contracts.part.Part as Part
use Rattle.world_parts.specs.contracts.part.Part.TheInside as InsidePart
use Rattle.world_parts.specs.contracts.state.State as State
use Rattle.world_parts.specs.contracts.state.State.TheInside as Inside
use Rattle.world_parts.proofs.broken.Flag.TheSendSync as flag

inside_send : IsSend Inside.the_row
inside_send = recorded_send Inside.the_field.row _ _ Inside.the_type.to_one (struct_send (Struct.shape Inside.the_type)
    (tree_send, (descriptions.the_send, (slots.the_send, (descriptors.the_send, (buffers_send, (search (flag.the_send, flag.the_sync, crosses, sendable) depth 20, (search (crosses, sendable) depth 20, tt))))))))

inside_sync : IsSync Inside.the_row
inside_sync = recorded_sync Inside.the_field.row _ _ Inside.the_type.to_one (struct_sync (Struct.shape Inside.the_type)
    (tree_sync, (descriptions.the_sync, (slots.the_sync, (descriptors.the_sync, (buffers_sync, (search (flag.the_send, flag.the_sync, crosses, sendable) depth 20, (search (crosses, sendable) depth 20, tt))))))))

state_send : IsSend State.the_row
state_send = search (inside_send, crosses, sendable) depth 20

pub state_sync : IsSync State.the_row
state_sync = search (inside_sync, crosses, sendable) depth 20

part_inside_send : IsSend InsidePart.the_row
part_inside_send = recorded_send InsidePart.the_field.row _ _ InsidePart.the_type.to_one (struct_send (Struct.shape InsidePart.the_type)
    (search (crosses, sendable) depth 20, (search (state_send, state_sync, crosses, sendable) depth 20, tt)))

pub part_send : IsSend Part.the_row
part_send = search (part_inside_send, crosses, sendable) depth 20
