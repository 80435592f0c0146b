-- Buffers may go to another thread and be shared by several, since their bytes may.
use denote.Param.Send.{IsSend, IsSync, recorded_send, recorded_sync, struct_send, struct_sync, sendable}
use denote.Struct.Declared as Struct
use Rattle.std.proofs.Crossing.{crosses}
use Rattle.std.proofs.MapsCrossing.{crosses as maps}
use Rattle.extent_bytes.proofs.Crossing.{extents_send, extents_sync}
use Rattle.ring_tables.specs.contracts.buffers.Buffers as Buffers
use Rattle.ring_tables.specs.contracts.buffers.Buffers.TheInside as Inside

inside_send : IsSend Inside.the_row
inside_send = recorded_send Inside.the_field.row _ _ Inside.the_type.to_one (struct_send (Struct.shape Inside.the_type) (search (maps, extents_send, extents_sync, crosses, sendable) depth 20, (search (crosses, sendable) depth 20, tt)))

inside_sync : IsSync Inside.the_row
inside_sync = recorded_sync Inside.the_field.row _ _ Inside.the_type.to_one (struct_sync (Struct.shape Inside.the_type) (search (maps, extents_send, extents_sync, crosses, sendable) depth 20, (search (crosses, sendable) depth 20, tt)))

pub buffers_send : IsSend Buffers.the_row
buffers_send = search (inside_send, crosses, sendable) depth 20

pub buffers_sync : IsSync Buffers.the_row
buffers_sync = search (inside_sync, crosses, sendable) depth 20
