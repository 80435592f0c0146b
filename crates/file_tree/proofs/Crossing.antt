-- A tree may go to another thread and be shared by several, since its files' bytes may.
use denote.Enum.Declared as Enum
use denote.Param.Send.{IsSend, IsSync, enum_send, enum_sync, recorded_send, recorded_sync, struct_send, struct_sync, sendable}
use denote.Struct.Declared as Struct
use Rattle.std.proofs.Crossing.{crosses}
use Rattle.extent_bytes.proofs.Crossing.{extents_send, extents_sync}
use Rattle.file_tree.specs.contracts.node.Content as Content
use Rattle.file_tree.specs.contracts.node.Node as Node
use Rattle.file_tree.specs.contracts.node.Node.TheInside as InsideNode
use Rattle.file_tree.specs.contracts.tree.Tree as Tree
use Rattle.file_tree.specs.contracts.tree.Tree.TheInside as Inside
use Rattle.file_tree.proofs.names.Names.TheSendSync as names

content_send : IsSend (Content.the_field).row
content_send = enum_send (Enum.shape Content.the_type) ((names.the_send, (search (crosses, sendable) depth 20, tt)), ((extents_send, tt), tt))

content_sync : IsSync (Content.the_field).row
content_sync = enum_sync (Enum.shape Content.the_type) ((names.the_sync, (search (crosses, sendable) depth 20, tt)), ((extents_sync, tt), tt))

node_inside_send : IsSend InsideNode.the_row
node_inside_send = recorded_send InsideNode.the_field.row _ _ InsideNode.the_type.to_one (struct_send (Struct.shape InsideNode.the_type) (content_send, tt))

node_inside_sync : IsSync InsideNode.the_row
node_inside_sync = recorded_sync InsideNode.the_field.row _ _ InsideNode.the_type.to_one (struct_sync (Struct.shape InsideNode.the_type) (content_sync, tt))

node_send : IsSend Node.the_row
node_send = search (node_inside_send, crosses, sendable) depth 20

node_sync : IsSync Node.the_row
node_sync = search (node_inside_sync, crosses, sendable) depth 20

inside_send : IsSend Inside.the_row
inside_send = recorded_send Inside.the_field.row _ _ Inside.the_type.to_one (struct_send (Struct.shape Inside.the_type) (search (node_send, node_sync, crosses, sendable) depth 20, tt))

inside_sync : IsSync Inside.the_row
inside_sync = recorded_sync Inside.the_field.row _ _ Inside.the_type.to_one (struct_sync (Struct.shape Inside.the_type) (search (node_send, node_sync, crosses, sendable) depth 20, tt))

pub tree_send : IsSend Tree.the_row
tree_send = search (inside_send, crosses, sendable) depth 20

pub tree_sync : IsSync Tree.the_row
tree_sync = search (inside_sync, crosses, sendable) depth 20
