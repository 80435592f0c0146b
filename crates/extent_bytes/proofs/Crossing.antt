-- Lists, and bytes that were read, may go to another thread and be shared by several, since pages may. Of a type that has itself
-- in it, as trees of pages have, and of what holds one, this is not found by itself.
use denote.Enum.Declared as Enum
use denote.Param.Send.{IsSend, IsSync, enum_send, enum_sync, recorded_send, recorded_sync, struct_send, struct_sync, sendable}
use denote.Struct.Declared as Struct
use Rattle.std.proofs.Crossing.{Arc-send, Arc-sync, crosses}
use Rattle.extent_bytes.specs.contracts.extents.Extents as Extents
use Rattle.extent_bytes.specs.contracts.extents.Extents.TheInside as Inside
use Rattle.extent_bytes.specs.contracts.pages.Pages as Pages
use Rattle.extent_bytes.specs.contracts.reading.Kept as Kept
use Rattle.extent_bytes.specs.contracts.reading.ReadBytes as ReadBytes
use Rattle.extent_bytes.specs.contracts.reading.ReadBytes.TheInside as InsideRead
use Rattle.extent_bytes.specs.contracts.reading.SharedBytes as SharedBytes
use Rattle.extent_bytes.specs.contracts.shared_pages.SharedPages as SharedPages
use Rattle.extent_bytes.specs.contracts.shared_pages.SharedPages.TheInside as InsideShared
use Rattle.extent_bytes.specs.contracts.shared_pages.Sharing as Sharing
use Rattle.extent_bytes.specs.contracts.stored.Stored as Stored
use Rattle.extent_bytes.proofs.page.Page.TheSendSync as page
use Rattle.extent_bytes.proofs.page_part.PagePart.TheSendSync as part
use Rattle.extent_bytes.proofs.page_run.PageRun.TheSendSync as run
use Rattle.extent_bytes.proofs.pages.Pages.TheLaws.TheKnot.{both_send-Pages, both_sync-Pages}

pages_send : IsSend Pages.the_row
pages_send = search (both_send-Pages, page.the_send, page.the_sync, crosses, sendable) depth 20

pages_sync : IsSync Pages.the_row
pages_sync = search (both_sync-Pages, page.the_send, page.the_sync, crosses, sendable) depth 20

-- as a field has them
pages_field_send : IsSend (Pages.the_field).row
pages_field_send = search (pages_send, both_send-Pages, page.the_send, page.the_sync, crosses, sendable) depth 20

pages_field_sync : IsSync (Pages.the_field).row
pages_field_sync = search (pages_sync, both_sync-Pages, page.the_send, page.the_sync, crosses, sendable) depth 20

stored_send : IsSend (Stored.the_field).row
stored_send = enum_send (Enum.shape Stored.the_type) ((pages_field_send, tt), ((Arc-send _ pages_send pages_sync, tt), tt))

stored_sync : IsSync (Stored.the_field).row
stored_sync = enum_sync (Enum.shape Stored.the_type) ((pages_field_sync, tt), ((Arc-sync _ pages_send pages_sync, tt), tt))

inside_send : IsSend Inside.the_row
inside_send = recorded_send Inside.the_field.row _ _ Inside.the_type.to_one (struct_send (Struct.shape Inside.the_type) (search (crosses, sendable) depth 20, (search (crosses, sendable) depth 20, (stored_send, (search (crosses, sendable) depth 20, tt)))))

inside_sync : IsSync Inside.the_row
inside_sync = recorded_sync Inside.the_field.row _ _ Inside.the_type.to_one (struct_sync (Struct.shape Inside.the_type) (search (crosses, sendable) depth 20, (search (crosses, sendable) depth 20, (stored_sync, (search (crosses, sendable) depth 20, tt)))))

pub extents_send : IsSend Extents.the_row
extents_send = search (inside_send, crosses, sendable) depth 20

pub extents_sync : IsSync Extents.the_row
extents_sync = search (inside_sync, crosses, sendable) depth 20

sharing_send : IsSend (Sharing.the_field).row
sharing_send = enum_send (Enum.shape Sharing.the_type) ((run.the_send, tt), ((search (extents_send, extents_sync, crosses, sendable) depth 20, tt), tt))

sharing_sync : IsSync (Sharing.the_field).row
sharing_sync = enum_sync (Enum.shape Sharing.the_type) ((run.the_sync, tt), ((search (extents_send, extents_sync, crosses, sendable) depth 20, tt), tt))

shared_inside_send : IsSend InsideShared.the_row
shared_inside_send = recorded_send InsideShared.the_field.row _ _ InsideShared.the_type.to_one (struct_send (Struct.shape InsideShared.the_type) (sharing_send, tt))

shared_inside_sync : IsSync InsideShared.the_row
shared_inside_sync = recorded_sync InsideShared.the_field.row _ _ InsideShared.the_type.to_one (struct_sync (Struct.shape InsideShared.the_type) (sharing_sync, tt))

shared_send : IsSend SharedPages.the_row
shared_send = search (shared_inside_send, crosses, sendable) depth 20

shared_sync : IsSync SharedPages.the_row
shared_sync = search (shared_inside_sync, crosses, sendable) depth 20

bytes_send : IsSend SharedBytes.the_row
bytes_send = recorded_send SharedBytes.the_field.row _ _ SharedBytes.the_type.to_one (struct_send (Struct.shape SharedBytes.the_type) (shared_send, (search (crosses, sendable) depth 20, tt)))

bytes_sync : IsSync SharedBytes.the_row
bytes_sync = recorded_sync SharedBytes.the_field.row _ _ SharedBytes.the_type.to_one (struct_sync (Struct.shape SharedBytes.the_type) (shared_sync, (search (crosses, sendable) depth 20, tt)))

kept_send : IsSend (Kept.the_field).row
kept_send = enum_send (Enum.shape Kept.the_type) ((search (crosses, sendable) depth 20, tt), ((part.the_send, tt), ((search (bytes_send, bytes_sync, crosses, sendable) depth 20, tt), tt)))

kept_sync : IsSync (Kept.the_field).row
kept_sync = enum_sync (Enum.shape Kept.the_type) ((search (crosses, sendable) depth 20, tt), ((part.the_sync, tt), ((search (bytes_send, bytes_sync, crosses, sendable) depth 20, tt), tt)))

read_inside_send : IsSend InsideRead.the_row
read_inside_send = recorded_send InsideRead.the_field.row _ _ InsideRead.the_type.to_one (struct_send (Struct.shape InsideRead.the_type) (kept_send, tt))

read_inside_sync : IsSync InsideRead.the_row
read_inside_sync = recorded_sync InsideRead.the_field.row _ _ InsideRead.the_type.to_one (struct_sync (Struct.shape InsideRead.the_type) (kept_sync, tt))

pub read_bytes_send : IsSend ReadBytes.the_row
read_bytes_send = search (read_inside_send, crosses, sendable) depth 20

pub read_bytes_sync : IsSync ReadBytes.the_row
read_bytes_sync = search (read_inside_sync, crosses, sendable) depth 20
