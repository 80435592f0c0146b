-- The model: the report of a replay.
use Rattle.std.specs.Prelude.{◌≡◌, ℕ, ◌+◌, ℤ, pos, negsuc, ◌==◌, Bool, true, false, not, ◌&&◌, nat_le, nat_lt, List, [], ◌∷◌, ◌++◌, length, take, codes, Option, Some, None, unwrap_or, if◌then◌else◌}
use Rattle.std.specs.Option.{option_map}
use Rattle.std.specs.List.{flat_map, slice_get, range_with_len}
use Rattle.std.specs.Fmt.{decimal, signed_decimal}
use Rattle.hex.specs.Hex.{encode_lower}
use Rattle.sha2.specs.Sha256.{sha256}
use Rattle.sqe_codec.specs.Answers.{each}
use Rattle.trace_format.specs.Submitted.{Submitted}
use Rattle.trace_format.specs.declared.given.Given.{Given}
use Rattle.recording.specs.declared.recording.Recording.{Recording}
use Rattle.recording.specs.declared.recording.Ring.{Ring}
use Rattle.recording.specs.Steps.{Step, Action, submit, fill, register, set, seek, places, step_at}
use Rattle.world_parts.specs.World.{World, bytes, size, buffer}
use Rattle.world_parts.specs.Image.{image_of}
use Rattle.world_parts.specs.declared.image.NameEntry.{NameEntry}
use Rattle.world_parts.specs.declared.image.SlotEntry.{SlotEntry}
use Rattle.world_parts.specs.declared.image.DescriptorEntry.{DescriptorEntry}
use Rattle.world_parts.specs.declared.image.BufferEntry.{BufferEntry}
use Rattle.op_meaning.specs.declared.reply.Reply.{Reply}
use Rattle.text_forms.specs.Names.{opcode_name}
use Rattle.replay_report.specs.Names.{errno_name}
use Rattle.replay_report.specs.TreeSum.{most_summed, tree_sum}
use Rattle.replay_report.specs.declared.showing.Lines.{Lines}
use Rattle.replay_report.specs.declared.showing.Shown.{Shown}
use Rattle.replay_report.specs.declared.showing.SumsShown.{SumsShown}
use Rattle.replay_report.specs.declared.showing.SumsShown.TheVariants as sums

-- A text and a line feed.
abbrev pub line : List ℕ → List ℕ
line text = text ++ 10 ∷ []

-- Whether a completion is posted.
abbrev pub posting : Bool → List ℕ
posting true = codes "posted"
posting false = codes "silent"

-- The bytes of a reply that has some; of more than 32 the first, and a sign.
abbrev pub data_text : List ℕ → List ℕ
data_text bytes =
    if length bytes == 0 then []
    else if nat_le (length bytes) 32 then codes " data=" ++ encode_lower bytes
    else codes " data=" ++ encode_lower (take 32 bytes) ++ codes "+"

-- The ring of an entry, where lines stand in the order of places.
abbrev pub ring_fact : Bool → ℕ → List ℕ
ring_fact false ring = []
ring_fact true ring = codes " ring=" ++ decimal ring

-- How the line of an entry begins: its place, its ring, its name for its caller, its result.
abbrev pub entry_head : Bool → ℕ → ℕ → ℕ → ℤ → List ℕ
entry_head in_order place ring user_data res = decimal place ++ ring_fact in_order ring ++ codes " user=" ++ decimal user_data ++ codes " res=" ++ signed_decimal res ++ codes " "

-- What follows: whether a completion is posted, and what was read.
abbrev pub entry_outcome : Bool → List ℕ → List ℕ
entry_outcome posted bytes = posting posted ++ data_text bytes

-- A fact with a name; none where the name is empty.
abbrev pub named_fact : List ℕ → List ℕ → List ℕ
named_fact label [] = []
named_fact label (byte ∷ more) = label ++ byte ∷ more

-- The name of the error that a result is; one that is not negative is none.
abbrev pub error_text : ℤ → List ℕ
error_text (pos number) = []
error_text (negsuc below) = named_fact (codes " errno=") (errno_name (below + 1))

-- The names of an entry's operation and of its error, where names are asked for.
abbrev pub names_text : Bool → ℕ → ℤ → List ℕ
names_text false opcode res = []
names_text true opcode res = named_fact (codes " name=") (opcode_name opcode) ++ error_text res

-- That the trace gives the result of an entry.
abbrev pub given_fact : Option Given → List ℕ
given_fact None = []
given_fact (Some given) = codes " given=1"

-- The line of an entry.
abbrev pub entry_line : Lines → ℕ → ℕ → Submitted → Reply → List ℕ
entry_line lines place ring entry reply =
    line (entry_head lines.in_order place ring entry.sqe.user_data reply.res ++ entry_outcome reply.posted reply.bytes ++ names_text lines.names entry.sqe.opcode reply.res ++ given_fact entry.given)

-- The line of what a step of a ring does: only an entry has one.
abbrev pub action_line : Lines → ℕ → ℕ → Action → Reply → List ℕ
action_line lines place ring (submit entry) reply = entry_line lines place ring entry reply
action_line lines place ring (fill buffer offset bytes) reply = []
action_line lines place ring (register slots) reply = []
action_line lines place ring (set file content) reply = []
action_line lines place ring (seek file position) reply = []

-- Entries stand in a list for each ring, or all in one.
abbrev pub list_of : Lines → Step → ℕ
list_of lines step = if lines.in_order then 0 else step.ring

-- The line of a step, where it is one of the list.
abbrev pub step_line : Lines → ℕ → ℕ → Step → Reply → List ℕ
step_line lines n place step reply = if list_of lines step == n then action_line lines place step.ring step.action reply else []

abbrev pub place_line : Recording → List Reply → Lines → ℕ → ℕ → List ℕ
place_line t replies lines n place = each (λ step. each (step_line lines n place step) (slice_get replies place)) (step_at t place)

-- The list of a ring has a heading.
abbrev pub heading : Lines → ℕ → List ℕ
heading lines n = if lines.in_order then [] else line (codes "ring " ++ decimal n)

-- The lines of a list: its heading, and its entries in recorded order.
abbrev pub list_lines : Recording → List Reply → Lines → ℕ → List ℕ
list_lines t replies lines n = heading lines n ++ flat_map (place_line t replies lines n) (range_with_len 0 (places t))

-- How many lists there are.
abbrev pub list_count : Lines → Recording → ℕ
list_count lines t = if lines.in_order then 1 else length t.rings

-- How the lines of a recording's entries are written, with names or without.
abbrev pub lines_of : Recording → Bool → Lines
lines_of t names = record { names = names; in_order = t.in_place_order }

-- The first line: version 2 has the entries in the order of their places.
abbrev pub title : Lines → List ℕ
title lines = line (if lines.in_order then codes "uring-report 2" else codes "uring-report 1")

-- A byte of a path: itself where it is a visible character but a backslash, else by its two digits.
abbrev pub escaped_byte : ℕ → List ℕ
escaped_byte byte =
    if nat_le 33 byte && nat_le byte 126 && not (byte == 92) then byte ∷ [] else codes "\\x" ++ encode_lower (byte ∷ [])

abbrev pub escaped : List ℕ → List ℕ
escaped path = flat_map escaped_byte path

-- The SHA-256 sum of some bytes.
abbrev pub sum_text : List ℕ → List ℕ
sum_text bytes = codes " sum=" ++ encode_lower (sha256 bytes)

-- What is shown in place of the sum of a large file: that it is large, and the sum of its pieces' sums where all sums are asked for.
abbrev pub large_sum : SumsShown → List ℕ → List ℕ
large_sum sums.All bytes = codes " sum=large" ++ (codes " tree-sum=" ++ encode_lower (tree_sum bytes))
large_sum _ bytes = codes " sum=large"

-- The sum of a file, where sums are asked for.
abbrev pub file_sum : SumsShown → List ℕ → List ℕ
file_sum sums.None bytes = []
file_sum shown bytes = if nat_lt most_summed (length bytes) then large_sum shown bytes else sum_text bytes

-- The sum of a buffer, where sums are asked for.
abbrev pub buffer_sum : SumsShown → List ℕ → List ℕ
buffer_sum sums.None bytes = []
buffer_sum _ bytes = sum_text bytes

-- The line of a name: a directory, or a file with its node, its size and its sum.
abbrev pub named_line : List ℕ → ℕ → Option ℕ → List ℕ → List ℕ
named_line path node None sum = line (codes "dir " ++ escaped path)
named_line path node (Some size) sum =
    line (codes "file " ++ escaped path ++ codes " node=" ++ decimal node ++ codes " size=" ++ decimal size ++ sum)

-- The size that an entry of an image tells is that of its file; a directory has none.
abbrev pub IsSized : World → NameEntry → Type 0
IsSized s name = name.size ≡ size s name.node

-- The length that an entry of an image tells is that of its buffer.
abbrev pub IsLong : World → BufferEntry → Type 0
IsLong s e = option_map length (buffer s e.ring e.index) ≡ Some e.len

abbrev pub name_line : World → SumsShown → NameEntry → List ℕ
name_line s shown name = named_line name.path name.node name.size (each (file_sum shown) (bytes s name.node))

-- What a description shows: its number, its node and its position.
abbrev pub description_text : ℕ → ℕ → ℕ → List ℕ
description_text description node position = codes " desc=" ++ decimal description ++ codes " node=" ++ decimal node ++ codes " pos=" ++ decimal position

-- The line of a full slot.
abbrev pub slot_line : SlotEntry → List ℕ
slot_line e = line (codes "slot " ++ decimal e.ring ++ codes " " ++ decimal e.slot ++ description_text e.description e.node e.position)

-- The line of a full descriptor.
abbrev pub descriptor_line : DescriptorEntry → List ℕ
descriptor_line e = line (codes "descriptor " ++ decimal e.number ++ description_text e.description e.node e.position)

-- The line of a buffer.
abbrev pub buffer_line : World → SumsShown → BufferEntry → List ℕ
buffer_line s shown e =
    line (codes "buffer " ++ decimal e.ring ++ codes " " ++ decimal e.index ++ codes " len=" ++ decimal e.len ++ buffer_sum shown (unwrap_or (buffer s e.ring e.index) []))

-- The line of a check: how many places and rings a trace has.
abbrev pub check_line : Recording → List ℕ
check_line t = line (codes "ok " ++ decimal (places t) ++ codes " places " ++ decimal (length t.rings) ++ codes " rings")

-- Whether a ring ends before the recording does. Nothing is shown of it at the end.
abbrev pub has_ended : List Ring → ℕ → Bool
has_ended rings n = elim (slice_get rings n) [ None ↦ false | Some r ↦ r.ended ]

abbrev pub slot_shown : List Ring → SlotEntry → List ℕ
slot_shown rings e = if has_ended rings e.ring then [] else slot_line e

abbrev pub buffer_shown : List Ring → World → SumsShown → BufferEntry → List ℕ
buffer_shown rings s shown e = if has_ended rings e.ring then [] else buffer_line s shown e

-- What the world shows: its names, its full slots and descriptors, and its buffers.
abbrev pub world_lines : List Ring → World → SumsShown → List ℕ
world_lines rings s shown =
    line (codes "tree") ++ flat_map (name_line s shown) (image_of s).names
    ++ line (codes "slots") ++ flat_map (slot_shown rings) (image_of s).slots ++ flat_map descriptor_line (image_of s).descriptors
    ++ line (codes "buffers") ++ flat_map (buffer_shown rings s shown) (image_of s).buffers

-- The report of a trace, of the world at its end and of the replies of its places; with the sums and names that are asked for.
abbrev pub report_of : Recording → World → List Reply → Shown → List ℕ
report_of t s replies shown =
    let lines = lines_of t shown.names in
    title lines ++ flat_map (list_lines t replies lines) (range_with_len 0 (list_count lines t)) ++ world_lines t.rings s shown.sums ++ line (codes "end")

-- What a report shows with sums or without, and with no names.
abbrev pub shown_with : Bool → Shown
shown_with false = record { sums = sums.None; names = false }
shown_with true = record { sums = sums.Small; names = false }
