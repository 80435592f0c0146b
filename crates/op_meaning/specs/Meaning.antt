-- The model: what each operation answers and changes, its tests in order and then its effect.
use Rattle.std.specs.Prelude.{ℕ, Bool, true, false, not, ◌&&◌, ◌||◌, ◌==◌, ltb, leb, ◌+◌, ◌-◌, ◌^◌, min, max, List, [], ◌∷◌, ◌++◌, length, take, drop, Option, Some, None, Result, Ok, Err, ok_or, is_some, is_none, unwrap_or, if◌then◌else◌}
use Rattle.std.specs.List.{slice_get, find, range_with_len}
use Rattle.std.specs.Option.{option_and_then, option_map}
use Rattle.std.specs.Int.{w64, to_le_bytes}
use Rattle.sqe_codec.specs.declared.errno.Errno.{Errno}
use Rattle.sqe_codec.specs.declared.errno.Errno.TheVariants.{EPERM, ENOENT, EBADF, EFAULT, EEXIST, ENOTDIR, EISDIR, EINVAL, EMFILE, EFBIG, ENOTEMPTY, EOPNOTSUPP}
use Rattle.trace_format.specs.declared.trace.Access.{Access}
use Rattle.trace_format.specs.declared.trace.Access.TheVariants.{Read, Write, Both}
use Rattle.recording.specs.declared.recording.Recording.{Recording}
use Rattle.recording.specs.declared.recording.Ring.{Ring}
use Rattle.recording.specs.Rings.{slots_of}
use Rattle.trace_format.specs.declared.trace.Buffer.{Buffer}
use Rattle.sqe_codec.specs.Answers.{◌>>=◌, ◌>>◌, require}
use Rattle.entry_checks.specs.Operation.{Operation, nop, readv, writev, fsync, read_fixed, write_fixed, fallocate, openat, close, read, write, renameat, unlinkat, mkdirat, linkat, ftruncate, sync_file_range, fadvise, statx, statx_file, statx_root, given, hold_nothing, hold_path, hold_copy, hold_other, seek, File, in_slot, at_descriptor, Span, Path, OpenFlags, file_limit, at_position}
use Rattle.trace_format.specs.Sides.{most_moved}
use Rattle.op_meaning.specs.Shape.{Shape, idle, looking, moving, allocating, resizing, closing, opening, measuring, making, freeing, linking, renaming, holding, holding_path, holding_copy, holding_other, seeking, Look, at_nothing, at_file, at_path, at_paths, look}
use Rattle.file_tree.specs.Tree.{a_directory, a_file, Target}
use Rattle.world_parts.specs.World.{World, Opened, opened, position, bytes, name_count, slot, descriptor, buffer, Change, set_name, make_node, set_slot, set_descriptor, make_description, set_position, set_size, write_bytes, zero_bytes, write_buffer}
use Rattle.file_tree.specs.Walk.{Place, walk, is_above, is_directory}

-- Where an operation stands: its trace, its place in that, and its ring.
-- Definitions take their arguments in one order: the site, the world, what the operation asks for, and what it finds.
pub record Site : Type 0 where
  pub trace : Recording
  pub place : ℕ
  pub ring : ℕ

-- An accepted operation: its count (0 where it is no transfer), the bytes that it answers, and its changes in order.
pub record Effect : Type 0 where
  pub count : ℕ
  pub bytes : List ℕ
  pub changes : List Change

abbrev pub done : List Change → Effect
done cs = record { count = 0; bytes = []; changes = cs }

-- The number of the node, and of the open file description, that a place makes.
abbrev pub made_node : (trace : Recording) (place : ℕ) → ℕ
made_node t k = length t.items + 1 + k

abbrev pub made_description : (trace : Recording) (place : ℕ) → ℕ
made_description t k = length t.descriptions + k

-- How many registered files a ring has room for, and a registered buffer of it that is no empty entry.
abbrev pub slot_count : (trace : Recording) (ring : ℕ) → ℕ
slot_count t r = unwrap_or (option_map slots_of (slice_get t.rings r)) 0

abbrev pub registered_buffer : Site → (index : ℕ) → Option Buffer
registered_buffer site b = option_and_then (λ (x : Buffer). if x.len == 0 then None else Some x) (option_and_then (λ (x : Ring). slice_get x.buffers b) (slice_get site.trace.rings site.ring))

-- Where a span starts in its buffer, if it lies in one.
abbrev pub span_start : Site → Span → Option ℕ
span_start site x = option_and_then (λ (b : Buffer). if leb b.address x.address && leb (x.address + x.length) (b.address + b.len) then Some (x.address - b.address) else None) (registered_buffer site x.index)

-- The open file description that a file number stands for: in a slot of the ring, or at a descriptor.
abbrev pub held : Site → World → File → Option ℕ
held site s (in_slot n) = if ltb n (slot_count site.trace site.ring) then slot s site.ring n else None
held site s (at_descriptor n) = if ltb n (length site.trace.descriptors) then descriptor s n else None

-- A file that is open: its description and what that says.
pub record Handle : Type 0 where
  pub description : ℕ
  pub opened : Opened

abbrev pub handle_of : World → (description : ℕ) → Option Handle
handle_of s d = option_map (λ o. record { description = d; opened = o }) (opened s d)

abbrev pub handle : Site → World → File → Option Handle
handle site s f = option_and_then (handle_of s) (held site s f)

abbrev pub can_read : Access → Bool
can_read Write = false
can_read _ = true

abbrev pub can_write : Access → Bool
can_write Read = false
can_write _ = true

-- An offset that no file position can have, other than the one that stands for the position.
abbrev pub is_bad_offset : (offset : ℕ) → Bool
is_bad_offset o = leb (2 ^ 63) o && not (o == at_position)

abbrev pub bytes_in : World → (node : ℕ) → List ℕ
bytes_in s i = unwrap_or (bytes s i) []

-- Where a transfer starts: at its offset, or at the position.
abbrev pub transfer_start : World → (offset : ℕ) → Handle → ℕ
transfer_start s o h = if o == at_position then unwrap_or (position s h.description) 0 else o

-- A transfer at the position advances it to its end.
abbrev pub advance : (offset : ℕ) → Handle → (end : ℕ) → List Change
advance o h end = if o == at_position then set_position h.description end ∷ [] else []

-- Where read bytes go: into the reply, or into a registered buffer of a ring at an offset.
pub data Destination : Type 0 where
  reply : Destination
  into : (ring buffer offset : ℕ) → Destination

abbrev pub delivered : Destination → (bytes : List ℕ) → List Change → Effect
delivered reply moved cs = record { count = length moved; bytes = moved; changes = cs }
delivered (into r b at) moved cs = record { count = length moved; bytes = []; changes = write_buffer r b at moved ∷ cs }

-- A read moves the bytes from its start, up to those asked for or the end of the file.
abbrev pub read_effect : World → (offset count : ℕ) → Handle → Destination → Effect
read_effect s o n h to =
    let at = transfer_start s o h in
    let moved = take n (drop at (bytes_in s h.opened.target.node)) in
    delivered to moved (advance o h (at + length moved))

abbrev pub is_file : Opened → Bool
is_file o = not (is_directory o.target.kind)

-- The tests of a read before its span's, by what its file number stands for.
abbrev pub readable : Option Handle → Result Handle Errno
readable there = do
  h ← ok_or there EBADF
  require (can_read h.opened.access) EBADF
  require (is_file h.opened) EISDIR
  Ok h

abbrev pub read_meaning : World → (offset count : ℕ) → Option Handle → Result Destination Errno → Result Effect Errno
read_meaning s o n there span = do
  h ← readable there
  to ← span
  require (not (is_bad_offset o)) EINVAL
  Ok (if n == 0 then done [] else read_effect s o n h to)

-- Where a write starts: an append description writes at the end of the file.
abbrev pub write_start : World → (offset : ℕ) → Handle → ℕ
write_start s o h = if h.opened.append then length (bytes_in s h.opened.target.node) else transfer_start s o h

-- A write moves its bytes, short at the largest size of a file.
abbrev pub write_effect : (offset : ℕ) → Handle → (start : ℕ) (bytes : List ℕ) → Effect
write_effect o h at moved = record { count = length moved; bytes = []; changes = write_bytes h.opened.target.node at moved ∷ advance o h (at + length moved) }

abbrev pub writable : Option Handle → Result Handle Errno
writable there = do
  h ← ok_or there EBADF
  require (can_write h.opened.access) EBADF
  Ok h

abbrev pub write_meaning : World → (offset : ℕ) → Option Handle → Result (List ℕ) Errno → Result Effect Errno
write_meaning s o there source = do
  h ← writable there
  new ← source
  require (not (is_bad_offset o)) EINVAL
  write_at h new
  where
    write_at : Handle → List ℕ → Result Effect Errno
    write_at h new =
        let at = write_start s o h in
        if length new == 0 then Ok (done []) else (require (ltb at file_limit) EFBIG >> Ok (write_effect o h at (take (file_limit - at) new)))

-- The bytes of a span that a transfer moves; it is refused where the span lies in no buffer.
abbrev pub span_destination : Site → Span → Result Destination Errno
span_destination site x = ok_or (option_map (λ at. into site.ring x.index at) (span_start site x)) EFAULT

abbrev pub span_bytes : Site → World → Span → Result (List ℕ) Errno
span_bytes site s x = ok_or (option_map (λ at. take (min x.length most_moved) (drop at (unwrap_or (buffer s site.ring x.index) []))) (span_start site x)) EFAULT

-- READ and READV move into the reply, READ_FIXED into a span, WRITE_FIXED from one.
abbrev pub readv_meaning : World → (offset count : ℕ) → Option Handle → Result Effect Errno
readv_meaning s o n there = read_meaning s o (min n most_moved) there (Ok reply)

abbrev pub read_fixed_meaning : Site → World → (offset : ℕ) → Span → Option Handle → Result Effect Errno
read_fixed_meaning site s o x there = read_meaning s o (min x.length most_moved) there (span_destination site x)

abbrev pub write_fixed_meaning : Site → World → (offset : ℕ) → Span → Option Handle → Result Effect Errno
write_fixed_meaning site s o x there = write_meaning s o there (span_bytes site s x)

-- The modes of fallocate(2) that are served: extend; change nothing; punch a hole; zero a range and extend; zero a range.
pub data Allocation : Type 0 where
  extend : Allocation
  reserve : Allocation
  punch : Allocation
  zero_extend : Allocation
  zero_within : Allocation

abbrev pub allocation : (mode : ℕ) → Option Allocation
allocation m = if m == 0 then Some extend else if m == 1 then Some reserve else if m == 3 then Some punch else if m == 16 then Some zero_extend else if m == 17 then Some zero_within else None

abbrev pub extended : World → (node end : ℕ) → Change
extended s i end = set_size i (max (length (bytes_in s i)) end)

abbrev pub allocate : World → (node start end : ℕ) → Allocation → List Change
allocate s i at end extend = extended s i end ∷ []
allocate s i at end reserve = []
allocate s i at end punch = zero_bytes i at end ∷ []
allocate s i at end zero_extend = extended s i end ∷ zero_bytes i at end ∷ []
allocate s i at end zero_within = zero_bytes i at end ∷ []

abbrev pub fallocate_meaning : World → (offset size mode : ℕ) → Option Handle → Result Effect Errno
fallocate_meaning s o n mode there = do
  h ← ok_or there EBADF
  require (ltb o (2 ^ 63) && not (n == 0) && ltb n (2 ^ 63)) EINVAL
  a ← ok_or (allocation mode) EOPNOTSUPP
  require (can_write h.opened.access) EBADF
  require (leb (o + n) file_limit) EFBIG
  Ok (done (allocate s h.opened.target.node o (o + n) a))

abbrev pub ftruncate_meaning : (size : ℕ) → Option Handle → Result Effect Errno
ftruncate_meaning n there = do
  h ← ok_or there EBADF
  require (ltb n (2 ^ 63)) EINVAL
  require (can_write h.opened.access) EINVAL
  require (leb n file_limit) EFBIG
  Ok (done (set_size h.opened.target.node n ∷ []))

-- What is open at a file number, if it is, and the tests of a range to be written out.
abbrev pub sync_file_range_meaning : (offset size flags : ℕ) → (there : Option ℕ) → Result Effect Errno
sync_file_range_meaning o n flags there = do
  require (is_some there) EBADF
  require (leb flags 7) EINVAL
  require (ltb (o + n) (2 ^ 63)) EINVAL
  Ok (done [])

-- The same of advice.
abbrev pub fadvise_meaning : (size advice : ℕ) → (there : Option ℕ) → Result Effect Errno
fadvise_meaning n advice there = do
  require (is_some there) EBADF
  require (ltb n (2 ^ 63)) EINVAL
  require (leb advice 5) EINVAL
  Ok (done [])

abbrev pub lowest_free : (trace : Recording) → World → Option ℕ
lowest_free t s = find (λ n. is_none (descriptor s n)) (range_with_len 0 (length t.descriptors))

-- Where openat puts a description: into the slot that it names, or at the lowest free descriptor, whose number it answers.
abbrev pub room : Site → World → (asked : Option ℕ) → Result File Errno
room site s None = ok_or (option_map at_descriptor (lowest_free site.trace s)) EMFILE
room site s (Some n) = require (ltb n (slot_count site.trace site.ring)) EINVAL >> Ok (in_slot n)

abbrev pub filled : (ring : ℕ) → File → (description : ℕ) → Effect
filled r (in_slot n) d = done (set_slot r n (Some d) ∷ [])
filled r (at_descriptor n) d = record { count = n; bytes = []; changes = set_descriptor n (Some d) ∷ [] }

-- The tests of openat on what its path leads to.
abbrev pub may_open : OpenFlags → Option Target → Result (Unit {0}) Errno
may_open g None = require g.create ENOENT
may_open g (Some x) = do
  require (not (g.create && g.exclusive)) EEXIST
  require (not (is_directory x.kind && (g.create || g.truncate || not (g.access == 0)))) EISDIR
  require (is_directory x.kind || not g.directory) ENOTDIR

-- What openat opens: what its path leads to, or the file that it makes.
abbrev pub found_or_made : (node : ℕ) → Option Target → Target
found_or_made i None = record { node = i; kind = Some a_file }
found_or_made i (Some x) = x

-- A missing file is made; an existing one is cut to nothing where the flags say so.
abbrev pub open_changes : OpenFlags → (node : ℕ) → Place → Option Target → List Change
open_changes g i p None = make_node i a_file ∷ set_name p.parent p.name (Some (found_or_made i None)) ∷ []
open_changes g i p (Some x) = if g.truncate then set_size x.node 0 ∷ [] else []

abbrev pub access_of : (mode : ℕ) → Access
access_of n = if n == 0 then Read else if n == 1 then Write else Both

abbrev pub opened_with : OpenFlags → Target → Opened
opened_with g x = record { target = x; access = access_of g.access; append = g.append }

abbrev pub open_as : Site → OpenFlags → File → Place → Effect
open_as site g at p =
    let i = made_node site.trace site.place in
    let d = made_description site.trace site.place in
    let last = filled site.ring at d in
    record last { changes = open_changes g i p p.target ++ make_description d (opened_with g (found_or_made i p.target)) ∷ last.changes }

-- What opens in a room for its description, by where its path leads.
abbrev pub opened_in : Site → OpenFlags → (room : Result File Errno) → Result Place Errno → Result Effect Errno
opened_in site g room led = do
  at ← room
  p ← led
  may_open g p.target
  Ok (open_as site g at p)

abbrev pub openat_meaning : Site → World → OpenFlags → (asked : Option ℕ) → Result Place Errno → Result Effect Errno
openat_meaning site s g asked led = opened_in site g (room site s asked) led

abbrev pub close_meaning : Site → World → File → Result Effect Errno
close_meaning site s (at_descriptor n) = require (is_some (held site s (at_descriptor n))) EBADF >> Ok (done (set_descriptor n None ∷ []))
close_meaning site s (in_slot n) = do
  require (ltb n (slot_count site.trace site.ring)) EINVAL
  require (is_some (slot s site.ring n)) EBADF
  Ok (done (set_slot site.ring n None ∷ []))

abbrev pub has_names : World → (node : ℕ) → Bool
has_names s i = not (unwrap_or (name_count s i) 0 == 0)

-- The test of a removal of a file, or of a directory.
abbrev pub may_remove : World → (removes_directory : Bool) → Target → Result (Unit {0}) Errno
may_remove s false x = require (not (is_directory x.kind)) EISDIR
may_remove s true x = require (is_directory x.kind) ENOTDIR >> require (not (has_names s x.node)) ENOTEMPTY

abbrev pub unlinkat_meaning : World → (removes_directory : Bool) → Result Place Errno → Result Effect Errno
unlinkat_meaning s removes led = do
  p ← led
  x ← ok_or p.target ENOENT
  may_remove s removes x
  Ok (done (set_name p.parent p.name None ∷ []))

-- A directory that is made.
abbrev pub new_directory : (node : ℕ) → Target
new_directory i = record { node = i; kind = Some a_directory }

abbrev pub mkdirat_meaning : Site → Result Place Errno → Result Effect Errno
mkdirat_meaning site led = do
  p ← led
  require (is_none p.target) EEXIST
  Ok (done (make_node (made_node site.trace site.place) a_directory ∷ set_name p.parent p.name (Some (new_directory (made_node site.trace site.place))) ∷ []))

abbrev pub linkat_meaning : (from to : Result Place Errno) → Result Effect Errno
linkat_meaning from to = do
  p ← from
  q ← to
  x ← ok_or p.target ENOENT
  require (is_none q.target) EEXIST
  require (not (is_directory x.kind)) EPERM
  Ok (done (set_name q.parent q.name (Some x) ∷ []))

-- The tests of a rename onto a name that is there.
abbrev pub may_replace : World → (old new : Target) → Result (Unit {0}) Errno
may_replace s x y = do
  require (not (is_directory x.kind && not (is_directory y.kind))) ENOTDIR
  require (not (not (is_directory x.kind) && is_directory y.kind)) EISDIR
  require (not (is_directory y.kind && has_names s y.node)) ENOTEMPTY

abbrev pub moved_name : (from to : Place) → Target → Effect
moved_name p q x = done (set_name p.parent p.name None ∷ set_name q.parent q.name (Some x) ∷ [])

abbrev pub move_meaning : World → (from to : Place) → Target → Option Target → Result Effect Errno
move_meaning s p q x None = Ok (moved_name p q x)
move_meaning s p q x (Some y) = if x.node == y.node then Ok (done []) else (may_replace s x y >> Ok (moved_name p q x))

abbrev pub exchanged : (from to : Place) (old new : Target) → Effect
exchanged p q x y = if x.node == y.node then done [] else done (set_name p.parent p.name (Some y) ∷ set_name q.parent q.name (Some x) ∷ [])

-- Whether a path leads below a target.
abbrev pub goes_below : World → Target → Path → Bool
goes_below s x path = is_directory x.kind && is_above s.nodes x.node path

abbrev pub exchange_meaning : World → (old new : Path) (from to : Place) → Target → Option Target → Result Effect Errno
exchange_meaning s old new p q x None = Err ENOENT
exchange_meaning s old new p q x (Some y) = require (not (goes_below s x new) && not (goes_below s y old)) EINVAL >> Ok (exchanged p q x y)

-- Flags: 0 moves a name, 1 where none is at the new one, 2 exchanges two names.
abbrev pub rename_to : World → (old new : Path) (flags : ℕ) (from to : Place) → Target → Result Effect Errno
rename_to s old new flags p q x =
    if flags == 2 then exchange_meaning s old new p q x q.target
    else (require (not (flags == 1 && is_some q.target)) EEXIST >> require (not (goes_below s x new)) EINVAL >> move_meaning s p q x q.target)

abbrev pub renameat_meaning : World → (old new : Path) (flags : ℕ) (from to : Result Place Errno) → Result Effect Errno
renameat_meaning s old new flags from to = do
  p ← from
  q ← to
  x ← ok_or p.target ENOENT
  rename_to s old new flags p q x

-- What STATX answers of a node: in a byte its kind, 1 a directory and 2 a file, and in eight the size of a file, else 0.
abbrev pub node_told : (kind size : ℕ) → Effect
node_told kind size = record { count = 0; bytes = kind ∷ to_le_bytes w64 size; changes = [] }

abbrev pub measured : World → Target → Effect
measured s x = if is_directory x.kind then node_told 1 0 else node_told 2 (length (bytes_in s x.node))

abbrev pub statx_meaning : World → Result Place Errno → Result Effect Errno
statx_meaning s led = do
  p ← led
  x ← ok_or p.target ENOENT
  Ok (measured s x)

abbrev pub statx_file_meaning : World → Option Handle → Result Effect Errno
statx_file_meaning s there = do
  h ← ok_or there EBADF
  Ok (measured s h.opened.target)

-- A slot of a ring, or a descriptor, gets a description, or becomes empty.
abbrev pub put : (ring : ℕ) → File → (description : Option ℕ) → Change
put r (in_slot n) d = set_slot r n d
put r (at_descriptor n) d = set_descriptor n d

-- What it holds.
abbrev pub held_in : World → (ring : ℕ) → File → Option ℕ
held_in s r (in_slot n) = slot s r n
held_in s r (at_descriptor n) = descriptor s n

-- A new description of a path has its position; where openat refuses the path, nothing is held.
abbrev pub held_path : Site → File → (position : ℕ) → Result Effect Errno → Effect
held_path site f at (Ok x) = done (x.changes ++ set_position (made_description site.trace site.place) at ∷ [])
held_path site f at (Err e) = done (put site.ring f None ∷ [])

-- What is no file of the tree only takes the number: it is the root, open to be read.
abbrev pub no_file : Opened
no_file = record { target = record { node = 0; kind = Some a_directory }; access = Read; append = false }

abbrev pub held_other : Site → File → Effect
held_other site f =
    let d = made_description site.trace site.place in
    done (make_description d no_file ∷ put site.ring f (Some d) ∷ [])

-- The position of what is open, where a file is.
abbrev pub sought : (position : ℕ) → Option Handle → Effect
sought at None = done []
sought at (Some h) = done (set_position h.description at ∷ [])

-- What an operation finds where it looks: the open file, and where its path leads, or the old one of two and the new one.
pub record Found : Type 0 where
  pub file : Option Handle
  pub place : Result Place Errno
  pub new_place : Result Place Errno

abbrev pub found : Site → World → Look → Found
found site s at_nothing = record { file = None; place = Err ENOENT; new_place = Err ENOENT }
found site s (at_file f) = record { file = handle site s f; place = Err ENOENT; new_place = Err ENOENT }
found site s (at_path p) = record { file = None; place = walk s.nodes p; new_place = Err ENOENT }
found site s (at_paths old new) = record { file = None; place = walk s.nodes old; new_place = walk s.nodes new }

-- What an operation does: its shape, by which what it looks up and what it uses go, and its meaning where it stands, by what it finds.
pub record Behavior : Type 0 where
  pub shape : Shape
  pub meaning : Site → World → Found → Result Effect Errno

abbrev pub behavior : Operation → Behavior
behavior nop = record { shape = idle; meaning = λ site s z. Ok (done []) }
behavior (readv f o n) = record { shape = moving false f o (min n most_moved) None; meaning = λ site s z. readv_meaning s o n z.file }
behavior (writev f o new) = record { shape = moving true f o (length new) None; meaning = λ site s z. write_meaning s o z.file (Ok new) }
behavior (fsync f) = record { shape = looking f; meaning = λ site s z. require (is_some (held site s f)) EBADF >> Ok (done []) }
behavior (read_fixed f o x) = record { shape = moving false f o (min x.length most_moved) (Some x); meaning = λ site s z. read_fixed_meaning site s o x z.file }
behavior (write_fixed f o x) = record { shape = moving true f o (min x.length most_moved) (Some x); meaning = λ site s z. write_fixed_meaning site s o x z.file }
behavior (fallocate f o n mode) = record { shape = allocating f o n mode; meaning = λ site s z. fallocate_meaning s o n mode z.file }
behavior (openat p g asked) = record { shape = opening p g asked; meaning = λ site s z. openat_meaning site s g asked z.place }
behavior (close f) = record { shape = closing f; meaning = λ site s z. close_meaning site s f }
behavior (read f o n) = record { shape = moving false f o (min n most_moved) None; meaning = λ site s z. readv_meaning s o n z.file }
behavior (write f o new) = record { shape = moving true f o (length new) None; meaning = λ site s z. write_meaning s o z.file (Ok new) }
behavior (renameat old new flags) = record { shape = renaming old new; meaning = λ site s z. renameat_meaning s old new flags z.place z.new_place }
behavior (unlinkat p removes) = record { shape = freeing p removes; meaning = λ site s z. unlinkat_meaning s removes z.place }
behavior (mkdirat p) = record { shape = making p; meaning = λ site s z. mkdirat_meaning site z.place }
behavior (linkat old new) = record { shape = linking old new; meaning = λ site s z. linkat_meaning z.place z.new_place }
behavior (ftruncate f n) = record { shape = resizing f n; meaning = λ site s z. ftruncate_meaning n z.file }
behavior (sync_file_range f o n flags) = record { shape = looking f; meaning = λ site s z. sync_file_range_meaning o n flags (held site s f) }
behavior (fadvise f n advice) = record { shape = looking f; meaning = λ site s z. fadvise_meaning n advice (held site s f) }
behavior (statx p) = record { shape = measuring p; meaning = λ site s z. statx_meaning s z.place }
behavior (statx_file f) = record { shape = moving false f 0 0 None; meaning = λ site s z. statx_file_meaning s z.file }
behavior statx_root = record { shape = idle; meaning = λ site s z. Ok (node_told 1 0) }
behavior (given r fails) = record { shape = idle; meaning = λ site s z. Ok (done []) }
behavior (hold_nothing f) = record { shape = holding f; meaning = λ site s z. Ok (done (put site.ring f None ∷ [])) }
behavior (hold_path f p g at) = record { shape = holding_path f p g; meaning = λ site s z. Ok (held_path site f at (opened_in site g (Ok f) z.place)) }
behavior (hold_copy f r source) = record { shape = holding_copy f r source; meaning = λ site s z. Ok (done (put site.ring f (held_in s r source) ∷ [])) }
behavior (hold_other f) = record { shape = holding_other f; meaning = λ site s z. Ok (held_other site f) }
behavior (seek f at) = record { shape = seeking f; meaning = λ site s z. Ok (sought at z.file) }

abbrev pub shape : Operation → Shape
shape o = (behavior o).shape

abbrev pub meaning_by : Site → World → Operation → Found → Result Effect Errno
meaning_by site s o z = (behavior o).meaning site s z

-- The same in a world, in which it is looked up.
abbrev pub meaning : Site → World → Operation → Result Effect Errno
meaning site s o = meaning_by site s o (found site s (look (shape o)))
