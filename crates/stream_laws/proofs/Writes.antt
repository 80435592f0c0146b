-- What an operation changes: buffers of its own ring alone, and no chain. A set and a seek change no buffer.
use Rattle.std.proofs.Common.{ℕ, ◌+◌, ◌-◌, ◌^◌, Bool, true, false, List, [], ◌∷◌, ◌++◌, length, take, Option, Some, None}
use Rattle.std.specs.Prelude.{◌==◌, ltb, leb, not, ◌&&◌, min, Result, Ok, Err, IfOk, ok_or, is_some, is_none, if◌then◌else◌}
use Rattle.std.specs.Option.{option_map}
use Rattle.sqe_codec.specs.declared.errno.Errno.{Errno}
use Rattle.sqe_codec.specs.declared.errno.Errno.TheVariants.{EPERM, ENOENT, EBADF, EEXIST, EFAULT, EFBIG, EINVAL, EOPNOTSUPP}
use Rattle.sqe_codec.specs.Answers.{◌>>◌, require}
use Rattle.trace_format.specs.Sides.{most_moved}
use Rattle.recording.specs.declared.recording.Recording.{Recording}
use Rattle.entry_checks.specs.Operation.{Operation, nop, readv, writev, fsync, read_fixed, write_fixed, fallocate, openat, close, read, write, renameat, unlinkat, mkdirat, linkat, ftruncate, sync_file_range, fadvise, statx, statx_file, statx_root, given, hold_nothing, hold_path, hold_copy, hold_other, seek, File, in_slot, at_descriptor, Span, Path, OpenFlags, file_limit, at_position}
use Rattle.file_tree.specs.Tree.{Target}
use Rattle.file_tree.specs.Walk.{Place, walk, is_directory}
use Rattle.world_parts.specs.World.{World, Change, set_name, make_node, set_slot, set_descriptor, make_description, set_position, set_size, write_bytes, zero_bytes, write_buffer, break_chain, slot}
use Rattle.op_meaning.specs.Site.{sited}
use Rattle.op_meaning.specs.Meaning.{Effect, done, Handle, handle, held, slot_count, can_write, is_bad_offset, span_start, span_destination, span_bytes, advance, Destination, reply, into, delivered, read_effect, readable, read_meaning, write_start, write_effect, writable, write_meaning, Allocation, extend, reserve, punch, zero_extend, zero_within, allocation, allocate, fallocate_meaning, ftruncate_meaning, room, filled, may_open, open_changes, openat_meaning, close_meaning, may_remove, unlinkat_meaning, mkdirat_meaning, linkat_meaning, may_replace, moved_name, move_meaning, exchange_meaning, goes_below, rename_to, renameat_meaning, bytes_in, node_told, measured, statx_meaning, statx_file_meaning, made_node, made_description, put, held_in, held_path, opened_in, sought, meaning}
use Rattle.op_meaning.specs.Step.{changes_of}
use Rattle.op_meaning.proofs.Fallible.{and_then, and_so, after}

-- A change that breaks no chain, and writes buffers of no rings but these.
abbrev pub IsIn : (ℕ → Type 0) → Change → Type 0
IsIn R (write_buffer q b at new) = R q
IsIn R (break_chain c f) = ⊥
IsIn R (set_name d n x) = Unit {0}
IsIn R (make_node i k) = Unit {0}
IsIn R (set_slot q n d) = Unit {0}
IsIn R (set_descriptor n d) = Unit {0}
IsIn R (make_description n o) = Unit {0}
IsIn R (set_position d p) = Unit {0}
IsIn R (set_size i n) = Unit {0}
IsIn R (write_bytes i at new) = Unit {0}
IsIn R (zero_bytes i low high) = Unit {0}

abbrev pub AllIn : (ℕ → Type 0) → List Change → Type 0
AllIn R [] = Unit {0}
AllIn R (c ∷ cs) = IsIn R c × AllIn R cs

-- An operation that needs its ring has one of these. A set does not look at its ring, nor does a seek on a descriptor.
abbrev pub HasRing : (ℕ → Type 0) → (ring : ℕ) → Operation → Type 0
HasRing R r (hold_nothing f) = Unit {0}
HasRing R r (hold_path f p g at) = Unit {0}
HasRing R r (hold_copy f q source) = Unit {0}
HasRing R r (hold_other f) = Unit {0}
HasRing R r (seek (at_descriptor n) at) = Unit {0}
HasRing R r _ = R r

module _ (R : ℕ → Type 0) (r : ℕ) where
  abbrev Stays : Effect → Type 0
  Stays x = AllIn R x.changes

  -- Parts of changes.
  both : (xs ys : List Change) → AllIn R xs → AllIn R ys → AllIn R (xs ++ ys)
  both [] ys g h = h
  both (x ∷ xs) ys g h = (g.0, both xs ys g.1 h)

  either : (b : Bool) (xs ys : List Change) → AllIn R xs → AllIn R ys → AllIn R (if b then xs else ys)
  either true xs ys g h = g
  either false xs ys g h = h

  advances : (h : Handle) (o end : ℕ) → AllIn R (advance o h end)
  advances h o end = either (o == at_position) _ _ (tt, tt) tt

  allocates : (s : World) (i at end : ℕ) (a : Allocation) → AllIn R (allocate s i at end a)
  allocates s i at end extend = (tt, tt)
  allocates s i at end reserve = tt
  allocates s i at end punch = (tt, tt)
  allocates s i at end zero_extend = (tt, (tt, tt))
  allocates s i at end zero_within = (tt, tt)

  fills_room : (q : ℕ) (at : File) (d : ℕ) → AllIn R (filled q at d).changes
  fills_room q (in_slot n) d = (tt, tt)
  fills_room q (at_descriptor n) d = (tt, tt)

  opens_at : (g : OpenFlags) (i : ℕ) (p : Place) (o : Option Target) → AllIn R (open_changes g i p o)
  opens_at g i p None = (tt, (tt, tt))
  opens_at g i p (Some x) = either g.truncate _ _ (tt, tt) tt

  -- Transfers.
  abbrev IsInto : Destination → Type 0
  IsInto reply = Unit {0}
  IsInto (into q b at) = R q

  delivers : (to : Destination) (moved : List ℕ) (cs : List Change) → IsInto to → AllIn R cs → Stays (delivered to moved cs)
  delivers reply moved cs e h = h
  delivers (into q b at) moved cs e h = (e, h)

  reads : (s : World) (x : Option Handle) (o n : ℕ) (to : Result Destination Errno) → IfOk to IsInto → IfOk (read_meaning s o n x to) Stays
  reads s x o n to here = and_then Stays (readable x) _ (λ h. and_so IsInto Stays to _ here (λ d e. after Stays (require (not (is_bad_offset o)) EINVAL) _ (moves h d e (n == 0))))
    where
      moves : (h : Handle) (d : Destination) → IsInto d → (b : Bool) → IfOk {E = Errno} (Ok (if b then done [] else read_effect s o n h d)) Stays
      moves h d e true = tt
      moves h d e false = delivers d _ _ e (advances h o _)

  writes : (s : World) (x : Option Handle) (o : ℕ) (new : Result (List ℕ) Errno) → IfOk (write_meaning s o x new) Stays
  writes s x o new = and_then Stays (writable x) _ (λ h. and_then Stays new _ (λ bs. after Stays (require (not (is_bad_offset o)) EINVAL) _ (moves h (write_start s o h) bs (length bs == 0))))
    where
      moves : (h : Handle) (at : ℕ) (bs : List ℕ) (b : Bool) → IfOk (if b then Ok (done []) else (require (ltb at file_limit) EFBIG >> Ok (write_effect o h at (take (file_limit - at) bs)))) Stays
      moves h at bs true = tt
      moves h at bs false = after Stays (require (ltb at file_limit) EFBIG) _ (tt, advances h o _)

  span_into : (t : Recording) (k : ℕ) (x : Span) → R r → IfOk (span_destination (sited t k r) x) IsInto
  span_into t k x here = by (span_start (sited t k r) x)
    where
      by : (o : Option ℕ) → IfOk (ok_or (option_map (λ at. into r x.index at) o) EFAULT) IsInto
      by None = tt
      by (Some at) = here

  -- Contents.
  allocating : (s : World) (x : Option Handle) (o n mode : ℕ) → IfOk (fallocate_meaning s o n mode x) Stays
  allocating s x o n mode =
      and_then Stays (ok_or x EBADF) _ (λ h.
      after Stays (require (ltb o (2 ^ 63) && not (n == 0) && ltb n (2 ^ 63)) EINVAL) _
      (and_then Stays (ok_or (allocation mode) EOPNOTSUPP) _ (λ a.
      after Stays (require (can_write h.opened.access) EBADF) _ (after Stays (require (leb (o + n) file_limit) EFBIG) _ (allocates s h.opened.target.node o (o + n) a)))))

  resizing : (x : Option Handle) (n : ℕ) → IfOk (ftruncate_meaning n x) Stays
  resizing x n =
      and_then Stays (ok_or x EBADF) _ (λ h.
      after Stays (require (ltb n (2 ^ 63)) EINVAL) _ (after Stays (require (can_write h.opened.access) EINVAL) _ (after Stays (require (leb n file_limit) EFBIG) _ (tt, tt))))

  closing : (t : Recording) (k : ℕ) (s : World) (f : File) → IfOk (close_meaning (sited t k r) s f) Stays
  closing t k s (at_descriptor n) = after Stays (require (is_some (held (sited t k r) s (at_descriptor n))) EBADF) _ (tt, tt)
  closing t k s (in_slot n) = after Stays (require (ltb n (slot_count t r)) EINVAL) _ (after Stays (require (is_some (slot s r n)) EBADF) _ (tt, tt))

  -- Names.
  opening : (t : Recording) (k : ℕ) (s : World) (p : Path) (g : OpenFlags) (asked : Option ℕ) → IfOk (openat_meaning (sited t k r) s g asked (walk s.nodes p)) Stays
  opening t k s p g asked =
      and_then Stays (room (sited t k r) s asked) _ (λ at. and_then Stays (walk s.nodes p) _ (λ q.
      after Stays (may_open g q.target) _ (both (open_changes g (made_node t k) q q.target) _ (opens_at g (made_node t k) q q.target) (tt, fills_room r at (made_description t k)))))

  making : (t : Recording) (k : ℕ) (s : World) (p : Path) → IfOk (mkdirat_meaning (sited t k r) (walk s.nodes p)) Stays
  making t k s p = and_then Stays (walk s.nodes p) _ (λ q. after Stays (require (is_none q.target) EEXIST) _ (tt, (tt, tt)))

  removing : (s : World) (p : Path) (removes : Bool) → IfOk (unlinkat_meaning s removes (walk s.nodes p)) Stays
  removing s p removes = and_then Stays (walk s.nodes p) _ (λ q. and_then Stays (ok_or q.target ENOENT) _ (λ x. after Stays (may_remove s removes x) _ (tt, tt)))

  linking : (s : World) (old new : Path) → IfOk (linkat_meaning (walk s.nodes old) (walk s.nodes new)) Stays
  linking s old new =
      and_then Stays (walk s.nodes old) _ (λ p. and_then Stays (walk s.nodes new) _ (λ q. and_then Stays (ok_or p.target ENOENT) _ (λ x.
      after Stays (require (is_none q.target) EEXIST) _ (after Stays (require (not (is_directory x.kind)) EPERM) _ (tt, tt)))))

  module _ (s : World) (p q : Place) (x : Target) where
    moves : (y : Option Target) → IfOk (move_meaning s p q x y) Stays
    moves None = (tt, (tt, tt))
    moves (Some y) = which (x.node == y.node)
      where
        which : (b : Bool) → IfOk (if b then Ok (done []) else (may_replace s x y >> Ok (moved_name p q x))) Stays
        which true = tt
        which false = after Stays (may_replace s x y) _ (tt, (tt, tt))

    exchanges : (old new : Path) (y : Option Target) → IfOk (exchange_meaning s old new p q x y) Stays
    exchanges old new None = tt
    exchanges old new (Some y) = after Stays (require (not (goes_below s x new) && not (goes_below s y old)) EINVAL) _ (which (x.node == y.node))
      where
        which : (b : Bool) → IfOk {E = Errno} (Ok (if b then done [] else done (set_name p.parent p.name (Some y) ∷ set_name q.parent q.name (Some x) ∷ []))) Stays
        which true = tt
        which false = (tt, (tt, tt))

    renames : (old new : Path) (flags : ℕ) → IfOk (rename_to s old new flags p q x) Stays
    renames old new flags = which (flags == 2) (not (flags == 1 && is_some q.target)) (not (goes_below s x new))
      where
        which : (b m n : Bool) → IfOk (if b then exchange_meaning s old new p q x q.target else (require m EEXIST >> require n EINVAL >> move_meaning s p q x q.target)) Stays
        which true m n = exchanges old new q.target
        which false m n = after Stays (require m EEXIST >> require n EINVAL) _ (moves q.target)

  renaming : (s : World) (old new : Path) (flags : ℕ) → IfOk (renameat_meaning s old new flags (walk s.nodes old) (walk s.nodes new)) Stays
  renaming s old new flags =
      and_then Stays (walk s.nodes old) _ (λ p. and_then Stays (walk s.nodes new) _ (λ q. and_then Stays (ok_or p.target ENOENT) _ (λ x. renames s p q x old new flags)))

  -- Kinds and sizes.
  tells : (s : World) (x : Target) → Stays (measured s x)
  tells s x = which (is_directory x.kind)
    where
      which : (b : Bool) → Stays (if b then node_told 1 0 else node_told 2 (length (bytes_in s x.node)))
      which true = tt
      which false = tt

  measuring : (s : World) (z : Result Place Errno) → IfOk (statx_meaning s z) Stays
  measuring s z = and_then Stays z _ (λ q. and_then Stays (ok_or q.target ENOENT) _ (λ x. tells s x))

  measuring_open : (s : World) (x : Option Handle) → IfOk (statx_file_meaning s x) Stays
  measuring_open s x = and_then Stays (ok_or x EBADF) _ (λ h. tells s h.opened.target)

  -- What slots and descriptors hold, and positions.
  put_in : (q : ℕ) (f : File) (d : Option ℕ) → IsIn R (put q f d)
  put_in q (in_slot n) d = tt
  put_in q (at_descriptor n) d = tt

  opened_into : (t : Recording) (k : ℕ) (g : OpenFlags) (f : File) (z : Result Place Errno) → IfOk (opened_in (sited t k r) g (Ok f) z) Stays
  opened_into t k g f z =
      and_then Stays z _ (λ q. after Stays (may_open g q.target) _ (both (open_changes g (made_node t k) q q.target) _ (opens_at g (made_node t k) q q.target) (tt, fills_room r f (made_description t k))))

  holds_path : (t : Recording) (k : ℕ) (f : File) (at : ℕ) (x : Result Effect Errno) → IfOk x Stays → Stays (held_path (sited t k r) f at x)
  holds_path t k f at (Ok x) h = both x.changes _ h (tt, tt)
  holds_path t k f at (Err e) h = (put_in r f None, tt)

  seeks : (at : ℕ) (x : Option Handle) → Stays (sought at x)
  seeks at None = tt
  seeks at (Some h) = (tt, tt)

  stays : (t : Recording) (k : ℕ) (s : World) (o : Operation) → HasRing R r o → IfOk (meaning (sited t k r) s o) Stays
  stays t k s nop has = tt
  stays t k s (readv f o n) has = reads s (handle (sited t k r) s f) o (min n most_moved) (Ok reply) tt
  stays t k s (writev f o new) has = writes s (handle (sited t k r) s f) o (Ok new)
  stays t k s (fsync f) has = after Stays (require (is_some (held (sited t k r) s f)) EBADF) _ tt
  stays t k s (read_fixed f o x) has = reads s (handle (sited t k r) s f) o (min x.length most_moved) (span_destination (sited t k r) x) (span_into t k x has)
  stays t k s (write_fixed f o x) has = writes s (handle (sited t k r) s f) o (span_bytes (sited t k r) s x)
  stays t k s (fallocate f o n mode) has = allocating s (handle (sited t k r) s f) o n mode
  stays t k s (openat p g asked) has = opening t k s p g asked
  stays t k s (close f) has = closing t k s f
  stays t k s (read f o n) has = reads s (handle (sited t k r) s f) o (min n most_moved) (Ok reply) tt
  stays t k s (write f o new) has = writes s (handle (sited t k r) s f) o (Ok new)
  stays t k s (renameat old new flags) has = renaming s old new flags
  stays t k s (unlinkat p removes) has = removing s p removes
  stays t k s (mkdirat p) has = making t k s p
  stays t k s (linkat old new) has = linking s old new
  stays t k s (ftruncate f n) has = resizing (handle (sited t k r) s f) n
  stays t k s (sync_file_range f o n flags) has = after Stays (require (is_some (held (sited t k r) s f)) EBADF) _ (after Stays (require (leb flags 7) EINVAL) _ (after Stays (require (ltb (o + n) (2 ^ 63)) EINVAL) _ tt))
  stays t k s (fadvise f n advice) has = after Stays (require (is_some (held (sited t k r) s f)) EBADF) _ (after Stays (require (ltb n (2 ^ 63)) EINVAL) _ (after Stays (require (leb advice 5) EINVAL) _ tt))
  stays t k s (statx p) has = measuring s (walk s.nodes p)
  stays t k s (statx_file f) has = measuring_open s (handle (sited t k r) s f)
  stays t k s statx_root has = tt
  stays t k s (given q fails) has = tt
  stays t k s (hold_nothing f) has = (put_in r f None, tt)
  stays t k s (hold_path f p g at) has = holds_path t k f at (opened_in (sited t k r) g (Ok f) (walk s.nodes p)) (opened_into t k g f (walk s.nodes p))
  stays t k s (hold_copy f q source) has = (put_in r f (held_in s q source), tt)
  stays t k s (hold_other f) has = (tt, (put_in r f (Some (made_description t k)), tt))
  stays t k s (seek f at) has = seeks at (handle (sited t k r) s f)

  pub changes_in_ring : (t : Recording) (k : ℕ) (s : World) (o : Operation) → HasRing R r o → AllIn R (changes_of (meaning (sited t k r) s o))
  changes_in_ring t k s o has = by (meaning (sited t k r) s o) (stays t k s o has)
    where
      by : (x : Result Effect Errno) → IfOk x Stays → AllIn R (changes_of x)
      by (Ok x) h = h
      by (Err e) h = tt
