-- What every accepted operation owes: it answers no greater count than one call moves, where it asks for no more, and sets names of files alone.
use Rattle.std.proofs.Common.{◌≡◌, refl, arith}
use Rattle.std.proofs.lemmas.List.{length-take}
use Rattle.std.proofs.lemmas.Result.{IfOk-weaker}
use Rattle.std.specs.Prelude.{ℕ, zero, suc, ◌+◌, ◌-◌, ◌^◌, ◌<◌, ◌≤◌, min, ◌==◌, ltb, leb, Bool, true, false, not, ◌&&◌, T, List, [], ◌∷◌, ◌++◌, length, take, drop, map, Option, Some, None, Result, Ok, Err, IfOk, IfSome, ok_or, is_some, is_none, unwrap_or, if◌then◌else◌}
use Rattle.std.specs.List.{find, range_with_len}
use Rattle.std.specs.Option.{option_map}
use Rattle.sqe_codec.specs.declared.errno.Errno.{Errno}
use Rattle.sqe_codec.specs.declared.errno.Errno.TheVariants.{EPERM, ENOENT, EBADF, EEXIST, EFAULT, EFBIG, EINVAL, EMFILE, EOPNOTSUPP}
use Rattle.sqe_codec.specs.Answers.{◌>>◌, require, each}
use Rattle.recording.specs.declared.recording.Recording.{Recording}
use Rattle.trace_format.specs.declared.entry.Entry.{Entry}
use Rattle.trace_format.specs.Sides.{most_moved}
use Rattle.recording.specs.Accepted.{IsAccepted}
use Rattle.recording.specs.Limits.{table_limit}
use Rattle.trace_records.specs.declared.record.FullSlot.{FullSlot}
use Rattle.entry_checks.specs.Operation.{Operation, nop, readv, writev, fsync, read_fixed, write_fixed, fallocate, openat, close, read, write, renameat, unlinkat, mkdirat, linkat, ftruncate, sync_file_range, fadvise, statx, statx_file, statx_root, given, hold_nothing, hold_path, hold_copy, hold_other, seek, File, Span, Path, OpenFlags, asked, file_limit, at_position, in_slot, at_descriptor}
use Rattle.entry_checks.specs.Check.{has, io_hardlink, skip_success}
use Rattle.chain_plan.specs.declared.role.Role.{Role}
use Rattle.chain_plan.specs.Chain.{role}
use Rattle.file_tree.specs.Tree.{Tree, Target}
use Rattle.file_tree.specs.Walk.{Place, walk, is_directory}
use Rattle.world_parts.specs.World.{World, Change, quiet, loud, break_chain, slot, descriptor, buffer, set_name}
use Rattle.world_parts.specs.Paths.{is_file_name}
use Rattle.world_parts.proofs.FileNames.{Named, AllNaming, named_place, named_changes, named_start}
use Rattle.op_meaning.specs.Site.{at_place, in_ring, sited}
use Rattle.op_meaning.specs.Meaning.{Effect, done, bytes_in, Handle, handle, held, slot_count, can_write, is_bad_offset, span_start, span_destination, span_bytes, advance, Destination, reply, into, delivered, read_effect, readable, read_meaning, write_start, write_effect, writable, write_meaning, Allocation, extend, reserve, punch, zero_extend, zero_within, allocation, allocate, fallocate_meaning, ftruncate_meaning, room, lowest_free, filled, may_open, open_changes, open_as, opened_in, openat_meaning, put, held_in, held_path, sought, close_meaning, may_remove, unlinkat_meaning, mkdirat_meaning, linkat_meaning, may_replace, moved_name, move_meaning, exchange_meaning, goes_below, rename_to, renameat_meaning, node_told, measured, statx_meaning, statx_file_meaning, made_node, made_description, meaning}
use Rattle.op_meaning.specs.Step.{Turn, filled as fills, registered, called, filled_slot, refused, canceled, runs, breaks, failed, changes_of, changes_in, turn, step_world, run_world}
use Rattle.op_meaning.proofs.Fallible.{and_then, and_so, after}

-- Parts of changes.
both : (xs ys : List Change) → AllNaming xs → AllNaming ys → AllNaming (xs ++ ys)
both [] ys g h = h
both (x ∷ xs) ys g h = (g.0, both xs ys g.1 h)

either : (b : Bool) (xs ys : List Change) → AllNaming xs → AllNaming ys → AllNaming (if b then xs else ys)
either true xs ys g h = g
either false xs ys g h = h

advances : (h : Handle) (o end : ℕ) → AllNaming (advance o h end)
advances h o end = either (o == at_position) _ _ (tt, tt) tt

allocates : (s : World) (i at end : ℕ) (a : Allocation) → AllNaming (allocate s i at end a)
allocates s i at end extend = (tt, tt)
allocates s i at end reserve = tt
allocates s i at end punch = (tt, tt)
allocates s i at end zero_extend = (tt, (tt, tt))
allocates s i at end zero_within = (tt, tt)

fills_room : (r : ℕ) (at : File) (d : ℕ) → AllNaming (filled r at d).changes
fills_room r (in_slot n) d = (tt, tt)
fills_room r (at_descriptor n) d = (tt, tt)

opens_at : (g : OpenFlags) (i : ℕ) (p : Place) → T (is_file_name p.name) → (o : Option Target) → AllNaming (open_changes g i p o)
opens_at g i p good None = (tt, (good, tt))
opens_at g i p good (Some x) = either g.truncate _ _ (tt, tt) tt

puts : (r : ℕ) (f : File) (d : Option ℕ) → AllNaming (put r f d ∷ [])
puts r (in_slot n) d = (tt, tt)
puts r (at_descriptor n) d = (tt, tt)

-- The names that walks find.
named : (tree : Tree) (path : Path) → IfOk (walk tree path) (λ p. T (is_file_name p.name))
named tree path = by (walk tree path) refl
  where
    by : (w : Result Place Errno) → walk tree path ≡ w → IfOk w (λ p. T (is_file_name p.name))
    by (Ok p) e = named_place tree path p e
    by (Err x) e = tt

-- Counts.
none : 0 ≤ most_moved
none = omega arith

fewer : (n : ℕ) (xs : List ℕ) → length xs ≤ most_moved → length (take n xs) ≤ most_moved
fewer n xs le = omega (arith, length-take n xs)

taken : (n : ℕ) (xs : List ℕ) → n ≤ most_moved → length (take n xs) ≤ most_moved
taken n xs le = omega (arith, length-take n xs)

span_short : (t : Recording) (s : World) (r : ℕ) (x : Span) → IfOk (span_bytes (in_ring t r) s x) (λ bs. length bs ≤ most_moved)
span_short t s r x = by (span_start (in_ring t r) x)
  where
    by : (o : Option ℕ) → IfOk (ok_or (option_map (λ at. take (min x.length most_moved) (drop at (unwrap_or (buffer s r x.index) []))) o) EFAULT) (λ bs. length bs ≤ most_moved)
    by None = tt
    by (Some at) = taken (min x.length most_moved) _ (omega arith)

abbrev FewDescriptors : File → Type 0
FewDescriptors (in_slot n) = Unit {0}
FewDescriptors (at_descriptor n) = n ≤ most_moved

found_below : (p : ℕ → Bool) (a n : ℕ) → IfSome (find p (range_with_len a n)) (λ k. k < a + n)
found_below p a zero = tt
found_below p a (suc n) = which (p a) (found_below p (a + 1) n)
  where
    weaker : (o : Option ℕ) → IfSome o (λ k. k < a + 1 + n) → IfSome o (λ k. k < a + suc n)
    weaker None h = tt
    weaker (Some k) h = omega arith

    which : (b : Bool) → IfSome (find p (range_with_len (a + 1) n)) (λ k. k < a + 1 + n) → IfSome (if b then Some a else find p (range_with_len (a + 1) n)) (λ k. k < a + suc n)
    which true h = omega arith
    which false h = weaker (find p (range_with_len (a + 1) n)) h

room_small : (t : Recording) (s : World) (r : ℕ) (asked : Option ℕ) → IsAccepted t → IfOk (room (in_ring t r) s asked) FewDescriptors
room_small t s r None accepted = by (lowest_free t s) (found_below (λ n. is_none (descriptor s n)) 0 (length t.descriptors))
  where
    by : (o : Option ℕ) → IfSome o (λ k. k < 0 + length t.descriptors) → IfOk (ok_or (option_map at_descriptor o) EMFILE) FewDescriptors
    by None h = tt
    by (Some k) h = let few : length t.descriptors ≤ table_limit = accepted.sizes.descriptors in omega arith
room_small t s r (Some n) accepted = after FewDescriptors (require (ltb n (slot_count t r)) EINVAL) _ tt

opened_small : (t : Recording) (k r : ℕ) (g : OpenFlags) (at : File) (p : Place) → FewDescriptors at → (open_as (sited t k r) g at p).count ≤ most_moved
opened_small t k r g (in_slot n) p few = omega arith
opened_small t k r g (at_descriptor n) p few = few

-- What an effect owes under a premise: that its operation asks for no more than one call moves.
module _ (P : Type 0) where
  record Owed (x : Effect) : Type 0 where
    small : P → x.count ≤ most_moved
    names : AllNaming x.changes

  abbrev Pays : Result Effect Errno → Type 0
  Pays x = IfOk x Owed

  -- An effect that moves nothing.
  still : (cs : List Change) → AllNaming cs → Owed (done cs)
  still cs h = record { small = λ p. none; names = h }

  delivers : (to : Destination) (moved : List ℕ) (cs : List Change) → (P → length moved ≤ most_moved) → AllNaming cs → Owed (delivered to moved cs)
  delivers reply moved cs le h = record { small = le; names = h }
  delivers (into r b at) moved cs le h = record { small = le; names = (tt, h) }

  -- Transfers.
  reads : (s : World) (x : Option Handle) (o n : ℕ) (to : Result Destination Errno) → (P → n ≤ most_moved) → Pays (read_meaning s o n x to)
  reads s x o n to le = and_then Owed (readable x) _ (λ h. and_then Owed to _ (λ d. after Owed (require (not (is_bad_offset o)) EINVAL) _ (moves h d (n == 0))))
    where
      moves : (h : Handle) (d : Destination) (b : Bool) → IfOk {E = Errno} (Ok (if b then done [] else read_effect s o n h d)) Owed
      moves h d true = still [] tt
      moves h d false = delivers d _ _ (λ p. taken n _ (le p)) (advances h o _)

  writes : (s : World) (x : Option Handle) (o : ℕ) (new : Result (List ℕ) Errno) → IfOk new (λ bs. P → length bs ≤ most_moved) → Pays (write_meaning s o x new)
  writes s x o new le =
      and_then Owed (writable x) _ (λ h. and_so (λ bs. P → length bs ≤ most_moved) Owed new _ le (λ bs short. after Owed (require (not (is_bad_offset o)) EINVAL) _ (moves h (write_start s o h) bs short (length bs == 0))))
    where
      moves : (h : Handle) (at : ℕ) (bs : List ℕ) → (P → length bs ≤ most_moved) → (b : Bool) → IfOk (if b then Ok (done []) else (require (ltb at file_limit) EFBIG >> Ok (write_effect o h at (take (file_limit - at) bs)))) Owed
      moves h at bs short true = still [] tt
      moves h at bs short false = after Owed (require (ltb at file_limit) EFBIG) _ (record { small = λ p. fewer (file_limit - at) bs (short p); names = (tt, advances h o _) })

  -- Contents.
  allocating : (s : World) (x : Option Handle) (o n mode : ℕ) → Pays (fallocate_meaning s o n mode x)
  allocating s x o n mode =
      and_then Owed (ok_or x EBADF) _ (λ h.
      after Owed (require (ltb o (2 ^ 63) && not (n == 0) && ltb n (2 ^ 63)) EINVAL) _
      (and_then Owed (ok_or (allocation mode) EOPNOTSUPP) _ (λ a.
      after Owed (require (can_write h.opened.access) EBADF) _ (after Owed (require (leb (o + n) file_limit) EFBIG) _ (still _ (allocates s h.opened.target.node o (o + n) a))))))

  resizing : (x : Option Handle) (n : ℕ) → Pays (ftruncate_meaning n x)
  resizing x n =
      and_then Owed (ok_or x EBADF) _ (λ h.
      after Owed (require (ltb n (2 ^ 63)) EINVAL) _ (after Owed (require (can_write h.opened.access) EINVAL) _ (after Owed (require (leb n file_limit) EFBIG) _ (still _ (tt, tt)))))

  closing : (t : Recording) (s : World) (r : ℕ) (f : File) → Pays (close_meaning (in_ring t r) s f)
  closing t s r (at_descriptor n) = after Owed (require (is_some (held (in_ring t r) s (at_descriptor n))) EBADF) _ (still _ (tt, tt))
  closing t s r (in_slot n) = after Owed (require (ltb n (slot_count t r)) EINVAL) _ (after Owed (require (is_some (slot s r n)) EBADF) _ (still _ (tt, tt)))

  -- Names.
  opening : (t : Recording) (k r : ℕ) (s : World) (p : Path) (g : OpenFlags) (asked : Option ℕ) → (P → IsAccepted t) → Pays (openat_meaning (sited t k r) s g asked (walk s.nodes p))
  opening t k r s p g asked accepted =
      and_so (λ at. P → FewDescriptors at) Owed (room (in_ring t r) s asked) _ (few (room (in_ring t r) s asked) (λ q. room_small t s r asked (accepted q))) (λ at h.
      and_so (λ q. T (is_file_name q.name)) Owed (walk s.nodes p) _ (named s.nodes p) (λ q good.
      after Owed (may_open g q.target) _ (record {
        small = λ w. opened_small t k r g at q (h w);
        names = both (open_changes g (made_node t k) q q.target) _ (opens_at g (made_node t k) q good q.target) (tt, fills_room r at (made_description t k));
      })))
    where
      few : (x : Result File Errno) → (P → IfOk x FewDescriptors) → IfOk x (λ at. P → FewDescriptors at)
      few (Ok at) h = h
      few (Err e) h = tt

  making : (t : Recording) (k : ℕ) (s : World) (p : Path) → Pays (mkdirat_meaning (at_place t k) (walk s.nodes p))
  making t k s p = and_so (λ q. T (is_file_name q.name)) Owed (walk s.nodes p) _ (named s.nodes p) (λ q good. after Owed (require (is_none q.target) EEXIST) _ (still _ (tt, (good, tt))))

  removing : (s : World) (p : Path) (removes : Bool) → Pays (unlinkat_meaning s removes (walk s.nodes p))
  removing s p removes =
      and_so (λ q. T (is_file_name q.name)) Owed (walk s.nodes p) _ (named s.nodes p) (λ q good. and_then Owed (ok_or q.target ENOENT) _ (λ x. after Owed (may_remove s removes x) _ (still _ (good, tt))))

  linking : (s : World) (old new : Path) → Pays (linkat_meaning (walk s.nodes old) (walk s.nodes new))
  linking s old new =
      and_then Owed (walk s.nodes old) _ (λ p. and_so (λ q. T (is_file_name q.name)) Owed (walk s.nodes new) _ (named s.nodes new) (λ q good. and_then Owed (ok_or p.target ENOENT) _ (λ x.
      after Owed (require (is_none q.target) EEXIST) _ (after Owed (require (not (is_directory x.kind)) EPERM) _ (still _ (good, tt))))))

  module _ (s : World) (p q : Place) (x : Target) (good : T (is_file_name p.name)) (fine : T (is_file_name q.name)) where
    moves : (y : Option Target) → Pays (move_meaning s p q x y)
    moves None = still _ (good, (fine, tt))
    moves (Some y) = which (x.node == y.node)
      where
        which : (b : Bool) → IfOk (if b then Ok (done []) else (may_replace s x y >> Ok (moved_name p q x))) Owed
        which true = still [] tt
        which false = after Owed (may_replace s x y) _ (still _ (good, (fine, tt)))

    exchanges : (old new : Path) (y : Option Target) → Pays (exchange_meaning s old new p q x y)
    exchanges old new None = tt
    exchanges old new (Some y) = after Owed (require (not (goes_below s x new) && not (goes_below s y old)) EINVAL) _ (which (x.node == y.node))
      where
        which : (b : Bool) → IfOk {E = Errno} (Ok (if b then done [] else done (set_name p.parent p.name (Some y) ∷ set_name q.parent q.name (Some x) ∷ []))) Owed
        which true = still [] tt
        which false = still _ (good, (fine, tt))

    renames : (old new : Path) (flags : ℕ) → Pays (rename_to s old new flags p q x)
    renames old new flags = which (flags == 2) (not (flags == 1 && is_some q.target)) (not (goes_below s x new))
      where
        which : (b m n : Bool) → IfOk (if b then exchange_meaning s old new p q x q.target else (require m EEXIST >> require n EINVAL >> move_meaning s p q x q.target)) Owed
        which true m n = exchanges old new q.target
        which false m n = after Owed (require m EEXIST >> require n EINVAL) _ (moves q.target)

  renaming : (s : World) (old new : Path) (flags : ℕ) → Pays (renameat_meaning s old new flags (walk s.nodes old) (walk s.nodes new))
  renaming s old new flags =
      and_so (λ p. T (is_file_name p.name)) Owed (walk s.nodes old) _ (named s.nodes old) (λ p good.
      and_so (λ q. T (is_file_name q.name)) Owed (walk s.nodes new) _ (named s.nodes new) (λ q fine. and_then Owed (ok_or p.target ENOENT) _ (λ x. renames s p q x good fine old new flags)))

  -- What slots and descriptors hold.
  opened_names : (t : Recording) (k r : ℕ) (s : World) (p : Path) (g : OpenFlags) (f : File) → IfOk (opened_in (sited t k r) g (Ok f) (walk s.nodes p)) (λ x. AllNaming x.changes)
  opened_names t k r s p g f =
      and_so (λ q. T (is_file_name q.name)) (λ (x : Effect). AllNaming x.changes) (walk s.nodes p) _ (named s.nodes p) (λ q good.
      after (λ (x : Effect). AllNaming x.changes) (may_open g q.target) _ (both (open_changes g (made_node t k) q q.target) _ (opens_at g (made_node t k) q good q.target) (tt, fills_room r f (made_description t k))))

  holding_path : (t : Recording) (k r : ℕ) (f : File) (at : ℕ) (x : Result Effect Errno) → IfOk x (λ y. AllNaming y.changes) → Owed (held_path (sited t k r) f at x)
  holding_path t k r f at (Ok x) h = still _ (both x.changes _ h (tt, tt))
  holding_path t k r f at (Err e) h = still _ (puts r f None)

  seeking : (at : ℕ) (x : Option Handle) → Owed (sought at x)
  seeking at None = still _ tt
  seeking at (Some h) = still _ (tt, tt)

  -- Kinds and sizes.
  tells : (s : World) (x : Target) → Owed (measured s x)
  tells s x = which (is_directory x.kind)
    where
      which : (b : Bool) → Owed (if b then node_told 1 0 else node_told 2 (length (bytes_in s x.node)))
      which true = record { small = λ p. none; names = tt }
      which false = record { small = λ p. none; names = tt }

  measuring : (s : World) (z : Result Place Errno) → Pays (statx_meaning s z)
  measuring s z = and_then Owed z _ (λ q. and_then Owed (ok_or q.target ENOENT) _ (λ x. tells s x))

  measuring_open : (s : World) (x : Option Handle) → Pays (statx_file_meaning s x)
  measuring_open s x = and_then Owed (ok_or x EBADF) _ (λ h. tells s h.opened.target)

-- That a replay accepts a trace, and an operation of it asks for no more than one call moves.
abbrev Asks : Recording → Operation → Type 0
Asks t o = IsAccepted t × IfSome (asked o) (λ n. n ≤ most_moved)

-- What each operation owes.
owes : (t : Recording) (k r : ℕ) (s : World) (o : Operation) → Pays (Asks t o) (meaning (sited t k r) s o)
owes t k r s nop = still _ [] tt
owes t k r s (readv f o n) = reads _ s (handle (in_ring t r) s f) o (min n most_moved) (Ok reply) (λ p. p.1)
owes t k r s (writev f o new) = writes _ s (handle (in_ring t r) s f) o (Ok new) (λ p. p.1)
owes t k r s (fsync f) = after _ (require (is_some (held (in_ring t r) s f)) EBADF) _ (still _ [] tt)
owes t k r s (read_fixed f o x) = reads _ s (handle (in_ring t r) s f) o (min x.length most_moved) (span_destination (in_ring t r) x) (λ p. p.1)
owes t k r s (write_fixed f o x) = writes _ s (handle (in_ring t r) s f) o (span_bytes (in_ring t r) s x) (IfOk-weaker (span_bytes (in_ring t r) s x) _ _ (λ bs le p. le) (span_short t s r x))
owes t k r s (fallocate f o n mode) = allocating _ s (handle (in_ring t r) s f) o n mode
owes t k r s (openat p g asked) = opening _ t k r s p g asked (λ q. q.0)
owes t k r s (close f) = closing _ t s r f
owes t k r s (read f o n) = reads _ s (handle (in_ring t r) s f) o (min n most_moved) (Ok reply) (λ p. p.1)
owes t k r s (write f o new) = writes _ s (handle (in_ring t r) s f) o (Ok new) (λ p. p.1)
owes t k r s (renameat old new flags) = renaming _ s old new flags
owes t k r s (unlinkat p removes) = removing _ s p removes
owes t k r s (mkdirat p) = making _ t k s p
owes t k r s (linkat old new) = linking _ s old new
owes t k r s (ftruncate f n) = resizing _ (handle (in_ring t r) s f) n
owes t k r s (sync_file_range f o n flags) = after _ (require (is_some (held (in_ring t r) s f)) EBADF) _ (after _ (require (leb flags 7) EINVAL) _ (after _ (require (ltb (o + n) (2 ^ 63)) EINVAL) _ (still _ [] tt)))
owes t k r s (fadvise f n advice) = after _ (require (is_some (held (in_ring t r) s f)) EBADF) _ (after _ (require (ltb n (2 ^ 63)) EINVAL) _ (after _ (require (leb advice 5) EINVAL) _ (still _ [] tt)))
owes t k r s (statx p) = measuring _ s (walk s.nodes p)
owes t k r s (statx_file f) = measuring_open _ s (handle (in_ring t r) s f)
owes t k r s statx_root = record { small = λ p. none; names = tt }
owes t k r s (given q fails) = still _ [] tt
owes t k r s (hold_nothing f) = still _ _ (puts r f None)
owes t k r s (hold_path f p g at) = holding_path _ t k r f at (opened_in (sited t k r) g (Ok f) (walk s.nodes p)) (opened_names (Asks t (hold_path f p g at)) t k r s p g f)
owes t k r s (hold_copy f q source) = still _ _ (puts r f (held_in s q source))
owes t k r s (hold_other f) = still _ _ (tt, puts r f (Some (made_description t k)))
owes t k r s (seek f at) = seeking _ at (handle (in_ring t r) s f)

-- An answer whose count one call can move.
abbrev pub Small : Effect → Type 0
Small x = x.count ≤ most_moved

pub small : (t : Recording) (k r : ℕ) (s : World) (o : Operation) → IsAccepted t → IfSome (asked o) (λ n. n ≤ most_moved) → IfOk (meaning (sited t k r) s o) Small
small t k r s o accepted le = IfOk-weaker (meaning (sited t k r) s o) (Owed (Asks t o)) Small (λ x h. h.small (accepted, le)) (owes t k r s o)

changed : (P : Type 0) (x : Result Effect Errno) → IfOk x (Owed P) → AllNaming (changes_of x)
changed P (Ok x) h = h.names
changed P (Err e) h = tt

chain_broken : (c : Role) (e : Entry) (fails : Bool) → AllNaming (breaks c e fails)
chain_broken c e fails = either (fails && not (has e.sqe.flags io_hardlink) && ltb (c.member + 1) c.length) (break_chain c.chain (if has e.sqe.flags skip_success then quiet else loud) ∷ []) [] (tt, tt) tt

slots_filled : (r : ℕ) (s : World) (slots : List FullSlot) → AllNaming (map (filled_slot r s) slots)
slots_filled r s [] = tt
slots_filled r s (x ∷ xs) = (tt, slots_filled r s xs)

names_of_turn : (t : Recording) (k : ℕ) (s : World) (x : Turn) → AllNaming (changes_in t k s x)
names_of_turn t k s (fills r b at new) = (tt, tt)
names_of_turn t k s (registered r slots) = slots_filled r s slots
names_of_turn t k s (called r o) = changed (Asks t o) (meaning (sited t k r) s o) (owes t k r s o)
names_of_turn t k s (refused e posted) = tt
names_of_turn t k s (canceled posted) = tt
names_of_turn t k s (runs r e o) =
    let x = meaning (sited t k r) s o in
    both (changes_of x) (breaks (role t k) e (failed o x)) (changed (Asks t o) x (owes t k r s o)) (chain_broken (role t k) e (failed o x))

each_turn : (t : Recording) (k : ℕ) (s : World) (o : Option Turn) → AllNaming (each (changes_in t k s) o)
each_turn t k s None = tt
each_turn t k s (Some x) = names_of_turn t k s x

-- a step leaves names of files alone
pub named_step : (t : Recording) (k : ℕ) (s : World) → Named s.nodes → Named (step_world t k s).nodes
named_step t k s h = named_changes s (each (changes_in t k s) (turn t k s)) (each_turn t k s (turn t k s)) h

pub named_run : (t : Recording) (n : ℕ) → Named (run_world t n).nodes
named_run t zero = named_start t
named_run t (suc n) = named_step t n (run_world t n) (named_run t n)
