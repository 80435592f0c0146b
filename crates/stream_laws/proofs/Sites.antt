-- An operation means the same in a recording that stands for another, on worlds that differ in buffers of other rings and in chains.
use Rattle.std.proofs.Common.{◌≡◌, ℕ, ◌+◌, ◌<◌, List, [], ◌∷◌, ◌++◌, length, map, Option, Some, None, refl, sym, ap, ◌∙◌, arith}
use Rattle.std.specs.Prelude.{◌&&◌, ◌==◌, ltb, leb, ◌-◌, min, take, drop, Result, Ok, Err, ok_or, is_some, is_none, unwrap_or, if◌then◌else◌}
use Rattle.std.specs.List.{slice_get, find, range_with_len}
use Rattle.std.specs.Option.{option_and_then, option_map}
use Rattle.std.proofs.lemmas.Option.{slice_get-map}
use Rattle.std.proofs.lemmas.List.{length-map}
use Rattle.sqe_codec.specs.declared.errno.Errno.{Errno}
use Rattle.sqe_codec.specs.declared.errno.Errno.TheVariants.{EBADF, EEXIST, EFAULT, EINVAL, EMFILE}
use Rattle.sqe_codec.specs.Answers.{◌>>=◌, ◌>>◌, require}
use Rattle.trace_format.specs.declared.trace.Buffer.{Buffer}
use Rattle.trace_format.specs.Sides.{most_moved}
use Rattle.trace_format.proofs.Spots.{slice_get-append_left}
use Rattle.recording.specs.declared.recording.Recording.{Recording}
use Rattle.recording.specs.declared.recording.Ring.{Ring}
use Rattle.recording.specs.Rings.{slots_of}
use Rattle.entry_checks.specs.Operation.{Operation, nop, readv, writev, fsync, read_fixed, write_fixed, fallocate, openat, close, read, write, renameat, unlinkat, mkdirat, linkat, ftruncate, sync_file_range, fadvise, statx, statx_file, statx_root, given, hold_nothing, hold_path, hold_copy, hold_other, seek, File, in_slot, at_descriptor, Span, OpenFlags}
use Rattle.finite_maps.specs.Table.{Table, get, pair_cmp}
use Rattle.std.specs.Ordering.{nat_cmp}
use Rattle.file_tree.specs.Tree.{a_directory}
use Rattle.file_tree.specs.Walk.{Place, walk}
use Rattle.world_parts.specs.World.{World, Broken, slot, descriptor, buffer, set_name, make_node, set_slot, set_descriptor, make_description, set_position}
use Rattle.op_meaning.specs.Site.{sited}
use Rattle.op_meaning.specs.Meaning.{Effect, done, made_node, made_description, slot_count, registered_buffer, span_start, held, handle_of, handle, into, read_meaning, readv_meaning, write_meaning, fallocate_meaning, ftruncate_meaning, sync_file_range_meaning, fadvise_meaning, room, filled, may_open, found_or_made, open_changes, opened_with, open_as, new_directory, opened_in, meaning, statx_file_meaning, put, held_in, held_path, no_file, sought}
use Rattle.stream_laws.specs.Standing.{still_open, IsFrontOf, StandsFor}
use Rattle.stream_laws.proofs.Following.{IsRingOf}
use Rattle.stream_laws.proofs.Writes.{HasRing}

-- A ring of the one recording, as it is in the other.
ring_same : (xs ys : List Ring) (r : ℕ) → IsFrontOf xs ys → r < length xs → option_map still_open (slice_get xs r) ≡ option_map still_open (slice_get ys r)
ring_same xs ys r front lt =
    sym (slice_get-map still_open xs r)
    ∙ sym (slice_get-append_left (map still_open xs) front.later r (omega (arith, length-map xs still_open)))
    ∙ ap (λ zs. slice_get zs r) (sym front.same)
    ∙ slice_get-map still_open ys r

slots_through : (o : Option Ring) → option_map slots_of (option_map still_open o) ≡ option_map slots_of o
slots_through None = refl
slots_through (Some x) = refl

buffers_through : (b : ℕ) (o : Option Ring) → option_and_then (λ (x : Ring). slice_get x.buffers b) (option_map still_open o) ≡ option_and_then (λ (x : Ring). slice_get x.buffers b) o
buffers_through b None = refl
buffers_through b (Some x) = refl

module _ {v u : Recording} {first : ℕ} (stands : StandsFor v u first) (r k : ℕ) where
  node_same : made_node v k ≡ made_node u k
  node_same = ap (λ xs. length xs + 1 + k) stands.items

  description_same : made_description v k ≡ made_description u k
  description_same = ap (λ xs. length xs + k) stands.descriptions

  open_same : (g : OpenFlags) (at : File) (p : Place) → open_as (sited v k r) g at p ≡ open_as (sited u k r) g at p
  open_same g at p =
      λ i. let last = filled r at (description_same i) in
      record last { changes = open_changes g (node_same i) p p.target ++ make_description (description_same i) (opened_with g (found_or_made (node_same i) p.target)) ∷ last.changes }

  path_same : (f : File) (at : ℕ) (x : Result Effect Errno) → held_path (sited v k r) f at x ≡ held_path (sited u k r) f at x
  path_same f at (Ok x) = ap (λ d. done (x.changes ++ set_position d at ∷ [])) description_same
  path_same f at (Err e) = refl

  -- The ring is there.
  module _ (there : IsRingOf v r) where
    room_same : slot_count v r ≡ slot_count u r
    room_same =
        ap (λ o. unwrap_or o 0)
        (sym (slots_through (slice_get v.rings r)) ∙ ap (option_map slots_of) (ring_same v.rings u.rings r stands.rings there) ∙ slots_through (slice_get u.rings r))

    buffer_there : (b : ℕ) → option_and_then (λ (x : Ring). slice_get x.buffers b) (slice_get v.rings r) ≡ option_and_then (λ (x : Ring). slice_get x.buffers b) (slice_get u.rings r)
    buffer_there b =
        sym (buffers_through b (slice_get v.rings r)) ∙ ap (option_and_then (λ (x : Ring). slice_get x.buffers b)) (ring_same v.rings u.rings r stands.rings there)
        ∙ buffers_through b (slice_get u.rings r)

    registered_same : (b : ℕ) → registered_buffer (sited v k r) b ≡ registered_buffer (sited u k r) b
    registered_same b = ap (option_and_then (λ (x : Buffer). if x.len == 0 then None else Some x)) (buffer_there b)

    span_same : (x : Span) → span_start (sited v k r) x ≡ span_start (sited u k r) x
    span_same x =
        ap (option_and_then (λ (b : Buffer). if leb b.address x.address && leb (x.address + x.length) (b.address + b.len) then Some (x.address - b.address) else None)) (registered_same x.index)

  -- The other world has the same tree, descriptions, slots and descriptors.
  module _ (s : World) (buffers : Table pair_cmp (List ℕ)) (chains : Table nat_cmp Broken) (same : IsRingOf v r → (b : ℕ) → buffer s r b ≡ get buffers (r, b)) where
    abbrev w : World
    w = record s { buffers = buffers; broken = chains }

    descriptor_same : (n : ℕ) → held (sited v k r) s (at_descriptor n) ≡ held (sited u k r) w (at_descriptor n)
    descriptor_same n = ap (λ xs. if ltb n (length xs) then descriptor s n else None) stands.descriptors

    copy_same : (q : ℕ) (f : File) → held_in s q f ≡ held_in w q f
    copy_same q (in_slot n) = refl
    copy_same q (at_descriptor n) = refl

    module _ (there : IsRingOf v r) where
      held_same : (f : File) → held (sited v k r) s f ≡ held (sited u k r) w f
      held_same (in_slot n) = ap (λ c. if ltb n c then slot s r n else None) (room_same there)
      held_same (at_descriptor n) = descriptor_same n

      handle_same : (f : File) → handle (sited v k r) s f ≡ handle (sited u k r) w f
      handle_same f = ap (option_and_then (handle_of s)) (held_same f)

      room_for : (asked : Option ℕ) → room (sited v k r) s asked ≡ room (sited u k r) w asked
      room_for None = ap (λ xs. ok_or (option_map at_descriptor (find (λ n. is_none (descriptor s n)) (range_with_len 0 (length xs)))) EMFILE) stands.descriptors
      room_for (Some n) = ap (λ c. require (ltb n c) EINVAL >> Ok (in_slot n)) (room_same there)

    pub meaning_same : (o : Operation) → HasRing (IsRingOf v) r o → meaning (sited v k r) s o ≡ meaning (sited u k r) w o
    meaning_same nop has = refl
    meaning_same (readv f o n) has = ap (readv_meaning s o n) (handle_same has f)
    meaning_same (writev f o new) has = ap (λ h. write_meaning s o h (Ok new)) (handle_same has f)
    meaning_same (fsync f) has = ap (λ h. require (is_some h) EBADF >> Ok (done [])) (held_same has f)
    meaning_same (read_fixed f o x) has =
        λ i. read_meaning s o (min x.length most_moved) (handle_same has f i) (ok_or (option_map (λ at. into r x.index at) (span_same has x i)) EFAULT)
    meaning_same (write_fixed f o x) has =
        λ i. write_meaning s o (handle_same has f i) (ok_or (option_map (λ at. take (min x.length most_moved) (drop at (unwrap_or (same has x.index i) []))) (span_same has x i)) EFAULT)
    meaning_same (fallocate f o n mode) has = ap (fallocate_meaning s o n mode) (handle_same has f)
    meaning_same (openat p g asked) has = λ i. room_for has asked i >>= (λ at. walk s.nodes p >>= (λ q. may_open g q.target >> Ok (open_same g at q i)))
    meaning_same (close (at_descriptor n)) has = ap (λ h. require (is_some h) EBADF >> Ok (done (set_descriptor n None ∷ []))) (descriptor_same n)
    meaning_same (close (in_slot n)) has = ap (λ c. require (ltb n c) EINVAL >> (require (is_some (slot s r n)) EBADF >> Ok (done (set_slot r n None ∷ [])))) (room_same has)
    meaning_same (read f o n) has = ap (readv_meaning s o n) (handle_same has f)
    meaning_same (write f o new) has = ap (λ h. write_meaning s o h (Ok new)) (handle_same has f)
    meaning_same (renameat old new flags) has = refl
    meaning_same (unlinkat p removes) has = refl
    meaning_same (mkdirat p) has =
        ap (λ n. walk s.nodes p >>= (λ q. require (is_none q.target) EEXIST >> Ok (done (make_node n a_directory ∷ set_name q.parent q.name (Some (new_directory n)) ∷ [])))) node_same
    meaning_same (linkat old new) has = refl
    meaning_same (ftruncate f n) has = ap (ftruncate_meaning n) (handle_same has f)
    meaning_same (sync_file_range f o n flags) has = ap (sync_file_range_meaning o n flags) (held_same has f)
    meaning_same (fadvise f n advice) has = ap (fadvise_meaning n advice) (held_same has f)
    meaning_same (statx p) has = refl
    meaning_same (statx_file f) has = ap (statx_file_meaning s) (handle_same has f)
    meaning_same statx_root has = refl
    meaning_same (given r fails) has = refl
    meaning_same (hold_nothing f) has = refl
    meaning_same (hold_path f p g at) has =
        (λ i. Ok (held_path (sited v k r) f at (walk s.nodes p >>= (λ q. may_open g q.target >> Ok (open_same g f q i)))))
        ∙ ap (λ (x : Effect). Ok x) (path_same f at (opened_in (sited u k r) g (Ok f) (walk s.nodes p)))
    meaning_same (hold_copy f q source) has = ap (λ d. Ok (done (put r f d ∷ []))) (copy_same q source)
    meaning_same (hold_other f) has = ap (λ d. Ok (done (make_description d no_file ∷ put r f (Some d) ∷ []))) description_same
    meaning_same (seek (in_slot n) at) has = ap (λ h. Ok (sought at h)) (handle_same has (in_slot n))
    meaning_same (seek (at_descriptor n) at) has = ap (λ h. Ok (sought at (option_and_then (handle_of s) h))) (descriptor_same n)
