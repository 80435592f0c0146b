-- An operation means the same in a world within another as in the other.
use Rattle.std.proofs.Common.{◌≡◌, ℕ, ◌+◌, List, [], ◌∷◌, Bool, true, false, length, Option, Some, None, refl, ap, ◌∙◌, arith}
use Rattle.std.specs.Prelude.{not, ◌&&◌, ◌==◌, ltb, leb, ◌-◌, ◌^◌, min, max, take, drop, Result, Ok, Err, IfOk, IfSome, IsSome, ok_or, is_some, is_none, unwrap_or, if◌then◌else◌}
use Rattle.std.specs.List.{find, range_with_len, list_any}
use Rattle.std.specs.Option.{option_map, option_and_then}
use Rattle.sqe_codec.specs.declared.errno.Errno.{Errno}
use Rattle.sqe_codec.specs.declared.errno.Errno.TheVariants.{EBADF, EEXIST, EFAULT, EFBIG, EINVAL, EISDIR, EMFILE, ENOENT, ENOTDIR, ENOTEMPTY, EOPNOTSUPP}
use Rattle.sqe_codec.specs.Answers.{◌>>=◌, ◌>>◌, require}
use Rattle.trace_format.specs.Sides.{most_moved}
use Rattle.entry_checks.specs.Operation.{Operation, nop, readv, writev, fsync, read_fixed, write_fixed, fallocate, openat, close, read, write, renameat, unlinkat, mkdirat, linkat, ftruncate, sync_file_range, fadvise, statx, statx_file, statx_root, given, hold_nothing, hold_path, hold_copy, hold_other, seek, File, in_slot, at_descriptor, Span, Path, file_limit, at_position}
use Rattle.finite_maps.specs.Table.{Table, get, pair_cmp}
use Rattle.std.specs.Ordering.{nat_cmp}
use Rattle.file_tree.specs.Tree.{Target, bytes_of_node, count_of_node}
use Rattle.file_tree.specs.Walk.{Place, walk, is_above, is_directory}
use Rattle.world_parts.specs.World.{World, Change, opened, position, slot, descriptor, buffer, set_size, zero_bytes, set_slot, set_descriptor, write_bytes}
use Rattle.op_meaning.specs.Meaning.{Site, Effect, done, slot_count, span_start, held, Handle, handle_of, handle, can_read, can_write, is_bad_offset, is_file, bytes_in, transfer_start, advance, Destination, reply, delivered, readable, read_meaning, write_start, write_effect, writable, write_meaning, span_destination, span_bytes, Allocation, extend, reserve, punch, zero_extend, zero_within, allocation, allocate, fallocate_meaning, sync_file_range_meaning, fadvise_meaning, room, may_open, open_as, has_names, may_remove, unlinkat_meaning, may_replace, moved_name, move_meaning, exchanged, goes_below, exchange_meaning, rename_to, renameat_meaning, node_told, measured, statx_meaning, statx_file_meaning, put, held_in, found, meaning_by, meaning, shape}
use Rattle.op_meaning.specs.Shape.{Look, at_nothing, at_file, at_path, at_paths, look}
use Rattle.sweep_laws.specs.Within.{IsWithin}
use Rattle.sweep_laws.proofs.Alike.{HasNode, HasDescription, HasTarget, HasPlace, description_there, names_on_same, node_there, opened_same, placed, walk_same}

-- What follows an answer is the same where it is so for what is answered.
bind_same : {A B : Type 0} (r : Result A Errno) (f g : A → Result B Errno) → IfOk r (λ a. f a ≡ g a) → (r >>= f) ≡ (r >>= g)
bind_same (Ok a) f g h = h
bind_same (Err e) f g h = refl

-- what holds of what there is holds of what is answered
of_some : {A : Type 0} (P : A → Type 0) (o : Option A) (e : Errno) → IfSome o P → IfOk (ok_or o e) P
of_some P (Some x) e h = h
of_some P None e h = tt

behind_test : {A : Type 0} (P : A → Type 0) (b : Bool) (e : Errno) (r : Result A Errno) → IfOk r P → IfOk (require b e >> r) P
behind_test P true e r h = h
behind_test P false e r h = tt

behind_answer : {A B : Type 0} (P : B → Type 0) (r : Result A Errno) (f : A → Result B Errno) → IfOk r (λ a. IfOk (f a) P) → IfOk (r >>= f) P
behind_answer P (Ok a) f h = h
behind_answer P (Err e) f h = tt

module _ {started : ℕ} (s w : World) (h : IsWithin started s w) where
  -- Files that are open.
  pub record HasHandle (x : Handle) : Type 0 where
    pub node : HasNode s w h x.opened.target.node
    pub description : HasDescription s w h x.description

  abbrev HasFile : Option Handle → Type 0
  HasFile x = IfSome x HasHandle

  bytes_same : (i : ℕ) → HasNode s w h i → bytes_in w i ≡ bytes_in s i
  bytes_same i e = ap (λ x. unwrap_or (option_and_then bytes_of_node x) []) e

  starts_same : (o : ℕ) (x : Handle) → HasHandle x → transfer_start w o x ≡ transfer_start s o x
  starts_same o x e = ap (λ y. if o == at_position then unwrap_or (option_map (λ (z : Rattle.world_parts.specs.World.Description). z.position) y) 0 else o) e.description

  readable_there : (x : Option Handle) → HasFile x → IfOk (readable x) HasHandle
  readable_there x e =
      behind_answer HasHandle (ok_or x EBADF) _
      (all (ok_or x EBADF) (of_some HasHandle x EBADF e))
    where
      all : (r : Result Handle Errno) → IfOk r HasHandle → IfOk r (λ y. IfOk (require (can_read y.opened.access) EBADF >> (require (is_file y.opened) EISDIR >> Ok y)) HasHandle)
      all (Ok y) g = behind_test HasHandle (can_read y.opened.access) EBADF _ (behind_test HasHandle (is_file y.opened) EISDIR (Ok y) g)
      all (Err e) g = tt

  writable_there : (x : Option Handle) → HasFile x → IfOk (writable x) HasHandle
  writable_there x e =
      behind_answer HasHandle (ok_or x EBADF) _
      (all (ok_or x EBADF) (of_some HasHandle x EBADF e))
    where
      all : (r : Result Handle Errno) → IfOk r HasHandle → IfOk r (λ y. IfOk (require (can_write y.opened.access) EBADF >> Ok y) HasHandle)
      all (Ok y) g = behind_test HasHandle (can_write y.opened.access) EBADF (Ok y) g
      all (Err e) g = tt

  -- what follows a file that both have is the same where it is so of each that both have
  with_file : {B : Type 0} (r : Result Handle Errno) (f g : Handle → Result B Errno) → IfOk r HasHandle → ((x : Handle) → HasHandle x → f x ≡ g x) → (r >>= f) ≡ (r >>= g)
  with_file (Ok x) f g there same = same x there
  with_file (Err e) f g there same = refl

  read_same : (x : Option Handle) → HasFile x → (o n : ℕ) (span : Result Destination Errno) → read_meaning w o n x span ≡ read_meaning s o n x span
  read_same x e o n span =
      with_file (readable x) _ _ (readable_there x e) (λ y there.
      let at = starts_same o y there in
      let bs = bytes_same y.opened.target.node there.node in
      λ i. span >>= (λ to. require (not (is_bad_offset o)) EINVAL >> Ok (if n == 0 then done [] else (let moved = take n (drop (at i) (bs i)) in delivered to moved (advance o y (at i + length moved))))))

  write_same : (x : Option Handle) → HasFile x → (o : ℕ) (source : Result (List ℕ) Errno) → write_meaning w o x source ≡ write_meaning s o x source
  write_same x e o source =
      with_file (writable x) _ _ (writable_there x e) (λ y there.
      let from : write_start w o y ≡ write_start s o y = λ i. if y.opened.append then length (bytes_same y.opened.target.node there.node i) else starts_same o y there i in
      λ i. source >>= (λ new. require (not (is_bad_offset o)) EINVAL >> (if length new == 0 then Ok (done []) else (require (ltb (from i) file_limit) EFBIG >> Ok (write_effect o y (from i) (take (file_limit - from i) new))))))

  allocate_same : (i at end : ℕ) → HasNode s w h i → (a : Allocation) → allocate w i at end a ≡ allocate s i at end a
  allocate_same i at end e extend = λ j. set_size i (max (length (bytes_same i e j)) end) ∷ []
  allocate_same i at end e reserve = refl
  allocate_same i at end e punch = refl
  allocate_same i at end e zero_extend = λ j. set_size i (max (length (bytes_same i e j)) end) ∷ zero_bytes i at end ∷ []
  allocate_same i at end e zero_within = refl

  fallocate_same : (x : Option Handle) → HasFile x → (o n mode : ℕ) → fallocate_meaning w o n mode x ≡ fallocate_meaning s o n mode x
  fallocate_same x e o n mode =
      with_file (ok_or x EBADF) _ _ (of_some HasHandle x EBADF e) (λ y there.
      λ i. require (ltb o (2 ^ 63) && not (n == 0) && ltb n (2 ^ 63)) EINVAL >> (ok_or (allocation mode) EOPNOTSUPP >>= (λ a.
      require (can_write y.opened.access) EBADF >> (require (leb (o + n) file_limit) EFBIG >> Ok (done (allocate_same y.opened.target.node o (o + n) there.node a i))))))

  measured_same : (x : Target) → HasNode s w h x.node → measured w x ≡ measured s x
  measured_same x e = λ i. if is_directory x.kind then node_told 1 0 else node_told 2 (length (bytes_same x.node e i))

  statx_file_same : (x : Option Handle) → HasFile x → statx_file_meaning w x ≡ statx_file_meaning s x
  statx_file_same x e = with_file (ok_or x EBADF) _ _ (of_some HasHandle x EBADF e) (λ y there. ap (λ (z : Effect). Ok z) (measured_same y.opened.target there.node))

  -- What paths lead to.
  with_target : {B : Type 0} (x : Option Target) (e : Errno) (f g : Target → Result B Errno) → HasTarget s w h x → ((y : Target) → HasNode s w h y.node → f y ≡ g y) → (ok_or x e >>= f) ≡ (ok_or x e >>= g)
  with_target (Some y) e f g there same = same y there
  with_target None e f g there same = refl

  with_place : {B : Type 0} (r : Result Place Errno) (f g : Place → Result B Errno) → HasPlace s w h r → ((q : Place) → HasTarget s w h q.target → f q ≡ g q) → (r >>= f) ≡ (r >>= g)
  with_place (Ok q) f g there same = same q there
  with_place (Err e) f g there same = refl

  statx_same : (r : Result Place Errno) → HasPlace s w h r → statx_meaning w r ≡ statx_meaning s r
  statx_same r e =
      with_place r _ _ e (λ q there. with_target q.target ENOENT _ _ there (λ y has. ap (λ (z : Effect). Ok z) (measured_same y has)))

  has_names_same : (i : ℕ) → HasNode s w h i → has_names w i ≡ has_names s i
  has_names_same i e = ap (λ x. not (unwrap_or (option_and_then count_of_node x) 0 == 0)) e

  may_remove_same : (removes : Bool) (x : Target) → HasNode s w h x.node → may_remove w removes x ≡ may_remove s removes x
  may_remove_same false x e = refl
  may_remove_same true x e = ap (λ b. require (is_directory x.kind) ENOTDIR >> require (not b) ENOTEMPTY) (has_names_same x.node e)

  unlinkat_same : (removes : Bool) (r : Result Place Errno) → HasPlace s w h r → unlinkat_meaning w removes r ≡ unlinkat_meaning s removes r
  unlinkat_same removes r e =
      with_place r _ _ e (λ q there. with_target q.target ENOENT _ _ there (λ y has.
      ap (λ z. z >> Ok (done (Rattle.world_parts.specs.World.set_name q.parent q.name None ∷ []))) (may_remove_same removes y has)))

  may_replace_same : (x y : Target) → HasNode s w h y.node → may_replace w x y ≡ may_replace s x y
  may_replace_same x y e =
      ap (λ b. require (not (is_directory x.kind && not (is_directory y.kind))) ENOTDIR >> (require (not (not (is_directory x.kind) && is_directory y.kind)) EISDIR >> require (not (is_directory y.kind && b)) ENOTEMPTY))
      (has_names_same y.node e)

  move_same : (p q : Place) (x : Target) (y : Option Target) → HasTarget s w h y → move_meaning w p q x y ≡ move_meaning s p q x y
  move_same p q x None e = refl
  move_same p q x (Some y) e = ap (λ z. if x.node == y.node then Ok (done []) else (z >> Ok (moved_name p q x))) (may_replace_same x y e)

  above_same : (i : ℕ) (p : Path) → is_above w.nodes i p ≡ is_above s.nodes i p
  above_same i p = ap (λ ns. list_any (λ (e : ℕ × List ℕ). e.0 == i) ns) (names_on_same s w h p)

  below_same : (x : Target) (p : Path) → goes_below w x p ≡ goes_below s x p
  below_same x p = ap (λ b. is_directory x.kind && b) (above_same x.node p)

  exchange_same : (old new : Path) (p q : Place) (x : Target) (y : Option Target) → exchange_meaning w old new p q x y ≡ exchange_meaning s old new p q x y
  exchange_same old new p q x None = refl
  exchange_same old new p q x (Some y) = λ i. require (not (below_same x new i) && not (below_same y old i)) EINVAL >> Ok (exchanged p q x y)

  rename_same : (old new : Path) (flags : ℕ) (from to : Result Place Errno) → HasPlace s w h to → renameat_meaning w old new flags from to ≡ renameat_meaning s old new flags from to
  rename_same old new flags from to e =
      ap (λ f. from >>= f) (λ i p. with_place to
      (λ q. ok_or p.target ENOENT >>= (λ x. rename_to w old new flags p q x))
      (λ q. ok_or p.target ENOENT >>= (λ x. rename_to s old new flags p q x)) e
      (λ q there. ap (λ f. ok_or p.target ENOENT >>= f) (λ j x.
      let other = exchange_same old new p q x q.target in
      let moved = move_same p q x q.target there in
      if flags == 2 then other j else (require (not (flags == 1 && is_some q.target)) EEXIST >> require (not (below_same x new j)) EINVAL >> moved j))) i)

  -- Where an operation stands.
  module _ (site : Site) where
    held_same : (f : File) → held site w f ≡ held site s f
    held_same (in_slot n) = ap (λ (m : Table pair_cmp ℕ). if ltb n (slot_count site.trace site.ring) then get m (site.ring, n) else None) h.slots
    held_same (at_descriptor n) = ap (λ (m : Table nat_cmp ℕ). if ltb n (length site.trace.descriptors) then get m n else None) h.descriptors

    held_leads : (f : File) → IfSome (held site w f) (λ d. IsSome (opened w d))
    held_leads f = let slots = λ (n : ℕ). h.is_world.slots_lead site.ring n in let descriptors = h.is_world.descriptors_lead in grind (arith, slots, descriptors)

    handle_at : (x : Option ℕ) → IfSome x (λ d. IsSome (opened w d)) → option_and_then (handle_of w) x ≡ option_and_then (handle_of s) x
    handle_at None l = refl
    handle_at (Some d) l = ap (option_map (λ o. record { description = d; opened = o })) (opened_same s w h d (description_there s w h d l))

    handle_same : (f : File) → handle site w f ≡ handle site s f
    handle_same f = handle_at (held site w f) (held_leads f) ∙ ap (option_and_then (handle_of s)) (held_same f)

    handle_there : (f : File) → HasFile (handle site w f)
    handle_there f = at (held site w f) (held_leads f)
      where
        leads : (d : ℕ) → HasDescription s w h d → (y : Option Rattle.world_parts.specs.World.Description) → IfSome (option_map (Rattle.world_parts.specs.World.opened_by w) y) (λ (o : Rattle.world_parts.specs.World.Opened). IsSome o.target.kind) → HasFile (option_map (λ (o : Rattle.world_parts.specs.World.Opened). record { description = d; opened = o }) (option_map (Rattle.world_parts.specs.World.opened_by w) y))
        leads d e None l = tt
        leads d e (Some y) l = record { node = node_there s w h y.node l; description = e }

        at : (x : Option ℕ) → IfSome x (λ d. IsSome (opened w d)) → HasFile (option_and_then (handle_of w) x)
        at None l = tt
        at (Some d) l = leads d (description_there s w h d l) (get w.descriptions d) (h.is_world.descriptions_lead d)

    room_same : (asked : Option ℕ) → room site w asked ≡ room site s asked
    room_same None = ap (λ (m : Table nat_cmp ℕ). ok_or (option_map at_descriptor (find (λ n. is_none (get m n)) (range_with_len 0 (length site.trace.descriptors)))) EMFILE) h.descriptors
    room_same (Some n) = refl

    span_same : (x : Span) → span_bytes site w x ≡ span_bytes site s x
    span_same x = ap (λ (m : Table pair_cmp (List ℕ)). ok_or (option_map (λ at. take (min x.length most_moved) (drop at (unwrap_or (get m (site.ring, x.index)) []))) (span_start site x)) EFAULT) h.buffers

    slot_same : (n : ℕ) → slot w site.ring n ≡ slot s site.ring n
    slot_same n = ap (λ (m : Table pair_cmp ℕ). get m (site.ring, n)) h.slots

    held_in_same : (r : ℕ) (f : File) → held_in w r f ≡ held_in s r f
    held_in_same r (in_slot n) = ap (λ (m : Table pair_cmp ℕ). get m (r, n)) h.slots
    held_in_same r (at_descriptor n) = ap (λ (m : Table nat_cmp ℕ). get m n) h.descriptors

    found_same : (l : Look) → found site w l ≡ found site s l
    found_same at_nothing = refl
    found_same (at_file f) = λ i. record { file = handle_same f i; place = Err ENOENT; new_place = Err ENOENT }
    found_same (at_path p) = λ i. record { file = None; place = walk_same s w h p i; new_place = Err ENOENT }
    found_same (at_paths old new) = λ i. record { file = None; place = walk_same s w h old i; new_place = walk_same s w h new i }

    -- What an operation means by what it finds.
    by_same : (o : Operation) → let z = found site w (look (shape o)) in meaning_by site w o z ≡ meaning_by site s o z
    by_same nop = refl
    by_same (readv f o n) = read_same (handle site w f) (handle_there f) o (min n most_moved) (Ok reply)
    by_same (writev f o new) = write_same (handle site w f) (handle_there f) o (Ok new)
    by_same (fsync f) = ap (λ x. require (is_some x) EBADF >> Ok (done [])) (held_same f)
    by_same (read_fixed f o x) = read_same (handle site w f) (handle_there f) o (min x.length most_moved) (span_destination site x)
    by_same (write_fixed f o x) = write_same (handle site w f) (handle_there f) o (span_bytes site w x) ∙ ap (write_meaning s o (handle site w f)) (span_same x)
    by_same (fallocate f o n mode) = fallocate_same (handle site w f) (handle_there f) o n mode
    by_same (openat p g asked) = ap (λ x. x >>= (λ at. walk w.nodes p >>= (λ q. may_open g q.target >> Ok (open_as site g at q)))) (room_same asked)
    by_same (close (at_descriptor n)) = ap (λ x. require (is_some x) EBADF >> Ok (done (set_descriptor n None ∷ []))) (held_same (at_descriptor n))
    by_same (close (in_slot n)) = ap (λ x. require (ltb n (slot_count site.trace site.ring)) EINVAL >> (require (is_some x) EBADF >> Ok (done (set_slot site.ring n None ∷ [])))) (slot_same n)
    by_same (read f o n) = read_same (handle site w f) (handle_there f) o (min n most_moved) (Ok reply)
    by_same (write f o new) = write_same (handle site w f) (handle_there f) o (Ok new)
    by_same (renameat old new flags) = rename_same old new flags (walk w.nodes old) (walk w.nodes new) (placed s w h new)
    by_same (unlinkat p removes) = unlinkat_same removes (walk w.nodes p) (placed s w h p)
    by_same (mkdirat p) = refl
    by_same (linkat old new) = refl
    by_same (ftruncate f n) = refl
    by_same (sync_file_range f o n flags) = ap (sync_file_range_meaning o n flags) (held_same f)
    by_same (fadvise f n advice) = ap (fadvise_meaning n advice) (held_same f)
    by_same (statx p) = statx_same (walk w.nodes p) (placed s w h p)
    by_same (statx_file f) = statx_file_same (handle site w f) (handle_there f)
    by_same statx_root = refl
    by_same (given r fails) = refl
    by_same (hold_nothing f) = refl
    by_same (hold_path f p g at) = refl
    by_same (hold_copy f r source) = ap (λ (x : Option ℕ). Ok (done (put site.ring f x ∷ []))) (held_in_same r source)
    by_same (hold_other f) = refl
    by_same (seek f at) = refl

    pub means_same : (o : Operation) → meaning site w o ≡ meaning site s o
    means_same o = by_same o ∙ ap (meaning_by site s o) (found_same (look (shape o)))
