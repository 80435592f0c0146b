-- Operations that set a file's size or zero a range of it: fallocate and ftruncate.
use Rattle.std.specs.Prelude.{◌≡◌, ℕ, Bool, false, not, ◌&&◌, ◌==◌, ltb, leb, min, max, ◌+◌, ◌^◌, ◌<◌, ◌≤◌, ◌⊎◌, T, List, [], ◌∷◌, length, Option, Some, None, Result, Ok, ok_or, refl, unwrap_or, IfSome}
use mathlib.Core.Path.{sym, subst, ap}
use mathlib.Core.Logic.{inl}
use native.Mathlib.Omega.{arith}
use lib.Dec.{ltb→lt, leb→le, eqb_refl, nltb→le}
use Rattle.sqe_codec.specs.declared.errno.Errno.{Errno}
use Rattle.sqe_codec.specs.declared.errno.Errno.TheVariants.{EBADF, EINVAL, EFBIG, EOPNOTSUPP}
use Rattle.recording.specs.declared.recording.Recording.{Recording}
use Rattle.sqe_codec.specs.Answers.{◌>>=◌, ◌>>◌, require}
use Rattle.entry_checks.specs.Operation.{fallocate, ftruncate, File, file_limit}
use Rattle.world_parts.specs.World.{World, bytes, size, Change, apply, set_size, zero_bytes}
use Rattle.op_meaning.specs.Site.{in_ring}
use Rattle.op_meaning.specs.Meaning.{Effect, done, Handle, handle, can_write, bytes_in, Allocation, allocation, extend, reserve, punch, zero_extend, zero_within, allocate, extended}
use Rattle.world_parts.specs.Items.{size_of, byte_at, value, member_of, one, Use, writes, Footprint, writes_atom, Agree}
use Rattle.foot_print.specs.Footprint.{range_of, would_extend, allocation_uses, content_of, resized_content}
use Rattle.foot_print.specs.Laws.{Awaits}
use Rattle.world_parts.proofs.Collision.{both, either_left, either_right, left, right}
use Rattle.foot_print.proofs.Agreement.{agree_head, agree_on_content}
use Rattle.foot_print.proofs.Accepted.{ok_bind, ok_require, ok_some, supports_effect}
use Rattle.foot_print.proofs.OpenFile.{with_handle, content_same, in_content, on_its_file, handles_sound, handles_sound_too, writable_is_file, sizes_fit, length_same, length_by_size, in_range}
use Rattle.foot_print.proofs.CoverChanges.{Supports, SupportsAll}
use Rattle.foot_print.proofs.CoverOperation.{Contains, Owes}

-- What an operation says of an allocation is the same where worlds agree on the file's size, which each has.
module _ (s u : World) (i at end : ℕ) where
  abbrev uses : World → Option Allocation → Footprint
  uses w a = allocation_uses (would_extend w i end) i at end a

  has_size : (a : Option Allocation) → Agree (uses s a) s u → value s (size_of i) ≡ value u (size_of i)
  has_size (Some extend) h = agree_head s u (size_of i) _ _ h
  has_size _ h = agree_head s u (size_of i) _ _ h

  same_uses : (a : Option Allocation) → value s (size_of i) ≡ value u (size_of i) → uses u a ≡ uses s a
  same_uses a z = ap (λ m. allocation_uses (ltb m (min end file_limit)) i at end a) (length_same s u i z)

  same_allocate : (a : Allocation) → value s (size_of i) ≡ value u (size_of i) → allocate u i at end a ≡ allocate s i at end a
  same_allocate a z = let sizes = length_same s u i z in grind arith

-- What an allocation writes supports its changes.
module _ (s : World) (g : Footprint) (i at end : ℕ) (fits : end ≤ file_limit) where
  growth_supported : (T (would_extend s i end) → T (writes_atom g (size_of i))) → Supports g s (extended s i end)
  growth_supported w = (sized (would_extend s i end) refl, nothing_behind (size s i) (length_by_size (bytes s i)))
    where
      nothing_behind : (x : Option ℕ) → length (bytes_in s i) ≡ unwrap_or x 0 → IfSome x (λ m. (p : ℕ) → max (length (bytes_in s i)) end ≤ p → p < m → T (writes_atom g (byte_at i p)))
      nothing_behind x e = grind arith

      kept : (x : Option ℕ) → unwrap_or x 0 ≡ max (unwrap_or x 0) end → IfSome x (λ m. m ≡ max (unwrap_or x 0) end)
      kept x h = grind arith

      sized : (b : Bool) → would_extend s i end ≡ b → T (writes_atom g (size_of i)) ⊎ IfSome (size s i) (λ m. m ≡ max (length (bytes_in s i)) end)
      sized b e =
          let long : would_extend s i end ≡ false → min end file_limit ≤ length (bytes_in s i) = λ q. nltb→le _ _ (subst (λ c. T (not c)) (sym q) tt) in
          let l : length (bytes_in s i) ≡ unwrap_or (size s i) 0 = length_by_size (bytes s i) in
          grind (arith, w, long)

  zeros_supported : ((p : ℕ) → at ≤ p → p < end → T (writes_atom g (byte_at i p))) → (v : World) → SupportsAll g v (zero_bytes i at end ∷ [])
  zeros_supported w v = (λ p m. w p (leb→le at p (left _ _ m)) (ltb→lt p end (right (leb at p) _ m)), tt)

  allocation_supported : (a : Allocation) → Contains g (allocation_uses (would_extend s i end) i at end (Some a)) → SupportsAll g s (allocate s i at end a)
  allocation_supported extend c = (growth_supported (λ h. c.uses (λ (x : Use). x.written && member_of x.item (size_of i)) (either_left _ _ (both (would_extend s i end) (i == i) h (eqb_refl i)))), tt)
  allocation_supported reserve c = tt
  allocation_supported punch c = zeros_supported (λ p b l. c.uses (λ (x : Use). x.written && member_of x.item (byte_at i p)) (in_range i at end p b l (omega arith))) s
  allocation_supported zero_extend c = (
    growth_supported (λ h. c.uses (λ (x : Use). x.written && member_of x.item (size_of i)) (either_left _ _ (both (would_extend s i end) (i == i) h (eqb_refl i)))),
    zeros_supported (λ p b l. c.uses (λ (x : Use). x.written && member_of x.item (byte_at i p)) (either_right (would_extend s i end && false) _ (in_range i at end p b l (omega arith)))) (apply (extended s i end) s),
  )
  allocation_supported zero_within c = zeros_supported (λ p b l. c.uses (λ (x : Use). x.written && member_of x.item (byte_at i p)) (in_range i at end p b l (omega arith))) s

-- What fallocate answers by its tests, for the changes of an allocation.
abbrev allocated_by : Bool → Option Allocation → Bool → Bool → (Allocation → List Change) → Result Effect Errno
allocated_by p x w l cs = require p EINVAL >> (ok_or x EOPNOTSUPP >>= λ a. require w EBADF >> (require l EFBIG >> Ok (done (cs a))))

allocated_same : (p : Bool) (x : Option Allocation) (w l : Bool) (cs ds : Allocation → List Change) → (T w → (a : Allocation) → cs a ≡ ds a) → allocated_by p x w l cs ≡ allocated_by p x w l ds
allocated_same p x w l cs ds h = grind arith

abbrev allocated : World → ℕ → ℕ → ℕ → Handle → Result Effect Errno
allocated s o n mode h = allocated_by (ltb o (2 ^ 63) && not (n == 0) && ltb n (2 ^ 63)) (allocation mode) (can_write h.opened.access) (leb (o + n) file_limit) (allocate s h.opened.target.node o (o + n))

pub fallocate_owes : (t : Recording) (k r : ℕ) (s : World) (f : File) (o n mode : ℕ) → Awaits t k s → Owes t k r (fallocate f o n mode) s
fallocate_owes t k r s f o n mode w = record {
  tells = λ u b a d. record {
    same_meaning = with_handle (handle (in_ring t r) s f) (allocated s o n mode) (allocated u o n mode) (λ h e.
        allocated_same (ltb o (2 ^ 63) && not (n == 0) && ltb n (2 ^ 63)) (allocation mode) (can_write h.opened.access) (leb (o + n) file_limit) (allocate u h.opened.target.node o (o + n)) (allocate s h.opened.target.node o (o + n)) (λ c x.
        same_allocate s u h.opened.target.node o (o + n) x (has_size s u h.opened.target.node o (o + n) (allocation mode) (on_its_file s u (content s) h (writable_is_file h (handles_sound t s r f w.is_world h e) c) (agree_on_content s u (content s) (handle (in_ring t r) s f) d h e)))));
    same_uses = λ x. content_same s u (content s) (content u) (λ h b. same_uses s u h.opened.target.node o (o + n) (allocation mode) (has_size s u h.opened.target.node o (o + n) (allocation mode) b)) (handle (in_ring t r) s f) d;
  };
  supports = λ u v a d e q.
      let m = ok_bind (ok_or (handle (in_ring t r) u f) EBADF) (allocated u o n mode) e q in
      let l = ok_require _ EINVAL _ e m.2 in
      let x = ok_bind (ok_or (allocation mode) EOPNOTSUPP) _ e l.0 in
      let y = ok_require (can_write m.0.opened.access) EBADF _ e x.2 in
      let z = ok_require (leb (o + n) file_limit) EFBIG _ e y.0 in
      let i = m.0.opened.target.node in
      let there = ok_some (handle (in_ring t r) u f) EBADF m.0 m.1 in
      let here = ok_some (allocation mode) EOPNOTSUPP x.0 x.1 in
      let g = content_of (content u) (handle (in_ring t r) u f) in
      let whole : Contains g (content u i m.0) = record { uses = λ p d. in_content (content u) p (handle (in_ring t r) u f) m.0 there (writable_is_file m.0 (handles_sound_too t s u r f w.is_world a m.0 there) y.1) d } in
      let part : Contains g (allocation_uses (would_extend u i (o + n)) i o (o + n) (Some x.0)) = subst (λ b. Contains g (allocation_uses (would_extend u i (o + n)) i o (o + n) b)) here whole in
      let limit : o + n ≤ file_limit = leb→le (o + n) file_limit z.1 in
      supports_effect g u (done (allocate u i o (o + n) x.0)) e z.0 (allocation_supported u g i o (o + n) limit x.0 part);
}
  where
    content : World → ℕ → Handle → Footprint
    content s i h = allocation_uses (would_extend s i (o + n)) i o (o + n) (allocation mode)

-- What ftruncate answers with a handle.
abbrev truncated : ℕ → Handle → Result Effect Errno
truncated n h = require (ltb n (2 ^ 63)) EINVAL >> (require (can_write h.opened.access) EINVAL >> (require (leb n file_limit) EFBIG >> Ok (done (set_size h.opened.target.node n ∷ []))))

pub ftruncate_owes : (t : Recording) (k r : ℕ) (s : World) (f : File) (n : ℕ) → Awaits t k s → Owes t k r (ftruncate f n) s
ftruncate_owes t k r s f n w = record {
  tells = λ u b a d. record { same_meaning = refl; same_uses = λ x. refl };
  supports = λ u v a d e q.
      let m = ok_bind (ok_or (handle (in_ring t r) u f) EBADF) (truncated n) e q in
      let l = ok_require _ EINVAL _ e m.2 in
      let y = ok_require (can_write m.0.opened.access) EINVAL _ e l.0 in
      let z = ok_require (leb n file_limit) EFBIG _ e y.0 in
      let i = m.0.opened.target.node in
      let there = ok_some (handle (in_ring t r) u f) EBADF m.0 m.1 in
      let g = content_of (resized_content n) (handle (in_ring t r) u f) in
      let whole : Contains g (resized_content n i m.0) = record { uses = λ p d. in_content (resized_content n) p (handle (in_ring t r) u f) m.0 there (writable_is_file m.0 (handles_sound_too t s u r f w.is_world a m.0 there) y.1) d } in
      let fits = sizes_fit g s u w.is_world d in
      supports_effect g u (done (set_size i n ∷ [])) e z.0 ((inl (whole.uses (λ (x : Use). x.written && member_of x.item (size_of i)) (either_left _ _ (eqb_refl i))), cut_off g i (size u i) (fits i (whole.uses (λ (x : Use). member_of x.item (size_of i)) (either_left _ _ (eqb_refl i)))) whole), tt);
}
  where
    cut_off : (g : Footprint) (i : ℕ) (x : Option ℕ) → IfSome x (λ m. m ≤ file_limit) → Contains g (writes (one (size_of i)) ∷ writes (range_of i n file_limit) ∷ []) → IfSome x (λ m. (p : ℕ) → n ≤ p → p < m → T (writes_atom g (byte_at i p)))
    cut_off g i None l c = tt
    cut_off g i (Some m) l c = λ p b q. c.uses (λ (x : Use). x.written && member_of x.item (byte_at i p)) (in_range i n file_limit p b (omega arith) (omega arith))
