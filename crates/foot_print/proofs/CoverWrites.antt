-- Operations that write an open file: write, writev, and write_fixed, which writes from a registered buffer.
use Rattle.foot_print.proofs.Writing.{is_false}
use Rattle.std.proofs.lemmas.Bool.{eqb-false, ne_eqb}
use Rattle.std.specs.Prelude.{◌≡◌, ℕ, zero, suc, Bool, true, false, cond, not, ◌&&◌, ◌||◌, ◌==◌, ltb, leb, min, ◌+◌, ◌-◌, ◌<◌, ◌≤◌, ◌⊎◌, T, List, [], ◌∷◌, ◌++◌, length, take, drop, Option, Some, None, Result, Ok, ok_or, refl, unwrap_or, IfSome}
use Rattle.std.specs.List.{slice_get}
use Rattle.std.specs.Option.{option_map, option_and_then, is_some}
use mathlib.Core.Path.{sym, subst, ap, ◌∙◌}
use mathlib.Core.Logic.{inl, inr}
use native.Mathlib.Omega.{arith}
use lib.Dec.{ltb→lt, lt→ltb, leb→le, le→leb, eqb_refl, nltb→le}
use Rattle.std.proofs.Math.ListN.{length-take}
use Rattle.sqe_codec.specs.declared.errno.Errno.{Errno}
use Rattle.sqe_codec.specs.declared.errno.Errno.TheVariants.{EBADF, EINVAL, EFBIG, EFAULT}
use Rattle.recording.specs.declared.recording.Recording.{Recording}
use Rattle.sqe_codec.specs.Answers.{◌>>=◌, ◌>>◌, require}
use Rattle.entry_checks.specs.Operation.{write, writev, write_fixed, File, Span, at_position, file_limit}
use Rattle.trace_format.specs.Sides.{most_moved}
use Rattle.world_parts.specs.World.{World, bytes, size, buffer}
use Rattle.op_meaning.specs.Site.{in_ring}
use Rattle.op_meaning.specs.Meaning.{Effect, done, Handle, handle, can_write, is_bad_offset, write_start, write_effect, writable, write_meaning, bytes_in, span_start, span_bytes}
use Rattle.world_parts.specs.Items.{Atom, member_of, size_of, byte_at, position_of, buffer_byte, within, one, Use, writes, Footprint, writes_atom, Agree}
use Rattle.foot_print.specs.Footprint.{Taken, tried, is_foreseen, use_of, content_of, transfer_range, position_written, position_use, would_extend, write_content, moved_uses, span_use}
use Rattle.foot_print.specs.Laws.{Awaits}
use Rattle.world_parts.proofs.Collision.{both, either_left, either_right, left, right}
use Rattle.foot_print.proofs.Agreement.{in_left, agree_left, agree_right, agree_head, agree_tail, agree_on_content}
use Rattle.world_parts.proofs.Trees.{some_same, some_apart}
use Rattle.foot_print.proofs.Accepted.{ok_same, ok_bind, ok_require, ok_some}
use Rattle.foot_print.proofs.OpenFile.{AllSound, with_handle, content_same, in_content, on_its_file, handles_sound, handles_sound_too, writable_is_file, file_there, length_same, length_by_size}
use Rattle.foot_print.proofs.CoverChanges.{SupportsAll}
use Rattle.foot_print.proofs.CoverOperation.{Contains, Owes}
use Rattle.foot_print.proofs.CoverReads.{advance_supported, position_is_written, in_span, offset_in_span}

-- What a write of at most n bytes has of the file.
abbrev pub content : World → Bool → ℕ → ℕ → ℕ → Handle → Footprint
content s ext o n i h =
    let anywhere = h.opened.append || o == at_position in
    use_of (ext || anywhere || (not (n == 0) && would_extend s i (o + n))) (one (size_of i)) ∷ writes (transfer_range i anywhere o n) ∷ position_written h o

write_uses_same : (s u : World) (x : Taken) (y : Option Handle) (o n : ℕ) → Agree (content_of (write_content s x o n) y) s u → content_of (write_content u x o n) y ≡ content_of (write_content s x o n) y
write_uses_same s u x y o n a = content_same s u (content s (is_foreseen x) o n) (content u (is_foreseen x) o n) same y a
  where
    same : (h : Handle) → Agree (content s (is_foreseen x) o n h.opened.target.node h) s u → content u (is_foreseen x) o n h.opened.target.node h ≡ content s (is_foreseen x) o n h.opened.target.node h
    same h k = ap (λ m. use_of (is_foreseen x || (h.opened.append || o == at_position) || (not (n == 0) && ltb m (min (o + n) file_limit))) (one (size_of h.opened.target.node)) ∷ writes (transfer_range h.opened.target.node (h.opened.append || o == at_position) o n) ∷ position_written h o)
        (length_same s u h.opened.target.node (agree_head s u (size_of h.opened.target.node) _ _ k))

-- Where a write starts is the same where worlds agree on its content.
start_same : (s u : World) (ext : Bool) (o n : ℕ) (h : Handle) → Agree (content s ext o n h.opened.target.node h) s u → write_start u o h ≡ write_start s o h
start_same s u ext o n h a =
    let sizes = length_same s u h.opened.target.node (agree_head s u (size_of h.opened.target.node) _ _ a) in
    let rest = agree_tail s u _ _ (agree_tail s u _ _ a) in
    let places = λ (k : Agree (writes (one (position_of h.description)) ∷ []) s u). agree_head s u (position_of h.description) true [] k in
    grind (arith, places)

-- What a write does from a place in a file, and with a handle.
abbrev writes_from : ℕ → Handle → ℕ → List ℕ → Result Effect Errno
writes_from o h at new = cond (length new == 0) (Ok (done [])) (require (ltb at file_limit) EFBIG >> Ok (write_effect o h at (take (file_limit - at) new)))

abbrev handed : World → ℕ → Result (List ℕ) Errno → Bool → Handle → Result Effect Errno
handed s o source cw h = (require cw EBADF >> Ok h) >>= λ g. source >>= λ new. require (not (is_bad_offset o)) EINVAL >> writes_from o g (write_start s o g) new

by_handle : (s : World) (y : Option Handle) (o : ℕ) (source : Result (List ℕ) Errno) → write_meaning s o y source ≡ (ok_or y EBADF >>= λ h. handed s o source (can_write h.opened.access) h)
by_handle s y o source = grind arith

handed_same : (s u : World) (o : ℕ) (source : Result (List ℕ) Errno) (cw : Bool) (h : Handle) → (T cw → write_start u o h ≡ write_start s o h) → handed u o source cw h ≡ handed s o source cw h
handed_same s u o source cw h a = grind arith

write_same : (s u : World) (x : Taken) (y : Option Handle) (o n : ℕ) (source : Result (List ℕ) Errno) → AllSound y → Agree (content_of (write_content s x o n) y) s u → write_meaning u o y source ≡ write_meaning s o y source
write_same s u x y o n source sound a =
    by_handle u y o source
    ∙ with_handle y (λ h. handed s o source (can_write h.opened.access) h) (λ h. handed u o source (can_write h.opened.access) h) (λ h e.
    handed_same s u o source (can_write h.opened.access) h (λ k. start_same s u (is_foreseen x) o n h (on_its_file s u (content s (is_foreseen x) o n) h (writable_is_file h (sound h e) k) (agree_on_content s u (content s (is_foreseen x) o n) y a h e))))
    ∙ sym (by_handle s y o source)

-- Without an append flag and the position, a write starts at its offset.
start_is : (a b : Bool) (x y o : ℕ) → (a || b) ≡ false → cond a x (cond b y o) ≡ o
start_is a b x y o e = grind arith

at_most : (x : Option ℕ) (a : ℕ) → a ≤ unwrap_or x 0 → IfSome x (λ n. a ≤ n)
at_most x a h = grind arith

not_zero : (n : ℕ) → 0 < n → T (not (n == 0))
not_zero n h = subst (λ b. T (not b)) (sym (ne_eqb n 0 (λ e. omega arith))) tt

positive : (n : ℕ) → (n == 0) ≡ false → 0 < n
positive n e = let other = eqb-false n 0 e in omega arith

-- What the content of a write writes supports its changes.
module _ (s : World) (o n : ℕ) (new : List ℕ) (h : Handle) (g : Footprint) (c : Contains g (content s false o n h.opened.target.node h))
    (there : T (is_some (size s h.opened.target.node))) (fewer : length new ≤ n) where
  abbrev i : ℕ
  i = h.opened.target.node

  abbrev anywhere : Bool
  anywhere = h.opened.append || o == at_position

  abbrev flag : Bool
  flag = anywhere || (not (n == 0) && would_extend s i (o + n))

  written : (a : Atom) → T (writes_atom (content s false o n i h) a) → T (writes_atom g a)
  written a m = c.uses (λ (x : Use). x.written && member_of x.item a) m

  -- Where the write makes the file longer, the size is written.
  growth : (at : ℕ) → (anywhere ≡ false → at ≡ o) → at < file_limit → 0 < length new → T (writes_atom g (size_of i)) ⊎ IfSome (size s i) (λ m. at + length (take (file_limit - at) new) ≤ m)
  growth at from below some =
      elim flag as (λ b. flag ≡ b → T (writes_atom g (size_of i)) ⊎ IfSome (size s i) (λ m. at + length (take (file_limit - at) new) ≤ m)) [
        | true ↦ λ e. inl (written (size_of i) (either_left _ _ (both flag (i == i) (subst T (sym e) tt) (eqb_refl i))))
        | false ↦ λ e. inr (at_most (size s i) _ (short (is_false anywhere (λ w. subst T e (either_left anywhere _ w))) (is_false (would_extend s i (o + n)) (λ w. subst T e (either_right anywhere _ (both _ _ (not_zero n (omega arith)) w))))))
      ] refl
    where
      short : anywhere ≡ false → would_extend s i (o + n) ≡ false → at + length (take (file_limit - at) new) ≤ unwrap_or (size s i) 0
      short e f =
          let begin : at ≡ o = from e in
          let longest : min (o + n) file_limit ≤ length (bytes_in s i) = nltb→le _ _ (subst (λ b. T (not b)) (sym f) tt) in
          let count = length-take (file_limit - at) new in
          let known : length (bytes_in s i) ≡ unwrap_or (size s i) 0 = length_by_size (bytes s i) in
          omega arith

  -- The bytes that move are written.
  bytes_written : (at : ℕ) → (anywhere ≡ false → at ≡ o) → at < file_limit → (p : ℕ) → T (within at (at + length (take (file_limit - at) new)) p) → T (writes_atom g (byte_at i p))
  bytes_written at from below p m =
      let lower : at ≤ p = leb→le at p (left (leb at p) _ m) in
      let upper : p < at + length (take (file_limit - at) new) = ltb→lt p _ (right (leb at p) _ m) in
      let count = length-take (file_limit - at) new in
      written (byte_at i p) (either_right (flag && member_of (one (size_of i)) (byte_at i p)) _ (either_left _ _ (elim anywhere as (λ b. anywhere ≡ b → T (member_of (transfer_range i b o n) (byte_at i p))) [
        | true ↦ λ e. both (i == i) _ (eqb_refl i) (both (leb 0 p) _ (le→leb 0 p (omega arith)) (lt→ltb p _ (omega arith)))
        | false ↦ λ e. let begin : at ≡ o = from e in both (i == i) _ (eqb_refl i) (both (leb o p) _ (le→leb o p (omega arith)) (lt→ltb p _ (omega arith)))
      ] refl)))

  moves : write_start s o h < file_limit → 0 < length new → SupportsAll g s (write_effect o h (write_start s o h) (take (file_limit - write_start s o h) new)).changes
  moves below some = (
    (
      there,
      c.uses (λ (x : Use). member_of x.item (size_of i)) (either_left _ _ (eqb_refl i)),
      growth (write_start s o h) (start_is h.opened.append (o == at_position) _ _ o) below some,
      bytes_written (write_start s o h) (start_is h.opened.append (o == at_position) _ _ o) below,
    ),
    advance_supported g _ h o _ (λ e. written (position_of h.description) (either_right (flag && member_of (one (size_of i)) (position_of h.description)) _ (either_right (member_of (transfer_range i anywhere o n) (position_of h.description)) _ (position_is_written h o e)))),
  )

  from_supported : (e : Effect) → writes_from o h (write_start s o h) new ≡ Ok e → SupportsAll g s e.changes
  from_supported e q = grind (arith, moves, ltb→lt, positive)

-- What a write has of its file supports its changes.
write_supported : (t : Recording) (r : ℕ) (f : File) (o n : ℕ) (source : Result (List ℕ) Errno) (s : World) (g : Footprint) → AllSound (handle (in_ring t r) s f) → ((new : List ℕ) → source ≡ Ok new → length new ≤ n)
    → (e : Effect) → write_meaning s o (handle (in_ring t r) s f) source ≡ Ok e → Contains g (content_of (write_content s (tried true) o n) (handle (in_ring t r) s f)) → SupportsAll g s e.changes
write_supported t r f o n source s g w few e q c =
    let m = ok_bind (writable (handle (in_ring t r) s f)) _ e q in
    let l = ok_bind (ok_or (handle (in_ring t r) s f) EBADF) (λ h. require (can_write h.opened.access) EBADF >> Ok h) m.0 m.1 in
    let i = ok_require (can_write l.0.opened.access) EBADF (Ok l.0) m.0 l.2 in
    let there = ok_some (handle (in_ring t r) s f) EBADF m.0 (l.1 ∙ i.0) in
    let can = subst (λ h. T (can_write h.opened.access)) (ok_same l.0 m.0 i.0) i.1 in
    let y = ok_bind source _ e m.2 in
    let k = ok_require (not (is_bad_offset o)) EINVAL _ e y.2 in
    let d = on_content m.0 there can in
    from_supported s o n y.0 m.0 g d (file_there t s r f m.0 (w m.0 there) there can) (few y.0 y.1) e k.0
  where
    on_content : (h : Handle) → handle (in_ring t r) s f ≡ Some h → T (can_write h.opened.access) → Contains g (content s false o n h.opened.target.node h)
    on_content h there can = record { uses = λ p m. c.uses p (in_content (content s false o n) p (handle (in_ring t r) s f) h there (writable_is_file h (w h there) can) m) }

pub write_owes : (t : Recording) (k r : ℕ) (s : World) (f : File) (o : ℕ) (new : List ℕ) → Awaits t k s → Owes t k r (write f o new) s
write_owes t k r s f o new w = record {
  tells = λ u b a d.
      let there = handle (in_ring t r) s f in
      let content_agrees = agree_left s u (content_of (write_content s (tried b) o (length new)) there) (position_use o there) d in
      record {
        same_meaning = write_same s u (tried b) there o (length new) (Ok new) (handles_sound t s r f w.is_world) content_agrees;
        same_uses = λ c. ap (λ g. g ++ position_use o there) (write_uses_same s u (tried c) there o (length new) content_agrees);
      };
  supports = λ u v a d e q.
      let there = handle (in_ring t r) u f in
      write_supported t r f o (length new) (Ok new) u (moved_uses u (tried true) true o (length new) there) (handles_sound_too t s u r f w.is_world a) (λ x h. subst (λ y. length y ≤ length new) (ok_same new x h) (omega arith)) e q
      (record { uses = λ p m. in_left p (content_of (write_content u (tried true) o (length new)) there) (position_use o there) m });
}

pub writev_owes : (t : Recording) (k r : ℕ) (s : World) (f : File) (o : ℕ) (new : List ℕ) → Awaits t k s → Owes t k r (writev f o new) s
writev_owes t k r s f o new w = let x = write_owes t k r s f o new w in record { tells = λ u b a d. let y = x.tells u b a d in record { same_meaning = y.same_meaning; same_uses = y.same_uses }; supports = x.supports }

drop_none : {A : Type 0} (n : ℕ) → ◌≡◌ {A = List A} (drop n []) []
drop_none zero = refl
drop_none (suc n) = refl

-- A slice is decided by what is found in its range.
slice_decided : (n at : ℕ) (xs ys : List ℕ) → ((p : ℕ) → at ≤ p → p < at + n → slice_get xs p ≡ slice_get ys p) → take n (drop at xs) ≡ take n (drop at ys)
slice_decided zero at xs ys h = refl
slice_decided (suc n) zero [] [] h = refl
slice_decided (suc n) zero [] (y ∷ ys) h = absurd (some_apart (sym (h 0 (omega arith) (omega arith))))
slice_decided (suc n) zero (x ∷ xs) [] h = absurd (some_apart (h 0 (omega arith) (omega arith)))
slice_decided (suc n) zero (x ∷ xs) (y ∷ ys) h = λ i. some_same x y (h 0 (omega arith) (omega arith)) i ∷ slice_decided n zero xs ys (λ p a b. h (suc p) (omega arith) (omega arith)) i
slice_decided (suc n) (suc at) [] [] h = refl
slice_decided (suc n) (suc at) [] (y ∷ ys) h = sym (ap (take (suc n)) (drop_none at)) ∙ slice_decided (suc n) at [] ys (λ p a b. h (suc p) (omega arith) (omega arith))
slice_decided (suc n) (suc at) (x ∷ xs) [] h = slice_decided (suc n) at xs [] (λ p a b. h (suc p) (omega arith) (omega arith)) ∙ ap (take (suc n)) (drop_none at)
slice_decided (suc n) (suc at) (x ∷ xs) (y ∷ ys) h = slice_decided (suc n) at xs ys (λ p a b. h (suc p) (omega arith) (omega arith))

found_in : (o : Option (List ℕ)) (p : ℕ) → slice_get (unwrap_or o []) p ≡ option_and_then (λ bs. slice_get bs p) o
found_in o p = grind arith

-- The bytes of a span are the same where worlds agree on them.
span_bytes_same : (t : Recording) (s u : World) (r : ℕ) (x : Span) → Agree (span_use (in_ring t r) false x) s u → span_bytes (in_ring t r) u x ≡ span_bytes (in_ring t r) s x
span_bytes_same t s u r x a = by (span_start (in_ring t r) x) refl
  where
    n : ℕ
    n = min x.length most_moved

    by : (y : Option ℕ) → span_start (in_ring t r) x ≡ y → ok_or (option_map (λ at. take (min x.length most_moved) (drop at (unwrap_or (buffer u r x.index) []))) y) EFAULT ≡ ok_or (option_map (λ at. take (min x.length most_moved) (drop at (unwrap_or (buffer s r x.index) []))) y) EFAULT
    by None e = refl
    by (Some at) e = ap (λ z. Ok z) (slice_decided (min x.length most_moved) at (unwrap_or (buffer u r x.index) []) (unwrap_or (buffer s r x.index) []) (λ p below above.
        found_in (buffer u r x.index) p ∙ sym (a.same (buffer_byte r x.index p) (in_span false t r x (λ (z : Use). member_of z.item (buffer_byte r x.index p)) at e (offset_in_span r x.index at x.length p below (omega arith)))) ∙ sym (found_in (buffer s r x.index) p)))

span_bytes_fit : (t : Recording) (s : World) (r : ℕ) (x : Span) (new : List ℕ) → span_bytes (in_ring t r) s x ≡ Ok new → length new ≤ min x.length most_moved
span_bytes_fit t s r x new e = grind (arith, length-take)

pub write_fixed_owes : (t : Recording) (k r : ℕ) (s : World) (f : File) (o : ℕ) (x : Span) → Awaits t k s → Owes t k r (write_fixed f o x) s
write_fixed_owes t k r s f o x w = record {
  tells = λ u b a d.
      let there = handle (in_ring t r) s f in
      let moved = moved_uses s (tried b) true o (min x.length most_moved) there in
      let content_agrees = agree_left s u (content_of (write_content s (tried b) o (min x.length most_moved)) there) (position_use o there) (agree_left s u moved (span_use (in_ring t r) false x) d) in
      record {
        same_meaning = ap (write_meaning u o there) (span_bytes_same t s u r x (agree_right s u moved (span_use (in_ring t r) false x) d)) ∙ write_same s u (tried b) there o (min x.length most_moved) (span_bytes (in_ring t r) s x) (handles_sound t s r f w.is_world) content_agrees;
        same_uses = λ c. ap (λ g. (g ++ position_use o there) ++ span_use (in_ring t r) false x) (write_uses_same s u (tried c) there o (min x.length most_moved) content_agrees);
      };
  supports = λ u v a d e q.
      let there = handle (in_ring t r) u f in
      let moved = moved_uses u (tried true) true o (min x.length most_moved) there in
      write_supported t r f o (min x.length most_moved) (span_bytes (in_ring t r) u x) u (moved ++ span_use (in_ring t r) false x) (handles_sound_too t s u r f w.is_world a) (span_bytes_fit t u r x) e q
      (record { uses = λ p m. in_left p moved (span_use (in_ring t r) false x) (in_left p (content_of (write_content u (tried true) o (min x.length most_moved)) there) (position_use o there) m) });
}
