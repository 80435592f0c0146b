-- Operations that read an open file: read, readv, and read_fixed, which reads into a registered buffer.
use Rattle.std.specs.Prelude.{◌≡◌, ℕ, Bool, true, false, cond, not, ◌&&◌, ◌==◌, leb, min, ◌+◌, ◌<◌, ◌≤◌, T, List, [], ◌∷◌, ◌++◌, length, take, drop, Option, Some, None, Result, Ok, ok_or, refl}
use Rattle.std.specs.List.{list_any}
use Rattle.std.specs.Option.{option_map}
use mathlib.Core.Path.{sym, subst, ◌∙◌}
use native.Mathlib.Omega.{arith}
use lib.Dec.{ltb→lt, lt→ltb, leb→le, le→leb, eqb_refl}
use Rattle.std.proofs.Math.ListN.{length-take}
use Rattle.sqe_codec.specs.declared.errno.Errno.{Errno}
use Rattle.sqe_codec.specs.declared.errno.Errno.TheVariants.{EBADF, EISDIR, EINVAL, EFAULT}
use Rattle.recording.specs.declared.recording.Recording.{Recording}
use Rattle.sqe_codec.specs.Answers.{each, ◌>>◌, require}
use Rattle.entry_checks.specs.Operation.{read, readv, read_fixed, File, Span, at_position}
use Rattle.trace_format.specs.Sides.{most_moved}
use Rattle.world_parts.specs.World.{World}
use Rattle.op_meaning.specs.Site.{in_ring}
use Rattle.op_meaning.specs.Meaning.{Effect, done, Handle, handle, can_read, is_file, is_bad_offset, Destination, reply, into, delivered, advance, transfer_start, bytes_in, read_effect, readable, read_meaning, span_start, span_destination}
use Rattle.world_parts.specs.Items.{position_of, buffer_byte, member_of, one, buffer_bytes, Use, writes, Footprint, writes_atom}
use Rattle.foot_print.specs.Footprint.{tried, content_of, moved_uses, position_written, position_use, span_use, read_content}
use Rattle.foot_print.specs.Laws.{Awaits}
use Rattle.world_parts.proofs.Collision.{both, either_left, left, right, true_of}
use Rattle.foot_print.proofs.Agreement.{in_left, in_right, agree_left}
use Rattle.foot_print.proofs.Accepted.{err_apart, ok_same, ok_bind, ok_require, ok_some, supports_effect}
use Rattle.foot_print.proofs.OpenFile.{in_content}
use Rattle.foot_print.proofs.CoverRead.{read_same}
use Rattle.foot_print.proofs.CoverChanges.{SupportsAll}
use Rattle.foot_print.proofs.CoverOperation.{Contains, Owes}

-- A transfer at the position is supported where the position is written.
pub advance_supported : (g : Footprint) (v : World) (h : Handle) (o end : ℕ) → (T (o == at_position) → T (writes_atom g (position_of h.description))) → SupportsAll g v (advance o h end)
advance_supported g v h o end w = grind arith

-- Where a transfer uses the position, it is written.
pub position_is_written : (h : Handle) (o : ℕ) → T (o == at_position) → T (writes_atom (position_written h o) (position_of h.description))
position_is_written h o p = subst (λ b. T (writes_atom (cond b (writes (one (position_of h.description)) ∷ []) []) (position_of h.description))) (sym (true_of _ p)) (either_left _ _ (eqb_refl h.description))

module _ (there : Option Handle) (o n : ℕ) (span : Result Destination Errno) (s : World) (g : Footprint) where
  -- A destination that a read may have is written.
  abbrev IsWritten : Destination → Type 0
  IsWritten reply = Unit {0}
  IsWritten (into r b at) = (p : ℕ) → at ≤ p → p < at + n → T (writes_atom g (buffer_byte r b p))

  delivered_supported : (h : Handle) (at : ℕ) (x : List ℕ) (to : Destination) → length x ≤ n → (T (o == at_position) → T (writes_atom g (position_of h.description))) → IsWritten to → SupportsAll g s (delivered to x (advance o h at)).changes
  delivered_supported h at x reply l w d = advance_supported g s h o at w
  delivered_supported h at x (into r b from) l w d = (
    (λ p m. let below : from ≤ p = leb→le from p (left _ _ m) in let above : p < from + length x = ltb→lt p _ (right (leb from p) _ m) in d p below (omega arith)),
    advance_supported g _ h o at w,
  )

  -- What a read has of its file and of its destination supports its changes.
  pub read_supported : (e : Effect) → read_meaning s o n there span ≡ Ok e → Contains g (content_of (read_content o n) there) → ((to : Destination) → span ≡ Ok to → IsWritten to) → SupportsAll g s e.changes
  read_supported e q c d =
      let m = ok_bind (readable there) _ e q in
      let l = ok_bind (ok_or there EBADF) (λ h. require (can_read h.opened.access) EBADF >> (require (is_file h.opened) EISDIR >> Ok h)) m.0 m.1 in
      let i = ok_require (is_file l.0.opened) EISDIR (Ok l.0) m.0 (ok_require (can_read l.0.opened.access) EBADF _ m.0 l.2).0 in
      let here = ok_some there EBADF m.0 (l.1 ∙ i.0) in
      let x = ok_bind span _ e m.2 in
      let y = ok_require (not (is_bad_offset o)) EINVAL _ e x.2 in
      supports_effect g s _ e y.0 (moves m.0 x.0 (n == 0) (subst (λ h. T (is_file h.opened)) (ok_same l.0 m.0 i.0) i.1) here (d x.0 x.1))
    where
      moves : (h : Handle) (to : Destination) (none : Bool) → T (is_file h.opened) → there ≡ Some h → IsWritten to → SupportsAll g s (cond none (done []) (read_effect s o n h to)).changes
      moves h to true i here w = tt
      moves h to false i here w =
          let at = transfer_start s o h in
          let x = take n (drop at (bytes_in s h.opened.target.node)) in
          let l = length-take n (drop at (bytes_in s h.opened.target.node)) in
          delivered_supported h (at + length x) x to (omega arith) (λ p. c.uses (λ (z : Use). z.written && member_of z.item (position_of h.description))
          (in_content (read_content o n) (λ (z : Use). z.written && member_of z.item (position_of h.description)) there h here i (position_is_written h o p))) w

pub read_owes : (t : Recording) (k r : ℕ) (s : World) (f : File) (o n : ℕ) → Awaits t k s → Owes t k r (read f o n) s
read_owes t k r s f o n w = record {
  tells = λ u b a d. record { same_meaning = read_same s u (handle (in_ring t r) s f) o (min n most_moved) (Ok reply) w.is_world (agree_left s u _ _ d); same_uses = λ c. refl };
  supports = λ u v a d e q.
      let there = handle (in_ring t r) u f in
      let row = moved_uses u (tried true) false o (min n most_moved) there in
      read_supported there o (min n most_moved) (Ok reply) u row e q (record { uses = λ p m. in_left p (content_of (read_content o (min n most_moved)) there) (position_use o there) m })
      (λ to h. subst (IsWritten there o (min n most_moved) (Ok reply) u row) (ok_same reply to h) tt);
}

pub readv_owes : (t : Recording) (k r : ℕ) (s : World) (f : File) (o n : ℕ) → Awaits t k s → Owes t k r (readv f o n) s
readv_owes t k r s f o n w = let x = read_owes t k r s f o n w in record { tells = λ u b a d. let y = x.tells u b a d in record { same_meaning = y.same_meaning; same_uses = y.same_uses }; supports = x.supports }

-- The range of a span in its buffer that a transfer of fewer bytes uses.
pub in_span : (b : Bool) (t : Recording) (r : ℕ) (x : Span) (q : Use → Bool) (at : ℕ) → span_start (in_ring t r) x ≡ Some at → T (q (record { item = buffer_bytes r x.index at (at + x.length); written = b })) → T (list_any q (span_use (in_ring t r) b x))
in_span b t r x q at e m = subst (λ o. T (list_any q (each (λ at. record { item = buffer_bytes r x.index at (at + x.length); written = b } ∷ []) o))) (sym e) (either_left _ _ m)

pub offset_in_span : (r b at n p : ℕ) → at ≤ p → p < at + n → T (member_of (buffer_bytes r b at (at + n)) (buffer_byte r b p))
offset_in_span r b at n p below above = both (r == r && b == b) _ (both _ _ (eqb_refl r) (eqb_refl b)) (both (leb at p) _ (le→leb at p below) (lt→ltb p _ above))

pub read_fixed_owes : (t : Recording) (k r : ℕ) (s : World) (f : File) (o : ℕ) (x : Span) → Awaits t k s → Owes t k r (read_fixed f o x) s
read_fixed_owes t k r s f o x w = record {
  tells = λ u b a d. record { same_meaning = read_same s u (handle (in_ring t r) s f) o n (span_destination (in_ring t r) x) w.is_world (agree_left s u _ _ (agree_left s u (moved_uses s (tried b) false o n (handle (in_ring t r) s f)) (span_use (in_ring t r) true x) d)); same_uses = λ c. refl };
  supports = λ u v a d e q.
      let there = handle (in_ring t r) u f in
      let moved = moved_uses u (tried true) false o n there in
      read_supported there o n (span_destination (in_ring t r) x) u (moved ++ span_use (in_ring t r) true x) e q (record { uses = λ p m. in_left p moved (span_use (in_ring t r) true x) (in_left p (content_of (read_content o n) there) (position_use o there) m) }) (destination u (span_start (in_ring t r) x) refl);
}
  where
    n : ℕ
    n = min x.length most_moved

    destination : (u : World) (y : Option ℕ) → span_start (in_ring t r) x ≡ y → (to : Destination) → ok_or (option_map (λ at. into r x.index at) y) EFAULT ≡ Ok to → IsWritten (handle (in_ring t r) u f) o (min x.length most_moved) (span_destination (in_ring t r) x) u (moved_uses u (tried true) false o (min x.length most_moved) (handle (in_ring t r) u f) ++ span_use (in_ring t r) true x) to
    destination u None e to h = absurd (err_apart h)
    destination u (Some at) e to h = subst (IsWritten (handle (in_ring t r) u f) o (min x.length most_moved) (span_destination (in_ring t r) x) u (moved_uses u (tried true) false o (min x.length most_moved) (handle (in_ring t r) u f) ++ span_use (in_ring t r) true x)) (ok_same (into r x.index at) to h) (λ p below above.
        in_right (λ (z : Use). z.written && member_of z.item (buffer_byte r x.index p)) (moved_uses u (tried true) false o (min x.length most_moved) (handle (in_ring t r) u f)) (span_use (in_ring t r) true x)
        (in_span true t r x (λ (z : Use). z.written && member_of z.item (buffer_byte r x.index p)) at e (offset_in_span r x.index at x.length p below (omega arith))))
