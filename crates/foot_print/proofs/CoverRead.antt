-- A read's access set decides what it answers and changes.
use Rattle.std.proofs.lemmas.Grind.{same_number_lists}
use Rattle.std.proofs.lemmas.List.{get_or-drop, get_or-take, length-drop, length-take}
use Rattle.std.specs.Prelude.{◌-◌, ◌≡◌, ℕ, Bool, true, false, cond, not, ◌==◌, min, ◌+◌, ◌<◌, ◌≤◌, List, [], ◌∷◌, ◌++◌, length, take, drop, Option, Some, Result, Ok, ok_or, refl, slice_index_or, unwrap_or}
use mathlib.Core.Path.{sym, ap, ◌∙◌}
use native.Mathlib.Omega.{arith}
use Rattle.sqe_codec.specs.declared.errno.Errno.{Errno}
use Rattle.sqe_codec.specs.declared.errno.Errno.TheVariants.{EBADF, EISDIR, EINVAL}
use Rattle.sqe_codec.specs.Answers.{◌>>=◌, ◌>>◌, require}
use Rattle.entry_checks.specs.Operation.{at_position, file_limit}
use Rattle.world_parts.specs.World.{World, IsWorld, bytes, position, set_position}
use Rattle.file_tree.specs.Tree.{byte_of}
use Rattle.op_meaning.specs.Meaning.{Effect, done, Handle, can_read, is_file, is_bad_offset, Destination, read_effect, read_meaning, bytes_in, delivered}
use Rattle.world_parts.specs.Items.{size_of, byte_at, position_of, value, one, reads, writes, Footprint, Agree}
use Rattle.foot_print.specs.Footprint.{of_file, content_of, range_of, transfer_range, position_written, read_content}
use Rattle.foot_print.proofs.OpenFile.{length_same, bounded, in_range}
use Rattle.foot_print.proofs.Agreement.{agree_left, agree_head, agree_tail, agree_on_content}

-- A slice is decided by the length and the bytes in its range.
pub slice_same : (n at : ℕ) (xs ys : List ℕ) → length xs ≡ length ys → ((p : ℕ) → at ≤ p → p < at + n → p < length xs → slice_index_or xs p 0 ≡ slice_index_or ys p 0) → take n (drop at xs) ≡ take n (drop at ys)
slice_same n at xs ys e h =
    let same : length (take n (drop at xs)) ≡ length (take n (drop at ys)) = simp (length-take, length-drop) (ap (λ m. min n (m - at)) e) in
    same_number_lists _ _ same (λ k b. grind (arith, length-take n (drop at xs), length-drop at xs, get_or-take, get_or-drop, h (at + k)))

byte_in : (x : Option (List ℕ)) (p : ℕ) → slice_index_or (unwrap_or x []) p 0 ≡ byte_of x p
byte_in x p = grind arith

-- A file's bytes in a range are the same where worlds agree on its size and on the range.
pub range_same : (s u : World) (i n at low high : ℕ) → IsWorld s → value s (size_of i) ≡ value u (size_of i) → Agree (reads (range_of i low high) ∷ []) s u
    → ((p : ℕ) → at ≤ p → p < at + n → p < file_limit → (low ≤ p) × (p < high)) → take n (drop at (bytes_in u i)) ≡ take n (drop at (bytes_in s i))
range_same s u i n at low high w z a inside = sym (slice_same n at (bytes_in s i) (bytes_in u i) (sym (length_same s u i z)) byte_same)
  where
    byte_same : (p : ℕ) → at ≤ p → p < at + n → p < length (bytes_in s i) → slice_index_or (bytes_in s i) p 0 ≡ slice_index_or (bytes_in u i) p 0
    byte_same p below above has =
        let limit : length (bytes_in s i) ≤ file_limit = bounded s i w in
        let under : p < file_limit = omega arith in
        let r = inside p below above under in
        byte_in (bytes s i) p ∙ a.same (byte_at i p) (in_range i low high p r.0 r.1 under) ∙ sym (byte_in (bytes u i) p)

content : ℕ → ℕ → ℕ → Handle → Footprint
content o n i h = reads (one (size_of i)) ∷ reads (transfer_range i (o == at_position) o n) ∷ position_written h o

-- What a read does with a handle.
read_from : World → (offset count : ℕ) → Result Destination Errno → Handle → Result Effect Errno
read_from s o n span h = span >>= λ to. require (not (is_bad_offset o)) EINVAL >> Ok (cond (n == 0) (done []) (read_effect s o n h to))

read_with : World → (offset count : ℕ) → Result Destination Errno → Option Handle → Result Effect Errno
unfolding read_from
read_with s o n span x = (ok_or x EBADF >>= λ h. require (can_read h.opened.access) EBADF >> (require (is_file h.opened) EISDIR >> Ok h)) >>= read_from s o n span

reads_with : (s : World) (x : Option Handle) (o n : ℕ) (span : Result Destination Errno) → read_meaning s o n x span ≡ read_with s o n span x
unfolding read_with
reads_with s x o n span = refl

-- The effect of a read is the same where worlds agree on its content.
effect_same : (s u : World) (h : Handle) (o n : ℕ) (to : Destination) → IsWorld s → Agree (content o n h.opened.target.node h) s u → read_effect u o n h to ≡ read_effect s o n h to
unfolding content
effect_same s u h o n to w a =
    elim (o == at_position) as (λ b. Agree (used b) s u → shape b (begin b u) (moved (begin b u) u) ≡ shape b (begin b s) (moved (begin b s) s)) [
      | true ↦ λ k.
          let size = agree_head s u (size_of i) false _ k in
          let place = agree_head s u (position_of h.description) true [] (agree_tail s u _ _ (agree_tail s u _ _ k)) in
          ap (λ at. shape true at (moved at u)) (ap (λ x. unwrap_or x 0) (sym place))
          ∙ ap (shape true (begin true s)) (range_same s u i n (begin true s) 0 file_limit w size (agree_left s u _ _ (agree_tail s u _ (reads (range_of i 0 file_limit) ∷ [] ++ _) k)) (λ p b c d. (omega arith, d)))
      | false ↦ λ k.
          let size = agree_head s u (size_of i) false _ k in
          ap (shape false o) (range_same s u i n o o (o + n) w size (agree_tail s u (reads (one (size_of i))) _ k) (λ p b c d. (b, c)))
    ] a
  where
    i : ℕ
    i = h.opened.target.node

    used : Bool → Footprint
    used b = reads (one (size_of i)) ∷ reads (transfer_range i b o n) ∷ cond b (writes (one (position_of h.description)) ∷ []) []

    begin : Bool → World → ℕ
    begin b z = cond b (unwrap_or (position z h.description) 0) o

    moved : ℕ → World → List ℕ
    moved at z = take n (drop at (bytes_in z i))

    shape : Bool → ℕ → List ℕ → Effect
    shape b at new = delivered to new (cond b (set_position h.description (at + length new) ∷ []) [])

-- What a read does with a handle is the same.
from_same : (s u : World) (o n : ℕ) (span : Result Destination Errno) (h : Handle) → IsWorld s → Agree (content o n h.opened.target.node h) s u → read_from u o n span h ≡ read_from s o n span h
unfolding read_from
from_same s u o n span h w a = let same = λ (to : Destination). effect_same s u h o n to w a in grind (arith, same)

with_same : (s u : World) (o n : ℕ) (span : Result Destination Errno) (x : Option Handle) → IsWorld s → ((h : Handle) → x ≡ Some h → Agree (of_file (content o n) h) s u) → read_with u o n span x ≡ read_with s o n span x
unfolding read_with
with_same s u o n span x w a = let same = λ (h : Handle). from_same s u o n span h w in grind (arith, same)

-- A read answers and changes the same in every world that agrees on what it has of the file.
pub read_same : (s u : World) (x : Option Handle) (o n : ℕ) (span : Result Destination Errno) → IsWorld s → Agree (content_of (read_content o n) x) s u → read_meaning u o n x span ≡ read_meaning s o n x span
unfolding content
read_same s u x o n span w a =
    reads_with u x o n span
    ∙ with_same s u o n span x w (agree_on_content s u (content o n) x a)
    ∙ sym (reads_with s x o n span)
