-- Operations on an open file: what worlds that agree on what it has of the file have in common, and what its row has.
use lib.Dec.{eqb_refl, le→leb, lt→ltb}
use Rattle.std.proofs.Common.{arith}
use Rattle.std.specs.Prelude.{◌≡◌, ℕ, Bool, cond, not, ◌≤◌, T, List, [], ◌∷◌, length, Option, Some, None, Result, ok_or, refl, unwrap_or, IfSome, IsSome, leb, ltb, min, ◌<◌, ◌==◌}
use Rattle.std.specs.List.{list_any}
use Rattle.std.specs.Option.{option_map, option_and_then, is_some}
use mathlib.Core.Path.{sym, subst, ap, ◌∙◌}
use Rattle.sqe_codec.specs.declared.errno.Errno.{Errno}
use Rattle.sqe_codec.specs.declared.errno.Errno.TheVariants.{EBADF}
use Rattle.trace_format.specs.declared.trace.Access.TheVariants.{Read}
use Rattle.recording.specs.declared.recording.Recording.{Recording}
use Rattle.sqe_codec.specs.Answers.{◌>>=◌}
use Rattle.entry_checks.specs.Operation.{File, file_limit}
use Rattle.finite_maps.specs.Table.{get}
use Rattle.world_parts.specs.World.{World, IsWorld, kind, bytes, size, Opened, opened}
use Rattle.file_tree.specs.Tree.{Kind, a_directory, Node, kind_of_node, bytes_of_node}
use Rattle.file_tree.specs.Walk.{is_directory}
use Rattle.op_meaning.specs.Site.{in_ring}
use Rattle.op_meaning.specs.Meaning.{Effect, Handle, handle, can_write, is_file, bytes_in}
use Rattle.world_parts.specs.Items.{size_of, value, Use, reads, Footprint, has_atom, Agree, byte_at, within}
use Rattle.foot_print.specs.Footprint.{range_of, of_file, content_of, file_seen}
use Rattle.world_parts.proofs.Collision.{true_of, both, either_left}
use Rattle.foot_print.proofs.Agreement.{handle_same}

-- An operation with what is open answers the same where it does so with the file.
pub with_handle : (x : Option Handle) (g d : Handle → Result Effect Errno) → ((h : Handle) → x ≡ Some h → d h ≡ g h) → (ok_or x EBADF >>= d) ≡ (ok_or x EBADF >>= g)
with_handle None g d same = refl
with_handle (Some h) g d same = same h refl

-- What an operation has of what is open is the same in two worlds where what it has of a file is.
pub content_same : (s u : World) (c d : ℕ → Handle → Footprint) → ((h : Handle) → Agree (c h.opened.target.node h) s u → d h.opened.target.node h ≡ c h.opened.target.node h)
    → (x : Option Handle) → Agree (content_of c x) s u → content_of d x ≡ content_of c x
content_same s u c d same None a = refl
content_same s u c d same (Some h) a = let alike = same h in grind arith

-- What a file's part has, the operation has.
pub in_content : (c : ℕ → Handle → Footprint) (p : Use → Bool) (x : Option Handle) (h : Handle) → x ≡ Some h → T (is_file h.opened) → T (list_any p (c h.opened.target.node h)) → T (list_any p (content_of c x))
in_content c p x h e i m = subst (λ y. T (list_any p (content_of c y))) (sym e) (subst (λ b. T (list_any p (cond b (c h.opened.target.node h) []))) (sym (true_of _ i)) m)

-- What worlds agree on of the file, where it is one.
pub on_its_file : (s u : World) (c : ℕ → Handle → Footprint) (h : Handle) → T (is_file h.opened) → Agree (of_file c h) s u → Agree (c h.opened.target.node h) s u
on_its_file s u c h i a = subst (λ b. Agree (cond b (c h.opened.target.node h) []) s u) (true_of _ i) a

-- A handle is of an open description.
pub handle_opened : (t : Recording) (s : World) (r : ℕ) (f : File) (h : Handle) → handle (in_ring t r) s f ≡ Some h → opened s h.description ≡ Some h.opened
handle_opened t s r f h e = grind arith

pub kind_of : (k : Option Kind) → T (is_directory k) → k ≡ Some a_directory
kind_of k h = grind arith

-- What is opened is there, and a directory only to be read.
pub record IsSound (o : Opened) : Type 0 where
  pub is_there : IsSome o.target.kind
  pub directory_is_read : o.target.kind ≡ Some a_directory → o.access ≡ Read

-- What is open is sound, if anything is.
abbrev pub AllSound : Option Handle → Type 0
AllSound x = (h : Handle) → x ≡ Some h → IsSound h.opened

pub handles_sound : (t : Recording) (s : World) (r : ℕ) (f : File) → IsWorld s → AllSound (handle (in_ring t r) s f)
handles_sound t s r f w h e =
    let o = handle_opened t s r f h e in
    record {
      is_there = subst (λ x. IfSome x (λ y. IsSome y.target.kind)) o (w.descriptions_lead h.description);
      directory_is_read = subst (λ x. IfSome x (λ y. y.target.kind ≡ Some a_directory → y.access ≡ Read)) o (w.directories_are_read h.description);
    }

-- It is so too in what agrees with a world on what leads to it.
pub handles_sound_too : (t : Recording) (s u : World) (r : ℕ) (f : File) → IsWorld s → Agree (file_seen (in_ring t r) s f) s u → AllSound (handle (in_ring t r) u f)
handles_sound_too t s u r f w a h e = handles_sound t s r f w h (sym (handle_same t s u r f a) ∙ e)

-- What can be written is a file.
pub writable_is_file : (h : Handle) → IsSound h.opened → T (can_write h.opened.access) → T (is_file h.opened)
writable_is_file h sound c = grind (arith, kind_of h.opened.target.kind)

-- A handle's kind is that of its node.
handle_kind : (s : World) (d : ℕ) (o : Opened) → opened s d ≡ Some o → kind s o.target.node ≡ o.target.kind
handle_kind s d o e = grind arith

sized_file : (x : Option Node) → T (is_some (option_map kind_of_node x)) → T (not (is_directory (option_map kind_of_node x))) → T (is_some (option_map length (option_and_then bytes_of_node x)))
sized_file x h k = grind arith

-- What is written is a file that is there.
pub file_there : (t : Recording) (s : World) (r : ℕ) (f : File) (h : Handle) → IsSound h.opened → handle (in_ring t r) s f ≡ Some h → T (can_write h.opened.access) → T (is_some (size s h.opened.target.node))
file_there t s r f h sound e c =
    let same = handle_kind s h.description h.opened (handle_opened t s r f h e) in
    sized_file (get s.nodes h.opened.target.node) (subst (λ k. T (is_some k)) (sym same) (subst T (sym sound.is_there) tt)) (subst (λ k. T (not (is_directory k))) (sym same) (writable_is_file h sound c))

-- The length of a file's bytes, by its size; a byte past it is zero.
pub length_by_size : (x : Option (List ℕ)) → length (unwrap_or x []) ≡ unwrap_or (option_map length x) 0
length_by_size x = grind arith

pub length_same : (s u : World) (i : ℕ) → value s (size_of i) ≡ value u (size_of i) → length (bytes_in u i) ≡ length (bytes_in s i)
length_same s u i z = length_by_size (bytes u i) ∙ ap (λ o. unwrap_or o 0) (sym z) ∙ sym (length_by_size (bytes s i))

-- Files fit too where what an access set has agrees with a world.
pub sizes_fit : (f : Footprint) (s u : World) → IsWorld s → Agree f s u → (i : ℕ) → T (has_atom f (size_of i)) → IfSome (size u i) (λ n. n ≤ file_limit)
sizes_fit f s u w a i m = subst (λ x. IfSome x (λ n. n ≤ file_limit)) (a.same (size_of i) m) (w.files_fit i)

-- No file of a world is longer than the largest size.
pub bounded : (s : World) (i : ℕ) → IsWorld s → length (bytes_in s i) ≤ file_limit
bounded s i w = let fits = w.files_fit i in grind arith

-- An offset of a range below the largest size is in the range's item.
pub in_range : (i low high p : ℕ) → low ≤ p → p < high → p < file_limit → T (has_atom (reads (range_of i low high) ∷ []) (byte_at i p))
in_range i low high p below above limit =
    let inside : p < min high file_limit = omega arith in
    either_left _ _ (both (i == i) (within low (min high file_limit) p) (eqb_refl i) (both (leb low p) (ltb p (min high file_limit)) (le→leb low p below) (lt→ltb p _ inside)))
