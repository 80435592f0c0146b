-- Operations on open files leave a world: their changes keep all nodes, names and descriptions.
use Rattle.std.specs.Prelude.{◌≡◌, ℕ, true, false, cond, not, ◌&&◌, ◌==◌, ltb, leb, ◌+◌, ◌^◌, ◌≤◌, List, [], ◌∷◌, length, Option, None, Result, Ok, ok_or, refl, IfSome}
use Rattle.std.specs.Option.{option_map, option_and_then}
use Rattle.std.proofs.Math.ListN.{length-take}
use mathlib.Core.Path.{sym, subst}
use native.Mathlib.Omega.{arith}
use lib.Dec.{ltb→lt, leb→le}
use Rattle.sqe_codec.specs.declared.errno.Errno.{Errno}
use Rattle.sqe_codec.specs.declared.errno.Errno.TheVariants.{EBADF, EINVAL, EFBIG, ENOENT, EOPNOTSUPP}
use Rattle.recording.specs.declared.recording.Recording.{Recording}
use Rattle.entry_checks.specs.Operation.{file_limit, File}
use Rattle.finite_maps.specs.Table.{get, adjust_number}
use Rattle.world_parts.specs.World.{World, IsWorld, name, Change, set_slot, set_descriptor, set_position, set_size, write_bytes, zero_bytes, write_buffer, break_chain, apply}
use Rattle.file_tree.specs.Tree.{IsTree, Node, Target, bytes_of_node, rewritten_node}
use Rattle.file_tree.specs.Walk.{Place}
use Rattle.extent_bytes.specs.Bytes.{resized, overwritten, zeroed}
use Rattle.op_meaning.specs.Site.{in_ring}
use Rattle.op_meaning.specs.Meaning.{Effect, done, made_node, made_description, Handle, handle, can_write, Destination, advance, read_meaning, write_meaning, Allocation, extend, reserve, punch, zero_extend, zero_within, allocation, allocate, fallocate_meaning, ftruncate_meaning, close_meaning, measured, statx_meaning, statx_file_meaning}
use Rattle.world_parts.specs.Items.{description_at}
use Rattle.extent_bytes.proofs.Lengths.{length-zeroed, length-overwritten, length-resized}
use Rattle.world_parts.proofs.Changes.{adjusted, opened_kept, name_kept, rewriting-kind, rewriting-names, rewriting-others, set_position-value}
use Rattle.foot_print.proofs.Accepted.{ok_same, ok_bind, ok_require}
use Rattle.world_parts.proofs.KeepWorld.{IsSound, sound, is_world, sound_kept, slotting_sound, holding_sound, breaking_world, AllMakeOnly}
use Rattle.foot_print.proofs.OpenFile.{bounded}
use Rattle.foot_print.proofs.KeepNames.{Leaves}

-- A change of what files, buffers and positions hold, within the largest size; or one that empties a slot or descriptor.
abbrev pub OfContents : Change → Type 0
OfContents (set_position d p) = Unit {0}
OfContents (set_size i n) = n ≤ file_limit
OfContents (write_bytes i at new) = at + length new ≤ file_limit
OfContents (zero_bytes i low high) = Unit {0}
OfContents (write_buffer r b at new) = Unit {0}
OfContents (set_slot r n None) = Unit {0}
OfContents (set_descriptor n None) = Unit {0}
OfContents (break_chain c b) = Unit {0}
OfContents _ = ⊥

abbrev pub AllOfContents : List Change → Type 0
AllOfContents [] = Unit {0}
AllOfContents (c ∷ cs) = OfContents c × AllOfContents cs

-- A file's bytes are rewritten within the largest size.
rewriting_world : (s : World) (i : ℕ) (f : List ℕ → List ℕ) → ((bs : List ℕ) → length bs ≤ file_limit → length (f bs) ≤ file_limit) → IsWorld s → IsWorld (record s { nodes = adjust_number (rewritten_node f) s.nodes i })
rewriting_world s i f g w =
    let after : World = record s { nodes = adjust_number (rewritten_node f) s.nodes i } in
    let look : name after ≡ name s = λ j e m. name_kept s (adjust_number (rewritten_node f) s.nodes i) (rewriting-kind f s i) e m (rewriting-names f s i e) j in
    is_world after (subst IsTree (sym look) w.tree)
    (sound_kept s after (rewriting-kind f s i 0) (opened_kept s (adjust_number (rewritten_node f) s.nodes i) (rewriting-kind f s i)) (λ r n. refl) (λ n. refl)
    (λ j. subst (λ x. IfSome (option_map length (option_and_then bytes_of_node x)) (λ n. n ≤ file_limit)) (sym (adjusted (rewritten_node f) s.nodes i j))
    (elim (j == i) as (λ b. IfSome (option_map length (option_and_then bytes_of_node (cond b (option_map (rewritten_node f) (get s.nodes j)) (get s.nodes j)))) (λ n. n ≤ file_limit)) [ true ↦ fits (get s.nodes j) (w.files_fit j) | false ↦ w.files_fit j ]))
    (λ j. subst (λ x. IfSome x (λ n. n ≡ 0)) (sym (rewriting-others f s i j)) (w.all_shown j))
    (sound s w))
  where
    fits : (x : Option Node) → IfSome (option_map length (option_and_then bytes_of_node x)) (λ n. n ≤ file_limit) → IfSome (option_map length (option_and_then bytes_of_node (option_map (rewritten_node f) x))) (λ n. n ≤ file_limit)
    fits x h = grind (arith, g)

pub contents_world : (s : World) (c : Change) → OfContents c → IsWorld s → IsWorld (apply c s)
contents_world s (set_position d p) h w = is_world (apply (set_position d p) s) w.tree (sound_kept s (apply (set_position d p) s) refl (λ e. set_position-value s d p (description_at e)) (λ r n. refl) (λ n. refl) w.files_fit w.all_shown (sound s w))
contents_world s (set_size i n) h w = rewriting_world s i (λ bs. resized bs n) (λ bs k. subst (λ x. x ≤ file_limit) (sym (length-resized bs n)) h) w
contents_world s (write_bytes i at new) h w = rewriting_world s i (λ bs. overwritten bs at new) (λ bs k. subst (λ x. x ≤ file_limit) (sym (length-overwritten bs at new)) (omega arith)) w
contents_world s (zero_bytes i low high) h w = rewriting_world s i (λ bs. zeroed bs low high) (λ bs k. (let l = length-zeroed bs low high in omega arith)) w
contents_world s (write_buffer r b at new) h w = assumption
contents_world s (set_slot r n None) h w = is_world (apply (set_slot r n None) s) w.tree (slotting_sound s r n None tt (sound s w))
contents_world s (set_descriptor n None) h w = is_world (apply (set_descriptor n None) s) w.tree (holding_sound s n None tt (sound s w))
contents_world s (break_chain c b) h w = breaking_world s c b w
contents_world s _ h w = absurd h

makes_nothing : (i d : ℕ) (c : Change) → OfContents c → Rattle.world_parts.proofs.KeepWorld.MakesOnly i d c
makes_nothing i d c h = grind arith

pub contents_leave : (t : Recording) (k : ℕ) (s : World) (cs : List Change) → AllOfContents cs → IsWorld s → Leaves t k s cs
contents_leave t k s [] h w = (w, tt)
contents_leave t k s (c ∷ cs) h w = (let rest = contents_leave t k (apply c s) cs h.1 (contents_world s c h.0 w) in (rest.0, (makes_nothing (made_node t k) (made_description t k) c h.0, rest.1)))

-- What the changes of accepted operations on open files are.
of_effect : (x y : Effect) → ◌≡◌ {A = Result Effect Errno} (Ok x) (Ok y) → AllOfContents x.changes → AllOfContents y.changes
of_effect x y h g = subst (λ (z : Effect). AllOfContents z.changes) (ok_same x y h) g

advances : (h : Handle) (o end : ℕ) → AllOfContents (advance o h end)
advances h o end = grind arith

pub read_contents : (t : Recording) (s : World) (r : ℕ) (f : File) (o n : ℕ) (span : Result Destination Errno) (x : Effect) → read_meaning s o n (handle (in_ring t r) s f) span ≡ Ok x → AllOfContents x.changes
read_contents t s r f o n span x h = grind (arith, advances)

pub write_contents : (t : Recording) (s : World) (r : ℕ) (f : File) (o : ℕ) (source : Result (List ℕ) Errno) (x : Effect) → write_meaning s o (handle (in_ring t r) s f) source ≡ Ok x → AllOfContents x.changes
write_contents t s r f o source x h = grind (arith, ltb→lt, length-take, advances)

pub fallocate_contents : (t : Recording) (s : World) (r : ℕ) (f : File) (o n mode : ℕ) (x : Effect) → IsWorld s → fallocate_meaning s o n mode (handle (in_ring t r) s f) ≡ Ok x → AllOfContents x.changes
fallocate_contents t s r f o n mode x w h =
    let g = ok_bind (ok_or (handle (in_ring t r) s f) EBADF) _ x h in
    let a = ok_bind (ok_or (allocation mode) EOPNOTSUPP) _ x (ok_require (ltb o (2 ^ 63) && not (n == 0) && ltb n (2 ^ 63)) EINVAL _ x g.2).0 in
    let last = ok_require (leb (o + n) file_limit) EFBIG _ x (ok_require (can_write g.0.opened.access) EBADF _ x a.2).0 in
    of_effect (done (allocate s g.0.opened.target.node o (o + n) a.0)) x last.0 (by g.0.opened.target.node (leb→le (o + n) file_limit last.1) a.0)
  where
    by : (i : ℕ) → o + n ≤ file_limit → (a : Allocation) → AllOfContents (allocate s i o (o + n) a)
    by i l extend = (let b = bounded s i w in (omega arith, tt))
    by i l reserve = tt
    by i l punch = (tt, tt)
    by i l zero_extend = (let b = bounded s i w in (omega arith, (tt, tt)))
    by i l zero_within = (tt, tt)

pub ftruncate_contents : (t : Recording) (s : World) (r : ℕ) (f : File) (n : ℕ) (x : Effect) → ftruncate_meaning n (handle (in_ring t r) s f) ≡ Ok x → AllOfContents x.changes
ftruncate_contents t s r f n x h = grind (arith, leb→le)

pub close_contents : (t : Recording) (s : World) (r : ℕ) (f : File) (x : Effect) → close_meaning (in_ring t r) s f ≡ Ok x → AllOfContents x.changes
close_contents t s r f x h = grind arith

measured_contents : (s : World) (x : Target) → AllOfContents (measured s x).changes
measured_contents s x = grind arith

pub statx_contents : (s : World) (z : Result Place Errno) (x : Effect) → statx_meaning s z ≡ Ok x → AllOfContents x.changes
statx_contents s z x h =
    let q = ok_bind z _ x h in
    let y = ok_bind (ok_or q.0.target ENOENT) _ x q.2 in
    of_effect (measured s y.0) x y.2 (measured_contents s y.0)

pub statx_file_contents : (s : World) (there : Option Handle) (x : Effect) → statx_file_meaning s there ≡ Ok x → AllOfContents x.changes
statx_file_contents s there x h =
    let g = ok_bind (ok_or there EBADF) _ x h in
    of_effect (measured s g.0.opened.target) x g.2 (measured_contents s g.0.opened.target)
