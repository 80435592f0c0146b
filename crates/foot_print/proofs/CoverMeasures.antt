-- Operations that tell the kind and the size of what a path leads to, or of what is open.
use Rattle.std.specs.Prelude.{◌≡◌, ℕ, true, false, cond, not, length, [], ◌∷◌, Option, Some, None, Result, Ok, Err, ok_or, refl}
use mathlib.Core.Path.{ap}
use Rattle.sqe_codec.specs.declared.errno.Errno.{Errno}
use Rattle.sqe_codec.specs.declared.errno.Errno.TheVariants.{EBADF, ENOENT}
use Rattle.recording.specs.declared.recording.Recording.{Recording}
use Rattle.sqe_codec.specs.Answers.{◌>>=◌, each_ok}
use Rattle.entry_checks.specs.Operation.{statx, statx_file, statx_root, File, Path}
use Rattle.world_parts.specs.World.{World}
use Rattle.file_tree.specs.Tree.{Target}
use Rattle.file_tree.specs.Walk.{Place, walk, is_directory}
use Rattle.op_meaning.specs.Site.{in_ring}
use Rattle.op_meaning.specs.Meaning.{Effect, Handle, handle, bytes_in, node_told, measured, statx_meaning}
use Rattle.world_parts.specs.Items.{size_of, one, reads, Footprint, Agree}
use Rattle.foot_print.specs.Footprint.{tried, of_file, moved_uses, read_content, size_read, measured_at}
use Rattle.foot_print.specs.Laws.{Awaits}
use Rattle.foot_print.proofs.Agreement.{agree_left, agree_head, agree_on_content}
use Rattle.foot_print.proofs.Accepted.{ok_bind, supports_effect}
use Rattle.foot_print.proofs.OpenFile.{with_handle, length_same}
use Rattle.foot_print.proofs.CoverChanges.{SupportsAll}
use Rattle.foot_print.proofs.CoverOperation.{Owes}

-- It changes nothing.
nothing_changes : (f : Footprint) (s : World) (x : Target) → SupportsAll f s (measured s x).changes
nothing_changes f s x = elim (is_directory x.kind) as (λ b. SupportsAll f s (cond b (node_told 1 0) (node_told 2 (length (bytes_in s x.node)))).changes) [ true ↦ tt | false ↦ tt ]

module _ (s u : World) where
  -- Worlds that agree on the size of a file tell the same of it.
  told_same : (x : Target) → Agree (size_read (Some x)) s u → measured u x ≡ measured s x
  told_same x a = elim (is_directory x.kind) as (λ b. Agree (cond b [] (reads (one (size_of x.node)) ∷ [])) s u → cond b (node_told 1 0) (node_told 2 (length (bytes_in u x.node))) ≡ cond b (node_told 1 0) (node_told 2 (length (bytes_in s x.node)))) [
    | true ↦ λ k. refl
    | false ↦ λ k. ap (node_told 2) (length_same s u x.node (agree_head s u (size_of x.node) false [] k))
  ] a

  path_told_same : (z : Result Place Errno) → Agree (each_ok measured_at z) s u → statx_meaning u z ≡ statx_meaning s z
  path_told_same (Err e) a = refl
  path_told_same (Ok q) a = at q.target a
    where
      at : (y : Option Target) → Agree (size_read y) s u → ◌≡◌ {A = Result Effect Errno} (ok_or y ENOENT >>= λ x. Ok (measured u x)) (ok_or y ENOENT >>= λ x. Ok (measured s x))
      at None k = refl
      at (Some x) k = ap (λ (m : Effect). Ok m) (told_same x k)

  open_told_same : (h : Handle) → Agree (of_file (read_content 0 0) h) s u → measured u h.opened.target ≡ measured s h.opened.target
  open_told_same h a =
      let i = h.opened.target.node in
      elim (is_directory h.opened.target.kind) as (λ b. Agree (cond (not b) (read_content 0 0 i h) []) s u → cond b (node_told 1 0) (node_told 2 (length (bytes_in u i))) ≡ cond b (node_told 1 0) (node_told 2 (length (bytes_in s i)))) [
        | true ↦ λ k. refl
        | false ↦ λ k. ap (node_told 2) (length_same s u i (agree_head s u (size_of i) false _ k))
      ] a

pub statx_owes : (t : Recording) (k r : ℕ) (s : World) (p : Path) → Awaits t k s → Owes t k r (statx p) s
statx_owes t k r s p w = record {
  tells = λ u b a d. record { same_meaning = path_told_same s u (walk s.nodes p) d; same_uses = λ c. refl };
  supports = λ u v a d e q.
      let at = ok_bind (walk u.nodes p) _ e q in
      let x = ok_bind (ok_or at.0.target ENOENT) _ e at.2 in
      let row = each_ok measured_at (walk u.nodes p) in
      supports_effect row u (measured u x.0) e x.2 (nothing_changes row u x.0);
}

pub statx_file_owes : (t : Recording) (k r : ℕ) (s : World) (f : File) → Awaits t k s → Owes t k r (statx_file f) s
statx_file_owes t k r s f w = record {
  tells = λ u b a d. record {
    same_meaning = with_handle (handle (in_ring t r) s f) (λ h. Ok (measured s h.opened.target)) (λ h. Ok (measured u h.opened.target)) (λ h e.
        ap (λ (m : Effect). Ok m) (open_told_same s u h (agree_on_content s u (read_content 0 0) (handle (in_ring t r) s f) (agree_left s u _ _ d) h e)));
    same_uses = λ c. refl;
  };
  supports = λ u v a d e q.
      let there = handle (in_ring t r) u f in
      let m = ok_bind (ok_or there EBADF) _ e q in
      let row = moved_uses u (tried true) false 0 0 there in
      supports_effect row u (measured u m.0.opened.target) e m.2 (nothing_changes row u m.0.opened.target);
}

pub statx_root_owes : (t : Recording) (k r : ℕ) (s : World) → Awaits t k s → Owes t k r statx_root s
statx_root_owes t k r s w = record {
  tells = λ u b a d. record { same_meaning = refl; same_uses = λ c. refl };
  supports = λ u v a d e q. supports_effect [] u (node_told 1 0) e q tt;
}
