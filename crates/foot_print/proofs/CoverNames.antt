-- The access sets of places that make, link, rename and remove names cover them.
use native.Mathlib.Omega.{arith}
use Rattle.std.specs.Prelude.{◌≡◌, ℕ, Bool, true, false, cond, not, ◌&&◌, ◌==◌, [], ◌∷◌, ◌++◌, Option, Some, None, Result, Ok, Err, ok_or, is_some, is_none, refl}
use Rattle.std.specs.List.{list_any}
use mathlib.Core.Path.{subst, ap}
use lib.Dec.{eqb_refl}
use Rattle.sqe_codec.specs.declared.errno.Errno.{Errno}
use Rattle.sqe_codec.specs.declared.errno.Errno.TheVariants.{EPERM, ENOENT, EEXIST, ENOTDIR, EISDIR, EINVAL, ENOTEMPTY}
use Rattle.recording.specs.declared.recording.Recording.{Recording}
use Rattle.sqe_codec.specs.Answers.{◌>>=◌, ◌>>◌, require, each_ok}
use Rattle.entry_checks.specs.Operation.{unlinkat, mkdirat, linkat, renameat, Path}
use Rattle.world_parts.specs.World.{World, kind, set_name, make_node, apply}
use Rattle.file_tree.specs.Tree.{a_directory, Target}
use Rattle.file_tree.specs.Walk.{Place, walk, is_directory}
use Rattle.op_meaning.specs.Meaning.{Effect, done, made_node, new_directory, has_names, may_remove, goes_below, exchange_meaning, exchanged, move_meaning, moved_name, may_replace, rename_to, unlinkat_meaning}
use Rattle.world_parts.specs.Items.{name_at, names_in, one, reads, writes, Footprint, Agree, Holds}
use Rattle.foot_print.specs.Footprint.{name_written, name_freed, path_reads, directory_names}
use Rattle.foot_print.specs.Laws.{Awaits, Unused}
use Rattle.world_parts.proofs.Collision.{either_left, same_atom_refl}
use Rattle.foot_print.proofs.Agreement.{agree_left, agree_right, agree_head}
use Rattle.foot_print.proofs.Awaiting.{node_unused}
use Rattle.world_parts.proofs.ChangesOfNames.{Leads, naming-kind}
use Rattle.world_parts.proofs.ChangesOfMaking.{made-kind}
use Rattle.foot_print.proofs.CoverChanges.{SupportsAll}
use Rattle.foot_print.proofs.CoverOperation.{RowSupports, Owes}
use Rattle.foot_print.proofs.CoverWalk.{names_on_same, walk_leads}
use Rattle.foot_print.proofs.Accepted.{err_apart, ok_bind, ok_then, ok_require, ok_some, supports_effect, holds_left, holds_right, holds_over, holds_ok}

-- What is written of a name.
-- Names lead to the nodes of other worlds alike, where those have the same kinds.
pub leads_after : (s u : World) (x : Option Target) → ((i : ℕ) → kind u i ≡ kind s i) → Leads s x → Leads u x
leads_after s u x g h = grind arith

-- One name that is set, and two.
pub name_supported : (f : Footprint) (s : World) (q : Place) (x : Option Target) → Holds f (name_written q) → Leads s x → SupportsAll f s (set_name q.parent q.name x ∷ [])
name_supported f s q x h l =
    let name = h.writes (name_at q.parent q.name) (either_left _ _ (same_atom_refl (name_at q.parent q.name))) in
    ((l, name, h.writes (names_in q.parent) (either_left _ _ (eqb_refl q.parent))), tt)

pub two_names_supported : (f : Footprint) (s : World) (p q : Place) (x y : Option Target) → Holds f (name_written p) → Holds f (name_written q) → Leads s x → Leads s y → SupportsAll f s (set_name p.parent p.name x ∷ set_name q.parent q.name y ∷ [])
two_names_supported f s p q x y h k l m = (
  (name_supported f s p x h l).0,
  name_supported f (apply (set_name p.parent p.name x) s) q y k (leads_after s (apply (set_name p.parent p.name x) s) y (λ i. naming-kind p.name x s p.parent i) m),
)

-- Making a directory.
mkdirat_supports : (t : Recording) (k r : ℕ) (s : World) (p : Path) → Unused t k s → RowSupports t k r s (mkdirat p)
mkdirat_supports t k r s p w x h =
    let m = made_node t k in
    let uses : Place → Footprint = λ q. name_written q ++ writes (one (names_in m)) ∷ [] in
    let at = ok_bind (walk s.nodes p) (λ q. require (is_none q.target) EEXIST >> Ok (done (make_node m a_directory ∷ set_name q.parent q.name (Some (new_directory m)) ∷ []))) x h in
    let q = at.0 in
    let here = holds_ok uses (walk s.nodes p) q at.1 in
    supports_effect (each_ok uses (walk s.nodes p)) s _ x (ok_require (is_none q.target) EEXIST _ x at.2).0 (
      (node_unused t k s w, here.writes (names_in m) ((holds_right (name_written q) (writes (one (names_in m)) ∷ [])).writes (names_in m) (either_left _ _ (eqb_refl m)))),
      name_supported _ (apply (make_node m a_directory) s) q (Some (new_directory m)) (holds_over _ (uses q) (name_written q) here (holds_left (name_written q) (writes (one (names_in m)) ∷ []))) (made-kind s m a_directory),
    )

pub mkdirat_owes : (t : Recording) (k r : ℕ) (s : World) (p : Path) → Awaits t k s → Owes t k r (mkdirat p) s
mkdirat_owes t k r s p w = record { tells = λ u b a d. record { same_meaning = refl; same_uses = λ c. refl }; supports = λ u v a d. mkdirat_supports t k r u p v }

-- Linking.
linkat_supports : (t : Recording) (k r : ℕ) (s : World) (old new : Path) → RowSupports t k r s (linkat old new)
linkat_supports t k r s old new x h =
    let p = ok_bind (walk s.nodes old) _ x h in
    let q = ok_bind (walk s.nodes new) _ x p.2 in
    let y = ok_bind (ok_or p.0.target ENOENT) _ x q.2 in
    let last = (ok_require (not (is_directory y.0.kind)) EPERM _ x (ok_require (is_none q.0.target) EEXIST _ x y.2).0).0 in
    supports_effect (each_ok name_written (walk s.nodes new)) s _ x last
    (name_supported (each_ok name_written (walk s.nodes new)) s q.0 (Some y.0) (holds_ok name_written (walk s.nodes new) q.0 q.1)
    (subst (Leads s) (ok_some p.0.target ENOENT y.0 y.1) (walk_leads s old p.0 p.1)))

pub linkat_owes : (t : Recording) (k r : ℕ) (s : World) (old new : Path) → Awaits t k s → Owes t k r (linkat old new) s
linkat_owes t k r s old new w = record { tells = λ u b a d. record { same_meaning = refl; same_uses = λ c. refl }; supports = λ u v a d. linkat_supports t k r u old new }

-- Removing.
-- The test of a directory's names is the same where worlds agree on what is read of them.
has_names_same : (s u : World) (y : Target) → Agree (directory_names (Some y)) s u → (is_directory y.kind && has_names u y.node) ≡ (is_directory y.kind && has_names s y.node)
has_names_same s u y a =
    let same = λ (k : Agree (reads (one (names_in y.node)) ∷ []) s u). agree_head s u (names_in y.node) false [] k in
    grind (arith, same)

may_remove_same : (s u : World) (removes : Bool) (y : Target) → Agree (cond removes (directory_names (Some y)) []) s u → may_remove u removes y ≡ may_remove s removes y
may_remove_same s u false y a = refl
may_remove_same s u true y a = let same = has_names_same s u y a in grind arith

removal_same : (s u : World) (removes : Bool) (z : Result Place Errno) → Agree (each_ok (name_freed removes) z) s u → unlinkat_meaning u removes z ≡ unlinkat_meaning s removes z
removal_same s u removes (Err e) a = refl
removal_same s u removes (Ok q) a = at q.target (agree_right s u (name_written q) _ a)
  where
    at : (y : Option Target) → Agree (cond removes (directory_names y) []) s u → (ok_or y ENOENT >>= λ x. may_remove u removes x >> Ok (done (set_name q.parent q.name None ∷ []))) ≡ (ok_or y ENOENT >>= λ x. may_remove s removes x >> Ok (done (set_name q.parent q.name None ∷ [])))
    at None k = refl
    at (Some x) k = ap (λ m. m >> Ok (done (set_name q.parent q.name None ∷ []))) (may_remove_same s u removes x k)

unlinkat_supports : (t : Recording) (k r : ℕ) (s : World) (p : Path) (removes : Bool) → RowSupports t k r s (unlinkat p removes)
unlinkat_supports t k r s p removes x h =
    let q = ok_bind (walk s.nodes p) _ x h in
    let y = ok_bind (ok_or q.0.target ENOENT) _ x q.2 in
    let row_is = each_ok (name_freed removes) (walk s.nodes p) in
    supports_effect row_is s _ x (ok_then (may_remove s removes y.0) _ x y.2).0
    (name_supported row_is s q.0 None
    (holds_over row_is (name_freed removes q.0) (name_written q.0) (holds_ok (name_freed removes) (walk s.nodes p) q.0 q.1) (holds_left (name_written q.0) (cond removes (directory_names q.0.target) [])))
    tt)

pub unlinkat_owes : (t : Recording) (k r : ℕ) (s : World) (p : Path) (removes : Bool) → Awaits t k s → Owes t k r (unlinkat p removes) s
unlinkat_owes t k r s p removes w = record { tells = λ u b a d. record { same_meaning = removal_same s u removes (walk s.nodes p) d; same_uses = λ c. refl }; supports = λ u v a d. unlinkat_supports t k r u p removes }

-- Renaming.
module _ (s u : World) (old new : Path) (from : Agree (path_reads s old) s u) (to : Agree (path_reads s new) s u) (flags : ℕ) where
  below_same : (x : Target) (p : Path) → Agree (path_reads s p) s u → goes_below u x p ≡ goes_below s x p
  below_same x p a = λ i. is_directory x.kind && list_any (λ e. e.0 == x.node) (names_on_same s u p a i)

  exchange_same : (p q : Place) (x : Target) (z : Option Target) → exchange_meaning u old new p q x z ≡ exchange_meaning s old new p q x z
  exchange_same p q x None = refl
  exchange_same p q x (Some y) = λ i. require (not (below_same x new to i) && not (below_same y old from i)) EINVAL >> Ok (exchanged p q x y)

  may_replace_same : (x y : Target) → Agree (directory_names (Some y)) s u → may_replace u x y ≡ may_replace s x y
  may_replace_same x y a = λ i.
      require (not (is_directory x.kind && not (is_directory y.kind))) ENOTDIR >> (require (not (not (is_directory x.kind) && is_directory y.kind)) EISDIR >> require (not (has_names_same s u y a i)) ENOTEMPTY)

  move_same : (p q : Place) (x : Target) (z : Option Target) → Agree (directory_names z) s u → move_meaning u p q x z ≡ move_meaning s p q x z
  move_same p q x None a = refl
  move_same p q x (Some y) a = λ i. cond (x.node == y.node) (Ok (done [])) (may_replace_same x y a i >> Ok (moved_name p q x))

  rename_same : (p q : Place) (x : Target) → Agree (directory_names q.target) s u → rename_to u old new flags p q x ≡ rename_to s old new flags p q x
  rename_same p q x a = λ i.
      cond (flags == 2) (exchange_same p q x q.target i)
      (require (not (flags == 1 && is_some q.target)) EEXIST >> require (not (below_same x new to i)) EINVAL >> move_same p q x q.target a i)

  at_target : (p : Place) (z : Result Place Errno) → Agree (each_ok (name_freed true) z) s u
      → (z >>= λ q. ok_or p.target ENOENT >>= λ x. rename_to u old new flags p q x) ≡ (z >>= λ q. ok_or p.target ENOENT >>= λ x. rename_to s old new flags p q x)
  at_target p (Ok q) a = λ i. ok_or p.target ENOENT >>= λ x. rename_same p q x (agree_right s u (name_written q) (directory_names q.target) a) i
  at_target p (Err e) a = refl

module _ (f : Footprint) (s : World) (p q : Place) (at_old : Holds f (name_written p)) (at_new : Holds f (name_written q)) (x : Target) (known : Leads s (Some x)) (e : Effect) where
  exchange_supports : (old new : Path) (z : Option Target) → Leads s z → exchange_meaning s old new p q x z ≡ Ok e → SupportsAll f s e.changes
  exchange_supports old new None l h = absurd (err_apart h)
  exchange_supports old new (Some y) l h = by (x.node == y.node) (ok_require (not (goes_below s x new) && not (goes_below s y old)) EINVAL _ e h).0
    where
      by : (b : Bool) → ◌≡◌ {A = Result Effect Errno} (Ok (cond b (done []) (done (set_name p.parent p.name (Some y) ∷ set_name q.parent q.name (Some x) ∷ [])))) (Ok e) → SupportsAll f s e.changes
      by true g = supports_effect f s (done []) e g tt
      by false g = supports_effect f s _ e g (two_names_supported f s p q (Some y) (Some x) at_old at_new l known)

  move_supports : (z : Option Target) → move_meaning s p q x z ≡ Ok e → SupportsAll f s e.changes
  move_supports z h = let both = two_names_supported f s p q None (Some x) at_old at_new tt known in grind arith

  rename_supports : (old new : Path) (flags : ℕ) → Leads s q.target → rename_to s old new flags p q x ≡ Ok e → SupportsAll f s e.changes
  rename_supports old new flags l h = grind (arith, exchange_supports, move_supports)

renameat_supports : (t : Recording) (k r : ℕ) (s : World) (old new : Path) (flags : ℕ) → RowSupports t k r s (renameat old new flags)
renameat_supports t k r s old new flags e h =
    let p = ok_bind (walk s.nodes old) _ e h in
    let q = ok_bind (walk s.nodes new) _ e p.2 in
    let x = ok_bind (ok_or p.0.target ENOENT) _ e q.2 in
    let names_old = each_ok name_written (walk s.nodes old) in
    let names_new = each_ok (name_freed true) (walk s.nodes new) in
    let row_is = names_old ++ names_new in
    let at_old = holds_over row_is names_old (name_written p.0) (holds_left names_old names_new) (holds_ok name_written (walk s.nodes old) p.0 p.1) in
    let at_new = holds_over row_is (name_freed true q.0) (name_written q.0) (holds_over row_is names_new (name_freed true q.0) (holds_right names_old names_new) (holds_ok (name_freed true) (walk s.nodes new) q.0 q.1)) (holds_left (name_written q.0) (directory_names q.0.target)) in
    rename_supports row_is s p.0 q.0 at_old at_new x.0 (subst (Leads s) (ok_some p.0.target ENOENT x.0 x.1) (walk_leads s old p.0 p.1)) e old new flags (walk_leads s new q.0 q.1) x.2

pub renameat_owes : (t : Recording) (k r : ℕ) (s : World) (old new : Path) (flags : ℕ) → Awaits t k s → Owes t k r (renameat old new flags) s
renameat_owes t k r s old new flags w = record {
  tells = λ u b a d.
      let from = agree_left s u (path_reads s old) (path_reads s new) a in
      let to = agree_right s u (path_reads s old) (path_reads s new) a in
      let freed = agree_right s u (each_ok name_written (walk s.nodes old)) (each_ok (name_freed true) (walk s.nodes new)) d in
      record { same_meaning = λ i. walk s.nodes old >>= λ p. at_target s u old new from to flags p (walk s.nodes new) freed i; same_uses = λ c. refl };
  supports = λ u v a d. renameat_supports t k r u old new flags;
}
