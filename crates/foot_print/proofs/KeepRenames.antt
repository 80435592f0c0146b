-- Renaming leaves a world.
use native.Mathlib.Omega.{arith}
use Rattle.std.proofs.lemmas.Bool.{eqb-false}
use Rattle.std.specs.Prelude.{◌≡◌, ℕ, Bool, true, false, cond, not, ◌&&◌, ◌==◌, T, List, [], ◌∷◌, Option, Some, None, Result, Ok, ok_or, is_some, refl}
use Rattle.std.specs.Str.{bytes_eq}
use mathlib.Core.Path.{sym, subst, ap, ◌∙◌}
use mathlib.Core.Logic.{inl, inr}
use Rattle.sqe_codec.specs.declared.errno.Errno.{Errno}
use Rattle.sqe_codec.specs.declared.errno.Errno.TheVariants.{ENOENT, EEXIST, EINVAL}
use Rattle.recording.specs.declared.recording.Recording.{Recording}
use Rattle.sqe_codec.specs.Answers.{◌>>◌, require}
use Rattle.entry_checks.specs.Operation.{renameat, Path}
use Rattle.world_parts.specs.World.{World, name, name_count, IsWorld, set_name, apply}
use Rattle.file_tree.specs.Tree.{a_directory, Target, IsTree}
use Rattle.file_tree.specs.Walk.{Place, walk, is_above, is_directory}
use Rattle.op_meaning.specs.Meaning.{Effect, done, goes_below, exchange_meaning, exchanged, move_meaning, moved_name, may_replace, rename_to}
use Rattle.world_parts.proofs.Collision.{left, right}
use Rattle.world_parts.proofs.Trees.{put, UpTo, MayPut, here_or_not, may_move, exchange_tree, remove_tree}
use Rattle.world_parts.proofs.ChangesOfNames.{Leads, naming-kind}
use Rattle.foot_print.proofs.CoverWalk.{walk_leads, walk_finds}
use Rattle.foot_print.proofs.CoverNames.{leads_after}
use Rattle.foot_print.proofs.Accepted.{err_apart, ok_bind, ok_then, ok_require, ok_some}
use Rattle.world_parts.proofs.KeepWorld.{sound, is_world, naming_sound, naming_names}
use Rattle.foot_print.proofs.KeepNames.{named_tree, not_passed, Leaves, Keeps, of_changes}

-- A directory that has a name is one.
has_count : (s : World) (d : ℕ) (n : List ℕ) (x : Target) → name s d n ≡ Some x → is_some (name_count s d) ≡ true
has_count s d n x h = grind arith

-- The names after one is set in a directory.
names_put : (s : World) (d : ℕ) (n : List ℕ) (x : Option Target) → Leads s x → is_some (name_count s d) ≡ true → name (apply (set_name d n x) s) ≡ put (name s) d n x
names_put s d n x l f = λ i e m. (naming_names s d n x l e m ∙ ap (λ b. cond (e == d && bytes_eq m n) (cond b x None) (name s e m)) f) i

-- A directory that the path doesn't lead below isn't where it ends, nor above.
not_below : (s : World) → IsTree (name s) → (p : Path) (q : Place) → walk s.nodes p ≡ Ok q → (x : Target) → T (not (goes_below s x p)) → x.kind ≡ Some a_directory → ¬ (UpTo (name s) x.node q.parent)
not_below s w p q h x g c = not_passed s w p q h x.node (subst (λ k. T (not (is_directory k && is_above s.nodes x.node p))) c g)

module _ (t : Recording) (k : ℕ) (s : World) (w : IsWorld s) (old new : Path) (p q : Place) (walked_old : walk s.nodes old ≡ Ok p) (walked_new : walk s.nodes new ≡ Ok q) (x : Target) (found : p.target ≡ Some x) where
  at : name s p.parent p.name ≡ Some x
  at = sym (walk_finds s old p walked_old) ∙ found

  led : Leads s (Some x)
  led = subst (Leads s) found (walk_leads s old p walked_old)

  move_leaves : T (not (goes_below s x new)) → Leaves t k s (set_name p.parent p.name None ∷ set_name q.parent q.name (Some x) ∷ [])
  move_leaves g =
      let without = apply (set_name p.parent p.name None) s in
      let look = names_put s p.parent p.name None tt (has_count s p.parent p.name x at) in (
        is_world (apply (set_name q.parent q.name (Some x)) without)
            (named_tree without q.parent q.name (Some x) (leads_after s without (Some x) (λ i. naming-kind p.name None s p.parent i) led)
            (subst IsTree (sym look) (remove_tree (name s) p.parent p.name w.tree))
            (subst (λ l. MayPut l q.parent q.name (Some x)) (sym look) (may_move (name s) w.tree p.parent q.parent p.name q.name x at (not_below s w.tree new q walked_new x g))))
            (naming_sound without q.parent q.name (Some x) (naming_sound s p.parent p.name None (sound s w))),
        (tt, (tt, tt)),
      )

  exchange_leaves : (y : Target) → q.target ≡ Some y → ¬ (x.node ≡ y.node) → T (not (goes_below s x new)) → T (not (goes_below s y old)) → Leaves t k s (set_name p.parent p.name (Some y) ∷ set_name q.parent q.name (Some x) ∷ [])
  exchange_leaves y f apart g h =
      let there : name s q.parent q.name ≡ Some y = sym (walk_finds s new q walked_new) ∙ f in
      let led_other : Leads s (Some y) = subst (Leads s) f (walk_leads s new q walked_new) in
      let between = apply (set_name p.parent p.name (Some y)) s in
      let look = names_put s p.parent p.name (Some y) led_other (has_count s p.parent p.name x at) in
      let led_after = leads_after s between (Some x) (λ i. naming-kind p.name (Some y) s p.parent i) led in
      let still : name between q.parent q.name ≡ Some y = ap (λ l. l q.parent q.name) look
      ∙ elim (here_or_not (name s) p.parent p.name (Some y) q.parent q.name) [ inl a ↦ a.0 | inr a ↦ a.0 ∙ there ] in
      let last = names_put between q.parent q.name (Some x) led_after (has_count between q.parent q.name y still) ∙ ap (λ l. put l q.parent q.name (Some x)) look in (
        is_world (apply (set_name q.parent q.name (Some x)) between)
            (subst IsTree (sym last) (exchange_tree (name s) w.tree p.parent q.parent p.name q.name x at (not_below s w.tree new q walked_new x g) y there apart (not_below s w.tree old p walked_old y h)))
            (naming_sound between q.parent q.name (Some x) (naming_sound s p.parent p.name (Some y) (sound s w))),
        (tt, (tt, tt)),
      )

  nothing : (e : Effect) → ◌≡◌ {A = Result Effect Errno} (Ok (done [])) (Ok e) → Leaves t k s e.changes
  nothing e h = of_changes t k s [] e h (w, tt)

  exchange_keeps : (e : Effect) (z : Option Target) → q.target ≡ z → exchange_meaning s old new p q x z ≡ Ok e → Leaves t k s e.changes
  exchange_keeps e None f h = absurd (err_apart h)
  exchange_keeps e (Some y) f h = (let tests = ok_require (not (goes_below s x new) && not (goes_below s y old)) EINVAL (Ok (exchanged p q x y)) e h in by tests.1 (x.node == y.node) refl tests.0)
    where
      by : T (not (goes_below s x new) && not (goes_below s y old)) → (b : Bool) → (x.node == y.node) ≡ b → ◌≡◌ {A = Result Effect Errno} (Ok (cond b (done []) (done (set_name p.parent p.name (Some y) ∷ set_name q.parent q.name (Some x) ∷ [])))) (Ok e) → Leaves t k s e.changes
      by c true n g = nothing e g
      by c false n g = of_changes t k s _ e g (exchange_leaves y f (eqb-false x.node y.node n) (left _ _ c) (right (not (goes_below s x new)) _ c))

  move_keeps : (e : Effect) → T (not (goes_below s x new)) → (z : Option Target) → move_meaning s p q x z ≡ Ok e → Leaves t k s e.changes
  move_keeps e c None h = of_changes t k s _ e h (move_leaves c)
  move_keeps e c (Some y) h = by (x.node == y.node) h
    where
      by : (b : Bool) → cond b (Ok (done [])) (may_replace s x y >> Ok (moved_name p q x)) ≡ Ok e → Leaves t k s e.changes
      by true g = nothing e g
      by false g = of_changes t k s _ e (ok_then (may_replace s x y) _ e g).0 (move_leaves c)

  rename_keeps : (e : Effect) (flags : ℕ) → rename_to s old new flags p q x ≡ Ok e → Leaves t k s e.changes
  rename_keeps e flags h = by (flags == 2) h
    where
      below : (a : Bool) (r : Result Effect Errno) → (require a EEXIST >> require (not (goes_below s x new)) EINVAL >> r) ≡ Ok e → (r ≡ Ok e) × T (not (goes_below s x new))
      below a r g = grind arith

      by : (b : Bool) → cond b (exchange_meaning s old new p q x q.target) (require (not (flags == 1 && is_some q.target)) EEXIST >> require (not (goes_below s x new)) EINVAL >> move_meaning s p q x q.target) ≡ Ok e → Leaves t k s e.changes
      by true g = exchange_keeps e q.target refl g
      by false g = (let d = below (not (flags == 1 && is_some q.target)) (move_meaning s p q x q.target) g in move_keeps e d.1 q.target d.0)

pub renameat_keeps : (t : Recording) (k r : ℕ) (s : World) (old new : Path) (flags : ℕ) → IsWorld s → Keeps t k r s (renameat old new flags)
renameat_keeps t k r s old new flags w e h =
    let p = ok_bind (walk s.nodes old) _ e h in
    let q = ok_bind (walk s.nodes new) _ e p.2 in
    let x = ok_bind (ok_or p.0.target ENOENT) _ e q.2 in
    rename_keeps t k s w old new p.0 q.0 p.1 q.1 x.0 (ok_some p.0.target ENOENT x.0 x.1) e flags x.2
