-- Operations that make, link, rename and remove names leave a world.
use native.Mathlib.Omega.{arith}
use Rattle.std.specs.Prelude.{◌≡◌, ℕ, Bool, true, false, cond, not, ◌==◌, ◌⊎◌, T, List, [], ◌∷◌, Option, Some, None, Result, Ok, ok_or, is_some, is_none, refl, IfSome}
use Rattle.std.specs.List.{list_any}
use Rattle.std.specs.Option.{option_map, option_and_then}
use mathlib.Core.Path.{sym, subst, ap, ◌∙◌}
use mathlib.Core.Logic.{inl, inr}
use lib.Dec.{eqb_refl}
use Rattle.sqe_codec.specs.declared.errno.Errno.{Errno}
use Rattle.sqe_codec.specs.declared.errno.Errno.TheVariants.{EPERM, ENOENT, EEXIST, EBADF, ENAMETOOLONG}
use Rattle.recording.specs.declared.recording.Recording.{Recording}
use Rattle.sqe_codec.specs.Answers.{◌>>=◌, each_ok}
use Rattle.entry_checks.specs.Operation.{Operation, unlinkat, mkdirat, linkat, Path}
use Rattle.trace_format.specs.Paths.{components}
use Rattle.finite_maps.specs.Table.{get}
use Rattle.world_parts.specs.World.{World, kind, name, name_count, IsWorld, Change, set_name, make_node, apply, apply_all}
use Rattle.file_tree.specs.Tree.{target, Kind, a_directory, a_file, kind_of_node, names_of_node, Target, Above, names_it, one_below, IsTree, Names}
use Rattle.file_tree.specs.Walk.{Place, walk, walk_from, names_from, is_above, is_directory, directory_at, fits_name, starts_at_root}
use Rattle.op_meaning.specs.Site.{sited}
use Rattle.op_meaning.specs.Meaning.{Effect, meaning, done, made_node, made_description, may_remove}
use Rattle.foot_print.specs.Laws.{Awaits}
use Rattle.world_parts.proofs.Collision.{either_left, either_right, true_of}
use Rattle.world_parts.proofs.Trees.{some_apart, some_same, Look, directory_of, put, UpTo, MayPut, may_remove_name, put_tree, tree_same}
use Rattle.world_parts.proofs.ChangesOfNames.{Leads}
use Rattle.world_parts.proofs.ChangesOfMaking.{Unused, made-kind, making-name}
use Rattle.foot_print.proofs.CoverWalk.{name_leads, walk_leads, walk_finds}
use Rattle.foot_print.proofs.Awaiting.{awaits_unused, node_unused}
use Rattle.foot_print.proofs.OpenFile.{kind_of}
use Rattle.foot_print.proofs.Accepted.{err_apart, ok_same, ok_bind, ok_then, ok_require, ok_some}
use Rattle.world_parts.proofs.KeepWorld.{sound, is_world, naming_sound, naming_names, making_sound, AllMakeOnly}

-- A component that leads to a directory.
leads_down : (o : Option Target) (e : ℕ) → directory_at o ≡ Ok e → o ≡ Some (directory_of e)
leads_down o e h = grind (arith, kind_of)

-- What is above a directory that has a name is at its parent or above that.
above_parent : (look : Look) → IsTree look → (i d e : ℕ) (n : List ℕ) → look d n ≡ Some (directory_of e) → Above look i e → UpTo look i d
above_parent look w i d e n h (names_it _ _ m g) = inl (w.one_name i d m n (directory_of e) refl g h).0
above_parent look w i d e n h (one_below _ c _ m a g) = inr (subst (Above look i) (w.one_name c d m n (directory_of e) refl g h).0 a)

not_above_root : (look : Look) → IsTree look → (i j : ℕ) → Above look i j → ¬ (j ≡ 0)
not_above_root look w i j (names_it _ _ m g) q = subst (λ o. IfSome o (λ t. ¬ (t.node ≡ 0))) g (w.root_unnamed i m) q
not_above_root look w i j (one_below _ c _ m a g) q = subst (λ o. IfSome o (λ t. ¬ (t.node ≡ 0))) g (w.root_unnamed c m) q

-- What is at the parent that a walk finds, or above, lies on the way or above its start.
abbrev at_node : ℕ → ℕ × List ℕ → Bool
at_node i e = e.0 == i

on_the_way : (s : World) → IsTree (name s) → (i d : ℕ) (ns : List (List ℕ)) (q : Place) → walk_from s.nodes d ns ≡ Ok q → UpTo (name s) i q.parent → T (list_any (at_node i) (names_from s.nodes d ns)) ⊎ Above (name s) i d
on_the_way s w i d [] q h u = absurd (err_apart h)
on_the_way s w i d (n ∷ []) q h u =
    let k = ok_require (fits_name n) ENAMETOOLONG (Ok (record { parent = d; name = n; target = name s d n })) q h in
    let e : q.parent ≡ d = ap (λ (x : Place). x.parent) (sym (ok_same _ q k.0)) in
    by k.1 (subst (UpTo (name s) i) e u)
  where
    by : T (fits_name n) → UpTo (name s) i d → T (list_any (at_node i) (names_from s.nodes d (n ∷ []))) ⊎ Above (name s) i d
    by f (inl z) = inl (subst (λ b. T (list_any (at_node i) (cond b ((d, n) ∷ each_ok (λ e. names_from s.nodes e []) (directory_at (name s d n))) []))) (sym (true_of _ f)) (either_left (d == i) _ (subst (λ x. T (d == x)) (sym z) (eqb_refl d))))
    by f (inr a) = inr a
on_the_way s w i d (n ∷ m ∷ ns) q h u =
    let k = ok_require (fits_name n) ENAMETOOLONG (directory_at (name s d n) >>= λ e. walk_from s.nodes e (m ∷ ns)) q h in
    let e = ok_bind (directory_at (name s d n)) (λ e. walk_from s.nodes e (m ∷ ns)) q k.0 in
    by k.1 e.0 e.1 (on_the_way s w i e.0 (m ∷ ns) q e.2 u)
  where
    looked : (b : Bool) → T b → T (list_any (at_node i) ((d, n) ∷ each_ok (λ e. names_from s.nodes e (m ∷ ns)) (directory_at (name s d n)))) → T (list_any (at_node i) (cond b ((d, n) ∷ each_ok (λ e. names_from s.nodes e (m ∷ ns)) (directory_at (name s d n))) []))
    looked true f g = g
    looked false f g = absurd f

    up : T (fits_name n) → UpTo (name s) i d → T (list_any (at_node i) (names_from s.nodes d (n ∷ m ∷ ns))) ⊎ Above (name s) i d
    up f (inl z) = inl (looked (fits_name n) f (either_left (d == i) _ (subst (λ x. T (d == x)) (sym z) (eqb_refl d))))
    up f (inr a) = inr a

    by : T (fits_name n) → (e : ℕ) → directory_at (name s d n) ≡ Ok e → T (list_any (at_node i) (names_from s.nodes e (m ∷ ns))) ⊎ Above (name s) i e → T (list_any (at_node i) (names_from s.nodes d (n ∷ m ∷ ns))) ⊎ Above (name s) i d
    by f e g (inl a) = inl (looked (fits_name n) f (either_right (d == i) _ (subst (λ r. T (list_any (at_node i) (each_ok (λ e. names_from s.nodes e (m ∷ ns)) r))) (sym g) a)))
    by f e g (inr a) = up f (above_parent (name s) w i d e n (leads_down (name s d n) e g) a)

-- A node that a walk doesn't pass isn't the parent that it finds, nor above that.
pub not_passed : (s : World) → IsTree (name s) → (p : Path) (q : Place) → walk s.nodes p ≡ Ok q → (i : ℕ) → T (not (is_above s.nodes i p)) → ¬ (UpTo (name s) i q.parent)
not_passed s w p q h i n u =
    let k = ok_require (starts_at_root p) EBADF (walk_from s.nodes 0 (components p.text)) q h in
    let way = on_the_way s w i 0 (components p.text) q k.0 u in
    grind (arith, not_above_root (name s) w i 0)

-- The parent that a walk finds is a directory.
parent_from : (s : World) (d : ℕ) (ns : List (List ℕ)) (q : Place) → kind s d ≡ Some a_directory → walk_from s.nodes d ns ≡ Ok q → kind s q.parent ≡ Some a_directory
parent_from s d [] q k h = absurd (err_apart h)
parent_from s d (n ∷ []) q k h = grind arith
parent_from s d (n ∷ m ∷ ns) q k h =
    let rest = λ (e : ℕ). parent_from s e (m ∷ ns) q in
    let led = name_leads s d n in
    grind (arith, rest, leads_down)

pub parent_there : (s : World) → IsWorld s → (p : Path) (q : Place) → walk s.nodes p ≡ Ok q → kind s q.parent ≡ Some a_directory
parent_there s w p q h = parent_from s 0 (components p.text) q w.root (ok_require (starts_at_root p) EBADF (walk_from s.nodes 0 (components p.text)) q h).0

-- Setting a name that may be set leaves a tree.
pub named_tree : (s : World) (d : ℕ) (n : List ℕ) (x : Option Target) → Leads s x → IsTree (name s) → MayPut (name s) d n x → IsTree (name (apply (set_name d n x) s))
named_tree s d n x h w may = tree_same (put (name s) d n (cond (is_some (name_count s d)) x None)) (name (apply (set_name d n x) s)) (naming_names s d n x h)
    (put_tree (name s) d n (cond (is_some (name_count s d)) x None) (elim (is_some (name_count s d)) as (λ b. MayPut (name s) d n (cond b x None)) [ true ↦ may | false ↦ may_remove_name (name s) d n ]) w)

-- What an accepted operation leaves: a world, in which it made nothing but what its place makes.
abbrev pub Leaves : Recording → ℕ → World → List Change → Type 0
Leaves t k s cs = IsWorld (apply_all cs s) × AllMakeOnly (made_node t k) (made_description t k) cs

abbrev pub Keeps : Recording → ℕ → ℕ → World → Operation → Type 0
Keeps t k r s o = (x : Effect) → meaning (sited t k r) s o ≡ Ok x → Leaves t k s x.changes

pub of_changes : (t : Recording) (k : ℕ) (s : World) (cs : List Change) (x : Effect) → ◌≡◌ {A = Result Effect Errno} (Ok (done cs)) (Ok x) → Leaves t k s cs → Leaves t k s x.changes
of_changes t k s cs x h g = subst (λ (y : Effect). Leaves t k s y.changes) (ok_same (done cs) x h) g

-- One name that is set.
one_name_leaves : (t : Recording) (k : ℕ) (s : World) (d : ℕ) (n : List ℕ) (x : Option Target) → IsWorld s → Leads s x → MayPut (name s) d n x → Leaves t k s (set_name d n x ∷ [])
one_name_leaves t k s d n x w l may = (is_world (apply (set_name d n x) s) (named_tree s d n x l w.tree may) (naming_sound s d n x (sound s w)), (tt, tt))

-- A name that leads to what another leads to, which is no directory.
may_link : (look : Look) → IsTree look → (d : ℕ) (n : List ℕ) (e : ℕ) (m : List ℕ) (y : Target) → look e m ≡ Some y → T (not (is_directory y.kind)) → MayPut look d n (Some y)
may_link look w d n e m y h f = record {
  leads = subst (λ o. IfSome o (λ t. is_some t.kind ≡ true)) h (w.names_lead e m);
  not_root = subst (λ o. IfSome o (λ t. ¬ (t.node ≡ 0))) h (w.root_unnamed e m);
  alone = λ t c q. absurd (no_directory (ap (λ (z : Target). z.kind) (some_same y t q) ∙ c));
  not_below = λ i q. absurd (no_directory (ap (λ (z : Target). z.kind) (some_same y (directory_of i) q)));
}
  where
    no_directory : y.kind ≡ Some a_directory → ⊥
    no_directory c = subst (λ z. T (not (is_directory z))) c f

pub linkat_keeps : (t : Recording) (k r : ℕ) (s : World) (old new : Path) → IsWorld s → Keeps t k r s (linkat old new)
linkat_keeps t k r s old new w x h =
    let p = ok_bind (walk s.nodes old) _ x h in
    let q = ok_bind (walk s.nodes new) _ x p.2 in
    let y = ok_bind (ok_or p.0.target ENOENT) _ x q.2 in
    let last = ok_require (not (is_directory y.0.kind)) EPERM _ x (ok_require (is_none q.0.target) EEXIST _ x y.2).0 in
    let found = ok_some p.0.target ENOENT y.0 y.1 in
    of_changes t k s _ x last.0
    (one_name_leaves t k s q.0.parent q.0.name (Some y.0) w (subst (Leads s) found (walk_leads s old p.0 p.1))
    (may_link (name s) w.tree q.0.parent q.0.name p.0.parent p.0.name y.0 (sym (walk_finds s old p.0 p.1) ∙ found) last.1))

pub unlinkat_keeps : (t : Recording) (k r : ℕ) (s : World) (p : Path) (removes : Bool) → IsWorld s → Keeps t k r s (unlinkat p removes)
unlinkat_keeps t k r s p removes w x h =
    let q = ok_bind (walk s.nodes p) _ x h in
    let y = ok_bind (ok_or q.0.target ENOENT) _ x q.2 in
    of_changes t k s _ x (ok_then (may_remove s removes y.0) _ x y.2).0
    (one_name_leaves t k s q.0.parent q.0.name None w tt (may_remove_name (name s) q.0.parent q.0.name))

-- A node that is there isn't the new one.
there_apart : (s : World) (i j : ℕ) → Unused s i → kind s j ≡ Some a_directory → ¬ (i ≡ j)
there_apart s i j u h e = some_apart (sym h ∙ ap (kind s) (sym e) ∙ ap (option_map kind_of_node) u.no_node)

-- An unused node has no names, and is above nothing.
unused_above : (s : World) (i j e : ℕ) → Unused s i → Above (name s) e j → ¬ (i ≡ e)
unused_above s i j e u (names_it _ _ n h) q = some_apart (sym h ∙ ap (λ d. name s d n) (sym q) ∙ ap (λ x. option_map (target s.nodes) (option_and_then (λ (ns : Names). get ns n) (option_and_then names_of_node x))) u.no_node)
unused_above s i j e u (one_below _ c _ n a h) q = unused_above s i c e u a q

-- A new directory may be named in one that is there, a new file anywhere.
may_make : (s : World) (i d : ℕ) (n : List ℕ) (k : Kind) → IsWorld s → Unused s i → kind s d ≡ Some a_directory → MayPut (name s) d n (Some (record { node = i; kind = Some k }))
may_make s i d n k w u h = record {
  leads = refl;
  not_root = λ e. there_apart s i 0 u w.root e;
  alone = λ t c q e m g. absurd (subst (λ o. IfSome o (λ x. ¬ (x.node ≡ i))) g (u.unnamed e m) (sym (ap (λ (x : Target). x.node) (some_same (record { node = i; kind = Some k }) t q))));
  not_below = λ j q. (let same = ap (λ (x : Target). x.node) (some_same (record { node = i; kind = Some k }) (directory_of j) q) in below j same);
}
  where
    below : (j : ℕ) → i ≡ j → ¬ (UpTo (name s) j d)
    below j e (inl z) = there_apart s i d u h (e ∙ z)
    below j e (inr a) = unused_above s i d j u a e

pub made_and_named : (s : World) (i d : ℕ) (n : List ℕ) (k : Kind) → IsWorld s → Unused s i → kind s d ≡ Some a_directory → Some k ≡ Some (kind_of_node (Rattle.file_tree.specs.Tree.new_node k))
    → IsWorld (apply (set_name d n (Some (record { node = i; kind = Some k }))) (apply (make_node i k) s))
made_and_named s i d n k w u h same =
    let after = apply (make_node i k) s in
    let x : Target = record { node = i; kind = Some k } in
    let look : name after ≡ name s = λ z e m. making-name s i k u e m z in
    is_world (apply (set_name d n (Some x)) after)
    (named_tree after d n (Some x) (made-kind s i k ∙ sym same) (subst IsTree (sym look) w.tree) (subst (λ l. MayPut l d n (Some x)) (sym look) (may_make s i d n k w u h)))
    (naming_sound after d n (Some x) (making_sound s i k u (sound s w)))

pub mkdirat_keeps : (t : Recording) (k r : ℕ) (s : World) (p : Path) → Awaits t k s → Keeps t k r s (mkdirat p)
mkdirat_keeps t k r s p w x h =
    let m = made_node t k in
    let q = ok_bind (walk s.nodes p) _ x h in
    of_changes t k s _ x (ok_require (is_none q.0.target) EEXIST _ x q.2).0
    (made_and_named s m q.0.parent q.0.name a_directory w.is_world (node_unused t k s (awaits_unused t k s w)) (parent_there s w.is_world p q.0 q.1) refl, (refl, (tt, tt)))
