-- Names that lead from a directory to a node.
use Rattle.std.specs.Prelude.{◌≡◌, ℕ, ◌+◌, ◌≤◌, true, cond, List, [], ◌∷◌, ◌++◌, length, Option, Some, Result, Ok, refl}
use Rattle.std.specs.Option.{option_map, option_and_then, is_some}
use Rattle.std.specs.Ordering.{nat_cmp}
use Rattle.std.specs.Cmp.{unsigned_tied}
use Rattle.std.specs.FinMap.Entries.{length_without}
use mathlib.Core.Path.{sym, subst, ap, ◌∙◌}
use mathlib.Core.Logic.{inr}
use native.Mathlib.Omega.{arith}
use Rattle.sqe_codec.specs.declared.errno.Errno.{Errno}
use Rattle.sqe_codec.specs.declared.errno.Errno.TheVariants.{ENAMETOOLONG}
use Rattle.sqe_codec.specs.Answers.{◌>>=◌, ◌>>◌, require}
use Rattle.finite_maps.specs.Table.{get, count, remove, get-remove, number_keys}
use Rattle.file_tree.specs.Tree.{Tree, Names, names, kind, a_directory, name, target, Above, names_it, IsTree}
use Rattle.file_tree.specs.Found.{node_of}
use Rattle.file_tree.specs.Walk.{fits_name, walk_from, directory_at}
use Rattle.world_parts.specs.Paths.{come_to}
use Rattle.world_parts.proofs.Trees.{above_over, some_apart, some_same}

-- the node that a name of a directory leads to
abbrev pub looked : Tree → ℕ → List ℕ → Option ℕ
looked tree d n = option_and_then (λ (ns : Names). get ns n) (names tree d)

-- names lead from a directory, one after another, to a node
abbrev pub Leads : Tree → ℕ → List (List ℕ) → ℕ → Type 0
Leads tree d [] i = d ≡ i
Leads tree d (n ∷ ns) i = (e : ℕ) × (looked tree d n ≡ Some e) × Leads tree e ns i

pub leads_one : (tree : Tree) (d : ℕ) (ns : List (List ℕ)) (i j : ℕ) → Leads tree d ns i → Leads tree d ns j → i ≡ j
leads_one tree d [] i j g h = sym g ∙ h
leads_one tree d (n ∷ ns) i j g h =
    let e : g.0 ≡ h.0 = some_same g.0 h.0 (sym g.1 ∙ h.1) in
    leads_one tree h.0 ns i j (subst (λ k. Leads tree k ns i) e g.2) h.2

leads_more : (tree : Tree) (d : ℕ) (ns : List (List ℕ)) (e : ℕ) (n : List ℕ) (f : ℕ) → Leads tree d ns e → looked tree e n ≡ Some f → Leads tree d (ns ++ n ∷ []) f
leads_more tree d [] e n f g h = (f, subst (λ k. looked tree k n ≡ Some f) (sym g) h, refl)
leads_more tree d (m ∷ ns) e n f g h = (g.0, g.1, leads_more tree g.0 ns e n f g.2 h)

-- a node in which a name is looked up is a directory
pub directory_looked : (tree : Tree) (d : ℕ) (n : List ℕ) (i : ℕ) → looked tree d n ≡ Some i → kind tree d ≡ Some a_directory
directory_looked tree d n i h = grind arith

named : (tree : Tree) (d : ℕ) (n : List ℕ) (i : ℕ) → looked tree d n ≡ Some i → kind tree i ≡ Some a_directory → name tree d n ≡ Some (record { node = i; kind = Some a_directory })
named tree d n i h k = grind arith

-- a directory to which names lead from another lies below it
leads_above : (tree : Tree) (d : ℕ) (n : List ℕ) (ns : List (List ℕ)) (i : ℕ) → Leads tree d (n ∷ ns) i → kind tree i ≡ Some a_directory → Above (name tree) d i
leads_above tree d n [] i h k = subst (Above (name tree) d) h.2 (names_it d h.0 n (named tree d n h.0 h.1 (subst (λ j. kind tree j ≡ Some a_directory) (sym h.2) k)))
leads_above tree d n (m ∷ ns) i h k =
    let below = leads_above tree h.0 m ns i h.2 k in
    above_over (name tree) d h.0 i (inr (names_it d h.0 n (named tree d n h.0 h.1 (directory_looked tree h.0 m h.2.0 h.2.1)))) below

-- no names lead from a directory to itself
abbrev pub HasNoLoop : Tree → Type 0
HasNoLoop tree = (d : ℕ) (n : List ℕ) (ns : List (List ℕ)) → Leads tree d (n ∷ ns) d → ⊥

pub tree_has_no_loop : (tree : Tree) → IsTree (name tree) → HasNoLoop tree
tree_has_no_loop tree w d n ns h = w.no_cycle d (leads_above tree d n ns d h (directory_looked tree d n h.0 h.1))

looked_left : (tree : Tree) (d e : ℕ) (n : List ℕ) (f : ℕ) → looked (remove tree d) e n ≡ Some f → looked tree e n ≡ Some f
looked_left tree d e n f h = grind (arith, get-remove number_keys.total tree d e)

looked_elsewhere : (tree : Tree) (d e : ℕ) (n : List ℕ) (f : ℕ) → (e ≡ d → ⊥) → looked tree e n ≡ Some f → looked (remove tree d) e n ≡ Some f
looked_elsewhere tree d e n f apart h = grind (arith, get-remove number_keys.total tree d e, unsigned_tied)

leads_left : (tree : Tree) (d e : ℕ) (ns : List (List ℕ)) (i : ℕ) → Leads (remove tree d) e ns i → Leads tree e ns i
leads_left tree d e [] i h = h
leads_left tree d e (n ∷ ns) i h = (h.0, looked_left tree d e n h.0 h.1, leads_left tree d h.0 ns i h.2)

-- names behind a directory lead on without it
leads_without : (tree : Tree) → HasNoLoop tree → (d : ℕ) (m : List ℕ) (ms : List (List ℕ)) (e : ℕ) (ns : List (List ℕ)) (i : ℕ) → Leads tree d (m ∷ ms) e → Leads tree e ns i → Leads (remove tree d) e ns i
leads_without tree free d m ms e [] i g h = h
leads_without tree free d m ms e (n ∷ ns) i g h =
    let apart : e ≡ d → ⊥ = λ s. free d m ms (subst (Leads tree d (m ∷ ms)) s g) in
    (h.0, looked_elsewhere tree d e n h.0 apart h.1, leads_without tree free d m (ms ++ n ∷ []) h.0 ns i (leads_more tree d (m ∷ ms) e n h.0 g h.1) h.2)

there : (tree : Tree) (d : ℕ) (n : List ℕ) (i : ℕ) → looked tree d n ≡ Some i → ◌≡◌ {A = ℕ} (cond (is_some (get tree d)) 1 0) 1
there tree d n i h = grind arith

-- a way has no more names than there are nodes
pub leads_short : (ns : List (List ℕ)) (tree : Tree) → HasNoLoop tree → (d i : ℕ) → Leads tree d ns i → length ns ≤ count tree
leads_short [] tree free d i h = omega arith
leads_short (n ∷ ns) tree free d i h =
    let fewer : cond (is_some (get tree d)) 1 0 + count (remove tree d) ≡ count tree = length_without nat_cmp number_keys.total d tree.entries tree.sorted in
    let here : ◌≡◌ {A = ℕ} (cond (is_some (get tree d)) 1 0) 1 = there tree d n h.0 h.1 in
    let free_left : HasNoLoop (remove tree d) = λ e m ms k. free e m ms (leads_left tree d e (m ∷ ms) e k) in
    let rest = leads_short ns (remove tree d) free_left h.0 i (leads_without tree free d n [] h.0 ns i (h.0, h.1, refl) h.2) in
    omega arith

-- Walks.

pub same_number : (tree : Tree) (o : Option ℕ) → node_of (option_map (target tree) o) ≡ o
same_number tree o = grind arith

abbrev pub AllFit : List (List ℕ) → Type 0
AllFit [] = Unit {0}
AllFit (n ∷ ns) = (fits_name n ≡ true) × AllFit ns

-- where a name leads to a directory a walk goes on there
pub directory_there : (tree : Tree) (o : Option ℕ) (e : ℕ) → o ≡ Some e → kind tree e ≡ Some a_directory → directory_at (option_map (target tree) o) ≡ Ok e
directory_there tree o e h k = grind arith

pub walk_of_leads : (tree : Tree) (d : ℕ) (n : List ℕ) (ns : List (List ℕ)) (i : ℕ) → AllFit (n ∷ ns) → Leads tree d (n ∷ ns) i → come_to (walk_from tree d (n ∷ ns)) ≡ Some i
walk_of_leads tree d n [] i fit h =
    ap (λ b. come_to (require b ENAMETOOLONG >> Ok (record { parent = d; name = n; target = name tree d n }))) fit.0 ∙ same_number tree (looked tree d n) ∙ h.1 ∙ ap (λ (k : ℕ). Some k) h.2
walk_of_leads tree d n (m ∷ ns) i fit h =
    let there = directory_there tree (looked tree d n) h.0 h.1 (directory_looked tree h.0 m h.2.0 h.2.1) in
    ap (λ b. come_to (require b ENAMETOOLONG >> (directory_at (name tree d n) >>= λ (e : ℕ). walk_from tree e (m ∷ ns)))) fit.0
    ∙ ap (λ (r : Result ℕ Errno). come_to (r >>= λ (e : ℕ). walk_from tree e (m ∷ ns))) there
    ∙ walk_of_leads tree h.0 m ns i fit.1 h.2

walked_last : (tree : Tree) (d : ℕ) (n : List ℕ) (i : ℕ) → come_to (walk_from tree d (n ∷ [])) ≡ Some i → looked tree d n ≡ Some i
walked_last tree d n i h = grind arith

walked_on : (tree : Tree) (d : ℕ) (n m : List ℕ) (ns : List (List ℕ)) (i : ℕ) → come_to (walk_from tree d (n ∷ m ∷ ns)) ≡ Some i
    → (e : ℕ) × (looked tree d n ≡ Some e) × (come_to (walk_from tree e (m ∷ ns)) ≡ Some i)
walked_on tree d n m ns i h = grind arith

pub leads_of_walk : (tree : Tree) (d : ℕ) (ns : List (List ℕ)) (i : ℕ) → come_to (walk_from tree d ns) ≡ Some i → Leads tree d ns i
leads_of_walk tree d [] i h = absurd (some_apart (sym h))
leads_of_walk tree d (n ∷ []) i h = (i, walked_last tree d n i h, refl)
leads_of_walk tree d (n ∷ m ∷ ns) i h = let e = walked_on tree d n m ns i h in (e.0, e.1, leads_of_walk tree e.0 (m ∷ ns) i e.2)
