-- A helper: whether names, and nodes, are the same.
use Rattle.std.specs.Prelude.{◌≡◌, ℕ, Bool, true, false, ◌&&◌, List, nat_eq}
use Rattle.std.specs.Bool.{Decides}
use Rattle.std.specs.Cmp.{IsPartialEquivalence, unsigned_Decides, both_ways}
use Rattle.std.specs.Cmp.Lexicographic.{pointwise, pointwise_decides, bytes_decides}
use mathlib.Core.Bool.{true≢false}
use mathlib.Core.Path.{sym, ap, ◌∙◌}
use Rattle.finite_maps.specs.Table.{same_entries_table, pair_decides}
use Rattle.file_tree.specs.Tree.{Names, Node, directory, file}

-- The same name of the same node.
abbrev pub same_name : List ℕ × ℕ → List ℕ × ℕ → Bool
same_name p q = pointwise nat_eq p.0 q.0 && nat_eq p.1 q.1

abbrev pub same_names : Names → Names → Bool
same_names ns ms = pointwise same_name ns.entries ms.entries

abbrev pub same_node : Node → Node → Bool
same_node (directory ns o) (directory ms p) = nat_eq o p && same_names ns ms
same_node (file bs) (file cs) = pointwise nat_eq bs cs
same_node (directory ns o) (file cs) = false
same_node (file bs) (directory ms p) = false

-- Each test says whether its two values are equal.

pub same_names_decides : (ns ms : Names) → Decides (same_names ns ms) (ns ≡ ms)
same_names_decides ns ms =
    let entries = pointwise_decides (pair_decides bytes_decides unsigned_Decides) ns.entries ms.entries in
    (λ h. same_entries_table ns ms (entries.0 h), λ h. entries.1 (ap (λ (n : Names). n.entries) h))

is_a_directory : Node → Bool
is_a_directory (directory ns o) = true
is_a_directory (file bs) = false

pub same_node_decides : (n m : Node) → Decides (same_node n m) (n ≡ m)
unfolding is_a_directory
same_node_decides (directory ns o) (directory ms p) =
    let d = pair_decides unsigned_Decides same_names_decides (o, ns) (p, ms) in (λ h. ap (λ q. directory q.1 q.0) (d.0 h), λ h. d.1 (ap both h))
  where
    both : Node → ℕ × Names
    both (directory xs q) = (q, xs)
    both (file bs) = (o, ns)
same_node_decides (file bs) (file cs) = let d = bytes_decides bs cs in (λ h. ap file (d.0 h), λ h. d.1 (injective h))
  where
    bytes_in : Node → List ℕ
    bytes_in (directory xs q) = bs
    bytes_in (file xs) = xs

    injective : file bs ≡ file cs → bs ≡ cs
    injective h = ap bytes_in h
same_node_decides (directory ns o) (file cs) = (λ h. absurd (true≢false (sym h)), λ h. absurd (true≢false (ap is_a_directory h)))
same_node_decides (file bs) (directory ms p) = (λ h. absurd (true≢false (sym h)), λ h. absurd (true≢false (sym (ap is_a_directory h))))

-- A test of equality is an equivalence.
pub decided : {A : Type 0} {E : A → A → Bool} → ((x y : A) → Decides (E x y) (x ≡ y)) → IsPartialEquivalence E
decided {E = E} d = record {
  symm = λ x y. both_ways (E x y) (E y x) (λ h. (d y x).1 (sym ((d x y).0 h))) (λ h. (d x y).1 (sym ((d y x).0 h)));
  trans = λ x y z g h. (d x z).1 ((d x y).0 g ∙ (d y z).0 h);
}

pub same_names_laws : IsPartialEquivalence same_names
same_names_laws = decided same_names_decides

pub same_node_laws : IsPartialEquivalence same_node
same_node_laws = decided same_node_decides
