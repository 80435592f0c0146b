-- What a change does to each atom: its value afterwards is a function of its value before.
use Rattle.std.specs.Prelude.{◌≡◌, ℕ, cond, ◌&&◌, ◌==◌, max, ◌+◌, ◌-◌, T, List, length, refl, slice_index_or}
use Rattle.std.specs.Option.{option_map, option_and_then, is_some}
use Rattle.std.specs.Ordering.{nat_cmp, is_eq, eq_by_cmp, ordering_then}
use Rattle.std.specs.Cmp.{unsigned_tied}
use Rattle.std.specs.declared.cmp.Ordering.{Ordering}
use native.Mathlib.Omega.{arith}
use Rattle.finite_maps.specs.Table.{Table, get, get-assign, number_keys, pair_cmp, adjust_number}
use Rattle.extent_bytes.specs.Bytes.{overwritten}
use Rattle.extent_bytes.proofs.Lengths.{length-overwritten}
use Rattle.file_tree.specs.Tree.{Node, Names, kind_of_node, names_of_node, others_of_node, count_of_node, rewritten_node}
use Rattle.world_parts.specs.World.{World, Description, kind, names, bytes, name, name_count, others, opened, set_position, write_bytes, apply}
use Rattle.world_parts.specs.Items.{Atom, description_at, position_of, size_of, byte_at, name_at, names_in, Value, value, within}
use Rattle.world_parts.proofs.ByteWords.{byte-overwritten}

-- Pairs of numbers are compared one after the other.
pub tied_then : (o p : Ordering) → is_eq (ordering_then o p) ≡ (is_eq o && is_eq p)
tied_then o p = grind arith

pub pair_tied : (q m r n : ℕ) → eq_by_cmp pair_cmp (q, m) (r, n) ≡ (q == r && m == n)
pair_tied q m r n = grind (arith, tied_then, unsigned_tied)

-- What a look-up finds after the value at a key was adjusted.
pub adjusted : {X : Type 0} (f : X → X) (m : Table nat_cmp X) (k q : ℕ) → get (adjust_number f m k) q ≡ cond (q == k) (option_map f (get m q)) (get m q)
adjusted f m k q = grind (arith, get-assign number_keys.total m k (option_map f (get m k)) q, unsigned_tied)

-- A position that is set.
abbrev pub positioned : ℕ → ℕ → (a : Atom) → Value a → Value a
positioned d p (position_of e) x = cond (e == d) (option_map (λ y. p) x) x
positioned d p a x = x

abbrev set_to : ℕ → Description → Description
set_to p x = record x { position = p }

pub set_position-value : (s : World) (d p : ℕ) (a : Atom) → value (apply (set_position d p) s) a ≡ positioned d p a (value s a)
set_position-value s d p (position_of e) = grind (arith, adjusted (set_to p) s.descriptions d e)
set_position-value s d p (description_at e) = grind (arith, adjusted (set_to p) s.descriptions d e)
set_position-value s d p _ = refl

-- A change of nodes that leaves their kinds leaves what descriptions and names lead to.
module _ (s : World) (nodes : Table nat_cmp Node) (kinds : (i : ℕ) → option_map kind_of_node (get nodes i) ≡ kind s i) where
  abbrev with_nodes : World
  with_nodes = record s { nodes = nodes }

  pub opened_kept : (d : ℕ) → opened with_nodes d ≡ opened s d
  opened_kept d = λ i. option_map (λ (e : Description). record { target = record { node = e.node; kind = kinds e.node i }; access = e.access; append = e.append }) (get s.descriptions d)

  pub name_kept : (d : ℕ) (n : List ℕ) → names with_nodes d ≡ names s d → name with_nodes d n ≡ name s d n
  name_kept d n e = λ i. option_map (λ k. record { node = k; kind = kinds k i }) (option_and_then (λ (ns : Names). get ns n) (e i))

-- A change of a file's bytes leaves kinds and names.
module _ (f : List ℕ → List ℕ) where
  pub rewriting-kind : (s : World) (i j : ℕ) → option_map kind_of_node (get (adjust_number (rewritten_node f) s.nodes i) j) ≡ kind s j
  rewriting-kind s i j = grind (arith, adjusted (rewritten_node f) s.nodes i j)

  pub rewriting-names : (s : World) (i j : ℕ) → option_and_then names_of_node (get (adjust_number (rewritten_node f) s.nodes i) j) ≡ names s j
  rewriting-names s i j = grind (arith, adjusted (rewritten_node f) s.nodes i j)

  pub rewriting-others : (s : World) (i j : ℕ) → option_and_then others_of_node (get (adjust_number (rewritten_node f) s.nodes i) j) ≡ others s j
  rewriting-others s i j = grind (arith, adjusted (rewritten_node f) s.nodes i j)

  pub rewriting-count : (s : World) (i j : ℕ) → option_and_then count_of_node (get (adjust_number (rewritten_node f) s.nodes i) j) ≡ name_count s j
  rewriting-count s i j = grind (arith, adjusted (rewritten_node f) s.nodes i j)

  pub rewriting-opened : (s : World) (i d : ℕ) → opened (record s { nodes = adjust_number (rewritten_node f) s.nodes i }) d ≡ opened s d
  rewriting-opened s i d = opened_kept s (adjust_number (rewritten_node f) s.nodes i) (rewriting-kind s i) d

  pub rewriting-name : (s : World) (i d : ℕ) (n : List ℕ) → name (record s { nodes = adjust_number (rewritten_node f) s.nodes i }) d n ≡ name s d n
  rewriting-name s i d n = name_kept s (adjust_number (rewritten_node f) s.nodes i) (rewriting-kind s i) d n (rewriting-names s i d)

-- Bytes that are written.
abbrev pub written : ℕ → ℕ → List ℕ → (a : Atom) → Value a → Value a
written i at new (byte_at j p) x = cond (j == i && within at (at + length new) p) (slice_index_or new (p - at) 0) x
written i at new (size_of j) x = cond (j == i) (option_map (λ n. max n (at + length new)) x) x
written i at new a x = x

pub write_bytes-value : (s : World) (i at : ℕ) (new : List ℕ) (a : Atom) → T (is_some (bytes s i)) → value (apply (write_bytes i at new) s) a ≡ written i at new a (value s a)
write_bytes-value s i at new (size_of j) h = grind (arith, adjusted (rewritten_node (λ bs. overwritten bs at new)) s.nodes i j, length-overwritten)
write_bytes-value s i at new (byte_at j p) h = grind (arith, adjusted (rewritten_node (λ bs. overwritten bs at new)) s.nodes i j, byte-overwritten)
write_bytes-value s i at new (names_in e) h = rewriting-count (λ bs. overwritten bs at new) s i e
write_bytes-value s i at new (name_at e n) h = rewriting-name (λ bs. overwritten bs at new) s i e n
write_bytes-value s i at new (description_at e) h = rewriting-opened (λ bs. overwritten bs at new) s i e
write_bytes-value s i at new _ h = refl
