-- What setting a name, or taking it away, does to each atom.
use Rattle.std.specs.Prelude.{◌≡◌, ℕ, Bool, cond, ◌&&◌, ◌==◌, ◌+◌, ◌-◌, List, Option, Some, None, refl, IfSome}
use Rattle.std.specs.Option.{option_map, option_and_then, is_some}
use Rattle.std.specs.Str.{bytes_eq}
use Rattle.std.specs.Ordering.{nat_cmp}
use Rattle.std.specs.Cmp.Lexicographic.{slice_cmp}
use Rattle.std.specs.FinMap.Entries.{length_without, length-put}
use Rattle.std.proofs.lemmas.Map.Text.{is_eq-slice_cmp}
use native.Mathlib.Omega.{arith}
use Rattle.finite_maps.specs.Table.{get, assign, count, get-assign, text_keys, adjust_number}
use Rattle.file_tree.specs.Tree.{Names, Node, bytes_of_node, Target, target, renamed_node}
use Rattle.world_parts.specs.World.{World, kind, name, name_count, others, set_name, node_of, apply}
use Rattle.world_parts.specs.Items.{Atom, size_of, byte_at, description_at, name_at, names_in, Value, value}
use Rattle.world_parts.proofs.Changes.{adjusted, opened_kept}

-- What a target says is so in a world.
abbrev pub Leads : World → Option Target → Type 0
Leads s x = IfSome x (λ y. kind s y.node ≡ y.kind)

-- How many names there are after one is set or taken away, which was there or not.
abbrev pub counted : Bool → Bool → ℕ → ℕ
counted set there c = c + cond set 1 0 - cond there 1 0

-- A name of a node that is set or taken away: whether that is a directory, and whether the name was there.
abbrev pub renamed : ℕ → List ℕ → Option Target → Bool → Bool → (a : Atom) → Value a → Value a
renamed d n x in_directory there (name_at e m) v = cond (e == d && bytes_eq m n) (cond in_directory x None) v
renamed d n x in_directory there (names_in e) v = cond (e == d) (option_map (counted (is_some x) there) v) v
renamed d n x in_directory there a v = v

module _ (n : List ℕ) (x : Option Target) where
  abbrev put : Node → Node
  put = renamed_node n (node_of x)

  abbrev with_name : Names → Names
  with_name ns = assign text_keys.total ns n (node_of x)

  pub naming-kind : (s : World) (d i : ℕ) → kind (apply (set_name d n x) s) i ≡ kind s i
  naming-kind s d i = grind (arith, adjusted put s.nodes d i)

  pub naming-bytes : (s : World) (d i : ℕ) → option_and_then bytes_of_node (get (adjust_number put s.nodes d) i) ≡ option_and_then bytes_of_node (get s.nodes i)
  naming-bytes s d i = grind (arith, adjusted put s.nodes d i)

  pub naming-others : (s : World) (d i : ℕ) → others (apply (set_name d n x) s) i ≡ others s i
  naming-others s d i = grind (arith, adjusted put s.nodes d i)

  -- The target of a name of a directory, and how many names it has.
  looked_up : (s : World) (ns : Names) (m : List ℕ) → Leads s x
      → option_map (target s.nodes) (get (with_name ns) m) ≡ cond (bytes_eq m n) x (option_map (target s.nodes) (get ns m))
  looked_up s ns m h = grind (arith, get-assign text_keys.total ns n (node_of x) m, is_eq-slice_cmp, h)

  counts : (ns : Names) (i : Option ℕ) → count (assign text_keys.total ns n i) + cond (is_some (get ns n)) 1 0 ≡ count ns + cond (is_some i) 1 0
  counts ns None = grind (arith, length_without (slice_cmp nat_cmp) text_keys.total n ns.entries ns.sorted)
  counts ns (Some j) = grind (arith, length-put (slice_cmp nat_cmp) text_keys.total n j ns.entries ns.sorted)

  how_many : (s : World) (ns : Names) (o : ℕ) → count (with_name ns) + o ≡ counted (is_some x) (is_some (option_map (target s.nodes) (get ns n))) (count ns + o)
  how_many s ns o = grind (arith, counts ns (node_of x))

  targets : (s : World) (d : ℕ) (o : Option ℕ) → option_map (target (adjust_number put s.nodes d)) o ≡ option_map (target s.nodes) o
  targets s d o = grind (arith, naming-kind s d)

  pub set_name-value : (s : World) (d : ℕ) (a : Atom) → Leads s x → value (apply (set_name d n x) s) a ≡ renamed d n x (is_some (name_count s d)) (is_some (name s d n)) a (value s a)
  set_name-value s d (name_at e m) h = grind (arith, adjusted put s.nodes d e, targets s d, looked_up s)
  set_name-value s d (names_in e) h = grind (arith, adjusted put s.nodes d e, how_many s)
  set_name-value s d (size_of i) h = grind (arith, naming-bytes s d i)
  set_name-value s d (byte_at i p) h = grind (arith, naming-bytes s d i)
  set_name-value s d (description_at e) h = opened_kept s (adjust_number put s.nodes d) (naming-kind s d) e
  set_name-value s d _ h = refl
