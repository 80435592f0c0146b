-- What making a node or a description does to each atom; filling and emptying slots and descriptors; cutting and extending a file.
use Rattle.std.specs.Prelude.{◌≡◌, ℕ, cond, ◌&&◌, ◌==◌, leb, List, Option, Some, None, refl, IfSome}
use Rattle.std.specs.Option.{option_map}
use Rattle.std.specs.Cmp.{unsigned_tied}
use mathlib.Core.Path.{ap, ◌∙◌}
use native.Mathlib.Omega.{arith}
use Rattle.finite_maps.specs.Table.{get, get-insert, get-assign, number_keys, pair_keys}
use Rattle.extent_bytes.specs.Bytes.{resized}
use Rattle.extent_bytes.proofs.Lengths.{length-resized}
use Rattle.file_tree.specs.Tree.{Kind, a_directory, a_file, kind_of_node, new_node, rewritten_node, target}
use Rattle.world_parts.specs.World.{World, Description, kind, others, byte, name, Opened, opened, opened_by, new_description, make_node, make_description, set_slot, set_descriptor, set_size, apply}
use Rattle.world_parts.specs.Items.{Atom, slot_at, descriptor_at, description_at, position_of, size_of, byte_at, name_at, names_in, Value, value}
use Rattle.world_parts.proofs.Changes.{adjusted, rewriting-count, rewriting-opened, rewriting-name, pair_tied}
use Rattle.world_parts.proofs.ByteWords.{each-resized}

-- A node's number is unused: there is no such node, and nothing leads to it.
pub record Unused (s : World) (i : ℕ) : Type 0 where
  pub no_node : get s.nodes i ≡ None
  pub unnamed : (d : ℕ) (n : List ℕ) → IfSome (name s d n) (λ t. ¬ (t.node ≡ i))
  pub unopened : (d : ℕ) → IfSome (opened s d) (λ o. ¬ (o.target.node ≡ i))

-- A node that is made.
abbrev pub made : ℕ → Kind → (a : Atom) → Value a → Value a
made i a_file (size_of j) v = cond (j == i) (Some 0) v
made i a_directory (names_in j) v = cond (j == i) (Some 0) v
made i k a v = v

module _ (s : World) (i : ℕ) (k : Kind) where
  abbrev after : World
  after = apply (make_node i k) s

  -- What is found at a number afterwards.
  found : (j : ℕ) → get after.nodes j ≡ cond (j == i) (Some (new_node k)) (get s.nodes j)
  found j = grind (arith, get-insert number_keys.total s.nodes i (new_node k) j, unsigned_tied)

  pub making-kind : (j : ℕ) → ¬ (j ≡ i) → kind after j ≡ kind s j
  making-kind j h = grind (arith, found j)

  pub made-kind : kind after i ≡ Some (kind_of_node (new_node k))
  made-kind = grind (arith, found i)

  -- A new node shows all its names.
  pub making-others : (j : ℕ) → IfSome (others s j) (λ n. n ≡ 0) → IfSome (others after j) (λ n. n ≡ 0)
  making-others j h = grind (arith, found j)

  module _ (unused : Unused s i) where
    pub making-targets : (o : Option ℕ) → IfSome (option_map (target s.nodes) o) (λ t. ¬ (t.node ≡ i)) → option_map (target after.nodes) o ≡ option_map (target s.nodes) o
    making-targets o h = grind (arith, making-kind)

    making-opened : (o : Option Description) → IfSome (option_map (opened_by s) o) (λ x. ¬ (x.target.node ≡ i)) → option_map (opened_by after) o ≡ option_map (opened_by s) o
    making-opened o h = grind (arith, making-kind)

    pub making-name : (e : ℕ) (n : List ℕ) → name after e n ≡ name s e n
    making-name e n = grind (arith, found e, unused.no_node, unused.unnamed e n, making-targets)

    pub making-description : (e : ℕ) → opened after e ≡ opened s e
    making-description e = making-opened (get s.descriptions e) (unused.unopened e)

    pub making-byte : (j p : ℕ) → byte after j p ≡ byte s j p
    making-byte j p = grind (arith, found j, unused.no_node)

pub make_node-value : (s : World) (i : ℕ) (k : Kind) (a : Atom) → Unused s i → value (apply (make_node i k) s) a ≡ made i k a (value s a)
make_node-value s i k (size_of j) h = grind (arith, found s i k j, h.no_node)
make_node-value s i k (names_in j) h = grind (arith, found s i k j, h.no_node)
make_node-value s i k (byte_at j p) h = grind (arith, making-byte s i k h j p)
make_node-value s i k (name_at e n) h = grind (arith, making-name s i k h e n)
make_node-value s i k (description_at e) h = grind (arith, making-description s i k h e)
make_node-value s i k _ h = grind arith

-- A description that is made.
abbrev pub described : ℕ → Opened → (a : Atom) → Value a → Value a
described n o (description_at e) v = cond (e == n) (Some o) v
described n o (position_of e) v = cond (e == n) (Some 0) v
described n o a v = v

pub make_description-value : (s : World) (n : ℕ) (o : Opened) (a : Atom) → kind s o.target.node ≡ o.target.kind → value (apply (make_description n o) s) a ≡ described n o a (value s a)
make_description-value s n o (description_at e) h = grind (arith, get-insert number_keys.total s.descriptions n (new_description o) e, unsigned_tied, h)
make_description-value s n o (position_of e) h = grind (arith, get-insert number_keys.total s.descriptions n (new_description o) e, unsigned_tied)
make_description-value s n o _ h = refl

-- A slot that is filled or emptied.
abbrev pub slotted : ℕ → ℕ → Option ℕ → (a : Atom) → Value a → Value a
slotted r n x (slot_at q m) v = cond (q == r && m == n) x v
slotted r n x a v = v

pub set_slot-value : (s : World) (r n : ℕ) (x : Option ℕ) (a : Atom) → value (apply (set_slot r n x) s) a ≡ slotted r n x a (value s a)
set_slot-value s r n x (slot_at q m) = get-assign pair_keys.total s.slots (r, n) x (q, m) ∙ ap (λ b. cond b x (get s.slots (q, m))) (pair_tied q m r n)
set_slot-value s r n x _ = refl

-- A descriptor that is filled or emptied.
abbrev pub held_at : ℕ → Option ℕ → (a : Atom) → Value a → Value a
held_at n x (descriptor_at m) v = cond (m == n) x v
held_at n x a v = v

pub set_descriptor-value : (s : World) (n : ℕ) (x : Option ℕ) (a : Atom) → value (apply (set_descriptor n x) s) a ≡ held_at n x a (value s a)
set_descriptor-value s n x (descriptor_at m) = get-assign number_keys.total s.descriptors n x m ∙ ap (λ b. cond b x (get s.descriptors m)) (unsigned_tied m n)
set_descriptor-value s n x _ = refl

-- A file that is cut or extended.
abbrev pub cut : ℕ → ℕ → (a : Atom) → Value a → Value a
cut i n (size_of j) v = cond (j == i) (option_map (λ m. n) v) v
cut i n (byte_at j p) v = cond (j == i && leb n p) 0 v
cut i n a v = v

pub set_size-value : (s : World) (i n : ℕ) (a : Atom) → value (apply (set_size i n) s) a ≡ cut i n a (value s a)
set_size-value s i n (size_of j) = grind (arith, adjusted (rewritten_node (λ bs. resized bs n)) s.nodes i j, length-resized)
set_size-value s i n (byte_at j p) = grind (arith, adjusted (rewritten_node (λ bs. resized bs n)) s.nodes i j, each-resized)
set_size-value s i n (names_in e) = rewriting-count (λ bs. resized bs n) s i e
set_size-value s i n (name_at e m) = rewriting-name (λ bs. resized bs n) s i e m
set_size-value s i n (description_at e) = rewriting-opened (λ bs. resized bs n) s i e
set_size-value s i n _ = refl
