-- A change of a world and the same change of one within it.
use Rattle.std.proofs.Common.{◌≡◌, ℕ, ◌<◌, List, [], ◌∷◌, Bool, true, false, cond, Option, Some, None, refl, sym, ap, subst, ◌∙◌, arith, inl, inr}
use Rattle.std.specs.Prelude.{IsSome}
use Rattle.std.specs.Option.{option_map}
use Rattle.std.specs.Ordering.{nat_cmp, eq_by_cmp}
use Rattle.std.specs.Cmp.{unsigned_tied}
use Rattle.std.proofs.lemmas.Bool.{cases_eq, ne_eqb}
use Rattle.extent_bytes.specs.Bytes.{overwritten, overlaid, resized, zeroed}
use Rattle.finite_maps.specs.Table.{Table, get, insert, assign, adjust_number, number_keys, pair_keys, get-assign}
use Rattle.file_tree.specs.Tree.{new_node, renamed_node, rewritten_node}
use Rattle.world_parts.specs.World.{World, IsWorld, node_of, new_description, Change, set_name, make_node, set_slot, set_descriptor, make_description, set_position, set_size, write_bytes, zero_bytes, write_buffer, break_chain, apply, apply_all}
use Rattle.sweep_laws.specs.Within.{IsWithin}

-- What a map has is in another one too; and below a number they are the same.
pub record HasOf {X : Type 0} (below : ℕ) (all some : Table nat_cmp X) : Type 0 where
  pub there : (k : ℕ) → IsSome (get some k) → get some k ≡ get all k
  pub first : (k : ℕ) → k < below → get some k ≡ get all k

-- A value is put at a number of both, or taken away there.
module _ {X : Type 0} (below : ℕ) (all some : Table nat_cmp X) (h : HasOf below all some) (k : ℕ) (x y : Option X) (same : IsSome y → y ≡ x) (first : k < below → y ≡ x) where
  at : (b : Bool) (q : ℕ) → IsSome (cond b y (get some q)) → cond b y (get some q) ≡ cond b x (get all q)
  at true q there = same there
  at false q there = h.there q there

  at_first : (q : ℕ) → q < below → cond (eq_by_cmp nat_cmp q k) y (get some q) ≡ cond (eq_by_cmp nat_cmp q k) x (get all q)
  at_first q lt = elim (cases_eq q k) [
    | inl e ↦ λ i. cond (eq_by_cmp nat_cmp q k) (first (subst (λ n. n < below) e lt) i) (h.first q lt i)
    | inr ne ↦
        let other : eq_by_cmp nat_cmp q k ≡ false = unsigned_tied q k ∙ ne_eqb q k ne in
        ap (λ b. cond b y (get some q)) other ∙ h.first q lt ∙ sym (ap (λ b. cond b x (get all q)) other)
  ]

  assigned : HasOf below (assign number_keys.total all k x) (assign number_keys.total some k y)
  assigned = record {
    there = λ q there.
        let mine = get-assign number_keys.total some k y q in
        mine ∙ at (eq_by_cmp nat_cmp q k) q (subst IsSome mine there) ∙ sym (get-assign number_keys.total all k x q);
    first = λ q lt. get-assign number_keys.total some k y q ∙ at_first q lt ∙ sym (get-assign number_keys.total all k x q);
  }

some_before : {X : Type 0} (f : X → X) (o : Option X) → IsSome (option_map f o) → IsSome o
some_before f None there = there
some_before f (Some x) there = refl

inserted : {X : Type 0} (below : ℕ) (all some : Table nat_cmp X) → HasOf below all some → (k : ℕ) (x : X) → HasOf below (insert number_keys.total all k x) (insert number_keys.total some k x)
inserted below all some h k x = assigned below all some h k (Some x) (Some x) (λ there. refl) (λ lt. refl)

changed : {X : Type 0} (below : ℕ) (all some : Table nat_cmp X) → HasOf below all some → (f : X → X) (k : ℕ) → HasOf below (adjust_number f all k) (adjust_number f some k)
changed below all some h f k =
    assigned below all some h k (option_map f (get all k)) (option_map f (get some k))
    (λ there. ap (option_map f) (h.there k (some_before f (get some k) there))) (λ lt. ap (option_map f) (h.first k lt))

-- All that two worlds have to do with each other, but that the one within the other is a world.
pub record Shares (started : ℕ) (s w : World) : Type 0 where
  pub nodes : HasOf 0 s.nodes w.nodes
  pub descriptions : HasOf started s.descriptions w.descriptions
  pub slots : w.slots ≡ s.slots
  pub descriptors : w.descriptors ≡ s.descriptors
  pub buffers : w.buffers ≡ s.buffers
  pub broken : w.broken ≡ s.broken

pub shares : (started : ℕ) (s w : World) → IsWithin started s w → Shares started s w
shares started s w h = record {
  nodes = record { there = h.nodes; first = λ k lt. absurd (omega (arith, lt)) };
  descriptions = record { there = h.descriptions; first = h.first_descriptions };
  slots = h.slots;
  descriptors = h.descriptors;
  buffers = h.buffers;
  broken = h.broken;
}

pub is_within : (started : ℕ) (s w : World) → IsWorld w → Shares started s w → IsWithin started s w
is_within started s w is h = record {
  is_world = is;
  nodes = h.nodes.there;
  descriptions = h.descriptions.there;
  first_descriptions = h.descriptions.first;
  slots = h.slots;
  descriptors = h.descriptors;
  buffers = h.buffers;
  broken = h.broken;
}

module _ (started : ℕ) where
  with_nodes : (s w : World) → Shares started s w → (f : Rattle.file_tree.specs.Tree.Node → Rattle.file_tree.specs.Tree.Node) (i : ℕ) → Shares started (record s { nodes = adjust_number f s.nodes i }) (record w { nodes = adjust_number f w.nodes i })
  with_nodes s w h f i = record { nodes = changed 0 s.nodes w.nodes h.nodes f i; descriptions = h.descriptions; slots = h.slots; descriptors = h.descriptors; buffers = h.buffers; broken = h.broken }

  pub change_shared : (c : Change) (s w : World) → Shares started s w → Shares started (apply c s) (apply c w)
  change_shared (set_name d n x) s w h = with_nodes s w h (renamed_node n (node_of x)) d
  change_shared (make_node i k) s w h =
      record { nodes = inserted 0 s.nodes w.nodes h.nodes i (new_node k); descriptions = h.descriptions; slots = h.slots; descriptors = h.descriptors; buffers = h.buffers; broken = h.broken }
  change_shared (set_slot r n d) s w h =
      record { nodes = h.nodes; descriptions = h.descriptions; slots = ap (λ t. assign pair_keys.total t (r, n) d) h.slots; descriptors = h.descriptors; buffers = h.buffers; broken = h.broken }
  change_shared (set_descriptor n d) s w h =
      record { nodes = h.nodes; descriptions = h.descriptions; slots = h.slots; descriptors = ap (λ t. assign number_keys.total t n d) h.descriptors; buffers = h.buffers; broken = h.broken }
  change_shared (make_description n o) s w h =
      record { nodes = h.nodes; descriptions = inserted started s.descriptions w.descriptions h.descriptions n (new_description o); slots = h.slots; descriptors = h.descriptors; buffers = h.buffers; broken = h.broken }
  change_shared (set_position d p) s w h =
      record { nodes = h.nodes; descriptions = changed started s.descriptions w.descriptions h.descriptions (λ e. record e { position = p }) d; slots = h.slots; descriptors = h.descriptors; buffers = h.buffers; broken = h.broken }
  change_shared (set_size i n) s w h = with_nodes s w h (rewritten_node (λ bs. resized bs n)) i
  change_shared (write_bytes i at new) s w h = with_nodes s w h (rewritten_node (λ bs. overwritten bs at new)) i
  change_shared (zero_bytes i low high) s w h = with_nodes s w h (rewritten_node (λ bs. zeroed bs low high)) i
  change_shared (write_buffer r b at new) s w h =
      record { nodes = h.nodes; descriptions = h.descriptions; slots = h.slots; descriptors = h.descriptors; buffers = ap (λ t. assign pair_keys.total t (r, b) (option_map (λ bs. overlaid bs at new) (get t (r, b)))) h.buffers; broken = h.broken }
  change_shared (break_chain c f) s w h =
      record { nodes = h.nodes; descriptions = h.descriptions; slots = h.slots; descriptors = h.descriptors; buffers = h.buffers; broken = ap (λ t. insert number_keys.total t c f) h.broken }

  pub changes_shared : (cs : List Change) (s w : World) → Shares started s w → Shares started (apply_all cs s) (apply_all cs w)
  changes_shared [] s w h = h
  changes_shared (c ∷ cs) s w h = changes_shared cs (apply c s) (apply c w) (change_shared c s w h)
