-- Worlds that come nearer to another one: each raw value becomes that world's or stays, and names that are shown stay so.
use Rattle.std.specs.Prelude.{◌≡◌, ℕ, true, false, cond, List, length, Option, refl, ◌⊎◌}
use Rattle.std.specs.Option.{option_map}
use Rattle.std.specs.declared.cmp.Ordering.{Ordering}
use Rattle.std.specs.Ordering.{is_eq}
use Rattle.std.specs.Cmp.{tied_itself, Equal-is}
use Rattle.std.proofs.lemmas.Bool.{cond_both}
use mathlib.Core.Path.{sym, subst, ap, ◌∙◌}
use mathlib.Core.Logic.{inl, inr}
use native.Mathlib.Omega.{arith}
use Rattle.finite_maps.specs.Table.{Table, IsKeyOrder, get, assign, get-assign, number_keys, pair_keys}
use Rattle.file_tree.specs.Tree.{Node}
use Rattle.world_parts.specs.World.{World, Description, Broken}
use Rattle.world_parts.specs.Items.{Atom, chain_flag, slot_at, descriptor_at, description_at, position_of, size_of, byte_at, name_at, names_in, buffer_size, buffer_byte}
use Rattle.world_parts.proofs.Raw.{head_of, spot, long, byte_in, lists, entry, byte_got, raw, ShownNode, AllShown}

-- A value that is one of two others.
abbrev pub OneOf : {A : Type 0} → A → A → A → Type 0
OneOf x y z = (x ≡ y) ⊎ (x ≡ z)

pub record Nearer (w t u : World) : Type 0 where
  pub each : (a : Atom) → OneOf (raw u a) (raw w a) (raw t a)
  pub shown : AllShown t → AllShown u

pub nearer_not : (w t : World) → Nearer w t t
nearer_not w t = record { each = λ a. inr refl; shown = λ h. h }

pub nearer_twice : (w s t u : World) → Nearer w s t → Nearer w t u → Nearer w s u
nearer_twice w s t u g h = record { each = λ a. grind (arith, g.each a, h.each a); shown = λ k. h.shown (g.shown k) }

-- What is reached stays.
pub stays : (w t u : World) (a : Atom) → Nearer w t u → raw t a ≡ raw w a → raw u a ≡ raw w a
stays w t u a h e = grind (arith, h.each a)

-- A table in which a key has another value.
module _ {K X : Type 0} {R : K → K → Ordering} (o : IsKeyOrder R) (m : Table R X) (k : K) (z : Option X) where
  pub placed : get (assign o.total m k z) k ≡ z
  placed = get-assign o.total m k z k ∙ ap (λ r. cond (is_eq r) z (get m k)) (tied_itself o.total k)

  pub placed_near : {A : Type 0} (g : Option X → A) (w : K → A) → OneOf (g z) (w k) (g (get m k)) → (q : K)
      → OneOf (g (get (assign o.total m k z) q)) (w q) (g (get m q))
  placed_near g w h q =
      subst (λ x. OneOf (g x) (w q) (g (get m q))) (sym (get-assign o.total m k z q))
      (cond_both (is_eq (R q k)) z (get m q) (λ x. OneOf (g x) (w q) (g (get m q)))
      (λ e. subst (λ (j : K). OneOf (g z) (w j) (g (get m j))) (sym (o.same q k ((Equal-is (R q k)).0 e))) h) (λ e. inr refl))

  pub placed_holds : (P : Option X → Type 0) → P z → ((q : K) → P (get m q)) → (q : K) → P (get (assign o.total m k z) q)
  placed_holds P h g q = subst P (sym (get-assign o.total m k z q)) (elim (is_eq (R q k)) as (λ b. P (cond b z (get m q))) [ true ↦ h | false ↦ g q ])

-- A node that comes nearer to another one.
pub record NodeNear (y x z : Option Node) : Type 0 where
  pub size : OneOf (long z) (long y) (long x)
  pub byte : (p : ℕ) → OneOf (byte_in z p) (byte_in y p) (byte_in x p)
  pub listing : OneOf (lists z) (lists y) (lists x)
  pub name : (n : List ℕ) → OneOf (entry z n) (entry y n) (entry x n)
  pub shown : ShownNode x → ShownNode z

pub node_nearer : (w t : World) (i : ℕ) (z : Option Node) → NodeNear (get w.nodes i) (get t.nodes i) z → Nearer w t (record t { nodes = assign number_keys.total t.nodes i z })
node_nearer w t i z h = record { each = by; shown = λ k. placed_holds number_keys t.nodes i z ShownNode (h.shown (k i)) k }
  where
    by : (a : Atom) → OneOf (raw (record t { nodes = assign number_keys.total t.nodes i z }) a) (raw w a) (raw t a)
    by (size_of j) = placed_near number_keys t.nodes i z long (λ k. long (get w.nodes k)) h.size j
    by (byte_at j p) = placed_near number_keys t.nodes i z (λ x. byte_in x p) (λ k. byte_in (get w.nodes k) p) (h.byte p) j
    by (names_in d) = placed_near number_keys t.nodes i z lists (λ k. lists (get w.nodes k)) h.listing d
    by (name_at d n) = placed_near number_keys t.nodes i z (λ x. entry x n) (λ k. entry (get w.nodes k) n) (h.name n) d
    by _ = inr refl

pub description_nearer : (w t : World) (d : ℕ) (z : Option Description)
    → OneOf (option_map head_of z) (option_map head_of (get w.descriptions d)) (option_map head_of (get t.descriptions d))
    → OneOf (spot z) (spot (get w.descriptions d)) (spot (get t.descriptions d))
    → Nearer w t (record t { descriptions = assign number_keys.total t.descriptions d z })
description_nearer w t d z h p = record { each = by; shown = λ k. k }
  where
    by : (a : Atom) → OneOf (raw (record t { descriptions = assign number_keys.total t.descriptions d z }) a) (raw w a) (raw t a)
    by (description_at e) = placed_near number_keys t.descriptions d z (option_map head_of) (λ k. option_map head_of (get w.descriptions k)) h e
    by (position_of e) = placed_near number_keys t.descriptions d z spot (λ k. spot (get w.descriptions k)) p e
    by _ = inr refl

pub slot_nearer : (w t : World) (r n : ℕ) (z : Option ℕ) → z ≡ get w.slots (r, n) → Nearer w t (record t { slots = assign pair_keys.total t.slots (r, n) z })
slot_nearer w t r n z e = record { each = by; shown = λ k. k }
  where
    by : (a : Atom) → OneOf (raw (record t { slots = assign pair_keys.total t.slots (r, n) z }) a) (raw w a) (raw t a)
    by (slot_at q m) = placed_near pair_keys t.slots (r, n) z (λ x. x) (get w.slots) (inl e) (q, m)
    by _ = inr refl

pub descriptor_nearer : (w t : World) (n : ℕ) (z : Option ℕ) → z ≡ get w.descriptors n
    → Nearer w t (record t { descriptors = assign number_keys.total t.descriptors n z })
descriptor_nearer w t n z e = record { each = by; shown = λ k. k }
  where
    by : (a : Atom) → OneOf (raw (record t { descriptors = assign number_keys.total t.descriptors n z }) a) (raw w a) (raw t a)
    by (descriptor_at m) = placed_near number_keys t.descriptors n z (λ x. x) (get w.descriptors) (inl e) m
    by _ = inr refl

pub chain_nearer : (w t : World) (c : ℕ) (z : Option Broken) → z ≡ get w.broken c → Nearer w t (record t { broken = assign number_keys.total t.broken c z })
chain_nearer w t c z e = record { each = by; shown = λ k. k }
  where
    by : (a : Atom) → OneOf (raw (record t { broken = assign number_keys.total t.broken c z }) a) (raw w a) (raw t a)
    by (chain_flag d) = placed_near number_keys t.broken c z (λ x. x) (get w.broken) (inl e) d
    by _ = inr refl

pub buffer_nearer : (w t : World) (r b : ℕ) (z : Option (List ℕ))
    → OneOf (option_map length z) (option_map length (get w.buffers (r, b))) (option_map length (get t.buffers (r, b)))
    → ((p : ℕ) → OneOf (byte_got z p) (byte_got (get w.buffers (r, b)) p) (byte_got (get t.buffers (r, b)) p))
    → Nearer w t (record t { buffers = assign pair_keys.total t.buffers (r, b) z })
buffer_nearer w t r b z h g = record { each = by; shown = λ k. k }
  where
    by : (a : Atom) → OneOf (raw (record t { buffers = assign pair_keys.total t.buffers (r, b) z }) a) (raw w a) (raw t a)
    by (buffer_size q c) = placed_near pair_keys t.buffers (r, b) z (option_map length) (λ k. option_map length (get w.buffers k)) h (q, c)
    by (buffer_byte q c p) = placed_near pair_keys t.buffers (r, b) z (λ x. byte_got x p) (λ k. byte_got (get w.buffers k) p) (g p) (q, c)
    by _ = inr refl
