-- A part that gets an item of the world: chains, slots and descriptors.
use Rattle.std.specs.Prelude.{◌≡◌, ℕ, Bool, false, cond, ◌==◌, T, length, Option, Some, None, is_some, refl, Result, OnOk}
use Rattle.std.specs.Option.{option_map}
use Rattle.std.specs.Cmp.{unsigned_tied}
use mathlib.Core.Path.{sym, subst, ap, ◌∙◌}
use mathlib.Core.Logic.{inr}
use native.Mathlib.Omega.{arith}
use Rattle.finite_maps.specs.Table.{get, get-insert, number_keys}
use Rattle.file_tree.specs.Tree as tree
use Rattle.file_tree.specs.Tree.{Tree}
use Rattle.world_parts.specs.World.{World, Broken, kind, name, opened, buffer, slot, descriptor, broken, set_slot, set_descriptor, break_chain, apply}
use Rattle.world_parts.specs.Items.{Atom, chain_flag, slot_at, descriptor_at, Item, one, all_descriptors, member_of, value}
use Rattle.world_parts.specs.Cutting.{Shows}
use Rattle.world_parts.specs.Copying.{outline_of_node, outline, IsShadow, IsNearer, IsCopied}
use Rattle.world_parts.proofs.ChangesOfMaking.{set_slot-value, set_descriptor-value}
use Rattle.world_parts.proofs.Collision.{same_atom-eq}

-- What isn't there isn't shown.
pub shown_none : {A : Type 0} (x y : Option A) → Shows x y → y ≡ None → y ≡ x
shown_none x y h e = grind arith

-- What follows from two things that hold where a call succeeds.
pub on_ok_two : {A E P Q R : Type 0} (r : Result A E) → (P → Q → R) → OnOk r P → OnOk r Q → OnOk r R
on_ok_two r f a b = grind arith

pub chosen : {A : Type 0} (b : Bool) (x y : A) → T b → cond b x y ≡ x
chosen b x y h = grind arith

-- Of two numbers, the one that is put at a key.
pub either_way : {A : Type 0} (b : Bool) (P : A → Type 0) (y z : A) → (T b → P y) → P z → P (cond b y z)
either_way b P y z f e = grind arith

pub one_item : (s q : World) (b : Atom) → value s b ≡ value q b → (a : Atom) → T (member_of (one b) a) → value s a ≡ value q a
one_item s q b e a h = subst (λ c. value s c ≡ value q c) (same_atom-eq b a h) e

pub copied_to : (s p q r : World) (x : Item) → IsCopied s p q x → r ≡ q → IsCopied s p r x
copied_to s p q r x h e = subst (λ w. IsCopied s p w x) (sym e) h

pub nearer_to : (s p q r : World) → IsNearer s p q → r ≡ q → IsNearer s p r
nearer_to s p q r h e = subst (λ w. IsNearer s p w) (sym e) h

pub nothing_moved : (s p : World) → IsShadow s p → IsNearer s p p
nothing_moved s p sh = record { shadow = sh; outlines = λ i. inr refl; atoms = λ a e. e }

pub nearer_still : (s p q r : World) → IsNearer s p q → IsNearer s q r → IsNearer s p r
nearer_still s p q r g h = record { shadow = h.shadow; outlines = λ i. grind (arith, g.outlines i, h.outlines i); atoms = λ a e. h.atoms a (g.atoms a e) }

-- A kind that agrees stays.
pub same_kind : (s p : World) (i : ℕ) → outline p i ≡ outline s i → kind p i ≡ kind s i
same_kind s p i e = grind arith

pub kind_stays : (s p q : World) → IsNearer s p q → (i : ℕ) → kind p i ≡ kind s i → kind q i ≡ kind s i
kind_stays s p q g i e = grind (arith, g.outlines i)

-- A part with the nodes that it had, and other values beside them.
pub nearer_beside : (s p q : World) → IsShadow s p → q.nodes ≡ p.nodes → ((d : ℕ) → Shows (opened q d) (opened s d))
    → ((r b : ℕ) → Shows (option_map length (buffer q r b)) (option_map length (buffer s r b))) → ((c : ℕ) → Shows (broken q c) (broken s c))
    → ((a : Atom) → value s a ≡ value p a → value s a ≡ value q a) → IsNearer s p q
nearer_beside s p q sh e descriptions buffers chains atoms = record {
  shadow = record {
    outlines = λ i. subst (λ (t : Tree). Shows (option_map outline_of_node (get t i)) (outline s i)) (sym e) (sh.outlines i);
    names = λ d n. subst (λ (t : Tree). Shows (tree.name t d n) (name s d n)) (sym e) (sh.names d n);
    descriptions = descriptions;
    buffers = buffers;
    chains = chains;
  };
  outlines = λ i. inr (ap (λ (t : Tree). option_map outline_of_node (get t i)) e);
  atoms = atoms;
}

-- Chains.

broken_after : (p : World) (c : ℕ) (f : Broken) (d : ℕ) → broken (apply (break_chain c f) p) d ≡ cond (d == c) (Some f) (broken p d)
broken_after p c f d = get-insert number_keys.total p.broken c f d ∙ ap (λ b. cond b (Some f) (broken p d)) (unsigned_tied d c)

pub chain_copied : (s p : World) (c : ℕ) (f : Broken) → broken s c ≡ Some f → IsShadow s p → IsCopied s p (apply (break_chain c f) p) (one (chain_flag c))
chain_copied s p c f there sh = record {
  nearer = nearer_beside s p (apply (break_chain c f) p) sh refl sh.descriptions sh.buffers (λ d. grind (arith, broken_after p c f d, sh.chains d)) atoms;
  item = one_item s (apply (break_chain c f) p) (chain_flag c) (grind (arith, broken_after p c f c));
}
  where
    atoms : (a : Atom) → value s a ≡ value p a → value s a ≡ value (apply (break_chain c f) p) a
    atoms (chain_flag d) e = grind (arith, broken_after p c f d)
    atoms _ e = e

pub no_chain_copied : (s p : World) (c : ℕ) → broken s c ≡ None → IsShadow s p → IsCopied s p p (one (chain_flag c))
no_chain_copied s p c none sh = record { nearer = nothing_moved s p sh; item = one_item s p (chain_flag c) (shown_none (broken p c) (broken s c) (sh.chains c) none) }

-- Slots and descriptors.

pub slot_copied : (s p : World) (r n : ℕ) → IsShadow s p → IsCopied s p (apply (set_slot r n (slot s r n)) p) (one (slot_at r n))
slot_copied s p r n sh = record {
  nearer = nearer_beside s p (apply (set_slot r n (slot s r n)) p) sh refl sh.descriptions sh.buffers sh.chains atoms;
  item = one_item s (apply (set_slot r n (slot s r n)) p) (slot_at r n) (grind (arith, set_slot-value p r n (slot s r n) (slot_at r n)));
}
  where
    atoms : (a : Atom) → value s a ≡ value p a → value s a ≡ value (apply (set_slot r n (slot s r n)) p) a
    atoms (slot_at t m) e = grind (arith, set_slot-value p r n (slot s r n) (slot_at t m))
    atoms _ e = e

pub descriptor_copied : (s p : World) (n : ℕ) → IsShadow s p → IsCopied s p (apply (set_descriptor n (descriptor s n)) p) (one (descriptor_at n))
descriptor_copied s p n sh = record {
  nearer = nearer_beside s p (apply (set_descriptor n (descriptor s n)) p) sh refl sh.descriptions sh.buffers sh.chains atoms;
  item =
      one_item s (apply (set_descriptor n (descriptor s n)) p) (descriptor_at n) (grind (arith, set_descriptor-value p n (descriptor s n) (descriptor_at n)));
}
  where
    atoms : (a : Atom) → value s a ≡ value p a → value s a ≡ value (apply (set_descriptor n (descriptor s n)) p) a
    atoms (descriptor_at m) e = grind (arith, set_descriptor-value p n (descriptor s n) (descriptor_at m))
    atoms _ e = e

pub descriptors_copied : (s p : World) → IsShadow s p → IsCopied s p (record p { descriptors = s.descriptors }) all_descriptors
descriptors_copied s p sh = record {
  nearer = nearer_beside s p (record p { descriptors = s.descriptors }) sh refl sh.descriptions sh.buffers sh.chains atoms;
  item = item;
}
  where
    atoms : (a : Atom) → value s a ≡ value p a → value s a ≡ value (record p { descriptors = s.descriptors }) a
    atoms (descriptor_at m) e = refl
    atoms _ e = e

    item : (a : Atom) → T (member_of all_descriptors a) → value s a ≡ value (record p { descriptors = s.descriptors }) a
    item (descriptor_at m) h = refl
    item _ h = absurd h

-- a look-up that was told to find nothing finds nothing
pub none_of : {X : Type 0} (o : Option X) → is_some o ≡ false → o ≡ None
none_of None h = refl
none_of (Some x) h = cc
