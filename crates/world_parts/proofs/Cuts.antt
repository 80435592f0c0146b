-- What cutting by an access set takes and leaves, use by use.
use Rattle.std.specs.Prelude.{◌≡◌, ℕ, zero, suc, Bool, ◌+◌, ◌<◌, T, List, [], ◌∷◌, ◌++◌, map, take, length, get_or, refl, ◌⊎◌}
use mathlib.Core.Path.{sym, subst, ap, ◌∙◌}
use mathlib.Core.Logic.{inl, inr}
use native.Mathlib.Omega.{arith}
use Rattle.std.proofs.Common.{Vec, Global, add-one}
use Rattle.std.proofs.Math.Seq.{take-suc}
use Rattle.world_parts.specs.declared.footprint.Item as code
use Rattle.world_parts.specs.declared.footprint.Item.TheVariants.{Chain, Ring, Slot, Descriptor, Description, Position, Size, Bytes, Name, Names, Buffer, AllDescriptors}
use Rattle.world_parts.specs.declared.footprint.Use as code_use
use Rattle.world_parts.specs.Uses.{item_meant, use_meant}
use Rattle.world_parts.specs.World.{World}
use Rattle.world_parts.specs.Items.{Atom, ring_order, member_of, Footprint, has_atom, Agree}
use Rattle.world_parts.specs.Cutting.{is_narrow_use, is_narrow, holed}
use Rattle.world_parts.specs.Copying.{IsShadow, IsCopied}
use Rattle.world_parts.proofs.Collision.{left, right}
use Rattle.world_parts.proofs.Copies.{one_item, nothing_moved}

-- Each use of a narrow access set is narrow.
pub narrow_at : (us : List code_use.Use) (i : ℕ) (u : code_use.Use) → i < length us → u ≡ get_or us i u → T (is_narrow (map use_meant us)) → T (is_narrow_use (use_meant u))
narrow_at [] i u h e n = absurd (omega arith)
narrow_at (v ∷ us) zero u h e n = subst (λ x. T (is_narrow_use (use_meant x))) (sym e) (left (is_narrow_use (use_meant v)) _ n)
narrow_at (v ∷ us) (suc i) u h e n = narrow_at us i u (omega arith) e (right (is_narrow_use (use_meant v)) _ n)

-- The atoms of an access set with one more use.
has_more : (us : List code_use.Use) (u : code_use.Use) (a : Atom) → T (has_atom (map use_meant (us ++ u ∷ [])) a) → T (has_atom (map use_meant us) a) ⊎ T (member_of (item_meant u.item) a)
has_more [] u a h = grind arith
has_more (v ∷ us) u a h = grind (arith, has_more us u a)

-- A copied item more.
pub agree_more : (s p q : World) (us : List code_use.Use) (i : ℕ) (u : code_use.Use) → i < length us → u ≡ get_or us i u → Agree (map use_meant (take i us)) s p → IsCopied s p q (item_meant u.item) → Agree (map use_meant (take (i + 1) us)) s q
agree_more s p q us i u h e g c = record {
  same = λ a m. elim (has_more (take i us) u a (subst (λ xs. T (has_atom (map use_meant xs) a)) more m)) [
    | inl k ↦ c.nearer.atoms a (g.same a k)
    | inr k ↦ c.item a k
  ];
}
  where
    more : take (i + 1) us ≡ take i us ++ u ∷ []
    more = ap (λ n. take n us) (add-one i) ∙ take-suc us i u h ∙ ap (λ x. take i us ++ x ∷ []) (sym e)

-- The world that is left, by the uses of an access set.
pub world_left : (w s q : World) (f : Footprint) (us vs : List code_use.Use) → s ≡ w → us ≡ vs → map use_meant vs ≡ f → q ≡ holed (map use_meant us) s → q ≡ holed f w
world_left w s q f us vs e g h k = k ∙ (λ i. holed ((ap (map use_meant) g ∙ h) i) (e i))

-- An item that isn't copied: a ring's order, or items of a whole sort.
pub record IsOther (x : code.Item) : Type 0 where
  pub no_chain : (c : ℕ) → x ≡ Chain c → ⊥
  pub no_slot : (r n : ℕ) → x ≡ Slot r n → ⊥
  pub no_descriptor : (n : ℕ) → x ≡ Descriptor n → ⊥
  pub no_description : (d : ℕ) → x ≡ Description d → ⊥
  pub no_position : (d : ℕ) → x ≡ Position d → ⊥
  pub no_size : (i : ℕ) → x ≡ Size i → ⊥
  pub no_bytes : (i low high : ℕ) → x ≡ Bytes i low high → ⊥
  pub no_name : (d : ℕ) (n : Vec ℕ Global) → x ≡ Name d n → ⊥
  pub no_names : (d : ℕ) → x ≡ Names d → ⊥
  pub no_buffer : (r b low high : ℕ) → x ≡ Buffer r b low high → ⊥
  pub no_descriptors : x ≡ AllDescriptors → ⊥

-- Of those a narrow use has only a ring's order, which has one value.
pub other_copied : (s p : World) (x : code.Item) (w : Bool) → IsShadow s p → IsOther x → T (is_narrow_use (record { item = item_meant x; written = w })) → IsCopied s p p (item_meant x)
other_copied s p (Ring r) w sh o n = record { nearer = nothing_moved s p sh; item = one_item s p (ring_order r) refl }
other_copied s p x w sh o n = absurd (grind arith)
