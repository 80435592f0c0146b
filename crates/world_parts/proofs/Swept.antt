-- A world without what nothing leads to any more.
use Rattle.std.proofs.Common.{◌≡◌, ℕ, Bool, ◌+◌, ap, arith, ◌∙◌, nat_eq}
use Rattle.std.specs.Prelude.{◌||◌, ltb}
use Rattle.finite_maps.specs.Table.{empty}
use Rattle.finite_maps.specs.Sifted.{only, only-alike}
use Rattle.file_tree.specs.Named.{is_named}
use Rattle.world_parts.specs.World.{World}
use Rattle.world_parts.specs.Sweeping.{is_held, is_open, swept}

module _ (started : ℕ) (v w n : World) (same : v ≡ w) (held led : ℕ → Bool)
    (holds : (d : ℕ) → held d ≡ (ltb d started || is_held w d))
    (leads : (i : ℕ) → led i ≡ (nat_eq i 0 || is_named w.nodes i || is_open (only held w.descriptions) i)) where
  -- the sets of what stays are those of the model
  pub swept_by : n.descriptions ≡ only held v.descriptions → n.nodes ≡ only led v.nodes → n.slots ≡ v.slots → n.descriptors ≡ v.descriptors → n.buffers ≡ v.buffers → n.broken ≡ empty
      → n ≡ swept started w
  swept_by ds ns ss fs bs none =
      let kept = only-alike held (λ d. ltb d started || is_held w d) w.descriptions holds in
      let descriptions = ds ∙ ap (λ (u : World). only held u.descriptions) same ∙ kept in
      let nodes =
      ns ∙ ap (λ (u : World). only led u.nodes) same
      ∙ only-alike led (λ i. nat_eq i 0 || is_named w.nodes i || is_open (only (λ d. ltb d started || is_held w d) w.descriptions) i) w.nodes
      (λ i. leads i ∙ ap (λ d. nat_eq i 0 || is_named w.nodes i || is_open d i) kept) in
      let slots = ss ∙ ap (λ (u : World). u.slots) same in
      let descriptors = fs ∙ ap (λ (u : World). u.descriptors) same in
      let buffers = bs ∙ ap (λ (u : World). u.buffers) same in
      λ i. record { nodes = nodes i; descriptions = descriptions i; slots = slots i; descriptors = descriptors i; buffers = buffers i; broken = none i }

-- the numbers below the next one
pub below_next : (i k : ℕ) → (ltb i k || nat_eq k i) ≡ ltb i (k + 1)
below_next i k = grind arith
