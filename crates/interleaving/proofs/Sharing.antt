-- Where access sets collide exactly by an atom of both that one of them writes, they keep the laws on collisions.
use Rattle.std.proofs.Common.{◌≡◌, true, false, inl, inr, ⊎_elim, Decides}
use Rattle.std.proofs.lemmas.Bool.{false_from_ne_true}
use Rattle.std.proofs.lemmas.Bool.Decides.{not_from_Decides}
use Rattle.interleaving.specs.System.{System, Apart, Holds}
use Rattle.interleaving.specs.Sharing.{Shares}

module _ (m : System) (writes_touches : (f : m.Footprint) (a : m.Atom) → m.writes f a ≡ true → m.touches f a ≡ true)
    (sharing : (f g : m.Footprint) → Decides (m.collide f g) (Shares m f g)) where
  shares_none : (f g : m.Footprint) → m.collide f g ≡ false → Shares m f g → ⊥
  shares_none f g = not_from_Decides (m.collide f g) (sharing f g)

  pub apart_from_sharing : (f g : m.Footprint) → m.collide f g ≡ false → Apart m f g
  apart_from_sharing f g h = (
    λ a w. false_from_ne_true (m.touches g a) (λ t. shares_none f g h (a, writes_touches f a w, t, inl w)),
    λ a w. false_from_ne_true (m.touches f a) (λ t. shares_none f g h (a, t, writes_touches g a w, inr w)),
  )

  pub collide_from_held : (f r r₁ : m.Footprint) → Holds m r r₁ → m.collide f r ≡ false → m.collide f r₁ ≡ false
  collide_from_held f r r₁ holds h = false_from_ne_true (m.collide f r₁) (λ c.
      let shared = (sharing f r₁).0 c in
      shares_none f r h (shared.0, shared.1, holds.0 shared.0 shared.2, ⊎_elim (λ w. inl w) (λ w. inr (holds.1 shared.0 w)) shared.3))
