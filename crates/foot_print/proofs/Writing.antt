-- Which atoms earlier may-access sets write, and that fewer or narrower may-access sets write less.
use native.Mathlib.Omega.{arith}
use Rattle.std.specs.Prelude.{◌≡◌, Bool, true, false, ◌&&◌, ◌||◌, T, List, [], ◌∷◌, refl}
use Rattle.std.specs.List.{list_any}
use mathlib.Core.Path.{subst}
use Rattle.interleaving.specs.System.{System, NoneWrites, Thinner, Apart, Holds}
use Rattle.recording.specs.declared.recording.Recording.{Recording}
use Rattle.world_parts.specs.Items.{Atom, Item, member_of, share, Use, Footprint, has_atom, writes_atom, collide}
use Rattle.foot_print.specs.Reach.{written_by, is_met}
use Rattle.foot_print.specs.Replayed.{replayed}
use Rattle.world_parts.proofs.Collision.{both, left, right, either_left, either_right, any_passes, member-share, true_of, first_writes-collide, second_writes-collide, writes-has}
use Rattle.world_parts.proofs.Sharing.{Common, common, holds_true, atom_of_collide}

pub is_false : (b : Bool) → (T b → ⊥) → b ≡ false
is_false b h = grind arith

pub not_false : (b : Bool) → b ≡ false → T b → ⊥
not_false b e h = subst T e h

abbrev pub writes_some : Item → Footprint → Bool
writes_some x f = list_any (λ (u : Use). u.written && share u.item x) f

pub atom_of_writes : (x : Item) (f : Footprint) → T (writes_some x f) → (a : Atom) × T (writes_atom f a) × T (member_of x a)
atom_of_writes x [] h = absurd h
atom_of_writes x (u ∷ f) h =
    elim (u.written && share u.item x) as (λ b. (u.written && share u.item x) ≡ b → T (b || writes_some x f) → (a : Atom) × T (writes_atom (u ∷ f) a) × T (member_of x a)) [
      | true ↦ λ e k.
          let w : T (u.written && share u.item x) = holds_true _ e in
          let c : Common u.item x = common u.item x (right u.written _ w) in
          (c.0, either_left _ _ (both u.written _ (left u.written _ w) c.1), c.2)
      | false ↦ λ e k. let m = atom_of_writes x f k in (m.0, either_right (u.written && member_of u.item m.0) _ m.1, m.2)
    ] refl h

pub writes_of_atom : (x : Item) (f : Footprint) (a : Atom) → T (member_of x a) → T (writes_atom f a) → T (writes_some x f)
writes_of_atom x f a m h = any_passes _ (λ (u : Use). u.written && share u.item x) (λ (u : Use) w. both u.written _ (left u.written _ w) (member-share u.item x a (right u.written _ w) m)) f h

module _ (t : Recording) where
  m : System
  m = replayed t

  none_writes : (earlier : List Footprint) (a : Atom) → (T (list_any (λ f. writes_atom f a) earlier) → ⊥) → NoneWrites (replayed t) earlier a
  none_writes [] a h = tt
  none_writes (f ∷ fs) a h = (is_false _ (λ w. h (either_left _ _ w)), none_writes fs a (λ w. h (either_right (writes_atom f a) _ w)))

  written_of_atom : (earlier : List Footprint) (x : Item) (a : Atom) → T (member_of x a) → T (list_any (λ f. writes_atom f a) earlier) → T (written_by earlier x)
  written_of_atom earlier x a h w = any_passes (λ f. writes_atom f a) (writes_some x) (λ f k. writes_of_atom x f a h k) earlier w

  -- Where no earlier may-access set writes an item, none writes an atom of it.
  pub unwritten : (earlier : List Footprint) (x : Item) (a : Atom) → written_by earlier x ≡ false → T (member_of x a) → NoneWrites (replayed t) earlier a
  unwritten earlier x a e h = none_writes earlier a (λ w. not_false _ e (written_of_atom earlier x a h w))

  pub unmet : (f : Footprint) (earlier : List Footprint) (a : Atom) → is_met f earlier ≡ false → T (has_atom f a) → NoneWrites (replayed t) earlier a
  unmet f earlier a e h = none_writes earlier a (λ w. not_false _ e (any_passes (λ (u : Use). member_of u.item a) (λ (u : Use). written_by earlier u.item) (λ (u : Use) k. written_of_atom earlier u.item a k w) f h))

  pub written_thin : (x : Item) (thin earlier : List Footprint) → Thinner (replayed t) thin earlier → T (written_by thin x) → T (written_by earlier x)
  written_thin x thin earlier Thinner.none h = h
  written_thin x thin earlier (Thinner.drop r thin₁ earlier₁ n) h = either_right (writes_some x r) _ (written_thin x thin₁ earlier₁ n h)
  written_thin x thin earlier (Thinner.keep r₁ r thin₁ earlier₁ held n) h = go (written_thin x thin₁ earlier₁ n)
    where
      go : (T (written_by thin₁ x) → T (written_by earlier₁ x)) → T (written_by (r ∷ earlier₁) x)
      go later =
          elim (writes_some x r₁) as (λ b. writes_some x r₁ ≡ b → T (b || written_by thin₁ x) → T (written_by (r ∷ earlier₁) x)) [
            | true ↦ λ e k.
                let w = atom_of_writes x r₁ (holds_true _ e) in
                either_left _ _ (writes_of_atom x r w.0 w.2 (holds_true (writes_atom r w.0) (held.1 w.0 (true_of (writes_atom r₁ w.0) w.1))))
            | false ↦ λ e k. either_right (writes_some x r) _ (later k)
          ] refl h

  pub met_thin : (f : Footprint) (thin earlier : List Footprint) → Thinner (replayed t) thin earlier → T (is_met f thin) → T (is_met f earlier)
  met_thin f thin earlier n h = any_passes (λ (u : Use). written_by thin u.item) (λ (u : Use). written_by earlier u.item) (λ (u : Use) k. written_thin u.item thin earlier n k) f h

  -- Access sets collide exactly by an atom of both that one of them writes.
  pub writes_touches : (f : Footprint) (a : Atom) → writes_atom f a ≡ true → has_atom f a ≡ true
  writes_touches f a e = true_of _ (writes-has f a (holds_true _ e))

  pub apart_from_collide_lem : (f g : Footprint) → collide f g ≡ false → Apart (replayed t) f g
  apart_from_collide_lem f g e = (
    λ a w. is_false _ (λ h. not_false _ e (first_writes-collide f g a (holds_true _ w) h)),
    λ a w. is_false _ (λ h. not_false _ e (second_writes-collide f g a h (holds_true _ w))),
  )

  pub collide_held_lem : (f r r₁ : Footprint) → Holds (replayed t) r r₁ → collide f r ≡ false → collide f r₁ ≡ false
  collide_held_lem f r r₁ held e = grind (arith, atom_of_collide, first_writes-collide, second_writes-collide)
