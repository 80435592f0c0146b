-- Places whose access sets don't collide commute: from the covers alone, whatever the operations are.
use Rattle.std.specs.Prelude.{◌≡◌, ℕ, true, false, not, T, refl}
use mathlib.Core.Path.{sym, subst, ◌∙◌}
use Rattle.recording.specs.declared.recording.Recording.{Recording}
use Rattle.world_parts.specs.World.{World}
use Rattle.op_meaning.specs.Step.{step_world}
use Rattle.world_parts.specs.Items.{Atom, value, Footprint, has_atom, writes_atom, collide, Agree}
use Rattle.foot_print.specs.Footprint.{footprint}
use Rattle.foot_print.specs.Laws.{Awaits, CoversAt, Covers, FootprintsCover, StepsKeepWorlds, StepsCommute}
use Rattle.world_parts.proofs.Collision.{first_unwritten, second_unwritten, writes-has}
use Rattle.world_parts.proofs.Values.{atoms_make_the_world}
use Rattle.foot_print.proofs.Awaiting.{awaits_unused}

module _ (cover : FootprintsCover) (keep : StepsKeepWorlds) (t : Recording) (j k : ℕ) (s : World) (wj : Awaits t j s) (wk : Awaits t k s) (apart : ¬ (j ≡ k)) (free : T (not (collide (footprint t j s) (footprint t k s)))) where
  abbrev F : Footprint
  F = footprint t j s

  abbrev G : Footprint
  G = footprint t k s

  abbrev after_j : World
  after_j = step_world t j s

  abbrev after_k : World
  after_k = step_world t k s

  covers_j : Covers t j F s
  covers_j = cover t j s wj

  covers_k : Covers t k G s
  covers_k = cover t k s wk

  agrees : (f : Footprint) (u : World) → Agree f u u
  agrees f u = record { same = λ a h. refl }

  -- What the first writes the second doesn't have, and the other way round.
  unwritten_j : (a : Atom) → T (has_atom G a) → T (not (writes_atom F a))
  unwritten_j a h = first_unwritten F G a free h

  unwritten_k : (a : Atom) → T (has_atom F a) → T (not (writes_atom G a))
  unwritten_k a h = second_unwritten F G a free h

  agree_k : Agree G s after_j
  agree_k = record { same = λ a h. sym ((covers_j s (awaits_unused t j s wj) (agrees F s)).nothing_else a (unwritten_j a h)) }

  agree_j : Agree F s after_k
  agree_j = record { same = λ a h. sym ((covers_k s (awaits_unused t k s wk) (agrees G s)).nothing_else a (unwritten_k a h)) }

  second_k : CoversAt t k G s after_j
  second_k = covers_k after_j (awaits_unused t k after_j ((keep t j s wj).1 k (λ e. apart (sym e)) wk)) agree_k

  second_j : CoversAt t j F s after_k
  second_j = covers_j after_k (awaits_unused t j after_k ((keep t k s wk).1 j apart wj)) agree_j

  pub same_atoms : (a : Atom) → value (step_world t k after_j) a ≡ value (step_world t j after_k) a
  same_atoms a =
      elim (writes_atom G a) as (λ b. writes_atom G a ≡ b → value (step_world t k after_j) a ≡ value (step_world t j after_k) a) [
        | true ↦ λ e. written_k (subst T (sym e) tt)
        | false ↦ λ e. elim (writes_atom F a) as (λ c. writes_atom F a ≡ c → value (step_world t k after_j) a ≡ value (step_world t j after_k) a) [
          | true ↦ λ d. written_j (subst T (sym d) tt)
          | false ↦ λ d. neither (subst (λ b. T (not b)) (sym e) tt) (subst (λ b. T (not b)) (sym d) tt)
        ] refl
      ] refl
    where
      written_k : T (writes_atom G a) → value (step_world t k after_j) a ≡ value (step_world t j after_k) a
      written_k w = sym (second_k.agree_after.same a (writes-has G a w)) ∙ sym (second_j.nothing_else a (unwritten_j a (writes-has G a w)))

      written_j : T (writes_atom F a) → value (step_world t k after_j) a ≡ value (step_world t j after_k) a
      written_j w = second_k.nothing_else a (unwritten_k a (writes-has F a w)) ∙ second_j.agree_after.same a (writes-has F a w)

      neither : T (not (writes_atom G a)) → T (not (writes_atom F a)) → value (step_world t k after_j) a ≡ value (step_world t j after_k) a
      neither g f = second_k.nothing_else a g ∙ (covers_j s (awaits_unused t j s wj) (agrees F s)).nothing_else a f ∙ sym ((covers_k s (awaits_unused t k s wk) (agrees G s)).nothing_else a g) ∙ sym (second_j.nothing_else a f)

pub steps_commute : FootprintsCover → StepsKeepWorlds → StepsCommute
steps_commute cover keep t j k s wj wk apart free = (
  atoms_make_the_world _ _ (same_atoms cover keep t j k s wj wk apart free),
  (second_j cover keep t j k s wj wk apart free).same_reply,
  (second_k cover keep t j k s wj wk apart free).same_reply,
)
