-- What rests on earlier places rests on them while these wait with one may-access set.
use Rattle.std.proofs.Common.{◌≡◌, ℕ, zero, suc, ◌≤◌, true, false, List, [], ◌∷◌, inl, inr, sym, ap, subst, ◌∙◌, arith}
use Rattle.std.proofs.lemmas.Bool.{cases_eq}
use Rattle.interleaving.specs.Machine.{State, has, opening}
use Rattle.interleaving.proofs.Members.{has-cases, has-here}
use Rattle.interleaving.proofs.Onwards.{rounds-more, still_open}
use Rattle.recording.specs.declared.recording.Recording.{Recording}
use Rattle.recording.specs.Steps.{places}
use Rattle.recording.specs.Accepted.{IsAccepted}
use Rattle.world_parts.specs.Items.{collide}
use Rattle.foot_print.specs.Replayed.{replayed}
use Rattle.wave_pick.specs.Lawful.{lawful}
use Rattle.wave_pick.specs.Rounds.{state_after, wave_after}
use Rattle.wave_pick.specs.Waiting.{Settled}
use Rattle.wave_pick.specs.Holds.{Waits, footprint_after, reach_after, HoldsBack}
use Rattle.wave_pick.specs.Resting.{AllStay, OneHolds, RestsOn, RestsOnAll, RestsOnAllStays, RestsOnStays, RestsUnmet, StaysAsIs}
use Rattle.wave_pick.proofs.Staying.{waited}
use Rattle.wave_pick.proofs.Waiting.{row_stays, witness_holds}

-- A waiting place that isn't in the next round waits behind it.
pub waits_on : (t : Recording) (window r k : ℕ) → Waits t window r k → has (wave_after t window r) k ≡ false → Waits t window (suc r) k
waits_on t window r k waits out =
    ap (λ (x : State (replayed t)). has x.finished k) (rounds-more (replayed t) (places t) window r (opening (replayed t)))
    ∙ still_open (replayed t) (wave_after t window r) (state_after t window r) k out waits

-- A place that stays as it is to a later round does so to the round before.
pub stays_before : (t : Recording) → IsAccepted t → (window r q i : ℕ) → StaysAsIs t window r (suc q) i → StaysAsIs t window r q i
stays_before t spelled window r q i h = record {
  waits = waited (replayed t) (lawful t spelled) (places t) window q i h.waits;
  same = λ p le less. h.same p le (omega arith);
}

pub same_reach : (t : Recording) (window r q i : ℕ) → r ≤ q → StaysAsIs t window r q i → reach_after t window q i ≡ reach_after t window r i
same_reach t window r q i le h = h.same q le (omega arith)

pub all_before : (t : Recording) → IsAccepted t → (window r q : ℕ) (is : List ℕ) → AllStay t window r (suc q) is → AllStay t window r q is
all_before t spelled window r q is h i e = stays_before t spelled window r q i (h i e)

-- What tells that one of some places blocks another one, whose may-access set stays, and goes on from round to round while that one waits and the others stay as they are.
module _ (t : Recording) (spelled : IsAccepted t) (window r : ℕ) (is : List ℕ) (k : ℕ) (P : ℕ → Type 0) where
  pub record GoesOn : Type 0 where
    pub waits : Waits t window r k
    pub now : P r
    pub told : (p : ℕ) → r ≤ p → AllStay t window r p is → Waits t window p k → P p → (reach_after t window p k ≡ reach_after t window r k) × OneHolds t window p is k
    pub next : (p : ℕ) → r ≤ p → AllStay t window r (suc p) is → Waits t window (suc p) k → P p → P (suc p)

  module _ (g : GoesOn) where
    at_first : (q : ℕ) → r ≡ q → Waits t window q k × P q
    at_first q e = subst (λ n. Waits t window n k × P n) e (g.waits, g.now)

    goes_on : (q : ℕ) → r ≤ q → AllStay t window r q is → Waits t window q k × P q
    goes_on zero le h = at_first zero (omega arith)
    goes_on (suc q) le h = elim (cases_eq r (suc q)) [
      | inl e ↦ at_first (suc q) e
      | inr ne ↦
          let low : r ≤ q = omega (arith, ne) in
          let before = all_before t spelled window r q is h in
          let found = goes_on q low before in
          let held = (g.told q low before found.0 found.1).1 in
          let waits = waits_on t window q k found.0 (witness_holds t window q held.0 k held.1.1) in
          (waits, g.next q low h waits found.1)
    ]

    pub rests_on_all : RestsOnAll t window r is k
    rests_on_all q le h = let found = goes_on q le h in g.told q le h found.0 found.1

-- To rest on a list of one is to rest on that one.
pub only : (i j : ℕ) → has (i ∷ []) j ≡ true → j ≡ i
only i j e = elim (has-cases j i [] e) [ inl same ↦ same | inr none ↦ (cc) ]

module _ (t : Recording) (window r i k : ℕ) where
  pub alone : RestsOnAll t window r (i ∷ []) k → RestsOn t window r i k
  alone all q le h =
      let found = all q le (λ j e. subst (λ n. StaysAsIs t window r q n) (sym (only i j e)) h) in
      (found.0, subst (λ n. HoldsBack t window q n k) (only i found.1.0 found.1.1.0) found.1.1.1)

  pub together : RestsOn t window r i k → RestsOnAll t window r (i ∷ []) k
  together one q le h = let found = one q le (h i (has-here i [])) in (found.0, (i, (has-here i [], found.1)))

pub rests_unmet : (t : Recording) → IsAccepted t → RestsUnmet t
rests_unmet t spelled window r i k waits unmet holds =
    let now = row_stays t spelled window r r k (omega arith) waits unmet in
    alone t window r i k (rests_on_all t spelled window r (i ∷ []) k (λ p. Settled t window p k (footprint_after t window r k)) (record {
      waits = waits;
      now = now;
      told = λ p le stays later h.
          let stay = stays i (has-here i []) in
          let same = same_reach t window r p i le stay in (
            h.reach_is ∙ sym now.reach_is,
            (i, (has-here i [], record { is_before = holds.is_before; waits = stay.waits; collides = (λ j. collide (h.footprint_is j) (same j)) ∙ holds.collides })),
          );
      next = λ p le stays later h. row_stays t spelled window r (suc p) k (omega arith) later unmet;
    }))

pub rests_on_all_stays : (t : Recording) → RestsOnAllStays t
rests_on_all_stays t window r is k rests stays q le later =
    let next = rests (suc r) (omega arith) stays in
    let found = rests q (omega arith) (λ i e. record { waits = (later i e).waits; same = same i e }) in
    (found.0 ∙ sym next.0, found.1)
  where
    same : (i : ℕ) → has is i ≡ true → (p : ℕ) → r ≤ p → p ≤ q → reach_after t window p i ≡ reach_after t window r i
    same i e p le₁ less = elim (cases_eq r p) [
      | inl at ↦ ap (λ n. reach_after t window n i) (sym at)
      | inr ne ↦ (later i e).same p (omega (arith, ne)) less ∙ (stays i e).same (suc r) (omega arith) (omega arith)
    ]

pub rests_on_stays : (t : Recording) → RestsOnStays t
rests_on_stays t window r i k rests stays = alone t window (suc r) i k (rests_on_all_stays t window r (i ∷ []) k (together t window r i k rests)
    (λ j e. subst (λ n. StaysAsIs t window r (suc r) n) (sym (only i j e)) stays))
