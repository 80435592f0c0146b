-- A loop that draws and puts gets on: each turn leaves one place less to be put back, and there are no more of these than jobs.
use Rattle.std.proofs.Common.{◌≡◌, ℕ, ◌-◌, ◌<◌, [], ◌∷◌, length, ap, arith, Option, Some, length-append}
use Rattle.std.specs.Prelude.{option_to_list}
use Rattle.std.proofs.lemmas.List.{length-map}
use Rattle.deal_desk.specs.declared.hand.Hand.{Hand}
use Rattle.deal_desk.specs.Hands.{Knows, places, places_back, drew, put_back}
use Rattle.deal_desk.proofs.Counts.{part_of_deal_length}

module _ {T D : Type 0} where
  -- a seat with a place out has put back fewer places than there are jobs
  pub back_below : (v : Hand T D) (k : ℕ) → Knows v → v.out ≡ Some k → length v.back < length v.jobs
  back_below v k knows out =
      let one = ap (λ (o : Option ℕ). length (option_to_list o)) out in
      omega (
        arith,
        part_of_deal_length (length v.jobs) (places v) knows.0,
        length-append (option_to_list v.out) (places_back v),
        length-map v.back (λ (p : ℕ × D). p.0),
      )

  -- what the seat has still to put back at most, before a turn and after it
  pub turn_lessens : (before drawn after : Hand T D) (k : ℕ) (d : D) → drawn ≡ drew k before → Knows drawn → after ≡ put_back k d drawn
      → length after.jobs - length after.back < length before.jobs - length before.back
  turn_lessens before drawn after k d draws knows puts =
      let room = rw draws at (back_below drawn k knows (ap (λ (v : Hand T D). v.out) draws)) in
      rw (puts, draws) (omega (arith, room, length-append before.back ((k, d) ∷ [])))
