-- The list of rounds has the number of each place's round, and it rises along chains and across barriers.
use Rattle.std.proofs.Common.{◌≡◌, ℕ, zero, suc, ◌+◌, ◌<◌, ◌≤◌, true, false, length, inl, inr, refl, sym, ap, subst, ◌∙◌, arith}
use Rattle.std.specs.Prelude.{Some, slice_get, slice_index}
use Rattle.std.specs.List.{range_with_len}
use Rattle.std.specs.Option.{option_map}
use Rattle.std.proofs.lemmas.Bool.{cases_Bool, cases_lt}
use Rattle.std.proofs.lemmas.Option.{same_Some, slice_get-map, slice_get-get_or, get_or_from_slice_get}
use Rattle.std.proofs.lemmas.List.FromFn.{get_or-range_with_len, length-range_with_len, length-map-range_with_len}
use Rattle.interleaving.specs.Machine.{State, has, opening}
use Rattle.interleaving.specs.Rounds.{chosen, round}
use Rattle.interleaving.specs.Rounds as machine
use Rattle.interleaving.proofs.Onwards.{not_before, ran_before, still_open, chosen_open}
use Rattle.interleaving.proofs.Rounding.{rounds_finish, rounds_keep_order_lem}
use Rattle.recording.specs.declared.recording.Recording.{Recording}
use Rattle.recording.specs.Steps.{places}
use Rattle.recording.specs.Accepted.{IsAccepted}
use Rattle.foot_print.specs.Replayed.{replayed}
use Rattle.wave_pick.specs.Lawful.{lawful}
use Rattle.wave_pick.specs.Rounds.{state_after, wave_after, waves_from, waves, round_of, rounds, RoundsAreNumbered}
use Rattle.wave_pick.specs.Orders.{InOrder, LinksAndDrainsRise}
use Rattle.wave_pick.proofs.Lists.{not_both}
use Rattle.wave_pick.proofs.Orders.{always_collide}

module _ (t : Recording) (window : ℕ) where
  -- the number of a place is the rounds after which it is chosen
  pub number_is : (d r : ℕ) (x : State (replayed t)) (k : ℕ) → r < d → has (chosen (replayed t) (places t) window (machine.rounds (replayed t) (places t) window r x)) k ≡ true → round_of (waves_from t window d x) k ≡ r
  number_is zero r x k lt h = absurd (omega arith)
  number_is (suc d) zero x k lt h = rw h
  number_is (suc d) (suc r) x k lt h = rw (not_before (replayed t) (places t) window r x k h)
      (ap suc (number_is d r (round (replayed t) (places t) window x) k (omega arith) h))

  -- and a place that has finished after some rounds is chosen after that number of them
  chosen_by_then : (d : ℕ) (x : State (replayed t)) (k : ℕ) → has x.finished k ≡ false → has (machine.rounds (replayed t) (places t) window d x).finished k ≡ true
      → has (chosen (replayed t) (places t) window (machine.rounds (replayed t) (places t) window (round_of (waves_from t window d x) k) x)) k ≡ true
  chosen_by_then zero x k before after = not_both after before
  chosen_by_then (suc d) x k before after = elim (cases_Bool (has (chosen (replayed t) (places t) window x) k)) [
    | inl e ↦ rw e e
    | inr e ↦ rw e (chosen_by_then d (round (replayed t) (places t) window x) k
        (still_open (replayed t) (chosen (replayed t) (places t) window x) x k e before) after)
  ]

  -- the list has the number of each place
  pub at_place : (k : ℕ) → k < places t → slice_get (rounds t window) k ≡ Some (round_of (waves t window) k)
  at_place k lt =
      let within : k < length (range_with_len 0 (places t)) = omega (arith, length-range_with_len 0 (places t)) in
      let e : 0 + k ≡ k = omega arith in
      slice_get-map (round_of (waves t window)) (range_with_len 0 (places t)) k
      ∙ ap (option_map (round_of (waves t window))) (slice_get-get_or (range_with_len 0 (places t)) k 0 within ∙ ap Some (get_or-range_with_len 0 (places t) k 0 lt ∙ e))

  module _ (spelled : IsAccepted t) (wide : 1 ≤ window) where
    pub chosen_at : (k : ℕ) → k < places t → has (wave_after t window (round_of (waves t window) k)) k ≡ true
    chosen_at k lt = chosen_by_then (places t) (opening (replayed t)) k refl (rounds_finish (replayed t) (lawful t spelled) (places t) window (places t) k wide lt lt)

    -- a place is chosen after fewer rounds than there are places
    early : (r k : ℕ) → k < places t → has (wave_after t window r) k ≡ true → r < places t
    early r k lt h = elim (cases_lt r (places t)) [
      | inl less ↦ less
      | inr past ↦ not_both (rounds_finish (replayed t) (lawful t spelled) (places t) window r k wide lt (omega arith))
          (chosen_open (replayed t) (places t) window (state_after t window r) k h)
    ]

    number_at : (r k : ℕ) → k < places t → slice_get (rounds t window) k ≡ Some r → has (wave_after t window r) k ≡ true
    number_at r k lt e = subst (λ x. has (wave_after t window x) k ≡ true) (same_Some _ _ (sym (at_place k lt) ∙ e)) (chosen_at k lt)

    at_number : (r k : ℕ) → k < places t → has (wave_after t window r) k ≡ true → slice_get (rounds t window) k ≡ Some r
    at_number r k lt h = at_place k lt ∙ ap Some (number_is (places t) r (opening (replayed t)) k (early r k lt h) h)

    rises : (i k : ℕ) → i < k → k < places t → InOrder t i k → slice_index (rounds t window) i < slice_index (rounds t window) k
    rises i k lt within o =
        let first : i < places t = omega arith in
        let a = round_of (waves t window) i in
        let b = round_of (waves t window) k in
        let done = rounds_keep_order_lem (replayed t) (lawful t spelled) (places t) window b i k lt (always_collide t i k lt within o) (chosen_at k within) in
        let less : a < b = ran_before (replayed t) (places t) window a b (opening (replayed t)) i (chosen_at i first) done in
        let at_i : slice_index (rounds t window) i ≡ a = get_or_from_slice_get (rounds t window) i a 0 (at_place i first) in
        let at_k : slice_index (rounds t window) k ≡ b = get_or_from_slice_get (rounds t window) k b 0 (at_place k within) in
        omega arith

pub rounds_numbered : (t : Recording) → IsAccepted t → RoundsAreNumbered t
rounds_numbered t spelled window wide =
    (length-map-range_with_len (round_of (waves t window)) 0 (places t), λ r k lt. (number_at t window spelled wide r k lt, at_number t window spelled wide r k lt))

pub rounds_rise : (t : Recording) → IsAccepted t → LinksAndDrainsRise t
rounds_rise t spelled window i k wide lt within o = rises t window spelled wide i k lt within o
