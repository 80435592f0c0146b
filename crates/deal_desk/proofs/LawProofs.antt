-- The laws of the rule.
use Rattle.std.proofs.Common.{◌≡◌, ℕ, ◌<◌, ◌⊎◌, inl, inr, min, List, length, arith, Option, Some, None, lt_of_not-le}
use Rattle.std.specs.Prelude.{slice_index, option_to_list}
use Rattle.std.proofs.lemmas.Bool.Decides.{nat_tests}
use mathlib.Core.Logic.{dite}
use native.Mathlib.Decide.{dec_le}
use Rattle.atomic_table.specs.Table.{State}
use Rattle.deal_desk.specs.declared.hand.Hand.{Hand}
use Rattle.deal_desk.specs.declared.job.Slot.{Slot}
use Rattle.deal_desk.specs.Hands.{times, places, places_back}
use Rattle.deal_desk.specs.Rule.{ended, Dealing}
use Rattle.deal_desk.specs.Laws.{IsOut, IsFinished, StartedThenFinished, SeatsApart, DryMeansDealt, CountersTell}
use Rattle.deal_desk.proofs.Counts.{times-append, once_below_there, once_below_most, result_there}
use Rattle.deal_desk.proofs.Gathers.{item_below}
use Rattle.deal_desk.proofs.Keeps.{ended_at_most_one}
use Rattle.deal_desk.proofs.Sums.{two-le-sum_by, sum_by-le-length, term_above_zero}

-- the number in a list that has at most one
only_one : (k : ℕ) (o : Option ℕ) → 0 < times k (option_to_list o) → o ≡ Some k
only_one k None h = absurd (omega arith)
only_one k (Some j) h = grind (arith, nat_tests)

module _ {T D : Type 0} (is_value : T → D → Type 0) (jobs : List T) where
  drawn : (s : State (Slot T D) (Hand T D)) → Dealing is_value jobs s → (k : ℕ) → k < length jobs → k < slice_index s.words 0 → IsOut is_value jobs s k ⊎ IsFinished is_value jobs s k
  drawn s h k lt started =
      let once = once_below_there k (min (slice_index s.words 0) (length jobs)) (omega arith) in
      let sum = h.0.dealt k in
      let who = term_above_zero (λ (v : Hand T D). times k (places v)) s.views (omega arith) in
      let v = who.1 in
      let both = times-append k (option_to_list v.out) (places_back v) in
      let there = who.3 in
      dite (dec_le 1 (times k (option_to_list v.out)))
      (λ here. let out = only_one k v.out (omega arith) in inl ((h.0.fits who.0 v who.2).out k out, (who.0, v, who.2, out)))
      (λ no. let back = result_there k v.back (omega arith) in let is = (h.0.fits who.0 v who.2).back k back.0 back.1 in inr (who.0, v, back.0, who.2, back.1, is.0, is.1))

  pub started_then_finished : StartedThenFinished is_value jobs
  started_then_finished s h k lt =
      dite (dec_le (slice_index s.words 0) k)
      (λ le. let j = item_below jobs k lt in inl (le, (j.0, j.1, h.0.waiting k j.0 le j.1)))
      (λ no. let started = lt_of_not-le no in inr (started, drawn s h k lt started))

  pub seats_apart : SeatsApart is_value jobs
  seats_apart s h i j v w apart at at' k here =
      let two = two-le-sum_by (λ (u : Hand T D). times k (places u)) s.views i j v w apart at at' in
      omega (arith, two, h.0.dealt k, once_below_most k (min (slice_index s.words 0) (length jobs)))

  pub dry_means_dealt : DryMeansDealt is_value jobs
  dry_means_dealt s h by v at dry k lt = let past = (h.0.fits by v at).dry dry in drawn s h k lt (omega arith)

  pub counters_tell : CountersTell is_value jobs
  counters_tell s h = (omega (arith, h.0.draws, h.0.seats, sum_by-le-length ended ended_at_most_one s.views), h.2)
