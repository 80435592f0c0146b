-- What each step of a seat asks of the table, shown of the rule of the desk.
use Rattle.std.proofs.Common.{◌≡◌, ℕ, ◌+◌, ◌%◌, ◌<◌, ◌≤◌, ◌^◌, inl, inr, true, false, List, [], ◌∷◌, map, length, set, refl, sym, ap, ◌∙◌, arith, Some, None, lt_of_not-le}
use Rattle.std.specs.Prelude.{slice_get, slice_index, sum_by, Contains}
use Rattle.std.proofs.lemmas.List.{length-set, get_or-set_same, get_or-set_other}
use Rattle.std.proofs.lemmas.List.Sums.{sum_by-cons}
use Rattle.std.proofs.lemmas.Option.{slice_get_within}
use Rattle.atomic_table.proofs.Lists.{set_here, set_again}
use Rattle.atomic_table.specs.Table.{step, rest, keeps, takes, gives, Allows, Splits, Joins, Final, Seen, opening}
use mathlib.Core.Option.{some, none, some-injective}
use mathlib.Core.Option as maybe
use mathlib.Core.Logic.{dite}
use native.Mathlib.Decide.{dec_le}
use lib.ListN.{get_elem?}
use Rattle.deal_desk.specs.declared.hand.Hand.{Hand}
use Rattle.deal_desk.specs.declared.job.Slot.{Slot}
use Rattle.deal_desk.specs.declared.job.Slot.TheVariants.{Waiting, Finished}
use Rattle.deal_desk.specs.Hands.{IsDeal, Knows, places_back, opening_hand, further_hand, spent_hand, gave, drew, ran_dry, put_back, took_in}
use Rattle.deal_desk.specs.Helds.{held}
use Rattle.deal_desk.specs.Desks.{IsValueAt, AreValues, WerePut}
use Rattle.deal_desk.specs.Rule.{finished_at, Dealt, Dealing}
use Rattle.deal_desk.specs.Steps.{Mine, Drew, draws, finishes, looks}
use Rattle.deal_desk.proofs.Counts.{once_below_there, result_there}
use Rattle.deal_desk.proofs.Sums.{get_elem_within, sum_by_changed, sum_by-le-length}
use Rattle.deal_desk.proofs.Gathers.{item_below}
use Rattle.deal_desk.proofs.Keeps.{at_home, knows_so, draws_one, finds_none, comes_back, gives_one, takes_in, begins}

-- the slot in front, as `exchange` wants it
pub in_front : {A : Type 0} (l r : List (ℕ × A)) (x : ℕ × A) → l ≡ x ∷ r → l ≡ x ∷ rest l
in_front l r x e = e ∙ ap (λ q. x ∷ q) (sym (ap rest e))

-- a draw below the number of jobs took the job there
pub took_job : {T D : Type 0} (m n : Mine T D) (found slots : ℕ) → Drew m found n → found < slots → slots ≡ length m.0.jobs
    → (job : T) × (slice_get m.0.jobs found ≡ Some job) × (n ≡ (drew found m.0, (found, Waiting job) ∷ m.1)) × Knows n.0
took_job m n found slots (inl h) lt len = h.1
took_job m n found slots (inr h) lt len = absurd (omega (arith, h.0))

module _ {T D : Type 0} (is_value : T → D → Type 0) (jobs : List T) where
  finished_most : (h : maybe.Option (Slot T D)) → finished_at h ≤ 1
  finished_most h = grind arith

  -- the rule, where the number of draws has been written
  kept : (ws : List ℕ) (homes : List (maybe.Option (Slot T D))) (views : List (Hand T D)) (x c : ℕ) → x ≡ c → length ws ≡ 2
      → slice_index ws 1 ≡ sum_by finished_at homes → Dealt is_value jobs c homes views
      → Dealing is_value jobs record { words = set ws 0 x; homes = homes; views = views }
  kept ws homes views x c e two back r = (
    rw (get_or-set_same ws 0 x 0 (omega arith), e) r,
    length-set ws 0 x ∙ two,
    get_or-set_other ws 0 1 x 0 (λ same. omega arith) ∙ back,
  )

  pub draw_moves : (slots id : ℕ) (v : Hand T D) → v.live ≡ true → v.out ≡ None → v.dry ≡ false → v.jobs ≡ jobs
      → Allows (Dealing is_value jobs) slots id (v, []) 0 (λ n. (n + 1) % 2 ^ 64) (draws (step slots 0 1 0 none) (v, []))
  draw_moves slots id v live idle wet same s h sized at small =
      let c : ℕ = slice_index s.words 0 in
      let n : length v.jobs ≡ length jobs = ap length same in
      dite (dec_le (length jobs) c)
      (λ past.
      let q = finds_none is_value jobs c s.homes s.views id v h.0 at wet live past in
      let wraps : (c + 1) % 2 ^ 64 ≡ c + 1 = let b = q.1 in omega arith in
      let here = set_here s.views id (ran_dry v) (get_elem_within s.views id v at) in (
        ran_dry v,
        keeps,
        tt,
        kept s.words s.homes (set s.views id (ran_dry v)) _ (c + 1) wraps h.1 h.2 q.0,
        inr (omega arith, refl, knows_so is_value jobs (c + 1) s.homes (set s.views id (ran_dry v)) id (ran_dry v) q.0 here live),
      ))
      (λ more.
      let j = item_below jobs c (lt_of_not-le more) in
      let home = h.0.waiting c j.0 (omega arith) j.1 in
      let q = draws_one is_value jobs c s.homes s.views id v j.0 h.0 at idle wet live j.1 in
      let wraps : (c + 1) % 2 ^ 64 ≡ c + 1 = let b = h.0.few in omega arith in
      let here = set_here s.views id (drew c v) (get_elem_within s.views id v at) in (
        drew c v,
        takes c (Waiting j.0),
        home,
        kept s.words (set s.homes c none) (set s.views id (drew c v)) _ (c + 1) wraps h.1
            (omega (arith, h.2, sum_by_changed finished_at s.homes c (some (Waiting j.0)) none home)) q,
        inl (
          omega arith,
          (j.0, rw same j.1, refl, knows_so is_value jobs (c + 1) (set s.homes c none) (set s.views id (drew c v)) id (drew c v) q here live),
        ),
      ))

  pub finish_moves : (slots id : ℕ) (v : Hand T D) (k : ℕ) (d : D) → v.live ≡ true → v.out ≡ Some k → ((job : T) → slice_get jobs k ≡ Some job → is_value job d)
      → Allows (Dealing is_value jobs) slots id (v, (k, Finished d) ∷ []) 1 (λ n. (n + 1) % 2 ^ 64) (finishes (step slots 1 1 0 none) (v, (k, Finished d) ∷ []))
  finish_moves slots id v k d live out value s h sized at small =
      let c : ℕ = slice_index s.words 0 in
      let q = comes_back is_value jobs c s.homes s.views id v k d h.0 at out live value in
      let here = set_here s.views id (put_back k d v) (get_elem_within s.views id v at) in
      let more = sum_by_changed finished_at s.homes k none (some (Finished d)) ((h.0.fits id v at).out k out) in
      let wraps : (slice_index s.words 1 + 1) % 2 ^ 64 ≡ slice_index s.words 1 + 1 =
      omega (arith, h.2, h.0.sized, h.0.few, sum_by-le-length finished_at finished_most s.homes) in (
        put_back k d v,
        gives,
        tt,
        (
          rw (get_or-set_other s.words 1 0 ((slice_index s.words 1 + 1) % 2 ^ 64) 0 (λ same. omega arith)) q,
          length-set s.words 1 _ ∙ h.1,
          get_or-set_same s.words 1 _ 0 (omega (arith, h.1)) ∙ wraps ∙ omega (arith, h.2),
        ),
        (refl, knows_so is_value jobs c (set s.homes k (some (Finished d))) (set s.views id (put_back k d v)) id (put_back k d v) q here live),
      )

  pub look_moves : (slots id : ℕ) (me : Mine T D) → me.0.live ≡ true → Allows (Dealing is_value jobs) slots id me 0 (λ n. n) (looks (step slots 0 0 0 none) me)
  look_moves slots id me live s h sized at small =
      let c : ℕ = slice_index s.words 0 in (
        me.0,
        keeps,
        tt,
        kept s.words s.homes (set s.views id me.0) c c refl h.1 h.2 (rw (set_again s.views id me.0 at) h.0),
        (refl, knows_so is_value jobs c s.homes s.views id me.0 h.0 at live),
      )

  pub further_splits : (id : ℕ) (v : Hand T D) → v.opens ≡ true → v.given < 65536 → Splits (Dealing is_value jobs) id v (gave v) (further_hand v.jobs)
  further_splits id v opens room s h at = (gives_one is_value jobs (slice_index s.words 0) s.homes s.views id v h.0 at opens room, h.1, h.2)

  pub merged_joins : (id : ℕ) (v : Hand T D) (other : ℕ) (w : Hand T D) → v.live ≡ true → w.live ≡ true → w.out ≡ None → w.opens ≡ false
      → Joins (Dealing is_value jobs) id v other w (took_in v w) spent_hand
  merged_joins id v other w live live' idle further s h at apart there =
      (takes_in is_value jobs (slice_index s.words 0) s.homes s.views id v other w h.0 at apart there live live' idle further, h.1, h.2)

  pub new_begins : length jobs < 2 ^ 32 → (slots : List (Slot T D)) → slots ≡ at_home jobs → Dealing is_value jobs (opening (0 ∷ 0 ∷ []) slots (opening_hand jobs))
  new_begins few slots same = (begins is_value jobs few slots same, refl, rw same (sym (none_yet jobs)))
    where
      none_yet : (js : List T) → sum_by (finished_at {T = T} {D = D}) (map some (at_home js)) ≡ 0
      none_yet [] = refl
      none_yet (j ∷ js) = omega (arith, sum_by-cons (finished_at {T = T} {D = D}) (some (Waiting j)) (map some (at_home js)), none_yet js)

  -- a table that ends with all places back has the value of each job
  pub ends : (id : ℕ) (v : Hand T D) (ws : List ℕ) (xs : List (Slot T D)) → Final (Seen (Dealing is_value jobs) id v) ws xs → IsDeal (length jobs) (places_back v)
      → (k : ℕ) → k < length jobs → (d : D) × (get_elem? xs k ≡ some (Finished d)) × Contains v.back (k, d) × ((job : T) → slice_get jobs k ≡ Some job → is_value job d)
  ends id v ws xs (s, h, w, l, values) all k lt =
      let found = result_there k v.back (omega (arith, all k, once_below_there k (length jobs) lt)) in
      let fit = (h.0.0.fits id v h.1).back k found.0 found.1 in
      (found.0, values k (Finished found.0) fit.0, found.1, fit.1)

  -- the same, at what a seat has
  pub draw_as : (slots id : ℕ) (me : Mine T D) → me.1 ≡ [] → me.0.live ≡ true → me.0.out ≡ None → me.0.dry ≡ false → me.0.jobs ≡ jobs
      → Allows (Dealing is_value jobs) slots id me 0 (λ n. (n + 1) % 2 ^ 64) (draws (step slots 0 1 0 none) me)
  draw_as slots id me none_held live idle wet same = rw none_held (draw_moves slots id me.0 live idle wet same)

  -- the same, once the result lies in the slot that is out
  pub finish_as : (slots id : ℕ) (me was : Mine T D) (k : ℕ) (d : D) → me ≡ (was.0, (k, Finished d) ∷ rest was.1) → was.1 ≡ held was.0.out
      → was.0.live ≡ true → was.0.out ≡ Some k → ((job : T) → slice_get jobs k ≡ Some job → is_value job d)
      → Allows (Dealing is_value jobs) slots id me 1 (λ n. (n + 1) % 2 ^ 64) (finishes (step slots 1 1 0 none) me)
  finish_as slots id me was k d now holds live out value =
      let alone : rest was.1 ≡ [] = ap rest (holds ∙ ap held out) in
      rw (now, alone) (finish_moves slots id was.0 k d live out value)

  -- so the results that were read off it, one for each place, are values of the jobs that were put back
  pub results_are : (id : ℕ) (v : Hand T D) (ws : List ℕ) (xs : List (Slot T D)) → Final (Seen (Dealing is_value jobs) id v) ws xs
      → IsDeal (length jobs) (places_back v)
      → (ys : List D) → length ys ≡ length jobs → ((k : ℕ) (d : D) → slice_get ys k ≡ Some d → get_elem? xs k ≡ some (Finished d))
      → AreValues is_value jobs ys × WerePut v.back ys
  results_are id v ws xs final all ys same read = ((same, λ k d e. (at k d e).1), λ k d e. (at k d e).0)
    where
      at : (k : ℕ) (d : D) → slice_get ys k ≡ Some d → Contains v.back (k, d) × IsValueAt is_value jobs k d
      at k d e =
          let end = ends id v ws xs final all k (omega (arith, slice_get_within ys k d e)) in
          let one : end.0 ≡ d = cc (end.1, read k d e) in
          rw (← one) (end.2, end.3)
