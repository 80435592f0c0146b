-- Any sets of a round's places occur as what has started and what has finished.
use Rattle.std.proofs.Common.{◌≡◌, ℕ, true, false, not, map, if◌then◌else◌, ◌==◌, List, [], ◌∷◌, ◌++◌, filter, refl, ◌∙◌, ap, arith}
use Rattle.std.proofs.lemmas.Bool.{not-true}
use Rattle.interleaving.specs.System.{System}
use Rattle.interleaving.specs.Laws.{Laws}
use Rattle.interleaving.specs.Machine.{Event, Start, Finish, has, State, opening, happens, run, is_free}
use Rattle.interleaving.specs.Gather.{AllDifferent, in_order}
use Rattle.interleaving.specs.Rounds.{chosen, rounds, AreOf, IsRound, AnySetsOccur}
use Rattle.interleaving.proofs.Members.{has-here, has-other, has-later, has-different, different-choice, different-filter, filter-keeps, has-filter}
use Rattle.interleaving.proofs.Onwards.{run-append, or_swap, chosen_open}
use Rattle.interleaving.proofs.Rounding.{chosen_unstarted, rounds_settled}

-- Places that start, and then places that finish.
module _ (m : System) where
  finishes_start_none : (s : State m) (es : List ℕ) → (run m s (map Finish es)).started ≡ s.started
  finishes_start_none s [] = refl
  finishes_start_none s (e ∷ es) = finishes_start_none (happens m s (Finish e)) es

  started_then : (s : State m) (bs es : List ℕ) (j : ℕ) → has (run m s (map Start bs ++ map Finish es)).started j ≡ (if has bs j then true else has s.started j)
  started_then s [] es j = ap (λ ks. has ks j) (finishes_start_none s es)
  started_then s (b ∷ bs) es j = started_then (happens m s (Start b)) bs es j ∙ or_swap (j == b) (has bs j) (has s.started j)

  finished_by : (s : State m) (es : List ℕ) (j : ℕ) → has (run m s (map Finish es)).finished j ≡ (if has es j then true else has s.finished j)
  finished_by s [] j = refl
  finished_by s (e ∷ es) j = finished_by (happens m s (Finish e)) es j ∙ or_swap (j == e) (has es j) (has s.finished j)

  finished_then : (s : State m) (bs es : List ℕ) (j : ℕ)
      → has (run m s (map Start bs ++ map Finish es)).finished j ≡ (if has es j then true else has s.finished j)
  finished_then s [] es j = finished_by s es j
  finished_then s (b ∷ bs) es j = finished_then (happens m s (Start b)) bs es j

  finishes_step : (s : State m) (es : List ℕ) → (run m s (map Finish es)).world ≡ in_order m s.world es
  finishes_step s [] = refl
  finishes_step s (e ∷ es) = finishes_step (happens m s (Finish e)) es

  world_then : (s : State m) (bs es : List ℕ) → (run m s (map Start bs ++ map Finish es)).world ≡ in_order m s.world es
  world_then s [] es = finishes_step s es
  world_then s (b ∷ bs) es = world_then (happens m s (Start b)) bs es

  are-append : (ks : List ℕ) (s : State m) (es fs : List Event) → AreOf m ks s es → AreOf m ks (run m s es) fs → AreOf m ks s (es ++ fs)
  are-append ks s [] fs h g = g
  are-append ks s (Start k ∷ es) fs h g = (h.0, h.1, are-append ks (happens m s (Start k)) es fs h.2 g)
  are-append ks s (Finish k ∷ es) fs h g = (h.0, h.1, are-append ks (happens m s (Finish k)) es fs h.2 g)

  finishes_of : (ks es : List ℕ) (s : State m) → AllDifferent es → ((j : ℕ) → has es j ≡ true → has s.started j ≡ true)
      → ((j : ℕ) → has es j ≡ true → has s.finished j ≡ false) → AreOf m ks s (map Finish es)
  finishes_of ks [] s diff st fin = tt
  finishes_of ks (e ∷ es) s diff st fin = (
    st e (has-here e es),
    fin e (has-here e es),
    finishes_of ks es (happens m s (Finish e)) diff.1 (λ j h. st j (has-later j e es h))
        (λ j h. has-other j e s.finished (has-different j e es diff.0 h) ∙ fin j (has-later j e es h)),
  )

  are_then : (ks bs es : List ℕ) (s : State m) → AllDifferent bs → AllDifferent es → ((j : ℕ) → has bs j ≡ true → has ks j ≡ true)
      → ((j : ℕ) → has bs j ≡ true → has s.started j ≡ false) → ((j : ℕ) → has es j ≡ true → (if has bs j then true else has s.started j) ≡ true)
      → ((j : ℕ) → has es j ≡ true → has s.finished j ≡ false) → AreOf m ks s (map Start bs ++ map Finish es)
  are_then ks [] es s diff_b diff_e sub new begun open_e = finishes_of ks es s diff_e begun open_e
  are_then ks (b ∷ bs) es s diff_b diff_e sub new begun open_e = (
    sub b (has-here b bs),
    new b (has-here b bs),
    are_then ks bs es (happens m s (Start b)) diff_b.1 diff_e (λ j h. sub j (has-later j b bs h))
        (λ j h. has-other j b s.started (has-different j b bs diff_b.0 h) ∙ new j (has-later j b bs h))
        (λ j h. or_swap (j == b) (has bs j) (has s.started j) ∙ begun j h) open_e,
  )

module _ (m : System) (laws : Laws m) (n w : ℕ) (s : State m) (settled : (j : ℕ) → has s.started j ≡ true → has s.finished j ≡ true)
    (begun ended : List ℕ) (diff_begun : AllDifferent begun) (diff_ended : AllDifferent ended)
    (sub_begun : (k : ℕ) → has begun k ≡ true → has (chosen m n w s) k ≡ true) (sub_ended : (k : ℕ) → has ended k ≡ true → has begun k ≡ true) where
  -- the chosen places that aren't of these
  abbrev without : List ℕ → List ℕ
  without ks = filter (λ k. not (has ks k)) (chosen m n w s)

  in_without : (ks : List ℕ) (j : ℕ) → has (without ks) j ≡ true → (has ks j ≡ false) × (has (chosen m n w s) j ≡ true)
  in_without ks j h = let found = has-filter (λ k. not (has ks k)) (chosen m n w s) j h in (not-true (has ks j) found.0, found.1)

  different_without : (ks : List ℕ) → AllDifferent (without ks)
  different_without ks = different-filter (λ k. not (has ks k)) (chosen m n w s) (different-choice (is_free m s) w (has s.finished) n)

  -- the sets occur after the first of these events, and the rest end the round
  abbrev first : List Event
  first = map Start begun ++ map Finish ended

  abbrev rest : List Event
  rest = map Start (without begun) ++ map Finish (without ended)

  whole : AreOf m (chosen m n w s) s (first ++ rest)
  whole = are-append m (chosen m n w s) s first rest
      (are_then m (chosen m n w s) begun ended s diff_begun diff_ended sub_begun (λ j h. chosen_unstarted m laws n w s settled j (sub_begun j h))
      (λ j h. rw (sub_ended j h)) (λ j h. chosen_open m n w s j (sub_begun j (sub_ended j h))))
      (are_then m (chosen m n w s) (without begun) (without ended) (run m s first) (different_without begun) (different_without ended)
      (λ j h. (in_without begun j h).1)
      (λ j h. rw (started_then m s begun ended j, (in_without begun j h).0) (chosen_unstarted m laws n w s settled j ((in_without begun j h).1)))
      (λ j h. started j ((in_without ended j h).1))
      (λ j h. rw (finished_then m s begun ended j, (in_without ended j h).0) (chosen_open m n w s j ((in_without ended j h).1))))
    where
      started : (j : ℕ) → has (chosen m n w s) j ≡ true → (if has (without begun) j then true else has (run m s first).started j) ≡ true
      started j h = grind (arith, started_then m s begun ended j, filter-keeps (λ k. not (has begun k)) (chosen m n w s) j)

  all_end : (k : ℕ) → has (chosen m n w s) k ≡ true → has (run m s (first ++ rest)).finished k ≡ true
  all_end k h = rw (run-append m s first rest, finished_then m (run m s first) (without begun) (without ended) k, finished_then m s begun ended k)
      (grind (arith, filter-keeps (λ j. not (has ended j)) (chosen m n w s) k))

  pub sets_at : (es : List Event) × (rest : List Event) × IsRound m n w s (es ++ rest)
      × ((k : ℕ) → has (run m s es).started k ≡ (if has begun k then true else has s.started k))
      × ((k : ℕ) → has (run m s es).finished k ≡ (if has ended k then true else has s.finished k))
      × ((run m s es).world ≡ in_order m s.world ended)
  sets_at = (first, rest, (whole, all_end), started_then m s begun ended, finished_then m s begun ended, world_then m s begun ended)

module _ (m : System) (laws : Laws m) where
  pub sets_occur_lem : AnySetsOccur m
  sets_occur_lem n w r begun ended diff_begun diff_ended sub_begun sub_ended =
      sets_at m laws n w (rounds m n w r (opening m)) (rounds_settled m laws n w r (opening m) (λ j st. (cc)))
      begun ended diff_begun diff_ended sub_begun sub_ended
