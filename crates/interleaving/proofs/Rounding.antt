-- Rounds are legal, and give what one place at a time gives.
use Rattle.std.proofs.Common.{◌≡◌, ◌≢◌, ℕ, zero, suc, ◌+◌, ◌<◌, ◌≤◌, true, false, List, [], ◌∷◌, ◌++◌, length, inl, inr, refl, sym, ◌∙◌, ap, arith}
use Rattle.std.proofs.lemmas.Bool.{cases_Bool, cases_eq, false_from_ne_true, both_ways}
use Rattle.interleaving.specs.System.{System, reaches, is_clear}
use Rattle.interleaving.specs.Laws.{Laws}
use Rattle.interleaving.specs.Machine.{Event, Start, Finish, has, State, opening, happens, run, is_free, IsLegal, AllLegal}
use Rattle.interleaving.specs.Gather.{AllDifferent, SideBySide, in_order}
use Rattle.interleaving.specs.Rounds.{in_turn, joined, chosen, round, rounds, AreOf, IsRound, AreRounds, RoundsAreLegal, RoundsAreSequential, RoundsAreGathered, RoundsGoOn, RoundsKeepOrder}
use Rattle.interleaving.proofs.Skipping.{clear-of, reaches-none}
use Rattle.interleaving.proofs.Ahead.{holds-now}
use Rattle.interleaving.proofs.Finish.{not_added, clear_after, clear_apart, reply_ahead}
use Rattle.interleaving.proofs.Orders.{OnCourse, on_course_at_start, on_course_next, end_of, finished_before}
use Rattle.interleaving.proofs.Members.{has-here, has-other, has-later, has-different, different-choice, first-chosen, first_open, has-cases, has-choice}
use Rattle.interleaving.proofs.Onwards.{ran, run-append, stays_finished, ends_finished, chosen_open}

-- what is kept within a round of the places ks
pub record InRound (m : System) (n : ℕ) (ks : List ℕ) (s : State m) : Type 0 where
  pub on : OnCourse m n s
  pub begun : (k : ℕ) → has s.finished k ≡ true → has s.started k ≡ true
  pub free : (k : ℕ) → has ks k ≡ true → has s.finished k ≡ false → (k < n) × (is_free m s k ≡ true)

module _ (m : System) (laws : Laws m) where
  next_in_round : (n : ℕ) (ks : List ℕ) (s : State m) (e : Event) → InRound m n ks s → AreOf m ks s (e ∷ [])
      → IsLegal m n s e × InRound m n ks (happens m s e)
  next_in_round n ks s (Start k) c of_round =
      let unfinished = false_from_ne_true (has s.finished k) (λ f. both_ways (has s.started k) of_round.1 (c.begun k f)) in
      let free = c.free k of_round.0 unfinished in
      let legal : IsLegal m n s (Start k) = (free.0, of_round.1, free.1) in (
        legal,
        record { on = on_course_next m laws n s (Start k) c.on legal; begun = λ j f. has-later j k s.started (c.begun j f); free = c.free },
      )
  next_in_round n ks s (Finish k) c of_round =
      let legal : IsLegal m n s (Finish k) = (of_round.0, of_round.1) in
      let mine = c.on.free k of_round.0 of_round.1 in (
        legal,
        record {
          on = on_course_next m laws n s (Finish k) c.on legal;
          begun = λ j f. elim (has-cases j k s.finished f) [ inl e ↦ rw e of_round.0 | inr g ↦ c.begun j g ];
          free = λ j h o.
              let other = not_added (has s.finished) k j o in
              let free = c.free j h other.1 in
              (free.0, clear_after m laws (has s.finished) s.world c.on.sound k of_round.1 mine.1 j other.0 other.1 free.1);
        },
      )

  first_of_round : (ks : List ℕ) (s : State m) (e : Event) (es : List Event) → AreOf m ks s (e ∷ es) → AreOf m ks s (e ∷ []) × AreOf m ks (happens m s e) es
  first_of_round ks s (Start k) es h = ((h.0, h.1, tt), h.2)
  first_of_round ks s (Finish k) es h = ((h.0, h.1, tt), h.2)

  pub within_round : (n : ℕ) (ks : List ℕ) (s : State m) (es : List Event) → InRound m n ks s → AreOf m ks s es
      → AllLegal m n s es × InRound m n ks (run m s es)
  within_round n ks s [] c h = (tt, c)
  within_round n ks s (e ∷ es) c h =
      let parts = first_of_round ks s e es h in
      let next = next_in_round n ks s e c parts.0 in
      let later = within_round n ks (happens m s e) es next.1 parts.1 in
      ((next.0, later.0), later.1)

  -- a new round begins wherever the last one ended
  pub new_round : (n w : ℕ) (ks : List ℕ) (s : State m) → InRound m n ks s → InRound m n (chosen m n w s) s
  new_round n w ks s c = record {
    on = c.on;
    begun = c.begun;
    free = λ k h d. let found = has-choice (is_free m s) w (has s.finished) n k h in (found.1, found.0);
  }

  pub opening_round : (n : ℕ) → InRound m n [] (opening m)
  opening_round n = record { on = on_course_at_start m laws n; begun = λ k f. (cc); free = λ k h. (cc) }

  legal-append : (n : ℕ) (s : State m) (es fs : List Event) → AllLegal m n s es → AllLegal m n (run m s es) fs → AllLegal m n s (es ++ fs)
  legal-append n s [] fs h g = g
  legal-append n s (e ∷ es) fs h g = (h.0, legal-append n (happens m s e) es fs h.1 g)

  -- the first pending place is always chosen
  first_is_chosen : (n w : ℕ) (s : State m) (r : ℕ) → 1 ≤ w → ((k : ℕ) → k < r → has s.finished k ≡ true) → has s.finished r ≡ false → r < n
      → has (chosen m n w s) r ≡ true
  first_is_chosen n w s r le all d lt =
      first-chosen (is_free m s) w (has s.finished) n r le all d lt
      (ap (is_clear m (m.foot r s.world)) (reaches-none m (has s.finished) s.world r all))

  pub go_on_lem : RoundsGoOn m
  go_on_lem n w s k le lt d = elim (first_open (has s.finished) n) [
    | inl all ↦ let both : true ≡ false = sym (all k lt) ∙ d in (cc)
    | inr found ↦ (found.0, first_is_chosen n w s found.0 le found.3 found.2 found.1)
  ]

  -- so each round finishes one more of the first places
  one_more : (n w d : ℕ) (s : State m) (es : List Event) → 1 ≤ w → ((k : ℕ) → k < n → k < d → has s.finished k ≡ true)
      → ((k : ℕ) → has (chosen m n w s) k ≡ true → has (run m s es).finished k ≡ true)
      → (k : ℕ) → k < n → k < suc d → has (run m s es).finished k ≡ true
  one_more n w d s es le all ends k lt less = elim (cases_Bool (has s.finished k)) [
    | inl f ↦ stays_finished m s es k f
    | inr f ↦ elim (cases_eq k d) [
      | inl e ↦ ends k (first_is_chosen n w s k le (λ j l. all j (omega arith) (omega arith)) f lt)
      | inr ne ↦ let both : true ≡ false = sym (all k lt (omega arith)) ∙ f in (cc)
    ]
  ]

  rounds_legal : (n w d : ℕ) (ks : List ℕ) (s : State m) (rs : List (List Event)) → 1 ≤ w → InRound m n ks s
      → ((k : ℕ) → k < n → k < d → has s.finished k ≡ true) → AreRounds m n w s rs
      → AllLegal m n s (joined rs) × ((k : ℕ) → k < n → k < d + length rs → has (run m s (joined rs)).finished k ≡ true)
  rounds_legal n w d ks s [] le c all h = (tt, λ k lt less. all k lt (omega arith))
  rounds_legal n w d ks s (es ∷ rs) le c all h =
      let here = within_round n (chosen m n w s) s es (new_round n w ks s c) h.0.0 in
      let later = rounds_legal n w (suc d) (chosen m n w s) (run m s es) rs le here.1 (one_more n w d s es le all h.0.1) h.1 in (
        legal-append n s es (joined rs) here.0 later.0,
        λ k lt less. ap (λ t. has t.finished k) (run-append m s es (joined rs)) ∙ later.1 k lt (omega arith),
      )

  pub rounds_legal_lem : RoundsAreLegal m
  rounds_legal_lem n w rs le h =
      let all = rounds_legal n w 0 [] (opening m) rs le (opening_round n) (λ k lt less. absurd (omega arith)) h in
      (all.0, λ k lt less. all.1 k lt (omega arith))

  -- places in turn are a round of theirs
  pub in_turn_of : (ks js : List ℕ) (s : State m) → AllDifferent js → ((j : ℕ) → has js j ≡ true → has ks j ≡ true)
      → ((j : ℕ) → has js j ≡ true → has s.started j ≡ false) → ((j : ℕ) → has js j ≡ true → has s.finished j ≡ false)
      → AreOf m ks s (in_turn js) × ((j : ℕ) → has js j ≡ true → has (run m s (in_turn js)).finished j ≡ true)
  in_turn_of ks [] s diff sub st fin = (tt, λ j h. (cc))
  in_turn_of ks (k ∷ js) s diff sub st fin =
      let ne : (j : ℕ) → has js j ≡ true → j ≢ k = λ j h. has-different j k js diff.0 h in
      let later = in_turn_of ks js (ran m s k) diff.1 (λ j h. sub j (has-later j k js h))
      (λ j h. has-other j k s.started (ne j h) ∙ st j (has-later j k js h))
      (λ j h. has-other j k s.finished (ne j h) ∙ fin j (has-later j k js h)) in (
        (sub k (has-here k js), st k (has-here k js), (has-here k s.started, fin k (has-here k js), later.0)),
        λ j h. ends_finished m (k ∷ js) s j h,
      )

  in_turn_settled : (js : List ℕ) (s : State m) → ((j : ℕ) → has s.started j ≡ true → has s.finished j ≡ true)
      → (j : ℕ) → has (run m s (in_turn js)).started j ≡ true → has (run m s (in_turn js)).finished j ≡ true
  in_turn_settled [] s h = h
  in_turn_settled (k ∷ js) s h = in_turn_settled js (ran m s k) (λ j st. grind (arith, h j))

  -- what is chosen between rounds hasn't started
  pub chosen_unstarted : (n w : ℕ) (s : State m) → ((j : ℕ) → has s.started j ≡ true → has s.finished j ≡ true)
      → (j : ℕ) → has (chosen m n w s) j ≡ true → has s.started j ≡ false
  chosen_unstarted n w s settled j h =
      false_from_ne_true (has s.started j) (λ st. both_ways (has s.finished j) (chosen_open m n w s j h) (settled j st))

  round_is : (n w : ℕ) (s : State m) → ((j : ℕ) → has s.started j ≡ true → has s.finished j ≡ true) → IsRound m n w s (in_turn (chosen m n w s))
  round_is n w s settled = in_turn_of (chosen m n w s) (chosen m n w s) s (different-choice (is_free m s) w (has s.finished) n) (λ j h. h)
      (chosen_unstarted n w s settled) (chosen_open m n w s)

  -- where r rounds lead
  after_rounds : (n w d r : ℕ) (ks : List ℕ) (s : State m) → InRound m n ks s → ((j : ℕ) → has s.started j ≡ true → has s.finished j ≡ true)
      → (1 ≤ w → (k : ℕ) → k < n → k < d → has s.finished k ≡ true)
      → OnCourse m n (rounds m n w r s) × (1 ≤ w → (k : ℕ) → k < n → k < d + r → has (rounds m n w r s).finished k ≡ true)
  after_rounds n w d zero ks s c settled all = (c.on, λ le k lt less. all le k lt (omega arith))
  after_rounds n w d (suc r) ks s c settled all =
      let js = chosen m n w s in
      let is_round = round_is n w s settled in
      let here = within_round n js s (in_turn js) (new_round n w ks s c) is_round.0 in
      let later = after_rounds n w (suc d) r js (round m n w s) here.1 (in_turn_settled js s settled)
      (λ le. one_more n w d s (in_turn js) le (all le) is_round.1) in
      (later.0, λ le k lt less. later.1 le k lt (omega arith))

  from_opening : (n w r : ℕ) → OnCourse m n (rounds m n w r (opening m)) × (1 ≤ w → (k : ℕ) → k < n → k < 0 + r → has (rounds m n w r (opening m)).finished k ≡ true)
  from_opening n w r = after_rounds n w 0 r [] (opening m) (opening_round n) (λ j st. (cc)) (λ le k lt less. absurd (omega arith))

  -- after r rounds each of the first r places has finished
  pub rounds_finish : (n w r k : ℕ) → 1 ≤ w → k < n → k < r → has (rounds m n w r (opening m)).finished k ≡ true
  rounds_finish n w r k le lt less = (from_opening n w r).1 le k lt (omega arith)

  pub rounds_sequential_lem : RoundsAreSequential m
  rounds_sequential_lem n w r le many =
      let end = from_opening n w r in
      end_of m laws n (rounds m n w r (opening m)) end.0 (λ k lt. end.1 le k lt (omega arith))

  -- the chosen places of a state on course
  side_by_side : (n w : ℕ) (s : State m) → OnCourse m n s → SideBySide m s.world (chosen m n w s)
  side_by_side n w s c = record {
    different = different-choice (is_free m s) w (has s.finished) n;
    unused = λ k h. c.sound.unused k ((has-choice (is_free m s) w (has s.finished) n k h).2);
    apart = λ j k hj hk ne.
        let fj = has-choice (is_free m s) w (has s.finished) n j hj in
        let fk = has-choice (is_free m s) w (has s.finished) n k hk in
        clear_apart m laws (has s.finished) s.world c.sound j fj.2 fj.0 k (λ e. ne (sym e)) fk.2 fk.0;
  }

  world_in_turn : (s : State m) (ks : List ℕ) → (run m s (in_turn ks)).world ≡ in_order m s.world ks
  world_in_turn s [] = refl
  world_in_turn s (k ∷ ks) = world_in_turn (ran m s k) ks

  pub rounds_gathered_lem : RoundsAreGathered m
  rounds_gathered_lem n w r =
      let s = rounds m n w r (opening m) in
      let c = (from_opening n w r).0 in (
        c.sound.world,
        side_by_side n w s c,
        λ j k hj hk lt.
            let fj = has-choice (is_free m s) w (has s.finished) n j hj in
            let fk = has-choice (is_free m s) w (has s.finished) n k hk in
            laws.collide_held (m.foot k s.world) (m.reach j s.world (reaches m (has s.finished) s.world j)) (m.foot j s.world)
            (holds-now m laws (has s.finished) s.world c.sound j fj.2)
            (clear-of m (m.foot k s.world) (has s.finished) s.world k fk.0 j lt fj.2),
        world_in_turn s (chosen m n w s),
        λ k h. let found = has-choice (is_free m s) w (has s.finished) n k h in
            reply_ahead m laws (has s.finished) s.world c.sound k found.2 found.0 ∙ c.to_come k found.2,
      )

  pub rounds_keep_order_lem : RoundsKeepOrder m
  rounds_keep_order_lem n w r i k lt meets chosen_k =
      let s = rounds m n w r (opening m) in
      finished_before m laws s i k lt meets ((has-choice (is_free m s) w (has s.finished) n k chosen_k).0)

  -- between rounds nothing is on its way
  pub rounds_settled : (n w r : ℕ) (s : State m) → ((j : ℕ) → has s.started j ≡ true → has s.finished j ≡ true)
      → (j : ℕ) → has (rounds m n w r s).started j ≡ true → has (rounds m n w r s).finished j ≡ true
  rounds_settled n w zero s settled = settled
  rounds_settled n w (suc r) s settled = rounds_settled n w r (round m n w s) (in_turn_settled (chosen m n w s) s settled)
