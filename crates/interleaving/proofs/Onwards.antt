-- Rounds one after another: what has finished, what is still pending, one round more, and none left.
use Rattle.std.proofs.Common.{◌≡◌, ℕ, zero, suc, ◌+◌, ◌<◌, ◌≤◌, Bool, true, false, if◌then◌else◌, ◌==◌, List, [], ◌∷◌, ◌++◌, filter, ◌⊎◌, inl, inr, refl, sym, ap, ◌∙◌, arith}
use Rattle.std.specs.Prelude.{not}
use Rattle.std.specs.List.{range_with_len}
use Rattle.std.proofs.lemmas.Bool.{cases_lt, false_from_ne_true, both_ways}
use Rattle.std.proofs.lemmas.List.{append-nil, map-id}
use Rattle.std.proofs.lemmas.List.Elements.{filter-append}
use Rattle.interleaving.specs.System.{System, sequential}
use Rattle.interleaving.specs.Machine.{Event, Start, Finish, has, State, happens, run, is_free}
use Rattle.interleaving.specs.Rounds.{pending, in_turn, chosen, round, rounds}
use Rattle.interleaving.proofs.Members.{has-later, has-choice}
use Rattle.std.proofs.lemmas.List.FromFn.{map-range_with_len_more}

-- a place starts and finishes
abbrev pub ran : (m : System) → State m → ℕ → State m
ran m s k = happens m (happens m s (Start k)) (Finish k)

pub or_swap : (b c d : Bool) → (if c then true else (if b then true else d)) ≡ (if (if b then true else c) then true else d)
or_swap b c d = grind arith

module _ (m : System) where
  pub run-append : (s : State m) (es fs : List Event) → run m s (es ++ fs) ≡ run m (run m s es) fs
  run-append s [] fs = refl
  run-append s (e ∷ es) fs = run-append (happens m s e) es fs

  pub stays_finished : (s : State m) (es : List Event) (k : ℕ) → has s.finished k ≡ true → has (run m s es).finished k ≡ true
  stays_finished s [] k f = f
  stays_finished s (Start j ∷ es) k f = stays_finished (happens m s (Start j)) es k f
  stays_finished s (Finish j ∷ es) k f = stays_finished (happens m s (Finish j)) es k (has-later k j s.finished f)

  -- the places of a round finish in it, and no others do
  pub finished_after : (ks : List ℕ) (s : State m) (k : ℕ) → has (run m s (in_turn ks)).finished k ≡ (if has ks k then true else has s.finished k)
  finished_after [] s k = refl
  finished_after (j ∷ ks) s k = finished_after ks (ran m s j) k ∙ or_swap (k == j) (has ks k) (has s.finished k)

  pub ends_finished : (ks : List ℕ) (s : State m) (k : ℕ) → has ks k ≡ true → has (run m s (in_turn ks)).finished k ≡ true
  ends_finished ks s k h = grind (arith, finished_after ks s k)

  pub still_open : (ks : List ℕ) (s : State m) (k : ℕ) → has ks k ≡ false → has s.finished k ≡ false → has (run m s (in_turn ks)).finished k ≡ false
  still_open ks s k h d = grind (arith, finished_after ks s k)

  pub finished_by : (ks : List ℕ) (s : State m) (k : ℕ) → has (run m s (in_turn ks)).finished k ≡ true → (has ks k ≡ true) ⊎ (has s.finished k ≡ true)
  finished_by ks s k f = grind (arith, finished_after ks s k)

  -- one round more
  pub rounds-more : (n w r : ℕ) (s : State m) → rounds m n w (suc r) s ≡ round m n w (rounds m n w r s)
  rounds-more n w zero s = refl
  rounds-more n w (suc r) s = rounds-more n w r (round m n w s)

  -- a round without places changes nothing, and so do all later ones
  pub rounds-still : (n w r d : ℕ) (s : State m) → chosen m n w (rounds m n w r s) ≡ [] → rounds m n w (d + r) s ≡ rounds m n w r s
  rounds-still n w r zero s none = let e : 0 + r ≡ r = omega arith in rw e
  rounds-still n w r (suc d) s none =
      let next : suc d + r ≡ suc (d + r) = omega arith in
      rw (next, rounds-more n w (d + r) s, rounds-still n w r d s none, none)

  -- what has finished stays finished
  pub rounds_keep_finished : (n w r : ℕ) (s : State m) (k : ℕ) → has s.finished k ≡ true → has (rounds m n w r s).finished k ≡ true
  rounds_keep_finished n w zero s k h = h
  rounds_keep_finished n w (suc r) s k h = rounds_keep_finished n w r (round m n w s) k (stays_finished s (in_turn (chosen m n w s)) k h)

  pub finished_later : (n w r q : ℕ) (s : State m) (k : ℕ) → r ≤ q → has (rounds m n w r s).finished k ≡ true → has (rounds m n w q s).finished k ≡ true
  finished_later n w zero q s k le h = rounds_keep_finished n w q s k h
  finished_later n w (suc r) zero s k le h = absurd (omega arith)
  finished_later n w (suc r) (suc q) s k le h = finished_later n w r q (round m n w s) k (omega arith) h

  -- a place is chosen where it hasn't finished
  pub chosen_open : (n w : ℕ) (s : State m) (k : ℕ) → has (chosen m n w s) k ≡ true → has s.finished k ≡ false
  chosen_open n w s k h = (has-choice (is_free m s) w (has s.finished) n k h).2

  -- so a place that is chosen in a later round isn't in an earlier one
  pub not_before : (n w r : ℕ) (s : State m) (k : ℕ) → has (chosen m n w (rounds m n w r (round m n w s))) k ≡ true → has (chosen m n w s) k ≡ false
  not_before n w r s k h = false_from_ne_true (has (chosen m n w s) k) (λ e. both_ways true
      (sym (rounds_keep_finished n w r (round m n w s) k (ends_finished (chosen m n w s) s k e)) ∙ chosen_open n w (rounds m n w r (round m n w s)) k h) refl)

  -- and the round of a place that has finished is an earlier one
  pub ran_before : (n w q r : ℕ) (s : State m) (k : ℕ) → has (chosen m n w (rounds m n w q s)) k ≡ true → has (rounds m n w r s).finished k ≡ true → q < r
  ran_before n w q r s k here done = elim (cases_lt q r) [
    | inl lt ↦ lt
    | inr le ↦ let both : true ≡ false = sym (finished_later n w r q s k le done) ∙ chosen_open n w (rounds m n w q s) k here in (cc)
  ]

  -- the sequential run is any run that begins as it does and goes on by the steps
  pub one_by_one : (world_at : ℕ → m.World) → world_at 0 ≡ m.start → ((n : ℕ) → world_at (suc n) ≡ m.step n (world_at n)) → (n : ℕ) → sequential m n ≡ world_at n
  one_by_one world_at base next zero = sym base
  one_by_one world_at base next (suc n) = ap (m.step n) (one_by_one world_at base next n) ∙ sym (next n)

-- What is pending later is what is pending now and passes a test, where the test tells whether it has finished since.
pending-filter : (done after keep : ℕ → Bool) → ((k : ℕ) → done k ≡ true → after k ≡ true) → ((k : ℕ) → done k ≡ false → keep k ≡ not (after k))
    → (n : ℕ) → pending after n ≡ filter keep (pending done n)
pending-filter done after keep h g zero = refl
pending-filter done after keep h g (suc n) =
    grind (arith, pending-filter done after keep h g n, h n, g n, filter-append keep (pending done n) (n ∷ []), append-nil (filter keep (pending done n)))

module _ (done after : ℕ → Bool) (h : (k : ℕ) → done k ≡ true → after k ≡ true) where
  abbrev left : ℕ → Bool
  left k = not (after k)

  pub pending-later : (n : ℕ) → pending after n ≡ filter left (pending done n)
  pending-later = pending-filter done after left h (λ k d. refl)

-- After a round it is what was pending without the places of the round.
pub pending_after_round : (m : System) (n w : ℕ) (s : State m)
    → pending (has (round m n w s).finished) n ≡ filter (λ k. not (has (chosen m n w s) k)) (pending (has s.finished) n)
pending_after_round m n w s =
    pending-filter (has s.finished) (has (round m n w s).finished) (λ k. not (has (chosen m n w s) k))
    (λ k d. stays_finished m s (in_turn (chosen m n w s)) k d) (λ k d. grind (arith, finished_after m (chosen m n w s) s k)) n

-- At the start all places are pending.
pub range-snoc : (a n : ℕ) → range_with_len a (suc n) ≡ range_with_len a n ++ (a + n) ∷ []
range-snoc a n =
    let more : suc n ≡ n + 1 = omega arith in
    ap (range_with_len a) more ∙ simp map-id at (map-range_with_len_more (λ k. k) a n (a + n) refl)

pub pending-all : (n : ℕ) → pending (has []) n ≡ range_with_len 0 n
pending-all zero = refl
pending-all (suc n) =
    let e : 0 + n ≡ n = omega arith in
    rw (pending-all n) (sym (rw e at (range-snoc 0 n)))
