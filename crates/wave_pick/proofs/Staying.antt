-- What a round leaves as it was for a place that still waits behind it.
use Rattle.std.proofs.Common.{◌≡◌, ℕ, zero, suc, ◌<◌, Bool, true, false, List, [], ◌∷◌, inl, inr, sym, ap, subst, ◌∙◌, refl, arith}
use Rattle.std.proofs.lemmas.Bool.{cases_Bool, false_from_ne_true}
use Rattle.interleaving.specs.System.{System, NoneWrites, reaches, is_clear, Thinner}
use Rattle.interleaving.specs.Laws.{Laws}
use Rattle.interleaving.specs.Machine.{Event, Start, Finish, has, State, opening, happens, run, is_free, IsLegal, AllLegal}
use Rattle.interleaving.specs.Rounds.{in_turn, chosen, round, rounds, AreOf}
use Rattle.interleaving.proofs.Commute.{turned, unless}
use Rattle.interleaving.proofs.Skipping.{reaches-out, reaches-in, clear-cons, clear-of, unwritten-of}
use Rattle.interleaving.proofs.Ahead.{Sound, holds-now}
use Rattle.interleaving.proofs.Finish.{apart_numbers, not_added, reaches_before, reaches_behind}
use Rattle.interleaving.proofs.Orders.{OnCourse, on_course_next}
use Rattle.interleaving.proofs.Members.{different-choice, has-choice}
use Rattle.interleaving.proofs.Onwards.{stays_finished, ends_finished, rounds-more}
use Rattle.interleaving.proofs.Rounding.{InRound, new_round, opening_round, within_round, in_turn_of, rounds_settled, rounds_gathered_lem}
use Rattle.interleaving.proofs.Together.{gather_lem}
use Rattle.wave_pick.proofs.Lists.{not_both}

module _ (m : System) where
  open m use {World, Footprint, reach, collide}

  -- an access set that collides with the may-access set of no place that isn't done is clear of these may-access sets
  pub clear_of_all : (f : Footprint) (done : ℕ → Bool) (s : World) (n : ℕ) → ((i : ℕ) → i < n → done i ≡ false → collide f (reach i s (reaches m done s i)) ≡ false) → is_clear m f (reaches m done s n) ≡ true
  clear_of_all f done s zero all = refl
  clear_of_all f done s (suc n) all =
      let before = clear_of_all f done s n (λ i lt. all i (omega arith)) in
      elim (cases_Bool (done n)) [
        | inl d ↦ ap (is_clear m f) (reaches-out m done s n d) ∙ before
        | inr d ↦ ap (is_clear m f) (reaches-in m done s n d)
            ∙ clear-cons m f (reach n s (reaches m done s n)) (reaches m done s n) (all n (omega arith) d) before
      ]

module _ (m : System) (laws : Laws m) where
  open m use {Footprint, Atom, reach, foot, value, writes, touches}

  -- the places of a round are a round of their state
  are_of_round : (n w r : ℕ) → let s = rounds m n w r (opening m) in AreOf m (chosen m n w s) s (in_turn (chosen m n w s))
  are_of_round n w r =
      let s = rounds m n w r (opening m) in
      let unfinished : (j : ℕ) → has (chosen m n w s) j ≡ true → has s.finished j ≡ false = λ j h. (has-choice (is_free m s) w (has s.finished) n j h).2 in
      let unstarted : (j : ℕ) → has (chosen m n w s) j ≡ true → has s.started j ≡ false =
      λ j h. false_from_ne_true (has s.started j) (λ st. not_both (rounds_settled m laws n w r (opening m) (λ i e. (cc)) j st) (unfinished j h)) in
      (in_turn_of m laws (chosen m n w s) (chosen m n w s) s (different-choice (is_free m s) w (has s.finished) n) (λ j h. h) unstarted unfinished).0

  one_round : (n w r : ℕ) → let s = rounds m n w r (opening m) in InRound m n [] s → AllLegal m n s (in_turn (chosen m n w s)) × InRound m n (chosen m n w s) (round m n w s)
  one_round n w r c =
      let s = rounds m n w r (opening m) in
      within_round m laws n (chosen m n w s) s (in_turn (chosen m n w s)) (new_round m laws n w [] s c) (are_of_round n w r)

  pub between_rounds : (n w r : ℕ) → InRound m n [] (rounds m n w r (opening m))
  between_rounds n w zero = opening_round m laws n
  between_rounds n w (suc r) =
      let after = (one_round n w r (between_rounds n w r)).1 in
      subst (InRound m n []) (sym (rounds-more m n w r (opening m))) (record { on = after.on; begun = after.begun; free = λ k h. (cc) })

  open_before : (s : State m) (es : List Event) (k : ℕ) → has (run m s es).finished k ≡ false → has s.finished k ≡ false
  open_before s es k d = false_from_ne_true (has s.finished k) (λ f. not_both (stays_finished m s es k f) d)

  -- what thinner lists keep, the may-access sets before a waiting place keep
  module _ (P : List Footprint → Type 0) (thin : (rs less : List Footprint) → Thinner m less rs → P rs → P less) (k : ℕ) where
    keeps_event : (n : ℕ) (s : State m) (e : Event) → OnCourse m n s → IsLegal m n s e → has (happens m s e).finished k ≡ false
        → P (reaches m (has s.finished) s.world k) → P (reaches m (has (happens m s e).finished) (happens m s e).world k)
    keeps_event n s (Start j) c legal d h = h
    keeps_event n s (Finish j) c legal d h =
        let free : is_free m s j ≡ true = (c.free j legal.0 legal.1).1 in
        elim (apart_numbers k j (not_added (has s.finished) j k d).0) [
          | inl lt ↦ subst P (sym (reaches_before m laws (has s.finished) s.world c.sound j legal.1 free k (omega arith))) h
          | inr lt ↦ thin (reaches m (has s.finished) s.world k) (reaches m (has (happens m s (Finish j)).finished) (m.step j s.world) k)
              (reaches_behind m laws (has s.finished) s.world c.sound j legal.1 free k lt) h
        ]

    keeps_events : (n : ℕ) (s : State m) (es : List Event) → OnCourse m n s → AllLegal m n s es → has (run m s es).finished k ≡ false
        → P (reaches m (has s.finished) s.world k) → P (reaches m (has (run m s es).finished) (run m s es).world k)
    keeps_events n s [] c legal d h = h
    keeps_events n s (e ∷ es) c legal d h =
        keeps_events n (happens m s e) es (on_course_next m laws n s e c legal.0) legal.1 d
        (keeps_event n s e c legal.0 (open_before (happens m s e) es k d) h)

  module _ (n w r k : ℕ) (waits : has (rounds m n w (suc r) (opening m)).finished k ≡ false) where
    abbrev pub s : State m
    s = rounds m n w r (opening m)

    next : has (round m n w s).finished k ≡ false
    next = ap (λ (x : State m). has x.finished k) (sym (rounds-more m n w r (opening m))) ∙ waits

    pub waited : has s.finished k ≡ false
    waited = open_before s (in_turn (chosen m n w s)) k next

    pub keeps_round : (P : List Footprint → Type 0) → ((rs less : List Footprint) → Thinner m less rs → P rs → P less)
        → P (reaches m (has s.finished) s.world k) → let u = rounds m n w (suc r) (opening m) in P (reaches m (has u.finished) u.world k)
    keeps_round P thin h =
        subst (λ (x : State m). P (reaches m (has x.finished) x.world k)) (sym (rounds-more m n w r (opening m)))
        (keeps_events P thin k n s (in_turn (chosen m n w s)) (between_rounds n w r).on (one_round n w r (between_rounds n w r)).0 next h)

    -- of what the place may touch, the round changes nothing that no earlier may-access set writes
    pub keeps_value : (a : Atom) → NoneWrites m (reaches m (has s.finished) s.world k) a
        → touches (reach k s.world (reaches m (has s.finished) s.world k)) a ≡ true → value (rounds m n w (suc r) (opening m)).world a ≡ value s.world a
    keeps_value a none touched =
        ap (λ (x : State m). value x.world a) (rounds-more m n w r (opening m))
        ∙ ap (λ x. value x a) (rounds_gathered_lem m laws n w r).3
        ∙ (gather_lem m laws.cover s.world (chosen m n w s) (rounds_gathered_lem m laws n w r).0 (rounds_gathered_lem m laws n w r).1).2.1 a unwritten
      where
        sound : Sound m (has s.finished) s.world
        sound = (between_rounds n w r).on.sound

        unwritten : (j : ℕ) → has (chosen m n w s) j ≡ true → writes (foot j s.world) a ≡ false
        unwritten j h =
            let found = has-choice (is_free m s) w (has s.finished) n j h in
            elim (apart_numbers j k (λ e. not_both (ends_finished m (chosen m n w s) s j h) (ap (has (round m n w s).finished) e ∙ next))) [
              | inl lt ↦ unless (writes (foot j s.world) a) (writes (reach j s.world (reaches m (has s.finished) s.world j)) a)
                  ((holds-now m laws (has s.finished) s.world sound j found.2).1 a)
                  (unwritten-of m a (has s.finished) s.world k none j lt found.2)
              | inr lt ↦ turned (writes (foot j s.world) a) (touches (reach k s.world (reaches m (has s.finished) s.world k)) a)
                  ((laws.apart_from_collide (foot j s.world) (reach k s.world (reaches m (has s.finished) s.world k))
                  (clear-of m (foot j s.world) (has s.finished) s.world j found.0 k lt waited)).0 a) touched
            ]
