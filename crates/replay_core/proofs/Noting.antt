-- What is noted of each place from round to round.
use Rattle.std.proofs.Common.{◌≡◌, ◌≢◌, ℕ, zero, suc, ◌+◌, ◌<◌, ◌≤◌, Bool, true, false, List, [], ◌∷◌, map, drop, filter, length, get_or, replicate, ◌⊎◌, inl, inr, refl, sym, ap, subst, ◌∙◌, Some, arith}
use Rattle.std.specs.Prelude.{◌↔◌, All, Option, None, slice_get, if◌then◌else◌}
use Rattle.std.specs.List.{cons_option}
use Rattle.std.specs.Option.{option_map, option_or}
use Rattle.std.proofs.Math.ListN.{set}
use Rattle.std.proofs.lemmas.Bool.{cases_Bool, cases_eq, eq-eqb, eqb-true, false_from_ne_true}
use Rattle.std.proofs.lemmas.List.{length-map, length-replicate, get_or-replicate}
use Rattle.std.proofs.lemmas.Option.{same_Some, slice_get_within, slice_get-get_or}
use Rattle.interleaving.specs.Machine.{State, has, opening, is_free}
use Rattle.interleaving.specs.Rounds.{in_turn, round}
use Rattle.interleaving.proofs.Members.{has-here, has-other, has-later, has-cases, has-filter}
use Rattle.interleaving.proofs.Onwards.{chosen_open, ends_finished, finished_by, rounds-more, rounds-still, stays_finished, still_open}
use Rattle.interleaving.proofs.Rounding.{rounds_finish}
use Rattle.recording.specs.declared.recording.Recording.{Recording}
use Rattle.recording.specs.Steps.{places}
use Rattle.recording.specs.Accepted.{IsAccepted}
use Rattle.foot_print.specs.Replayed.{replayed}
use Rattle.wave_pick.specs.Lawful.{lawful}
use Rattle.wave_pick.specs.Rounds.{state_after, wave_after, round_of, rounds, waves}
use Rattle.wave_pick.specs.Holding.{Holder, holder_in}
use Rattle.round_scheduler.specs.Telling.{has_number, is_number, held_meant, with_holder, held_among}
use Rattle.round_scheduler.specs.declared.telling.Held.{Held}
use Rattle.wave_pick.proofs.Numbers.{at_place, number_is, rounds_numbered}
use Rattle.replay_core.specs.declared.progress.Progress.{Progress}
use Rattle.replay_core.specs.declared.round_log.WaitedFor.{WaitedFor}
use Rattle.replay_core.specs.Progressing.{IsFront, Stands}
use Rattle.replay_core.specs.Waits.{is_shown, waited_before, waited_for, waited_meant}
use Rattle.replay_core.specs.Noted.{noted_after, AreAllNoted, AreNoted, noted}
use Rattle.replay_core.proofs.Lists.{take-whole, mapped-so-far}
use Rattle.replay_core.proofs.Fronts.{front_is, front_open}
use Rattle.wave_pick.proofs.Lists.{not_both, set-here, set-other}

no-more : (b : Bool) (v : Option Holder) → (if b then option_or None v else v) ≡ v
no-more true v = refl
no-more false v = refl

more-same : (b : Bool) (g : Holder) → (if b then option_or (Some g) (Some g) else Some g) ≡ Some g
more-same true g = refl
more-same false g = refl

-- Places that are noted with their holders have these, and others what they had.
module _ (t : Recording) (s : State (replayed t)) where
  abbrev over : List ℕ → ℕ → Option Holder → Option Holder
  over ks k v = if has ks k then option_or (holder_in t s k) v else v

  noted_at : (ks : List ℕ) (ws : List (Option Holder)) (k : ℕ) (v : Option Holder) → slice_get ws k ≡ Some v → slice_get (noted ws (held_among t s ks)) k ≡ Some (over ks k v)
  noted_at [] ws k v e = e
  noted_at (j ∷ ks) ws k v e = go (λ us u d. noted_at ks us k u d) (holder_in t s j) refl (cases_eq k j)
    where
      go : ((us : List (Option Holder)) (u : Option Holder) → slice_get us k ≡ Some u → slice_get (noted us (held_among t s ks)) k ≡ Some (over ks k u)) → (o : Option Holder) → holder_in t s j ≡ o → (k ≡ j) ⊎ (k ≢ j) → slice_get (noted ws (cons_option (with_holder j o) (held_among t s ks))) k ≡ Some (over (j ∷ ks) k v)
      go later None f (inl same) =
          let none : holder_in t s k ≡ None = ap (holder_in t s) same ∙ f in
          later ws v e
          ∙ ap (λ o. Some (if has ks k then option_or o v else v)) none ∙ ap Some (no-more (has ks k) v)
          ∙ sym (ap (λ o. Some (if has (j ∷ ks) k then option_or o v else v)) none ∙ ap Some (no-more (has (j ∷ ks) k) v))
      go later None f (inr ne) = later ws v e ∙ ap (λ b. Some (if b then option_or (holder_in t s k) v else v)) (sym (has-other k j ks ne))
      go later (Some g) f (inl same) =
          let mine : holder_in t s k ≡ Some g = ap (holder_in t s) same ∙ f in
          let within : k < length ws = slice_get_within ws k v e in
          let there : j < length ws = omega (arith, within, same) in
          let written : slice_get (set ws j (Some g)) k ≡ Some (Some g) = ap (slice_get (set ws j (Some g))) same ∙ set-here ws j (Some g) there in
          later (set ws j (Some g)) (Some g) written
          ∙ ap (λ o. Some (if has ks k then option_or o (Some g) else Some g)) mine ∙ ap Some (more-same (has ks k) g)
          ∙ sym (ap (λ b. Some (if b then option_or (holder_in t s k) v else v)) (ap (has (j ∷ ks)) same ∙ has-here j ks) ∙ ap (λ o. Some (option_or o v)) mine)
      go later (Some g) f (inr ne) =
          later (set ws j (Some g)) v (set-other ws j k (Some g) ne ∙ e)
          ∙ ap (λ b. Some (if b then option_or (holder_in t s k) v else v)) (sym (has-other k j ks ne))

  -- The places that are blocked are among these.
  pub held_within : (n : ℕ) (ks : List ℕ) (hs : List Held) → map held_meant hs ≡ held_among t s ks → ((k : ℕ) → has ks k ≡ true → k < n) → (i : ℕ) (d : Held) → i < length hs → (get_or hs i d).place < n
  held_within n [] [] e h i d lt = absurd (omega arith)
  held_within n [] (x ∷ hs) e h i d lt = (cc)
  held_within n (j ∷ ks) hs e h i d lt = go (λ xs f m less. held_within n ks xs f (λ k o. h k (has-later k j ks o)) m d less) (holder_in t s j) refl
    where
      at : ((xs : List Held) → map held_meant xs ≡ held_among t s ks → (m : ℕ) → m < length xs → (get_or xs m d).place < n) → (g : Holder) (xs : List Held) → map held_meant xs ≡ (j, g) ∷ held_among t s ks → (m : ℕ) → m < length xs → (get_or xs m d).place < n
      at later g [] f m less = absurd (omega arith)
      at later g (x ∷ xs) f zero less =
          let same : x.place ≡ j = ap (λ (ps : List (ℕ × Holder)). (get_or ps 0 (j, g)).0) f in
          subst (λ k. k < n) (sym same) (h j (has-here j ks))
      at later g (x ∷ xs) f (suc m) less = later xs (ap (drop 1) f) m (omega arith)

      go : ((xs : List Held) → map held_meant xs ≡ held_among t s ks → (m : ℕ) → m < length xs → (get_or xs m d).place < n) → (o : Option Holder) → holder_in t s j ≡ o → (get_or hs i d).place < n
      go later None f = later hs (e ∙ ap (λ o. cons_option (with_holder j o) (held_among t s ks)) f) i lt
      go later (Some g) f = at later g hs (e ∙ ap (λ o. cons_option (with_holder j o) (held_among t s ks)) f) i lt

-- What passes a test stays where those that do are left.
has-kept : (p : ℕ → Bool) (xs : List ℕ) (k : ℕ) → p k ≡ true → has xs k ≡ true → has (filter p xs) k ≡ true
has-kept p [] k e h = (cc)
has-kept p (x ∷ xs) k e h = elim (cases_Bool (p x)) [
  | inl passes ↦ rw passes (elim (has-cases k x xs h) [
    | inl same ↦ ap (has (x ∷ filter p xs)) same ∙ has-here x (filter p xs)
    | inr later ↦ has-later k x (filter p xs) (has-kept p xs k e later)
  ])
  | inr fails ↦ rw fails (elim (has-cases k x xs h) [
    | inl same ↦ not_both (sym (ap p same) ∙ e) fails
    | inr later ↦ has-kept p xs k e later
  ])
]

number-asked : (n : ℕ) (o : Option ℕ) → is_number n o ≡ true → o ≡ Some n
number-asked n None e = (cc)
number-asked n (Some m) e = ap Some (eqb-true m n e)

or-none : (o : Option Holder) → option_or o None ≡ o
or-none None = refl
or-none (Some h) = refl

module _ (t : Recording) (window : ℕ) where
  next_is : (r : ℕ) → state_after t window (suc r) ≡ round (replayed t) (places t) window (state_after t window r)
  next_is r = rounds-more (replayed t) (places t) window r (opening (replayed t))

  finished_next : (r k : ℕ) → has (round (replayed t) (places t) window (state_after t window r)).finished k ≡ has (state_after t window (suc r)).finished k
  finished_next r k = ap (λ (x : State (replayed t)). has x.finished k) (sym (next_is r))

  stays_done : (r k : ℕ) → has (state_after t window r).finished k ≡ true → has (state_after t window (suc r)).finished k ≡ true
  stays_done r k d = sym (finished_next r k) ∙ stays_finished (replayed t) (state_after t window r) (in_turn (wave_after t window r)) k d

  -- Before the first round nothing is noted: the places of that round waited for nothing.
  first_none : (k : ℕ) → k < places t → noted_after t window 0 k ≡ None
  first_none k lt = elim (cases_Bool (has (state_after t window 1).finished k)) [
    | inl done ↦ elim (finished_by (replayed t) (wave_after t window 0) (state_after t window 0) k (finished_next 0 k ∙ done)) [
      | inl first ↦
          let number : round_of (waves t window) k ≡ 0 = number_is t window (places t) 0 (opening (replayed t)) k (omega (arith, lt)) first in
          ap (λ b. if b then waited_for t window k else None) done ∙ ap (λ n. waited_before t window n k) number
      | inr before ↦ (cc)
    ]
    | inr waits ↦ ap (λ b. if b then waited_for t window k else None) waits
  ]

  pub none_noted : (waits : List (Option WaitedFor)) → map (option_map waited_meant) waits ≡ replicate (places t) None → AreNoted t window 0 waits
  none_noted waits nothing =
      let blank : Option Holder = None in record {
        many = sym (length-map waits (option_map waited_meant)) ∙ ap length nothing ∙ length-replicate (places t) blank;
        noted = λ k within. ap (λ ws. slice_get ws k) nothing
            ∙ slice_get-get_or (replicate (places t) blank) k blank (rw (length-replicate (places t) blank) within)
            ∙ ap Some (get_or-replicate (places t) k blank blank within ∙ sym (first_none k within));
      }

-- After a round in which those of its places are told that run in the next one.
module _ (t : Recording) (spelled : IsAccepted t) (window : ℕ) (wide : 1 ≤ window) (r : ℕ) (front : List ℕ) (next : ℕ) (h : IsFront t window (state_after t window r) front next) where
  abbrev x : State (replayed t)
  x = state_after t window r

  abbrev y : State (replayed t)
  y = state_after t window (suc r)

  abbrev asked : ℕ → Bool
  asked = has_number (rounds t window) (suc r)

  module _ (k : ℕ) (low : k < places t) where
    abbrev v : Option Holder
    v = noted_after t window r k

    numbered : (slice_get (rounds t window) k ≡ Some (suc r)) ↔ (has (wave_after t window (suc r)) k ≡ true)
    numbered = (rounds_numbered t spelled window wide).1 (suc r) k low

    chosen_asked : has (wave_after t window (suc r)) k ≡ true → asked k ≡ true
    chosen_asked c = ap (is_number (suc r)) (numbered.1 c) ∙ eq-eqb (suc r) (suc r) refl

    asked_chosen : has (filter asked front) k ≡ true → has (wave_after t window (suc r)) k ≡ true
    asked_chosen m = numbered.0 (number-asked (suc r) (slice_get (rounds t window) k) (has-filter asked front k m).0)

    untold : (has (wave_after t window (suc r)) k ≡ true → ⊥) → over t x (filter asked front) k v ≡ v
    untold never = ap (λ b. if b then option_or (holder_in t x k) v else v) (false_from_ne_true _ (λ m. never (asked_chosen m)))

    later : (b : Bool) → has (state_after t window (suc (suc r))).finished k ≡ b → noted_after t window (suc r) k ≡ (if b then waited_for t window k else None)
    later b e = ap (λ c. if c then waited_for t window k else None) e

    now : (b : Bool) → has y.finished k ≡ b → v ≡ (if b then waited_for t window k else None)
    now b e = ap (λ c. if c then waited_for t window k else None) e

    shown_is : is_shown t window r k ≡ has front k
    shown_is = ap (λ ks. has ks k) (front_is t window x front next h)

    waited_is : has (wave_after t window (suc r)) k ≡ true → waited_for t window k ≡ (if has front k then holder_in t x k else None)
    waited_is c =
        let number : round_of (waves t window) k ≡ suc r = same_Some _ _ (sym (at_place t window k low) ∙ numbered.1 c) in
        ap (λ n. waited_before t window n k) number ∙ ap (λ b. if b then holder_in t x k else None) shown_is

    when_done : has y.finished k ≡ true → over t x (filter asked front) k v ≡ noted_after t window (suc r) k
    when_done d =
        untold (λ c. not_both d (chosen_open (replayed t) (places t) window y k c)) ∙ now true d ∙ sym (later true (stays_done t window (suc r) k d))

    when_chosen : has y.finished k ≡ false → has (wave_after t window (suc r)) k ≡ true → over t x (filter asked front) k v ≡ noted_after t window (suc r) k
    when_chosen d c =
        let done : has (state_after t window (suc (suc r))).finished k ≡ true = sym (finished_next t window (suc r) k) ∙ ends_finished (replayed t) (wave_after t window (suc r)) y k c in
        elim (cases_Bool (has front k)) [
          | inl there ↦
              ap (λ b. if b then option_or (holder_in t x k) v else v) (has-kept asked front k (chosen_asked c) there) ∙ ap (option_or (holder_in t x k)) (now false d) ∙ or-none (holder_in t x k)
              ∙ sym (later true done ∙ waited_is c ∙ ap (λ b. if b then holder_in t x k else None) there)
          | inr hidden ↦
              ap (λ b. if b then option_or (holder_in t x k) v else v) (false_from_ne_true _ (λ m. not_both (has-filter asked front k m).1 hidden)) ∙ now false d
              ∙ sym (later true done ∙ waited_is c ∙ ap (λ b. if b then holder_in t x k else None) hidden)
        ]

    step : over t x (filter asked front) k v ≡ noted_after t window (suc r) k
    step = elim (cases_Bool (has y.finished k)) [
      | inl d ↦ when_done d
      | inr d ↦ elim (cases_Bool (has (wave_after t window (suc r)) k)) [
        | inl c ↦ when_chosen d c
        | inr c ↦
            let open_still : has (state_after t window (suc (suc r))).finished k ≡ false = sym (finished_next t window (suc r) k) ∙ still_open (replayed t) (wave_after t window (suc r)) y k c d in
            untold (λ m. not_both m c) ∙ now false d ∙ sym (later false open_still)
      ]
    ]

  -- The places of which is told have room in a list of all places.
  pub told_low : (numbers : List ℕ) (number : ℕ) (held : List Held) (n : ℕ) → n ≡ places t → map held_meant held ≡ held_among t x (filter (has_number numbers number) front) → All (λ h. h.place < n) held
  told_low numbers number held n e is =
      subst (λ m. All (λ (d : Held). d.place < m) held) (sym e)
      (λ i d lt. held_within t x (places t) (filter (has_number numbers number) front) held is
      (λ k m. (front_open t window x front next h k (has-filter (has_number numbers number) front k m).1).0) i d lt)

  pub noted_more : (numbers : List ℕ) (old new : List (Option WaitedFor)) → numbers ≡ rounds t window → AreNoted t window r old → length new ≡ length old
      → map (option_map waited_meant) new ≡ noted (map (option_map waited_meant) old) (held_among t x (filter (has_number numbers (r + 1)) front)) → AreNoted t window (r + 1) new
  noted_more numbers old new same before many is =
      let more : r + 1 ≡ suc r = omega arith in
      subst (λ n. AreNoted t window n new) (sym more) (record {
        many = many ∙ before.many;
        noted = λ k within.
            ap (λ ws. slice_get ws k) (is ∙ (λ i. noted (map (option_map waited_meant) old) (held_among t x (filter (has_number (same i) (more i)) front))))
            ∙ noted_at t x (filter asked front) (map (option_map waited_meant) old) k (noted_after t window r k) (before.noted k within) ∙ ap Some (step k within);
      })

-- Once all places are done.
module _ (t : Recording) (spelled : IsAccepted t) (p : Progress) (h : Stands t p) (over : (p.front.items ≡ []) ⊎ (p.round ≡ places t)) where
  all_done : (k : ℕ) → k < places t → has (state_after t p.window p.round).finished k ≡ true
  all_done k lt = go over
    where
      go : (p.front.items ≡ []) ⊎ (p.round ≡ places t) → has (state_after t p.window p.round).finished k ≡ true
      go (inr e) = rounds_finish (replayed t) (lawful t spelled) (places t) p.window p.round k h.window lt (omega (arith, e))
      go (inl e) =
          let nothing : wave_after t p.window p.round ≡ [] = ap (filter (is_free (replayed t) (state_after t p.window p.round))) (front_is t p.window (state_after t p.window p.round) p.front.items p.next h.front ∙ e) in
          ap (λ (x : State (replayed t)). has x.finished k) (sym (rounds-still (replayed t) (places t) p.window p.round (places t) (opening (replayed t)) nothing))
          ∙ rounds_finish (replayed t) (lawful t spelled) (places t) p.window (places t + p.round) k h.window lt (omega arith)

  pub all_noted : (ws : List (Option WaitedFor)) → AreNoted t p.window p.round ws → AreAllNoted t p.window ws
  all_noted ws n =
      sym (take-whole (map (option_map waited_meant) ws) (places t) (length-map ws (option_map waited_meant) ∙ n.many))
      ∙ mapped-so-far (waited_for t p.window) (map (option_map waited_meant) ws) (places t)
      (λ k lt. n.noted k lt ∙ ap (λ b. Some (if b then waited_for t p.window k else None)) (stays_done t p.window p.round k (all_done k lt)))
