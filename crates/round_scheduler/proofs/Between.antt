-- What is known of the places that wait once a round has been picked.
use Rattle.std.specs.Prelude.{◌≡◌, ◌≢◌, ℕ, suc, ◌<◌, true, false, not, List, [], ◌∷◌, map, take, length, slice_get, Some, refl}
use Rattle.std.proofs.Common.{◌⊎◌, inl, inr, sym, ap, subst, ◌∙◌, arith}
use Rattle.std.specs.Option.{option_map}
use Rattle.std.proofs.lemmas.Bool.{cases_Bool, false_from_ne_true}
use Rattle.std.proofs.lemmas.Option.{slice_get-map}
use Rattle.interleaving.specs.Machine.{State, has, is_free, opening}
use Rattle.interleaving.specs.Rounds.{pending}
use Rattle.interleaving.specs.Gather.{AllDifferent}
use Rattle.interleaving.proofs.Members.{different-choice, has-filter, has-take}
use Rattle.interleaving.proofs.Onwards.{ends_finished, rounds-more}
use Rattle.recording.specs.declared.recording.Recording.{Recording}
use Rattle.recording.specs.Steps.{places}
use Rattle.recording.specs.Accepted.{IsAccepted}
use Rattle.world_parts.specs.World.{World}
use Rattle.foot_print.specs.Reach.{is_met}
use Rattle.foot_print.specs.Replayed.{replayed}
use Rattle.foot_print.proofs.Unmet.{unmet_reach}
use Rattle.wave_pick.specs.Lawful.{lawful}
use Rattle.wave_pick.specs.Picking.{chosen_at, free_from}
use Rattle.wave_pick.specs.Rounds.{state_after, wave_after}
use Rattle.round_scheduler.specs.Scheduling.{AreFirst, Covers, HasReach, HasRoom, HaveSeen, IsAgain, IsIndex, Releases, Remembers, RestsListed, RestsStill}
use Rattle.wave_pick.specs.Holds.{Waits, world_after, footprint_after, reaches_after, reach_after}
use Rattle.round_scheduler.specs.declared.scheduler.Scheduler.{Scheduler}
use Rattle.wave_pick.specs.declared.wave.Chosen.{Chosen}
use Rattle.round_scheduler.proofs.Knowing.{covers_each, listed_so, on_so, waits_so}
use Rattle.wave_pick.proofs.Looked.{pending_free, take_pending}
use Rattle.wave_pick.proofs.Lists.{all_or, not_both}
use Rattle.round_scheduler.proofs.Passing.{earlier_has}
use Rattle.wave_pick.proofs.Resting.{waits_on}
use Rattle.wave_pick.proofs.Clear.{met_not_clear}
use Rattle.wave_pick.proofs.Staying.{waited}
use Rattle.round_scheduler.proofs.Within.{fewer, first_within, place_of, within_first}

-- Before the first look.
pub begins : (t : Recording) (window : ℕ) (s begun : Scheduler) → Remembers t window s → (begun.exact ≡ true → IsIndex begun []) → (begun.exact ≡ false → begun.ahead ≡ s.ahead) → begun ≡ record s { ahead = begun.ahead; exact = begun.exact; added = begun.added } → HaveSeen t window s.round [] begun []
begins t window s begun r index others rest = record {
  index = record { alone = λ e. (index e).alone e; among = λ e y g at. (cc) };
  seen = λ k e. (cc);
  others = λ k low waits none. waits_so t window s.round k s begun (ap (λ (z : Scheduler). z.reaches) rest) (ap (λ (z : Scheduler). z.again) rest)
      (ap (λ (z : Scheduler). z.resting) rest)
      false begun.exact (λ e. (refl, others e)) (r.each k low waits);
  free_are = refl;
}

module _ (t : Recording) (spelled : IsAccepted t) (window : ℕ) (w : World) (q : ℕ) (first : List ℕ) (a : AreFirst t window w q first) (s : Scheduler) (free : List ℕ) (h : HaveSeen t window q first s free) where
  abbrev done : ℕ → Rattle.std.specs.Prelude.Bool
  done = has (state_after t window q).finished

  -- The places that are free make the round.
  pub free_is_wave : free ≡ wave_after t window q
  free_is_wave =
      let r = take_pending window done (places t) in
      h.free_are ∙ ap (free_from t (world_after t window q) []) (a.first ∙ r.1) ∙ pending_free t (world_after t window q) done r.0
      ∙ ap (Rattle.std.specs.Prelude.filter (is_free (replayed t) (state_after t window q))) (sym r.1)

  pub all_different : AllDifferent free
  all_different = subst AllDifferent (sym free_is_wave) (different-choice (is_free (replayed t) (state_after t window q)) window done (places t))

  -- Each of them has its access set in the table.
  pub has_footprint : (k : ℕ) → has free k ≡ true → HasReach s k (footprint_after t window q k)
  has_footprint k e =
      let in_wave = has-filter (is_free (replayed t) (state_after t window q)) (take window (pending done (places t))) k (ap (λ ks. has ks k) (sym free_is_wave) ∙ e) in
      let known = h.seen k (ap (λ ks. has ks k) a.first ∙ in_wave.1) in
      let unmet : is_met (footprint_after t window q k) (reaches_after t window q k) ≡ false = false_from_ne_true _ (λ m. not_both in_wave.0 (sym (met_not_clear t (footprint_after t window q k) (reaches_after t window q k) m))) in
      known.reach ∙ ap (λ f. Some (Some f)) (unmet_reach t k (world_after t window q) (reaches_after t window q k) unmet)

  module _ (later : Scheduler) (gone : List Chosen) (r : Releases free s later gone) where
    pub chosen_are : gone ≡ map (chosen_at t (world_after t window q)) (free_from t (world_after t window q) [] first)
    chosen_are = r.chosen_are (footprint_after t window q) all_different has_footprint ∙ ap (map (chosen_at t (world_after t window q))) h.free_are

    -- One that waits after the round isn't one of the round, and waited before it.
    module _ (k : ℕ) (low : k < places t) (waits : Waits t window (suc q) k) (many : HasRoom (places t) s) where
      waits_now : Waits t window q k
      waits_now = waited (replayed t) (lawful t spelled) (places t) window q k waits

      not_free : has free k ≡ false
      not_free = false_from_ne_true _ (λ e. not_both
          (ap (λ (x : State (replayed t)). has x.finished k) (rounds-more (replayed t) (places t) window q (opening (replayed t)))
          ∙ ends_finished (replayed t) (wave_after t window q) (state_after t window q) k (ap (λ ks. has ks k) (sym free_is_wave) ∙ e))
          waits)

      within_room : k < length s.again.items
      within_room = let e = many.again in omega (arith, low, e)

      -- It was seen.
      module _ (there : has first k ≡ true) where
        waits_later : (i : ℕ) → Waits t window q i → has free i ≡ false → Waits t window (suc q) i
        waits_later i now none = waits_on t window q i now (ap (λ ks. has ks i) (sym free_is_wave) ∙ none)

        first_has : (i : ℕ) → i < k → Waits t window q i → has first i ≡ true
        first_has i lt now =
            let found = place_of first k there in
            has-take found.0 first i (earlier_has t spelled window w q first a found.0 k found.1 i lt now)

        covered : Covers later.ahead (reach_after t window q k)
        covered =
            let found = place_of first k there in
            subst (λ x. Covers x (reach_after t window q k)) (sym r.ahead)
            (covers_each s (map (reach_after t window q) first) h.index found.0 (reach_after t window q k) (slice_get-map (reach_after t window q) first found.0 ∙ ap (option_map (reach_after t window q)) found.1))

        ran_or_stays : (l : RestsListed t window q k s) (i : ℕ) → has l.on i ≡ true → IsAgain later k ⊎ (has free i ≡ false)
        ran_or_stays l i e = elim (cases_Bool (has free i)) [ inl ran ↦ inl (r.woken i k ran (l.listed i e) within_room) | inr stays ↦ inr stays ]

        go_on : RestsListed t window q k s → (has free k ≡ false) → IsAgain later k ⊎ RestsStill t window (suc q) k false later
        go_on l none = elim (all_or (IsAgain later k) (λ i. has free i ≡ false) l.on (ran_or_stays l)) [
          | inl ran ↦ inl ran
          | inr stay ↦ inr (record {
            last = q;
            next = refl;
            by = on_so t window q k l (λ i e. listed_so (r.others i (stay i e)).1 (l.listed i e));
            reach = (r.others k none).0 ∙ (h.seen k there).reach;
            others_wait = λ i e. waits_later i (l.these.before i e).1 (stay i e);
            other_reaches = λ i e. (r.others i (stay i e)).0 ∙ (h.seen i (first_has i (l.these.before i e).0 (l.these.before i e).1)).reach;
            within = first_within done window k (places t) (ap (λ ks. has ks k) (sym a.first) ∙ there);
            covered = λ e. covered;
          })
        ]

        pub seen_goes_on : IsAgain later k ⊎ RestsStill t window (suc q) k false later
        seen_goes_on = elim (h.seen k there).rests [ inl is ↦ inl (r.still k is) | inr l ↦ go_on l not_free ]

      -- It wasn't: then it is to be looked at, since the window didn't reach it before either.
      pub unseen_goes_on : has first k ≡ false → IsAgain later k ⊎ RestsStill t window (suc q) k false later
      unseen_goes_on none = elim (h.others k low waits_now none) [
        | inl is ↦ inl (r.still k is)
        | inr x ↦
            let before = has (state_after t window x.last).finished in
            let next = x.next in
            let less = fewer before done (λ j now. waited (replayed t) (lawful t spelled) (places t) window x.last j (subst (λ n. Waits t window n j) next now)) k in
            let within = x.within in
            let few : length (pending done k) < window = omega (arith, less, within) in
            not_both (ap (λ ks. has ks k) a.first ∙ within_first done window k (places t) low waits_now few) none
      ]

    -- What a scheduler has after the round.
    pub remembers_on : HasRoom (places t) s → (next : Scheduler) → next.round ≡ suc q → next.reaches ≡ later.reaches → next.again ≡ later.again → next.resting ≡ later.resting → next.ahead ≡ later.ahead → Remembers t window next
    remembers_on many next round reaches again resting ahead = record {
      room = record {
        reaches = ap (λ v. length v.items) reaches ∙ r.same.reaches ∙ many.reaches;
        again = ap (λ v. length v.items) again ∙ r.same.again ∙ many.again;
        resting = ap (λ v. length v.items) resting ∙ r.same.resting ∙ many.resting;
      };
      each = λ k low waits.
          let now = subst (λ n. Waits t window n k) round waits in
          let then : IsAgain later k ⊎ RestsStill t window (suc q) k false later =
          elim (cases_Bool (has first k)) [ inl there ↦ seen_goes_on k low now many there | inr none ↦ unseen_goes_on k low now many none ] in
          subst (λ n. IsAgain next k ⊎ RestsStill t window n k false next) (sym round)
          (waits_so t window (suc q) k later next reaches again resting false false (λ e. (refl, ahead)) then);
    }
