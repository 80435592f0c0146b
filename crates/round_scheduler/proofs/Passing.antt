-- The first places that wait, looked at or passed over one after another.
use Rattle.std.specs.Prelude.{◌≡◌, ◌≢◌, ℕ, suc, ◌<◌, Bool, true, false, List, [], ◌∷◌, ◌++◌, map, take, length, slice_get, Option, Some, refl, if◌then◌else◌}
use Rattle.std.proofs.Common.{◌⊎◌, inl, inr, sym, ap, subst, ◌∙◌, arith}
use Rattle.std.proofs.lemmas.Bool.{cases_eq, cases_Bool, false_from_ne_true}
use Rattle.std.proofs.lemmas.List.{map-append, append-nil}
use Rattle.std.proofs.lemmas.Option.{same_Some}
use Rattle.interleaving.specs.System.{is_clear}
use Rattle.interleaving.specs.Machine.{has}
use Rattle.interleaving.specs.Rounds.{pending}
use Rattle.interleaving.proofs.Members.{has-pending, has-take, has-snoc}
use Rattle.interleaving.proofs.Skipping.{clear-of}
use Rattle.recording.specs.declared.recording.Recording.{Recording}
use Rattle.recording.specs.Steps.{places}
use Rattle.recording.specs.Accepted.{IsAccepted}
use Rattle.world_parts.specs.World.{World}
use Rattle.world_parts.specs.Items.{Footprint}
use Rattle.foot_print.specs.Replayed.{replayed}
use Rattle.wave_pick.specs.Picking.{free_from, reaches_from}
use Rattle.wave_pick.specs.Resting.{AllStay, OneHolds, RestsOnAll, StaysAsIs}
use Rattle.wave_pick.specs.Rounds.{state_after}
use Rattle.round_scheduler.specs.Scheduling.{AddsReach, AreBefore, AreFirst, Covers, Freshens, HasReach, HasRoom, HaveReaches, HaveSeen, IsAgain, IsIndex, IsKnown, IsListed, IsSameRound, IsView, Keeps, RestsStill, Sees}
use Rattle.wave_pick.specs.Holds.{Waits, world_after, footprint_after, reaches_after, reach_after}
use Rattle.round_scheduler.specs.declared.scheduler.Scheduler.{Scheduler}
use Rattle.round_scheduler.specs.declared.scheduler.View.{View}
use Rattle.round_scheduler.proofs.Knowing.{covers_still, index_covers, index_grew, known_so, on_so, still_so, waits_so}
use Rattle.wave_pick.proofs.Looked.{free_more, pending_reaches, take_pending}
use Rattle.wave_pick.proofs.Resting.{rests_on_all_stays}
use Rattle.round_scheduler.proofs.Seeing.{has-got}
use Rattle.round_scheduler.proofs.Within.{before_pending, not_in_more, pending_has}
use Rattle.wave_pick.proofs.Lists.{all_or, not_both, set-here, set-other}

-- A place that waits from one round to the next with the same may-access set.
stays_so : (t : Recording) (window p k : ℕ) → Waits t window (suc p) k → reach_after t window (suc p) k ≡ reach_after t window p k → StaysAsIs t window p (suc p) k
stays_so t window p k waits e = record {
  waits = waits;
  same = λ r low high. elim (cases_eq r (suc p)) [
    | inl same ↦ ap (λ n. reach_after t window n k) same ∙ e
    | inr other ↦ let same : r ≡ p = omega (arith, other, low, high) in ap (λ n. reach_after t window n k) same
  ];
}

one_reach : {f g : Footprint} {x : Option (Option Footprint)} → x ≡ Some (Some f) → x ≡ Some (Some g) → f ≡ g
one_reach d e = cc

-- A round goes on.
pub same_on : {s mid later : Scheduler} → IsSameRound s mid → IsSameRound mid later → IsSameRound s later
same_on a b = record {
  round = b.round ∙ a.round;
  reaches = b.reaches ∙ a.reaches;
  again = b.again ∙ a.again;
  resting = b.resting ∙ a.resting;
}

same_tables : {s mid later : Scheduler} → IsSameRound s mid → later.round ≡ mid.round → later.reaches ≡ mid.reaches → later.again ≡ mid.again → later.resting ≡ mid.resting → IsSameRound s later
same_tables a round reaches again resting = same_on a (record {
  round = round;
  reaches = ap (λ v. length v.items) reaches;
  again = ap (λ v. length v.items) again;
  resting = ap (λ v. length v.items) resting;
})

pub same_rest : {s mid later : Scheduler} → IsSameRound s mid → later ≡ record mid { ahead = later.ahead; added = later.added } → IsSameRound s later
same_rest a e = same_tables a (ap (λ (x : Scheduler). x.round) e) (ap (λ (x : Scheduler). x.reaches) e) (ap (λ (x : Scheduler). x.again) e) (ap (λ (x : Scheduler). x.resting) e)

pub same_fresh : {s mid later : Scheduler} → IsSameRound s mid → later ≡ record mid { ahead = later.ahead; exact = later.exact; added = later.added } → IsSameRound s later
same_fresh a e = same_tables a (ap (λ (x : Scheduler). x.round) e) (ap (λ (x : Scheduler). x.reaches) e) (ap (λ (x : Scheduler). x.again) e) (ap (λ (x : Scheduler). x.resting) e)

module _ (t : Recording) (spelled : IsAccepted t) (window : ℕ) (w : World) (q : ℕ) (first : List ℕ) (a : AreFirst t window w q first) where
  abbrev done : ℕ → Bool
  done = has (state_after t window q).finished

  abbrev reach_of : ℕ → Footprint
  reach_of = reach_after t window q

  all_pending : (n : ℕ) × (first ≡ pending done n)
  all_pending = let r = take_pending window done (places t) in (r.0, a.first ∙ r.1)

  -- One of them waits, and before it those that wait before it come.
  module _ (x k : ℕ) (at : slice_get first x ≡ Some k) where
    is_first : has first k ≡ true
    is_first = has-got first x k at

    pub waits_there : Waits t window q k
    waits_there = (has-pending done all_pending.0 k (ap (λ ks. has ks k) (sym all_pending.1) ∙ is_first)).1

    pub is_place : k < places t
    is_place = (has-pending done (places t) k (has-take window (pending done (places t)) k (ap (λ ks. has ks k) (sym a.first) ∙ is_first))).0

    pub before_it : take x first ≡ pending done k
    before_it = ap (take x) all_pending.1 ∙ before_pending done all_pending.0 x k (ap (λ ks. slice_get ks x) (sym all_pending.1) ∙ at)

    has_earlier : (j : ℕ) → has (take x first) j ≡ true → (j < k) × Waits t window q j
    has_earlier j h = has-pending done k j (ap (λ ks. has ks j) (sym before_it) ∙ h)

    pub earlier_has : (j : ℕ) → j < k → Waits t window q j → has (take x first) j ≡ true
    earlier_has j lt waits = ap (λ ks. has ks j) before_it ∙ pending_has done j k lt waits

    not_earlier : has (take x first) k ≡ false
    not_earlier = false_from_ne_true _ (λ h. let low = (has_earlier k h).0 in absurd (omega (arith, low)))

    -- The table has the may-access sets of those before it.
    table_has : (s : Scheduler) (ks : List ℕ) → ((j : ℕ) → has ks j ≡ true → HasReach s j (reach_of j)) → HaveReaches s ks (map reach_of ks)
    table_has s [] all = refl
    table_has s (j ∷ ks) all = λ i. all j (Rattle.interleaving.proofs.Members.has-here j ks) i ∷ table_has s ks (λ n h. all n (Rattle.interleaving.proofs.Members.has-later n j ks h)) i

    pub are_before : (s : Scheduler) (free : List ℕ) → HaveSeen t window q (take x first) s free → AreBefore t window q k (take x first) s
    are_before s free h = record { waits = waits_there; places_are = before_it; reaches_are = table_has s (take x first) (λ j e. (h.seen j e).reach) }

    -- What a look at it gives is right for the round.
    pub seen_view : (s : Scheduler) (free : List ℕ) → HaveSeen t window q (take x first) s free → s.round ≡ q → (v : View) → Sees t w k (take x first) s v → IsView t window q k v
    seen_view s free h same v sees =
        subst (λ n. IsView t window n k v) same (sees window (a.world ∙ ap (world_after t window) (sym same))
        (subst (λ n. AreBefore t window n k (take x first) s) (sym same) (are_before s free h))
        (subst (λ n. IsIndex s (map (reach_after t window n) (take x first))) (sym same) h.index))

    -- The may-access sets before it.
    before_is : reaches_from t (world_after t window q) [] (take x first) ≡ reaches_after t window q k
    before_is = ap (reaches_from t (world_after t window q) []) before_it ∙ pending_reaches t (world_after t window q) done k

    more_free : (free : List ℕ) (b : Bool) → b ≡ is_clear (replayed t) (footprint_after t window q k) (reaches_after t window q k) → free ≡ free_from t (world_after t window q) [] (take x first)
        → free ++ (if b then k ∷ [] else []) ≡ free_from t (world_after t window q) [] (take x first ++ k ∷ [])
    more_free free b e is =
        (λ i. is i ++ (if (e ∙ ap (is_clear (replayed t) (footprint_after t window q k)) (sym before_is)) i then k ∷ [] else []))
        ∙ sym (free_more t (world_after t window q) [] (take x first) k)

    -- Before it is looked at, the index may be made anew.
    pub fresh_step : (s : Scheduler) (free : List ℕ) → HaveSeen t window q (take x first) s free → (later : Scheduler) → Freshens (take x first) s later → HaveSeen t window q (take x first) later free
    fresh_step s free h later f =
        let reaches = ap (λ (z : Scheduler). z.reaches) f.rest in
        let again = ap (λ (z : Scheduler). z.again) f.rest in
        let resting = ap (λ (z : Scheduler). z.resting) f.rest in
        record {
          index = f.index (map reach_of (take x first)) (table_has s (take x first) (λ j e. (h.seen j e).reach)) h.index;
          seen = λ j e. known_so t window q j s later reaches again resting (h.seen j e);
          others = λ j low waits none. waits_so t window q j s later reaches again resting s.exact later.exact f.others (h.others j low waits none);
          free_are = h.free_are;
        }

    -- A look at it, which is kept.
    module _ (s : Scheduler) (free : List ℕ) (h : HaveSeen t window q (take x first) s free) (room : HasRoom (places t) s) (again : IsAgain s k) (v : View) (view : IsView t window q k v) (later : Scheduler) (keeps : Keeps k v s later) where
      abbrev in_room : k < length s.reaches.items
      in_room = let many = room.reaches in let low = is_place in omega (arith, many, low)

      reach_there : slice_get later.reaches.items k ≡ Some (Some v.reach)
      reach_there = ap (λ xs. slice_get xs k) keeps.reaches ∙ set-here s.reaches.items k (Some v.reach) in_room

      reach_apart : (j : ℕ) → j ≢ k → slice_get later.reaches.items j ≡ slice_get s.reaches.items j
      reach_apart j ne = ap (λ xs. slice_get xs j) keeps.reaches ∙ set-other s.reaches.items k j (Some v.reach) ne

      known_now : IsKnown t window q k later
      known_now = record {
        reach = reach_there ∙ ap (λ f. Some (Some f)) view.reach;
        rests = elim keeps.rests [
          | inl still ↦ inl (still again)
          | inr found ↦ inr (record { on = found.0.on.items; these = view.rests found.0 found.1.0; listed = found.1.1 })
        ];
      }

      known_still : (j : ℕ) → has (take x first) j ≡ true → IsKnown t window q j later
      known_still j e =
          let old = h.seen j e in
          let below = (has_earlier j e).0 in
          let apart : j ≢ k = λ same. omega (arith, below, same) in
          record {
            reach = reach_apart j apart ∙ old.reach;
            rests = elim old.rests [
              | inl is ↦ inl (keeps.still j apart is)
              | inr r ↦ inr (on_so t window q j r (λ i on. let low = (r.these.before i on).0 in keeps.listed i j (λ same. omega (arith, below, low, same)) (r.listed i on)))
            ];
          }

      module _ (j : ℕ) (apart : j ≢ k) (low : j < places t) (r : RestsStill t window q j s.exact s) where
        abbrev Kept : ℕ → Type 0
        Kept i = IsListed later i j × HasReach later i (reach_after t window r.last i)

        kept_or_again : (i : ℕ) → has r.by.on i ≡ true → (i ≡ k) ⊎ (i ≢ k) → IsAgain later j ⊎ Kept i
        kept_or_again i on (inr ne) = inr (keeps.listed i j ne (r.by.listed i on), reach_apart i ne ∙ r.other_reaches i on)
        kept_or_again i on (inl e) = elim (keeps.woken j apart (let many = room.again in omega (arith, low, many)) (subst (λ n. IsListed s n j) e (r.by.listed i on))) [
          | inl woken ↦ inl woken
          | inr p ↦ inr (
            subst (λ n. IsListed later n j) (sym e) p.1,
            ap (slice_get later.reaches.items) e ∙ reach_there
                ∙ ap (λ f. Some (Some f)) (one_reach p.0 (ap (slice_get s.reaches.items) (sym e) ∙ r.other_reaches i on)),
          )
        ]

        rests_or_again : IsAgain later j ⊎ RestsStill t window q j later.exact later
        rests_or_again = elim (all_or (IsAgain later j) Kept r.by.on (λ i on. kept_or_again i on (cases_eq i k))) [
          | inl again ↦ inl again
          | inr all ↦ inr (still_so t window q j r (λ i on. (all i on).0) (reach_apart j apart ∙ r.reach) (λ i on. (all i on).1)
              (λ e. covers_still s.ahead later.ahead v.reach keeps.index (reach_after t window r.last j) (r.covered (sym keeps.exact ∙ e))))
        ]

      pub look_step : HaveSeen t window q (take x first ++ k ∷ []) later (if v.free then free ++ k ∷ [] else free)
      look_step = record {
        index = subst (IsIndex later) (ap (λ f. map reach_of (take x first) ++ f ∷ []) view.reach ∙ sym (map-append reach_of (take x first) (k ∷ []))) (index_grew s later keeps.exact (map reach_of (take x first)) h.index v.reach keeps.index);
        seen = λ j e. elim (has-snoc (take x first) k j e) [ inl there ↦ known_still j there | inr here ↦ subst (λ i. IsKnown t window q i later) (sym here) known_now ];
        others = λ j low waits none.
            let l = not_in_more (take x first) k j none in
            elim (h.others j low waits l.0) [ inl is ↦ inl (keeps.still j l.1 is) | inr r ↦ rests_or_again j l.1 low r ];
        free_are =
            (elim v.free as (λ b. (if b then free ++ k ∷ [] else free) ≡ free ++ (if b then k ∷ [] else [])) [ true ↦ refl | false ↦ sym (append-nil free) ])
            ∙ more_free free v.free view.free h.free_are;
      }

    -- It rests, and is passed over.
    module _ (s : Scheduler) (free : List ℕ) (h : HaveSeen t window q (take x first) s free) (calm : slice_get s.again.items k ≡ Some false) where
      rests_still : RestsStill t window q k s.exact s
      rests_still = elim (h.others k is_place waits_there not_earlier) [
        | inl e ↦ not_both (same_Some _ _ (sym calm ∙ e)) refl
        | inr r ↦ r
      ]

      abbrev r : RestsStill t window q k s.exact s
      r = rests_still

      abbrev on : List ℕ
      on = r.by.on

      on_waits : (i : ℕ) → has on i ≡ true → Waits t window q i
      on_waits i e = subst (λ n. Waits t window n i) (sym r.next) (r.others_wait i e)

      on_known : (i : ℕ) → has on i ≡ true → IsKnown t window q i s
      on_known i e = h.seen i (earlier_has i (r.by.these.before i e).0 (on_waits i e))

      on_stays : AllStay t window r.last (suc r.last) on
      on_stays i e = stays_so t window r.last i (r.others_wait i e) (ap (λ n. reach_after t window n i) (sym r.next) ∙ one_reach (on_known i e).reach (r.other_reaches i e))

      now : (reach_after t window (suc r.last) k ≡ reach_after t window r.last k) × OneHolds t window (suc r.last) on k
      now = r.by.these.rests (suc r.last) (omega arith) on_stays

      reach_same : reach_after t window q k ≡ reach_after t window r.last k
      reach_same = ap (λ n. reach_after t window n k) r.next ∙ now.0

      known_so_far : IsKnown t window q k s
      known_so_far = record {
        reach = r.reach ∙ ap (λ f. Some (Some f)) (sym reach_same);
        rests = inr (record {
          on = on;
          these = record {
            before = λ i e. ((r.by.these.before i e).0, on_waits i e);
            rests = subst (λ n. RestsOnAll t window n on k) (sym r.next) (rests_on_all_stays t window r.last on k r.by.these.rests on_stays);
          };
          listed = r.by.listed;
        });
      }

      held_there : is_clear (replayed t) (footprint_after t window (suc r.last) k) (reaches_after t window (suc r.last) k) ≡ false
      held_there = false_from_ne_true _ (λ clear.
          let b = now.1.1.1 in
          not_both b.collides (clear-of (replayed t) (footprint_after t window (suc r.last) k) (has (state_after t window (suc r.last)).finished)
          (world_after t window (suc r.last)) k clear now.1.0 b.is_before b.waits))

      held : false ≡ is_clear (replayed t) (footprint_after t window q k) (reaches_after t window q k)
      held = sym (subst (λ n. is_clear (replayed t) (footprint_after t window n k) (reaches_after t window n k) ≡ false) (sym r.next) held_there)

      module _ (later : Scheduler) (exact : s.exact ≡ true → (f : Footprint) → slice_get s.reaches.items k ≡ Some (Some f) → AddsReach s.ahead later.ahead f) (same : s.exact ≡ false → later.ahead ≡ s.ahead) (rest : later ≡ record s { ahead = later.ahead; added = later.added }) where
        mode : later.exact ≡ s.exact
        mode = ap (λ (z : Scheduler). z.exact) rest

        index : IsIndex later (map reach_of (take x first) ++ reach_of k ∷ [])
        index = elim (cases_Bool s.exact) [
          | inl e ↦ index_grew s later mode (map reach_of (take x first)) h.index (reach_of k) (exact e (reach_of k) known_so_far.reach)
          | inr e ↦ index_covers s later mode (map reach_of (take x first)) h.index (reach_of k) e (same e)
              (subst (Covers s.ahead) (sym reach_same) (r.covered e))
        ]

        -- the tables are as they were
        abbrev reaches_so : later.reaches ≡ s.reaches
        reaches_so = ap (λ (z : Scheduler). z.reaches) rest

        abbrev again_so : later.again ≡ s.again
        again_so = ap (λ (z : Scheduler). z.again) rest

        abbrev resting_so : later.resting ≡ s.resting
        resting_so = ap (λ (z : Scheduler). z.resting) rest

        known_later : (j : ℕ) → IsKnown t window q j s → IsKnown t window q j later
        known_later j old = known_so t window q j s later reaches_so again_so resting_so old

        pub pass_step : HaveSeen t window q (take x first ++ k ∷ []) later free
        pass_step = record {
          index = subst (IsIndex later) (sym (map-append reach_of (take x first) (k ∷ []))) index;
          seen = λ j e. elim (has-snoc (take x first) k j e) [ inl there ↦ known_later j (h.seen j there) | inr here ↦ subst (λ i. IsKnown t window q i later) (sym here) (known_later k known_so_far) ];
          others = λ j low waits none. waits_so t window q j s later reaches_so again_so resting_so s.exact later.exact (λ e. let e₁ = sym mode ∙ e in (e₁, same e₁)) (h.others j low waits (not_in_more (take x first) k j none).0);
          free_are = sym (append-nil free) ∙ more_free free false held h.free_are;
        }
