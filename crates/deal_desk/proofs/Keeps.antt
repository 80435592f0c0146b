-- Each kind of step keeps the rule of the desk.
use Rattle.std.proofs.Common.{◌≡◌, ◌≢◌, ℕ, zero, suc, ◌+◌, ◌<◌, ◌≤◌, ◌^◌, ⊎_elim, min, if◌then◌else◌, Bool, true, false, List, [], ◌∷◌, ◌++◌, map, length, set, ◌⊎◌, inl, inr, refl, sym, ap, ◌∙◌, subst, arith, Option, Some, None, length-append}
use Rattle.std.specs.Prelude.{slice_get, sum_by, Contains, option_to_list}
use Rattle.std.proofs.lemmas.Bool.{or_cases}
use Rattle.std.proofs.lemmas.List.{length-set, length-map, map-append}
use Rattle.std.proofs.lemmas.List.Elements.{Contains-append_cases, Contains-push_cases}
use Rattle.std.proofs.lemmas.List.Sums.{sum_by_push}
use Rattle.std.proofs.lemmas.Option.{slice_get_within}
use Rattle.atomic_table.proofs.Lists.{at_set, at_snoc, set_here, set_else}
use mathlib.Core.Option.{some, none, some-ne-none, some-injective}
use mathlib.Core.Option as maybe
use lib.ListN.{get_elem?}
use Rattle.deal_desk.specs.declared.hand.Hand.{Hand}
use Rattle.deal_desk.specs.declared.job.Slot.{Slot}
use Rattle.deal_desk.specs.declared.job.Slot.TheVariants.{Waiting, Finished}
use Rattle.deal_desk.specs.Hands.{times, once_below, Knows, places, places_back, opening_hand, further_hand, spent_hand, gave, drew, ran_dry, put_back, took_in}
use Rattle.deal_desk.specs.Rule.{weight, ended, Fits, Dealt}
use Rattle.deal_desk.proofs.Counts.{times-append, times-itself, once_below_next, once_below_all, once_below_past, once_below_rises, once_below_most}
use Rattle.deal_desk.proofs.Sums.{get_elem_within, sum_by_changed, one-le-sum_by, two-le-sum_by, sum_by-le-length, sum_by_of_one}

weightless : (live : Bool) (n : ℕ) → (if live then n + 1 else 0) ≡ 0 → live ≡ false
weightless live n e = grind arith

module _ {T D : Type 0} where
  pub ended_at_most_one : (v : Hand T D) → ended v ≤ 1
  ended_at_most_one v = grind arith

  abbrev pub at_home : List T → List (Slot T D)
  at_home js = map Waiting js

  pub out_listed : (k : ℕ) (o : Option ℕ) (v : Hand T D) → v.out ≡ o → times k (places v) ≡ times k (option_to_list o) + times k (places_back v)
  out_listed k o v e = times-append k (option_to_list v.out) (places_back v) ∙ ap (λ (p : Option ℕ). times k (option_to_list p) + times k (places_back v)) e

  spent_places : (k : ℕ) (v : Hand T D) → (v.out ≡ None) × (v.back ≡ []) → times k (places v) ≡ 0
  spent_places k v e = omega (arith, out_listed k None v e.0, ap (λ (b : List (ℕ × D)). times k (map (λ (p : ℕ × D). p.0) b)) e.1)

  module _ (is_value : T → D → Type 0) (jobs : List T) where
    abbrev Fitting : ℕ → ℕ → List (maybe.Option (Slot T D)) → ℕ → Hand T D → Type 0
    Fitting = Fits is_value jobs

    abbrev Ruled : ℕ → List (maybe.Option (Slot T D)) → List (Hand T D) → Type 0
    Ruled = Dealt is_value jobs

    -- a live seat knows that no place was drawn twice, and the last seat that all were drawn
    pub knows_so : (c : ℕ) (homes : List (maybe.Option (Slot T D))) (views : List (Hand T D)) (by : ℕ) (v : Hand T D) → Ruled c homes views → get_elem? views by ≡ some v → v.live ≡ true → Knows v
    knows_so c homes views by v r at live =
        let fit = r.fits by v at in
        let same = ap length (fit.knows live) in
        let w : weight v ≡ v.merged + 1 = rw live in (
          λ x.
              let here = one-le-sum_by (λ (u : Hand T D). times x (places u)) views by v at in
              rw same (omega (arith, here, r.dealt x, once_below_rises x (min c (length jobs)) (length jobs) (omega arith))),
          λ opens. omega (arith, one-le-sum_by weight views by v at, r.merged, (fit.opens opens).2),
          λ last x.
              let all : sum_by weight views ≡ weight v = omega (arith, r.merged, last.1, (fit.opens last.0).2) in
              let alone = sum_by_of_one weight (λ (u : Hand T D). times x (places u)) views by v at all
              (λ j u there z. spent_places x u ((r.fits j u there).spent (weightless u.live u.merged z))) in
              rw same (omega (arith, r.dealt x, once_below_all x c (length jobs) (fit.dry last.2))),
        )

    -- what is so of every seat, after the view of one has become w
    fits_set : (c n : ℕ) (homes : List (maybe.Option (Slot T D))) (views : List (Hand T D)) (by : ℕ) (w : Hand T D)
        → ((j : ℕ) (u : Hand T D) → j ≢ by → get_elem? views j ≡ some u → Fitting c n homes j u) → Fitting c n homes by w
        → (j : ℕ) (u : Hand T D) → get_elem? (set views by w) j ≡ some u → Fitting c n homes j u
    fits_set c n homes views by w others mine j u e = elim (at_set views by j w u e) [
      | inl here ↦ rw (here.0, ← here.1) mine
      | inr there ↦ others j u there.0 there.1
    ]

    -- a seat fits as before when the slot c has gone out with another
    fits_taken : (c n : ℕ) (homes : List (maybe.Option (Slot T D))) (job : T) (j : ℕ) (u : Hand T D) → c < length homes → get_elem? homes c ≡ some (some (Waiting job)) → Fitting c n homes j u → Fitting (c + 1) n (set homes c none) j u
    fits_taken c n homes job j u in_range there f = record {
      knows = f.knows;
      spent = f.spent;
      opens = f.opens;
      dry = λ e. let h = f.dry e in omega arith;
      out = λ k e. set_else homes c k none (λ same. let o = f.out k e in (cc)) ∙ f.out k e;
      back = λ k d h. let b = f.back k d h in (set_else homes c k none (λ same. (cc (b.0))) ∙ b.0, b.1);
    }

    fits_more : (c n : ℕ) (homes : List (maybe.Option (Slot T D))) (j : ℕ) (u : Hand T D) → Fitting c n homes j u → Fitting (c + 1) n homes j u
    fits_more c n homes j u f = search arith

    -- a seat that has nothing fits
    new_fits : (c n : ℕ) (homes : List (maybe.Option (Slot T D))) (j : ℕ) (u : Hand T D) → (u.live ≡ true → u.jobs ≡ jobs)
        → (u.opens ≡ true → (j ≡ 0) × (u.live ≡ true) × (u.given + 1 ≡ n)) → u.dry ≡ false → u.out ≡ None → u.back ≡ [] → Fitting c n homes j u
    new_fits c n homes j u knows opens wet idle none_back = record {
      knows = knows;
      spent = λ q. (idle, none_back);
      opens = opens;
      dry = λ q. absurd (cc wet);
      out = λ i q. absurd (cc idle);
      back = λ i d h. let none : Contains [] (i, d) = rw none_back at h in absurd (omega (arith, none.1));
    }

    -- the view of one seat becomes w, and the draws and the slots go on with it
    view_set : (c next : ℕ) (homes after : List (maybe.Option (Slot T D))) (views : List (Hand T D)) (by : ℕ) (v w : Hand T D)
        → Ruled c homes views → get_elem? views by ≡ some v → length after ≡ length homes
        → ((k : ℕ) → times k (places w) + once_below k (min c (length jobs)) ≡ times k (places v) + once_below k (min next (length jobs)))
        → ((k : ℕ) (job : T) → next ≤ k → slice_get jobs k ≡ Some job → get_elem? after k ≡ some (some (Waiting job)))
        → ((j : ℕ) (u : Hand T D) → j ≢ by → get_elem? views j ≡ some u → Fitting next (length views) after j u) → Fitting next (length views) after by w
        → weight w ≡ weight v → (next ≤ length jobs) ⊎ (next + ended v ≤ c + ended w) → Ruled next after (set views by w)
    view_set c next homes after views by v w r at sized dealt waiting others mine same_weight draws = record {
      sized = sized ∙ r.sized;
      few = r.few;
      dealt = λ k. omega (arith, sum_by_changed (λ (u : Hand T D). times k (places u)) views by v w at, r.dealt k, dealt k);
      waiting = waiting;
      fits = rw (length-set views by w) (fits_set next (length views) after views by w others mine);
      merged = omega (arith, sum_by_changed weight views by v w at, r.merged, length-set views by w);
      seats = omega (arith, r.seats, length-set views by w);
      draws = omega (arith, sum_by_changed ended views by v w at, r.draws);
    }

    -- a place is drawn
    pub draws_one : (c : ℕ) (homes : List (maybe.Option (Slot T D))) (views : List (Hand T D)) (by : ℕ) (v : Hand T D) (job : T)
        → Ruled c homes views → get_elem? views by ≡ some v → v.out ≡ None → v.dry ≡ false → v.live ≡ true → slice_get jobs c ≡ Some job
        → Ruled (c + 1) (set homes c none) (set views by (drew c v))
    draws_one c homes views by v job r at idle wet live there =
        let n : c < length jobs = slice_get_within jobs c job there in
        let home = r.waiting c job (omega arith) there in
        let in_range : c < length homes = omega (arith, r.sized) in
        let f = r.fits by v at in
        view_set c (c + 1) homes (set homes c none) views by v (drew c v) r at (length-set homes c none)
        (λ k. omega (arith, out_listed k None v idle, out_listed k (Some c) (drew c v) refl, once_below_next k c (length jobs) n))
        (λ k other le e. set_else homes c k none (λ same. omega arith) ∙ r.waiting k other (omega arith) e)
        (λ j u apart e. fits_taken c (length views) homes job j u in_range home (r.fits j u e))
        record {
          knows = f.knows;
          spent = λ e. absurd (cc live);
          opens = f.opens;
          dry = λ e. absurd (cc wet);
          out = λ k e. let same : c ≡ k = cc in rw (← same) (set_here homes c none in_range);
          back = (fits_taken c (length views) homes job by v in_range home f).back;
        }
        refl (inl (omega arith))

    -- all were drawn
    pub finds_none : (c : ℕ) (homes : List (maybe.Option (Slot T D))) (views : List (Hand T D)) (by : ℕ) (v : Hand T D)
        → Ruled c homes views → get_elem? views by ≡ some v → v.dry ≡ false → v.live ≡ true → length jobs ≤ c
        → Ruled (c + 1) homes (set views by (ran_dry v)) × (c + 1 < 2 ^ 64)
    finds_none c homes views by v r at wet live past =
        let f = r.fits by v at in
        let was : ended v ≡ 0 = rw (live, wet) in
        let is : ended (ran_dry v) ≡ 1 = rw live in (
          view_set c (c + 1) homes homes views by v (ran_dry v) r at refl
              (λ k. omega (arith, once_below_all k c (length jobs) past, once_below_all k (c + 1) (length jobs) (omega arith)))
              (λ k other le e. r.waiting k other (omega arith) e) (λ j u apart e. fits_more c (length views) homes j u (r.fits j u e))
              record { knows = f.knows; spent = f.spent; opens = f.opens; dry = λ e. omega arith; out = f.out; back = f.back }
              refl (inr (omega arith)),
          omega (arith, r.few, r.draws, r.seats, sum_by-le-length ended ended_at_most_one views),
        )

    -- a place comes back with its value
    pub comes_back : (c : ℕ) (homes : List (maybe.Option (Slot T D))) (views : List (Hand T D)) (by : ℕ) (v : Hand T D) (k : ℕ) (d : D)
        → Ruled c homes views → get_elem? views by ≡ some v → v.out ≡ Some k → v.live ≡ true → ((job : T) → slice_get jobs k ≡ Some job → is_value job d)
        → Ruled c (set homes k (some (Finished d))) (set views by (put_back k d v))
    comes_back c homes views by v k d r at out live value =
        let f = r.fits by v at in
        let empty = f.out k out in
        let after = set homes k (some (Finished d)) in
        let kept : (j : ℕ) (u : Hand T D) → Fitting c (length views) homes j u → (i : ℕ) (e : D) → Contains u.back (i, e)
        → (get_elem? after i ≡ some (some (Finished e))) × ((job : T) → slice_get jobs i ≡ Some job → is_value job e) =
        λ j u fu i e h. let b = fu.back i e h in (set_else homes k i (some (Finished d)) (λ same. (cc (b.0, empty))) ∙ b.0, b.1) in
        let once : (u : Hand T D) → u.out ≡ Some k → 1 ≤ times k (places u) = λ u o. omega (arith, out_listed k (Some k) u o, times-itself k) in
        view_set c c homes after views by v (put_back k d v) r at (length-set homes k (some (Finished d)))
        (λ x.
        let more = ap (times x) (map-append (λ (p : ℕ × D). p.0) v.back ((k, d) ∷ [])) in
        omega (arith, out_listed x (Some k) v out, out_listed x None (put_back k d v) refl, times-append x (places_back v) (k ∷ []), more))
        (λ i job le e. let w = r.waiting i job le e in set_else homes k i (some (Finished d)) (λ same. (cc (w, empty))) ∙ w)
        (λ j u apart e.
        let fu = r.fits j u e in
        record {
          knows = fu.knows;
          spent = fu.spent;
          opens = fu.opens;
          dry = fu.dry;
          out = λ i o.
              let two = two-le-sum_by (λ (x : Hand T D). times k (places x)) views by j v u (λ q. apart (sym q)) at e in
              let most = once_below_most k (min c (length jobs)) in
              set_else homes k i (some (Finished d)) (λ (same : i ≡ k). omega (arith, once v out, once u (o ∙ ap Some same), r.dealt k, two, most))
              ∙ fu.out i o;
          back = kept j u fu;
        })
        record {
          knows = f.knows;
          spent = λ e. absurd (cc live);
          opens = f.opens;
          dry = f.dry;
          out = λ i e. absurd (cc);
          back = λ i e h. elim (Contains-push_cases v.back (k, d) (i, e) h) [
            | inl old ↦ kept by v f i e old
            | inr same ↦
                subst (λ (p : ℕ × D). (get_elem? after p.0 ≡ some (some (Finished p.1))) × ((job : T) → slice_get jobs p.0 ≡ Some job → is_value job p.1)) same
                (set_here homes k (some (Finished d)) (get_elem_within homes k none empty), value)
          ];
        }
        refl (inr (omega arith))

    -- the opening seat gives one more
    pub gives_one : (c : ℕ) (homes : List (maybe.Option (Slot T D))) (views : List (Hand T D)) (by : ℕ) (v : Hand T D)
        → Ruled c homes views → get_elem? views by ≡ some v → v.opens ≡ true → v.given < 65536
        → Ruled c homes (set views by (gave v) ++ further_hand v.jobs ∷ [])
    gives_one c homes views by v r at opens room =
        let f = r.fits by v at in
        let o = f.opens opens in
        let first : List (Hand T D) = set views by (gave v) in
        let fresh : Hand T D = further_hand v.jobs in
        let len : length (first ++ fresh ∷ []) ≡ length views + 1 = omega (arith, length-append first (fresh ∷ []), length-set views by (gave v)) in
        let old : (j : ℕ) (u : Hand T D) → j ≢ by → get_elem? views j ≡ some u → Fitting c (length views + 1) homes j u =
        λ j u apart e. let fu = r.fits j u e in record { knows = fu.knows; spent = fu.spent; opens = λ q. absurd (apart ((fu.opens q).0 ∙ sym o.0)); dry = fu.dry; out = fu.out; back = fu.back } in
        let mine : Fitting c (length views + 1) homes by (gave v) =
        record { knows = f.knows; spent = f.spent; opens = λ q. (o.0, o.1, omega (arith, o.2)); dry = f.dry; out = f.out; back = f.back } in
        record {
          sized = r.sized;
          few = r.few;
          dealt = λ k.
              let count : Hand T D → ℕ = λ u. times k (places u) in
              omega (arith, sum_by_changed count views by v (gave v) at, sum_by_push count first fresh, r.dealt k);
          waiting = r.waiting;
          fits = rw len (λ j u e. ⊎_elim
              (λ (was : get_elem? first j ≡ some u). fits_set c (length views + 1) homes views by (gave v) old mine j u was)
              (λ (is : fresh ≡ u). rw (← is) (new_fits c (length views + 1) homes j fresh (λ q. f.knows o.1) (λ q. absurd (cc)) refl refl refl))
              (at_snoc first fresh u j e));
          merged = omega (arith, sum_by_changed weight views by v (gave v) at, sum_by_push weight first fresh, r.merged);
          seats = omega (arith, o.2);
          draws = omega (arith, sum_by_changed ended views by v (gave v) at, sum_by_push ended first fresh, r.draws);
        }

    -- a seat takes in another
    pub takes_in : (c : ℕ) (homes : List (maybe.Option (Slot T D))) (views : List (Hand T D)) (by : ℕ) (v : Hand T D) (other : ℕ) (w : Hand T D)
        → Ruled c homes views → get_elem? views by ≡ some v → other ≢ by → get_elem? (set views by (took_in v w)) other ≡ some w
        → v.live ≡ true → w.live ≡ true → w.out ≡ None → w.opens ≡ false
        → Ruled c homes (set (set views by (took_in v w)) other spent_hand)
    takes_in c homes views by v other w r at apart there live live' idle further =
        let both : Hand T D = took_in v w in
        let first : List (Hand T D) = set views by both in
        let spent : Hand T D = spent_hand in
        let len : length (set first other spent) ≡ length views = length-set first other spent ∙ length-set views by both in
        let was : get_elem? views other ≡ some w = sym (set_else views by other both apart) ∙ there in
        let f = r.fits by v at in
        let f' = r.fits other w was in
        let mine : Fitting c (length views) homes by both = record {
          knows = f.knows;
          spent = λ q. absurd (cc live);
          opens = f.opens;
          dry = λ q. ⊎_elim (λ a. f.dry a) (λ b. f'.dry b) (or_cases v.dry w.dry q);
          out = f.out;
          back = λ i d h. ⊎_elim (λ a. f.back i d a) (λ b. f'.back i d b) (Contains-append_cases v.back w.back (i, d) h);
        } in
        record {
          sized = r.sized;
          few = r.few;
          dealt = λ k.
              let count : Hand T D → ℕ = λ u. times k (places u) in
              let listed = out_listed k v.out v refl in
              let together = out_listed k v.out both refl in
              let more = ap (times k) (map-append (λ (p : ℕ × D). p.0) v.back w.back) in
              let parts = times-append k (places_back v) (places_back w) in
              omega (arith, sum_by_changed count views by v both at, sum_by_changed count first other w spent there, r.dealt k, out_listed k None w idle);
          waiting = r.waiting;
          fits = rw len (fits_set c (length views) homes first other spent
              (λ j u _ e. fits_set c (length views) homes views by both (λ i y _ e'. r.fits i y e') mine j u e)
              (new_fits c (length views) homes other spent (λ q. absurd (cc)) (λ q. absurd (cc)) refl refl refl));
          merged =
              let a : weight v ≡ v.merged + 1 = rw live in
              let b : weight w ≡ w.merged + 1 = rw live' in
              let t : weight both ≡ ((v.merged + w.merged) + 1) + 1 = rw live in
              omega (arith, sum_by_changed weight views by v both at, sum_by_changed weight first other w spent there, r.merged, len);
          seats = omega (arith, r.seats);
          draws =
              let joined : ended v + ended w ≤ ended both + 1 = grind arith in
              omega (arith, sum_by_changed ended views by v both at, sum_by_changed ended first other w spent there, r.draws);
        }

    -- the desk as it is made: each job is at home
    pub begins : length jobs < 2 ^ 32 → (slots : List (Slot T D)) → slots ≡ at_home jobs → Ruled 0 (map some slots) (opening_hand jobs ∷ [])
    begins few slots same = record {
      sized = ap (λ (l : List (Slot T D)). length (map some l)) same ∙ (length-map (at_home jobs) some ∙ length-map jobs Waiting);
      few = few;
      dealt = λ k. omega (arith, once_below_past k (min 0 (length jobs)) (omega arith));
      waiting = λ k job _ e. ap (λ (l : List (Slot T D)). get_elem? (map some l) k) same ∙ waits jobs k job e;
      fits = one;
      merged = refl;
      seats = omega arith;
      draws = omega arith;
    }
      where
        waits : (js : List T) (k : ℕ) (job : T) → slice_get js k ≡ Some job → get_elem? (map some (at_home js)) k ≡ some (some (Waiting job))
        waits [] k job e = absurd (cc)
        waits (x ∷ js) zero job e = cc
        waits (x ∷ js) (suc k) job e = waits js k job e

        one : (by : ℕ) (v : Hand T D) → get_elem? (opening_hand jobs ∷ []) by ≡ some v → Fitting 0 1 (map some slots) by v
        one zero v e =
            rw (← some-injective _ _ e) (new_fits 0 1 (map some slots) 0 (opening_hand jobs) (λ _. refl) (λ _. (refl, refl, refl)) refl refl refl)
        one (suc by) v e = absurd (some-ne-none v (sym e))
