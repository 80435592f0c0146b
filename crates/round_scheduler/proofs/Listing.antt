-- Of the lists of places that rest on one: a place more in one, and one whose places are to be looked at.
use Rattle.std.specs.Prelude.{◌≡◌, ◌≢◌, ℕ, ◌<◌, true, false, List, [], ◌∷◌, ◌++◌, length, slice_get, Option, Some, None, refl}
use Rattle.std.proofs.Common.{◌⊎◌, inl, inr, sym, ap, subst, ◌∙◌, Vec, Global}
use Rattle.std.specs.Option.{option_map}
use Rattle.std.proofs.Math.ListN.{set}
use Rattle.std.proofs.lemmas.Bool.{cases_Bool, cases_eq}
use Rattle.std.proofs.lemmas.List.{length-set, map-append}
use Rattle.std.proofs.lemmas.Option.{same_Some}
use Rattle.interleaving.specs.Machine.{has}
use Rattle.interleaving.specs.Gather.{AllDifferent}
use Rattle.interleaving.proofs.Members.{has-front, has-middle, has-other, has-snoc}
use Rattle.world_parts.specs.Items.{Footprint}
use Rattle.item_index.specs.declared.ahead.Ahead.{Ahead}
use Rattle.round_scheduler.specs.Scheduling.{AddsReach, Flags, HasReach, IsAgain, IsListed, Keeps, Lists, Releases, Renews, Wakes}
use Rattle.round_scheduler.specs.declared.scheduler.Rest.{Rest}
use Rattle.round_scheduler.specs.declared.scheduler.Scheduler.{Scheduler}
use Rattle.round_scheduler.specs.declared.scheduler.View.{View}
use Rattle.wave_pick.specs.declared.wave.Chosen.{Chosen}
use Rattle.round_scheduler.proofs.Knowing.{listed_so}
use Rattle.wave_pick.proofs.Lists.{set-here, set-other}
use Rattle.round_scheduler.proofs.Within.{not_in_more}

abbrev Listed : Type 0
Listed = Vec ℕ Global

-- A place that is listed with another one is in the list that the table has there.
in_list : (s : Scheduler) (i j : ℕ) (list : Listed) → slice_get s.resting.items i ≡ Some list → IsListed s i j → has list.items j ≡ true
in_list s i j list there l = ap (λ xs. has xs j) (same_Some _ _ (sym (ap (option_map (λ (v : Listed). v.items)) there) ∙ l.at)) ∙ l.has_it

-- A place is listed with those of some so far.
pub record ListsSoFar (k : ℕ) (on : List ℕ) (s later : Scheduler) : Type 0 where
  pub many : length later.resting.items ≡ length s.resting.items
  pub listed : (i j : ℕ) → IsListed s i j → IsListed later i j
  pub here : (i : ℕ) → has on i ≡ true → IsListed later i k
  pub rest : later ≡ record s { resting = later.resting }

-- It is listed with one more.
module _ (s later : Scheduler) (k on : ℕ) (old new : Listed) (there : slice_get s.resting.items on ≡ Some old) (within : on < length s.resting.items) (more : new.items ≡ old.items ++ k ∷ []) (resting : later.resting.items ≡ set s.resting.items on new) where
  abbrev now : option_map (λ (v : Listed). v.items) (slice_get later.resting.items on) ≡ Some (old.items ++ k ∷ [])
  now = ap (λ xs. option_map (λ (v : Listed). v.items) (slice_get xs on)) resting ∙ ap (option_map (λ (v : Listed). v.items)) (set-here s.resting.items on new within) ∙ ap (λ xs. Some xs) more

  still_listed : (i j : ℕ) → (i ≡ on) ⊎ (i ≢ on) → IsListed s i j → IsListed later i j
  still_listed i j (inl e) l = record {
    list = old.items ++ k ∷ [];
    at = ap (λ n. option_map (λ (v : Listed). v.items) (slice_get later.resting.items n)) e ∙ now;
    has_it = has-front old.items (k ∷ []) j (in_list s i j old (ap (slice_get s.resting.items) e ∙ there) l);
  }
  still_listed i j (inr ne) l = listed_so (ap (λ xs. slice_get xs i) resting ∙ set-other s.resting.items on i new ne) l

  pub lists_more : (first : Scheduler) (ks : List ℕ) → ListsSoFar k ks first s → later ≡ record s { resting = later.resting } → ListsSoFar k (ks ++ on ∷ []) first later
  lists_more first ks so rest = record {
    many = ap length resting ∙ length-set s.resting.items on new ∙ so.many;
    listed = λ i j l. still_listed i j (cases_eq i on) (so.listed i j l);
    here = λ i e. elim (has-snoc ks on i e) [
      | inl before ↦ still_listed i k (cases_eq i on) (so.here i before)
      | inr same ↦ subst (λ n. IsListed later n k) (sym same) (record { list = old.items ++ k ∷ []; at = now; has_it = has-middle old.items k [] })
    ];
    rest = rest ∙ ap (λ (x : Scheduler). record x { resting = later.resting }) so.rest;
  }

-- It is listed with all, and needn't be looked at; or it is to be looked at still.
module _ (k : ℕ) (on : List ℕ) (s mid : Scheduler) where
  pub lists_all : ListsSoFar k on s mid → (later : Scheduler) → later.again.items ≡ set mid.again.items k false → later ≡ record mid { again = later.again } → Lists k on s later
  lists_all so later again rest = record {
    many_again = ap length again ∙ length-set mid.again.items k false ∙ ap (λ (x : Scheduler). length x.again.items) so.rest;
    many_resting = ap (λ (x : Scheduler). length x.resting.items) rest ∙ so.many;
    still = λ j ne e. ap (λ xs. slice_get xs j) again ∙ set-other mid.again.items k j false ne ∙ ap (λ (x : Scheduler). slice_get x.again.items j) so.rest ∙ e;
    listed = λ i j l. listed_so (ap (λ (x : Scheduler). slice_get x.resting.items i) rest) (so.listed i j l);
    rests = inr (λ i e. listed_so (ap (λ (x : Scheduler). slice_get x.resting.items i) rest) (so.here i e));
    rest = rest ∙ ap (λ (x : Scheduler). record x { again = later.again }) so.rest ∙ (λ i. record s { again = later.again; resting = sym (ap (λ (x : Scheduler). x.resting) rest) i });
  }

-- Those of a list are to be looked at, and the list is empty.
module _ (s later : Scheduler) (k : ℕ) (old new : Listed) (there : slice_get s.resting.items k ≡ Some old) (resting : later.resting.items ≡ set s.resting.items k new) (flags : Flags old.items s.again.items later.again.items) (rest : later ≡ record s { again = later.again; resting = later.resting }) where
  pub wakes_list : Wakes k s later
  wakes_list = record {
    many_again = flags.many;
    many_resting = ap length resting ∙ length-set s.resting.items k new;
    still = λ j e. flags.still j e;
    woken = λ j l lt. flags.these j (in_list s k j old there l) lt;
    others = λ j ne. ap (λ xs. slice_get xs j) resting ∙ set-other s.resting.items k j new ne;
    rest = rest;
  }

-- A place has a new may-access set, and those that rest on it are woken.
pub renews_waking : (k : ℕ) (f : Footprint) (s mid later : Scheduler) → mid.reaches.items ≡ set s.reaches.items k (Some f) → mid ≡ record s { reaches = mid.reaches } → Wakes k mid later → Renews k f s later
renews_waking k f s mid later reaches same w = record {
  reaches = ap (λ (x : Scheduler). x.reaches.items) w.rest ∙ reaches;
  many_again = w.many_again ∙ ap (λ (x : Scheduler). length x.again.items) same;
  many_resting = w.many_resting ∙ ap (λ (x : Scheduler). length x.resting.items) same;
  still = λ j e. w.still j (ap (λ (x : Scheduler). slice_get x.again.items j) same ∙ e);
  woken = λ j l lt. inl (w.woken j (listed_so (ap (λ (x : Scheduler). slice_get x.resting.items k) same) l)
      (subst (λ n. j < n) (sym (ap (λ (x : Scheduler). length x.again.items) same)) lt));
  others = λ j ne. w.others j ne ∙ ap (λ (x : Scheduler). slice_get x.resting.items j) same;
  rest = w.rest ∙ ap (λ (x : Scheduler). record x { again = later.again; resting = later.resting }) same
      ∙ ap (λ v. record s { reaches = v; again = later.again; resting = later.resting }) (sym (ap (λ (x : Scheduler). x.reaches) w.rest));
}

-- It has the may-access set that it had.
pub renews_same : (k : ℕ) (f : Footprint) (s later : Scheduler) → later.reaches.items ≡ set s.reaches.items k (Some f) → later ≡ record s { reaches = later.reaches } → HasReach s k f → Renews k f s later
renews_same k f s later reaches same had = record {
  reaches = reaches;
  many_again = ap (λ (x : Scheduler). length x.again.items) same;
  many_resting = ap (λ (x : Scheduler). length x.resting.items) same;
  still = λ j e. ap (λ (x : Scheduler). slice_get x.again.items j) same ∙ e;
  woken = λ j l lt. inr (had, listed_so (ap (λ (x : Scheduler). slice_get x.resting.items k) same) l);
  others = λ j ne. ap (λ (x : Scheduler). slice_get x.resting.items j) same;
  rest = same ∙ (λ i. record s { reaches = later.reaches; again = sym (ap (λ (x : Scheduler). x.again) same) i; resting = sym (ap (λ (x : Scheduler). x.resting) same) i });
}

-- Of two lists with all different elements.
different_parts : (k : ℕ) (xs : List ℕ) → AllDifferent (xs ++ k ∷ []) → AllDifferent xs × (has xs k ≡ false)
different_parts k [] d = (tt, refl)
different_parts k (x ∷ xs) d =
    let before = different_parts k xs d.1 in
    let apart = not_in_more xs k x d.0 in
    ((apart.0, before.0), has-other k x xs (λ e. apart.1 (sym e)) ∙ before.1)

-- One place more is released.
module _ (ks : List ℕ) (k : ℕ) (s mid taken later : Scheduler) (chosen : List Chosen) (r : Releases ks s mid chosen) (w : Wakes k taken later) (reaches : taken.reaches.items ≡ set mid.reaches.items k None) (same : taken ≡ record mid { reaches = taken.reaches }) where
  taken_again : (j : ℕ) → IsAgain mid j → IsAgain taken j
  taken_again j e = ap (λ (x : Scheduler). slice_get x.again.items j) same ∙ e

  later_reaches : (j : ℕ) → slice_get later.reaches.items j ≡ slice_get taken.reaches.items j
  later_reaches j = ap (λ (x : Scheduler). slice_get x.reaches.items j) w.rest

  others_of : (j : ℕ) → has (ks ++ k ∷ []) j ≡ false → (slice_get later.reaches.items j ≡ slice_get s.reaches.items j) × (slice_get later.resting.items j ≡ slice_get s.resting.items j)
  others_of j none =
      let m = not_in_more ks k j none in
      let before = r.others j m.0 in (
        later_reaches j ∙ ap (λ xs. slice_get xs j) reaches ∙ set-other mid.reaches.items k j None m.1 ∙ before.0,
        w.others j m.1 ∙ ap (λ (x : Scheduler). slice_get x.resting.items j) same ∙ before.1,
      )

  same_many : length taken.again.items ≡ length s.again.items
  same_many = ap (λ (x : Scheduler). length x.again.items) same ∙ r.same.again

  woken_of : (i j : ℕ) → (has ks i ≡ true) ⊎ ((i ≡ k) × (has ks i ≡ false)) → IsListed s i j → j < length s.again.items → IsAgain later j
  woken_of i j (inl e) l lt = w.still j (taken_again j (r.woken i j e l lt))
  woken_of i j (inr p) l lt =
      let there : IsListed taken i j = listed_so (ap (λ (x : Scheduler). slice_get x.resting.items i) same ∙ (r.others i p.1).1) l in
      w.woken j (subst (λ n. IsListed taken n j) p.0 there) (subst (λ n. j < n) (sym same_many) lt)

  first_or_last : (i : ℕ) → has (ks ++ k ∷ []) i ≡ true → (has ks i ≡ true) ⊎ ((i ≡ k) × (has ks i ≡ false))
  first_or_last i h = elim (cases_Bool (has ks i)) [
    | inl e ↦ inl e
    | inr none ↦ elim (has-snoc ks k i h) [ inl e ↦ inl e | inr e ↦ inr (e, none) ]
  ]

  module _ (chosen_now : List Chosen) (was : (reach : Footprint) → slice_get mid.reaches.items k ≡ Some (Some reach) → chosen_now ≡ chosen ++ record { place = k; footprint = reach } ∷ []) where
    pub release_step : Releases (ks ++ k ∷ []) s later chosen_now
    release_step = record {
      same = record {
        round = ap (λ (x : Scheduler). x.round) w.rest ∙ ap (λ (x : Scheduler). x.round) same ∙ r.same.round;
        reaches = ap (λ (x : Scheduler). length x.reaches.items) w.rest ∙ ap length reaches ∙ length-set mid.reaches.items k None ∙ r.same.reaches;
        again = w.many_again ∙ same_many;
        resting = w.many_resting ∙ ap (λ (x : Scheduler). length x.resting.items) same ∙ r.same.resting;
      };
      ahead = ap (λ (x : Scheduler). x.ahead) w.rest ∙ ap (λ (x : Scheduler). x.ahead) same ∙ r.ahead;
      still = λ j e. w.still j (taken_again j (r.still j e));
      woken = λ i j h l lt. woken_of i j (first_or_last i h) l lt;
      others = others_of;
      chosen_are = λ reach d all.
          let parts = different_parts k ks d in
          let at : slice_get mid.reaches.items k ≡ Some (Some (reach k)) = (r.others k parts.1).0 ∙ all k (has-middle ks k []) in
          was (reach k) at
          ∙ ap (λ cs. cs ++ record { place = k; footprint = reach k } ∷ []) (r.chosen_are reach parts.0 (λ j h. all j (has-front ks (k ∷ []) j h)))
          ∙ sym (map-append (λ j. record { place = j; footprint = reach j }) ks (k ∷ []));
    }

-- What was taken out of the table.
pub one_taken : (reach was : Footprint) {x : Option Footprint} → ◌≡◌ {A = Option (Option Footprint)} (Some x) (Some (Some reach)) → x ≡ Some was → was ≡ reach
one_taken reach was e d = cc

pub none_taken : {Y : Type 0} (reach : Footprint) {x : Option Footprint} → ◌≡◌ {A = Option (Option Footprint)} (Some x) (Some (Some reach)) → x ≡ None → Y
none_taken reach e d = (cc)

-- What is seen of a place is kept: its may-access set is added, then kept, and it is listed.
pub keeps_so : (k : ℕ) (v : View) (s : Scheduler) (ahead : Ahead) (added : ℕ) (mid later : Scheduler) → AddsReach s.ahead ahead v.reach → Renews k v.reach (record s { ahead = ahead; added = added }) mid → (on : List ℕ) → Lists k on mid later
    → (IsAgain mid k → IsAgain later k) ⊎ ((r : Rest) × ((v.rest ≡ Some r) × ((i : ℕ) → has r.on.items i ≡ true → IsListed later i k)))
    → Keeps k v s later
keeps_so k v s ahead added mid later adds renews on lists told = record {
  same = record {
    round = ap (λ (x : Scheduler). x.round) lists.rest ∙ ap (λ (x : Scheduler). x.round) renews.rest;
    reaches = ap (λ (x : Scheduler). length x.reaches.items) lists.rest ∙ ap length renews.reaches ∙ length-set s.reaches.items k (Some v.reach);
    again = lists.many_again ∙ renews.many_again;
    resting = lists.many_resting ∙ renews.many_resting;
  };
  exact = ap (λ (x : Scheduler). x.exact) lists.rest ∙ ap (λ (x : Scheduler). x.exact) renews.rest;
  index = subst (λ a. AddsReach s.ahead a v.reach) (sym (ap (λ (x : Scheduler). x.ahead) lists.rest ∙ ap (λ (x : Scheduler). x.ahead) renews.rest)) adds;
  reaches = ap (λ (x : Scheduler). x.reaches.items) lists.rest ∙ renews.reaches;
  still = λ j apart is. lists.still j apart (renews.still j is);
  listed = λ i j apart l. lists.listed i j (record { list = l.list; at = ap (option_map (λ (x : Listed). x.items)) (renews.others i apart) ∙ l.at; has_it = l.has_it });
  woken = λ j apart low l. elim (renews.woken j (record { list = l.list; at = l.at; has_it = l.has_it }) low) [ inl is ↦ inl (lists.still j apart is) | inr rests ↦ inr (rests.0, lists.listed k j rests.1) ];
  rests = elim told [ inl stays ↦ inl (λ is. stays (renews.still k is)) | inr all ↦ inr all ];
}

-- A place that rests on none stays as it is.
pub lists_none : (k : ℕ) (s : Scheduler) → Lists k [] s s
lists_none k s = record { many_again = refl; many_resting = refl; still = λ j ne e. e; listed = λ i j l. l; rests = inl (λ e. e); rest = refl }
