-- What is seen of a place behind others, and on which of them it rests.
use Rattle.std.specs.Prelude.{◌≡◌, ℕ, zero, suc, ◌<◌, Bool, true, false, not, ◌&&◌, T, List, [], ◌∷◌, map, reverse, slice_get, Option, Some, None, IfSome, refl, if◌then◌else◌}
use Rattle.std.specs.List.{list_any}
use Rattle.std.proofs.Common.{inl, inr, sym, ap, subst, ◌∙◌}
use mathlib.Core.Path.{fun_ext}
use Rattle.std.proofs.lemmas.Bool.{cases_Bool}
use Rattle.std.proofs.lemmas.List.{map-append, reverse-append}
use Rattle.std.proofs.lemmas.Option.{none-some, same_Some, slice_get-map}
use Rattle.std.specs.Option.{option_map}
use Rattle.std.proofs.lemmas.List.Sorted.{list_any-IsPermutation, IsPermutation-reverse}
use Rattle.interleaving.specs.System.{is_clear}
use Rattle.interleaving.specs.Machine.{has}
use Rattle.interleaving.specs.Rounds.{pending}
use Rattle.interleaving.proofs.Members.{has-here, has-later, has-pending}
use Rattle.recording.specs.declared.recording.Recording.{Recording}
use Rattle.recording.specs.Accepted.{IsAccepted}
use Rattle.chain_plan.specs.Chain.{role}
use Rattle.world_parts.specs.Items.{Item, Use, chain_flag, one, all_descriptors, Footprint, collide}
use Rattle.world_parts.proofs.Collision.{any_passes, either_left, true_of}
use Rattle.world_parts.proofs.Sharing.{holds_true}
use Rattle.item_index.specs.Touching.{touched_by, touches_item, written_by, writes_item}
use Rattle.foot_print.specs.Reach.{is_met}
use Rattle.foot_print.specs.Outlook.{IsOutlook, WaitsBy, items_awaited}
use Rattle.foot_print.specs.Replayed.{replayed}
use Rattle.foot_print.specs.declared.reaching.Outlook.{Outlook}
use Rattle.item_index.specs.Ahead.{touched_before, written_before}
use Rattle.item_index.specs.declared.behind.Behind.{Behind}
use Rattle.foot_print.proofs.Foreseeing.{given_is_reach}
use Rattle.foot_print.proofs.Unmet.{unmet_reach}
use Rattle.round_scheduler.specs.Grounds.{HasGround, RestsOnCollision, RestsOnGrounds}
use Rattle.wave_pick.specs.Resting.{OneWrites, WriteForAll}
use Rattle.wave_pick.specs.Rounds.{state_after}
use Rattle.round_scheduler.specs.Scheduling.{AreBefore, IsBehind, IsView, RestsOnThese}
use Rattle.round_scheduler.specs.declared.scheduler.Scheduler.{Scheduler}
use Rattle.wave_pick.specs.Holds.{Waits, world_after, footprint_after, reaches_after, reach_after}
use Rattle.round_scheduler.specs.declared.scheduler.Rest.{Rest}
use Rattle.wave_pick.proofs.Clear.{clear_is, met_not_clear}
use Rattle.wave_pick.proofs.Resting.{only, rests_unmet, together}
use Rattle.wave_pick.proofs.RestingItems.{rests_together}

pub has-got : (xs : List ℕ) (y i : ℕ) → slice_get xs y ≡ Some i → has xs i ≡ true
has-got [] zero i e = (cc)
has-got [] (suc y) i e = (cc)
has-got (x ∷ xs) zero i e = let same : x ≡ i = cc in ap (λ j. has (j ∷ xs) i) same ∙ has-here i xs
has-got (x ∷ xs) (suc y) i e = has-later i x xs (has-got xs y i e)

-- The may-access sets of the places that wait, in order, are those that the machine has, turned round.
pub reaches_turned : (t : Recording) (window q n : ℕ) → reverse (map (reach_after t window q) (pending (has (state_after t window q).finished) n)) ≡ reaches_after t window q n
reaches_turned t window q zero = refl
reaches_turned t window q (suc n) =
    let earlier : List ℕ = pending (has (state_after t window q).finished) n in
    let before = reaches_turned t window q n in
    elim (cases_Bool (has (state_after t window q).finished n)) [
      | inl out ↦ rw out before
      | inr yet ↦ rw (
        yet,
        map-append (reach_after t window q) earlier (n ∷ []),
        reverse-append (map (reach_after t window q) earlier)
            (reach_after t window q n ∷ []),
      )
          (ap (λ gs. reach_after t window q n ∷ gs) before)
    ]

module _ (t : Recording) (spelled : IsAccepted t) (window q k : ℕ) (earlier : List ℕ) (s : Scheduler) (b : AreBefore t window q k earlier s) where
  abbrev rs : List Footprint
  rs = reaches_after t window q k

  abbrev reaches : List Footprint
  reaches = map (reach_after t window q) earlier

  latest_first : reverse reaches ≡ rs
  latest_first = ap (λ ks. reverse (map (reach_after t window q) ks)) b.places_are ∙ reaches_turned t window q k

  any_same : (does : Footprint → Bool) → list_any does reaches ≡ list_any does rs
  any_same does = list_any-IsPermutation does reaches (reverse reaches) (IsPermutation-reverse reaches) ∙ ap (list_any does) latest_first

  pub written_same : (x : Item) → written_by reaches x ≡ written_by rs x
  written_same x = any_same (λ g. writes_item g x)

  pub touched_same : (x : Item) → touched_by reaches x ≡ touched_by rs x
  touched_same x = any_same (λ g. touches_item g x)

  abbrev in_table : Footprint → Option (Option Footprint)
  in_table f = Some (Some f)

  each : (y i : ℕ) (g : Footprint) → slice_get earlier y ≡ Some i → slice_get s.reaches.items i ≡ Some (Some g) → g ≡ reach_after t window q i
  each y i g at here = same_Some _ _ (same_Some _ _ (same_Some _ _ (
      ap (λ (x : Option (Option Footprint)). Some x) (sym here)
      ∙ sym (ap (option_map (slice_get s.reaches.items)) at)
      ∙ sym (slice_get-map (slice_get s.reaches.items) earlier y)
      ∙ ap (λ xs. slice_get xs y) b.reaches_are
      ∙ slice_get-map in_table reaches y
      ∙ ap (option_map in_table) (slice_get-map (reach_after t window q) earlier y ∙ ap (option_map (reach_after t window q)) at))))

  place_before : (y i : ℕ) → slice_get earlier y ≡ Some i → (i < k) × Waits t window q i
  place_before y i e = has-pending (has (state_after t window q).finished) k i (ap (λ ks. has ks i) (sym b.places_are) ∙ has-got earlier y i e)

  -- A place that no may-access set before it writes rests on one that holds it back.
  pub unmet_rests : (f : Footprint) → f ≡ footprint_after t window q k → is_met f rs ≡ false → (on : List ℕ) → RestsOnCollision f earlier s.reaches.items on → RestsOnThese t window q on k
  unmet_rests f e unmet on r =
      let i = r.place in
      let g = r.ground in
      let first = place_before g.at i g.is_place in
      let there : RestsOnThese t window q (i ∷ []) k = record {
        before = λ j h. subst (λ n. (n < k) × Waits t window q n) (sym (only i j h)) first;
        rests = together t window q i k (rests_unmet t spelled window q i k b.waits (ap (λ h. is_met h rs) (sym e) ∙ unmet) (record {
          is_before = first.0;
          waits = first.1;
          collides = (λ j. collide (sym e j) (sym (each g.at i g.reach g.is_place g.is_reach) j)) ∙ g.does_so;
        }));
      } in
      subst (λ is. RestsOnThese t window q is k) (sym r.alone) there

  -- One that waits by some items rests on some of which one writes one of these, and others what else is to be written.
  module _ (w : Item → Bool) (same : (x : Item) → w x ≡ written_by rs x) (o : Outlook) (is : IsOutlook t k (world_after t window q) w o) (chain : ℕ) (of_role : chain ≡ (role t k).chain) where
    abbrev flag : ℕ → Item
    flag c = one (chain_flag c)

    by_writing : w ≡ written_by rs
    by_writing = fun_ext same

    waits : (items : Footprint) → items_awaited o.waits_by o.reach ≡ Some items → WaitsBy t k (world_after t window q) (written_by rs) items
    waits items e = subst (λ v. WaitsBy t k (world_after t window q) v items) by_writing
        (subst (λ x. IfSome x (λ f. WaitsBy t k (world_after t window q) w f)) e is.by)

    one_writes : (g : Footprint) (x : Item) → T (writes_item g x) → written_by (g ∷ []) x ≡ true
    one_writes g x h = true_of _ (either_left (writes_item g x) false h)

    module _ (on : List ℕ) (r : RestsOnGrounds o chain w earlier s.reaches.items on) where
      writer : (x : Item) → HasGround (λ g. writes_item g x) earlier s.reaches.items on → OneWrites t window q on k x
      writer x found =
          let g = found.1.1 in
          let before = place_before g.at found.0 g.is_place in
          record {
            place = found.0;
            is_one = found.1.0;
            is_before = before.0;
            waits = before.1;
            writes = subst (λ h. written_by (h ∷ []) x ≡ true) (each g.at found.0 g.reach g.is_place g.is_reach) (one_writes g.reach x (holds_true _ g.does_so));
          }

      for_all : WriteForAll t window q on k
      for_all = record {
        chain = elim (cases_Bool (w (flag chain))) [
          | inl e ↦ inr (subst (λ c. OneWrites t window q on k (flag c)) of_role (writer (flag chain) (r.chained e)))
          | inr e ↦ inl (subst (λ c. written_by rs (flag c) ≡ false) of_role (sym (same (flag chain)) ∙ e))
        ];
        descriptors = elim (cases_Bool o.takes_lowest) [
          | inl e ↦ inr (elim (cases_Bool (w all_descriptors)) [
            | inl d ↦ inr (writer all_descriptors (r.descriptors (λ j. e j && d j)))
            | inr d ↦ inl (sym (same all_descriptors) ∙ d)
          ])
          | inr e ↦ inl (sym is.lowest ∙ e)
        ];
      }

      pub items_rest : RestsOnThese t window q on k
      items_rest =
          let i = r.writer.0 in
          let g = r.writer.1.1 in
          let first = place_before g.at i g.is_place in
          let reach_is : g.reach ≡ reach_after t window q i = each g.at i g.reach g.is_place g.is_reach in
          let met : is_met r.items (g.reach ∷ []) ≡ true = true_of _ (any_passes (λ (u : Use). writes_item g.reach u.item) (λ (u : Use). written_by (g.reach ∷ []) u.item)
          (λ u n. either_left (writes_item g.reach u.item) false n) r.items (holds_true _ g.does_so)) in
          record {
            before = λ j h. let at = r.each j h in place_before at.0 j at.1;
            rests = rests_together t spelled window q i k on r.items r.writer.1.0 first.0 first.1 b.waits (waits r.items r.waits_by) for_all (ap (λ h. is_met r.items (h ∷ [])) (sym reach_is) ∙ met);
          }

-- A look at a place whose access set this is, behind an index.
module _ (t : Recording) (spelled : IsAccepted t) (window q k : ℕ) (earlier : List ℕ) (s : Scheduler) (a : AreBefore t window q k earlier s) (b : Behind) (is : IsBehind (map (reach_after t window q) earlier) b) (f : Footprint) (foot : f ≡ footprint_after t window q k) where
  abbrev before : List Footprint
  before = reaches_after t window q k

  writes_is : (x : Item) → written_before b x ≡ written_by before x
  writes_is x = is.writes x ∙ written_same t spelled window q k earlier s a x

  touches_is : (x : Item) → touched_before b x ≡ touched_by before x
  touches_is x = is.touches x ∙ touched_same t spelled window q k earlier s a x

  met_is : list_any (λ (u : Use). written_before b u.item) f ≡ is_met (footprint_after t window q k) before
  met_is = λ i. list_any (λ (u : Use). writes_is u.item i) (foot i)

  clear_so : not (list_any (λ (u : Use). if u.written then touched_before b u.item else written_before b u.item) f) ≡ is_clear (replayed t) (footprint_after t window q k) before
  clear_so = (λ i. not (list_any (λ (u : Use). if u.written then touches_is u.item i else writes_is u.item i) (foot i))) ∙ clear_is t (footprint_after t window q k) before

  pub seen_met : true ≡ list_any (λ (u : Use). written_before b u.item) f → (o : Outlook) → IsOutlook t k (world_after t window q) (written_before b) o → (chain : ℕ) → chain ≡ (role t k).chain
      → (rest : Option Rest) (table : List (Option Footprint)) → table ≡ s.reaches.items → IfSome rest (λ r. RestsOnGrounds o chain (written_before b) earlier table r.on.items)
      → IsView t window q k (record { reach = o.reach; rest = rest; free = false })
  seen_met m o out chain of_role rest table is_table grounds = record {
    reach = given_is_reach t k (world_after t window q) (world_after t window q) (written_before b) before o.reach refl writes_is out.reach;
    rests = λ r e. items_rest t spelled window q k earlier s a (written_before b) writes_is o out chain of_role r.on.items
        (subst (λ x. IfSome x (λ (z : Rest). RestsOnGrounds o chain (written_before b) earlier s.reaches.items z.on.items)) e
        (subst (λ x. IfSome rest (λ (z : Rest). RestsOnGrounds o chain (written_before b) earlier x z.on.items)) is_table grounds));
    free = met_not_clear t (footprint_after t window q k) before (sym met_is ∙ sym m);
  }

  unmet : false ≡ list_any (λ (u : Use). written_before b u.item) f → is_met (footprint_after t window q k) before ≡ false
  unmet m = sym met_is ∙ sym m

  reach_so : false ≡ list_any (λ (u : Use). written_before b u.item) f → f ≡ reach_after t window q k
  reach_so m = foot ∙ sym (unmet_reach t k (world_after t window q) before (unmet m))

  pub seen_held : false ≡ list_any (λ (u : Use). written_before b u.item) f → true ≡ list_any (λ (u : Use). if u.written then touched_before b u.item else written_before b u.item) f
      → (rest : Option Rest) (table : List (Option Footprint)) → table ≡ s.reaches.items → IfSome rest (λ r. RestsOnCollision f earlier table r.on.items)
      → IsView t window q k (record { reach = f; rest = rest; free = false })
  seen_held m c rest table is_table grounds = record {
    reach = reach_so m;
    rests = λ r e. unmet_rests t spelled window q k earlier s a f foot (ap (λ h. is_met h before) foot ∙ unmet m) r.on.items
        (subst (λ x. IfSome x (λ (z : Rest). RestsOnCollision f earlier s.reaches.items z.on.items)) e (subst (λ x. IfSome rest (λ (z : Rest). RestsOnCollision f earlier x z.on.items)) is_table grounds));
    free = ap not c ∙ clear_so;
  }

  pub seen_free : false ≡ list_any (λ (u : Use). written_before b u.item) f → false ≡ list_any (λ (u : Use). if u.written then touched_before b u.item else written_before b u.item) f
      → IsView t window q k (record { reach = f; rest = None; free = true })
  seen_free m c = record {
    reach = reach_so m;
    rests = λ i e. absurd (none-some i e);
    free = ap not c ∙ clear_so;
  }
