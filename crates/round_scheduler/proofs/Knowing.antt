-- Of a scheduler's tables: what stays of them where one place is written, and what an index with one may-access set more covers.
use Rattle.std.specs.Prelude.{◌≡◌, ℕ, zero, suc, ◌<◌, Bool, true, false, ◌&&◌, ◌||◌, T, List, [], ◌∷◌, ◌++◌, map, length, slice_get, Option, Some, refl}
use Rattle.std.specs.List.{list_any}
use Rattle.std.specs.Option.{option_map}
use Rattle.interleaving.specs.Machine.{has}
use Rattle.recording.specs.declared.recording.Recording.{Recording}
use Rattle.std.proofs.Common.{◌⊎◌, inl, inr, sym, ap, subst, ◌∙◌, arith}
use Rattle.std.proofs.Math.ListN.{set}
use Rattle.std.proofs.lemmas.Bool.{cases_Bool}
use Rattle.std.proofs.lemmas.List.{length-set}
use Rattle.std.proofs.lemmas.Map.Keys.{any_passes_from_place}
use Rattle.std.proofs.lemmas.List.Folds.{list_any-append}
use Rattle.world_parts.specs.Items.{Footprint}
use Rattle.world_parts.proofs.Collision.{either_left, either_right, true_of}
use Rattle.world_parts.proofs.Sharing.{holds_true}
use Rattle.item_index.specs.Ahead.{at_place, one_at, touched, written}
use Rattle.item_index.specs.Touching.{touches_item, writes_item}
use Rattle.item_index.specs.declared.ahead.Ahead.{Ahead}
use Rattle.wave_pick.specs.Holds.{reach_after}
use Rattle.round_scheduler.specs.Scheduling.{AddsReach, Covers, Flags, HasReach, HaveReaches, IsAgain, IsIndex, IsKnown, IsListed, RestsListed, RestsStill}
use Rattle.round_scheduler.specs.declared.scheduler.Scheduler.{Scheduler}
use Rattle.interleaving.proofs.Members.{has-snoc}
use mathlib.Core.Bool.{or-false}
use Rattle.wave_pick.proofs.Lists.{not_both, set-here, get-push}

pub set_true : (xs : List Bool) (k j : ℕ) → slice_get xs j ≡ Some true → slice_get (set xs k true) j ≡ Some true
set_true [] k j e = e
set_true (x ∷ xs) zero zero e = refl
set_true (x ∷ xs) zero (suc j) e = e
set_true (x ∷ xs) (suc k) zero e = e
set_true (x ∷ xs) (suc k) (suc j) e = set_true xs k j e

-- One place more is to be looked at.
module _ (ks : List ℕ) (k : ℕ) (again later next : List Bool) (f : Flags ks again later) where
  flags_so : length next ≡ length later → ((j : ℕ) → slice_get later j ≡ Some true → slice_get next j ≡ Some true)
      → (k < length later → slice_get next k ≡ Some true)
      → Flags (ks ++ k ∷ []) again next
  flags_so many still here = record {
    many = many ∙ f.many;
    still = λ j h. still j (f.still j h);
    these = λ j h lt. elim (has-snoc ks k j h) [
      | inl e ↦ still j (f.these j e lt)
      | inr e ↦ let all = f.many in ap (slice_get next) e ∙ here (omega (arith, all, lt, e))
    ];
  }

  pub flags_more : next ≡ set later k true → Flags (ks ++ k ∷ []) again next
  flags_more e = flags_so (ap length e ∙ length-set later k true) (λ j h. ap (λ xs. slice_get xs j) e ∙ set_true later k j h)
      (λ lt. ap (λ xs. slice_get xs k) e ∙ set-here later k true lt)

  pub flags_past : next ≡ later → (k < length later → ⊥) → Flags (ks ++ k ∷ []) again next
  flags_past e past = flags_so (ap length e) (λ j h. ap (λ xs. slice_get xs j) e ∙ h) (λ lt. absurd (past lt))

-- What is listed with a place is so in each scheduler with the same list there.
pub listed_so : {s later : Scheduler} {i k : ℕ} → slice_get later.resting.items i ≡ slice_get s.resting.items i → IsListed s i k → IsListed later i k
listed_so same l = record { list = l.list; at = ap (option_map (λ v. v.items)) same ∙ l.at; has_it = l.has_it }

-- What rests on some places rests on them in each scheduler that lists it there.
abbrev pub on_so : (t : Recording) (window r k : ℕ) {s later : Scheduler} → (on : RestsListed t window r k s) → ((i : ℕ) → has on.on i ≡ true → IsListed later i k)
    → RestsListed t window r k later
on_so t window r k on listed = record { on = on.on; these = on.these; listed = listed }

pub still_so : (t : Recording) (window q k : ℕ) {e e' : Bool} {s later : Scheduler} → (r : RestsStill t window q k e s) → ((i : ℕ) → has r.by.on i ≡ true → IsListed later i k)
    → HasReach later k (reach_after t window r.last k)
    → ((i : ℕ) → has r.by.on i ≡ true → HasReach later i (reach_after t window r.last i)) → (e' ≡ false → Covers later.ahead (reach_after t window r.last k))
    → RestsStill t window q k e' later
still_so t window q k r listed reach others covered = record {
  last = r.last;
  next = r.next;
  by = on_so t window r.last k r.by listed;
  reach = reach;
  others_wait = r.others_wait;
  other_reaches = others;
  within = r.within;
  covered = covered;
}

-- What is known of a place is so in each scheduler with the same tables.
module _ (t : Recording) (window q k : ℕ) (s later : Scheduler) (reaches : later.reaches ≡ s.reaches) (again : later.again ≡ s.again) (resting : later.resting ≡ s.resting) where
  pub known_so : IsKnown t window q k s → IsKnown t window q k later
  known_so known = record {
    reach = ap (λ v. slice_get v.items k) reaches ∙ known.reach;
    rests = elim known.rests [
      | inl is ↦ inl (ap (λ v. slice_get v.items k) again ∙ is)
      | inr r ↦ inr (on_so t window q k r (λ i e. listed_so (ap (λ v. slice_get v.items i) resting) (r.listed i e)))
    ];
  }

  pub waits_so : (e e' : Bool) → (e' ≡ false → (e ≡ false) × (later.ahead ≡ s.ahead)) → IsAgain s k ⊎ RestsStill t window q k e s
      → IsAgain later k ⊎ RestsStill t window q k e' later
  waits_so e e' index (inl is) = inl (ap (λ v. slice_get v.items k) again ∙ is)
  waits_so e e' index (inr r) = inr (still_so t window q k r (λ i h. listed_so (ap (λ v. slice_get v.items i) resting) (r.by.listed i h))
      (ap (λ v. slice_get v.items k) reaches ∙ r.reach) (λ i h. ap (λ v. slice_get v.items i) reaches ∙ r.other_reaches i h)
      (λ f. let i = index f in subst (λ a. Covers a (reach_after t window r.last k)) (sym i.1) (r.covered i.0)))

-- The index with one may-access set more.
module _ (before after : Ahead) (r : Footprint) (adds : AddsReach before after r) where
  pub covers_still : (f : Footprint) → Covers before f → Covers after f
  covers_still f c = record {
    writes = λ x h. subst T (sym (adds.writes x)) (either_left (written before x) (writes_item r x) (c.writes x h));
    touches = λ x h. subst T (sym (adds.touches x)) (either_left (touched before x) (touches_item r x) (c.touches x h));
  }

  pub covers_new : Covers after r
  covers_new = record {
    writes = λ x h. subst T (sym (adds.writes x)) (either_right (written before x) (writes_item r x) h);
    touches = λ x h. subst T (sym (adds.touches x)) (either_right (touched before x) (touches_item r x) h);
  }

-- What some may-access sets do, as writing an item, is done where each that does so says it is.
module _ (does : Footprint → Bool) where
  done_by : (b : Bool) (reaches : List Footprint) → ((y : ℕ) (g : Footprint) → slice_get reaches y ≡ Some g → T (does g) → T b) → T (list_any does reaches)
      → T b
  done_by b [] c h = absurd h
  done_by b (r ∷ rs) c h = elim (does r) as (λ d. (T d → T b) → T (d || list_any does rs) → T b) [
    | true ↦ λ here h. here h
    | false ↦ λ here h. done_by b rs (λ y g e. c (suc y) g e) h
  ] (c 0 r refl) h

  and_less : (b c : Bool) → (T c → T b) → (b && c) ≡ c
  and_less true c h = refl
  and_less false true h = absurd (h tt)
  and_less false false h = refl

  pub one_at_is : (table : List (Option Footprint)) (ks : List ℕ) (gs : List Footprint) → map (slice_get table) ks ≡ map (λ f. Some (Some f)) gs
      → one_at table ks does ≡ list_any does gs
  one_at_is table ks gs e = at ks ∙ ap (list_any (at_place does)) e ∙ inside gs
    where
      inside : (gs : List Footprint) → list_any (at_place does) (map (λ f. Some (Some f)) gs) ≡ list_any does gs
      inside [] = refl
      inside (g ∷ gs) = ap (λ b. does g || b) (inside gs)

      at : (ks : List ℕ) → one_at table ks does ≡ list_any (at_place does) (map (slice_get table) ks)
      at [] = refl
      at (k ∷ ks) = ap (λ b. at_place does (slice_get table k) || b) (at ks)

  -- So an index that covers each of the may-access sets that a table has of some places tells what one of these does.
  pub one_of_these : (s : Scheduler) (b : Bool) (table : List (Option Footprint)) (ks : List ℕ) (gs : List Footprint) → table ≡ s.reaches.items
      → HaveReaches s ks gs
      → ((y : ℕ) (g : Footprint) → slice_get gs y ≡ Some g → T (does g) → T b) → (b && one_at table ks does) ≡ list_any does gs
  one_of_these s b table ks gs same there covers =
      (λ i. b && one_at (same i) ks does) ∙ ap (λ c. b && c) (one_at_is s.reaches.items ks gs there) ∙ and_less b (list_any does gs) (done_by b gs covers)

  one_more : (rs : List Footprint) (r : Footprint) → list_any does (rs ++ r ∷ []) ≡ (list_any does rs || does r)
  one_more rs r = list_any-append does rs (r ∷ []) ∙ ap (λ b. list_any does rs || b) (or-false (does r))

-- The index of one may-access set more.
module _ (s later : Scheduler) (exact : later.exact ≡ s.exact) (reaches : List Footprint) (i : IsIndex s reaches) (r : Footprint) where
  pub index_grew : AddsReach s.ahead later.ahead r → IsIndex later (reaches ++ r ∷ [])
  index_grew adds = record {
    alone = λ e.
        let before = i.alone (sym exact ∙ e) in (
          λ x. adds.writes x ∙ ap (λ b. b || writes_item r x) (before.0 x) ∙ sym (one_more (λ g. writes_item g x) reaches r),
          λ x. adds.touches x ∙ ap (λ b. b || touches_item r x) (before.1 x) ∙ sym (one_more (λ g. touches_item g x) reaches r),
        );
    among = λ e y g at. elim (get-push reaches r g y at) [
      | inl there ↦ covers_still s.ahead later.ahead r adds g (i.among (sym exact ∙ e) y g there)
      | inr same ↦ subst (Covers later.ahead) same (covers_new s.ahead later.ahead r adds)
    ];
  }

  -- So it is where it has more than the may-access sets before, and covers this one already.
  pub index_covers : s.exact ≡ false → later.ahead ≡ s.ahead → Covers s.ahead r → IsIndex later (reaches ++ r ∷ [])
  index_covers others same c = record {
    alone = λ e. not_both (sym exact ∙ e) others;
    among = λ e y g at. subst (λ a. Covers a g) (sym same) (elim (get-push reaches r g y at) [
      | inl there ↦ i.among others y g there
      | inr new ↦ subst (Covers s.ahead) new c
    ]);
  }

-- An index covers each may-access set that it has.
pub covers_each : (s : Scheduler) (gs : List Footprint) → IsIndex s gs → (y : ℕ) (g : Footprint) → slice_get gs y ≡ Some g → Covers s.ahead g
covers_each s gs i y g e = elim (cases_Bool s.exact) [
  | inl exact ↦
      let all = i.alone exact in
      record {
        writes = λ x m. holds_true _ (all.0 x ∙ any_passes_from_place (λ f. writes_item f x) gs y g e (true_of _ m));
        touches = λ x m. holds_true _ (all.1 x ∙ any_passes_from_place (λ f. touches_item f x) gs y g e (true_of _ m));
      }
  | inr others ↦ i.among others y g e
]
