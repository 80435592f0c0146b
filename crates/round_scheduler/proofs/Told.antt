-- Of the first places that wait, those that are asked for and blocked, by the may-access sets that a table has.
use Rattle.std.specs.Prelude.{◌≡◌, ℕ, Bool, true, false, List, [], ◌∷◌, ◌++◌, map, take, filter, find, reverse, slice_get, Option, Some, None, refl, if◌then◌else◌}
use Rattle.std.specs.List.{filter_map, cons_option}
use Rattle.std.specs.Option.{option_map, option_and_then, option_to_list}
use Rattle.std.proofs.Common.{inl, inr, ap, sym, subst, ◌∙◌}
use Rattle.std.proofs.lemmas.List.{append-nil, map-append, reverse-append}
use Rattle.std.proofs.lemmas.List.Elements.{filter-append, filter_map-append}
use Rattle.std.proofs.lemmas.List.Folds.{find_at}
use Rattle.std.proofs.lemmas.Option.{none-some, same_Some}
use Rattle.interleaving.specs.Machine.{State, has}
use Rattle.interleaving.specs.Rounds.{pending}
use Rattle.interleaving.proofs.Members.{has-here, has-later, has-snoc, has-take}
use Rattle.recording.specs.declared.recording.Recording.{Recording}
use Rattle.recording.specs.Steps.{places}
use Rattle.world_parts.specs.World.{World}
use Rattle.world_parts.specs.Items.{Item, Footprint, collide}
use Rattle.foot_print.specs.Footprint.{footprint}
use Rattle.foot_print.specs.Replayed.{replayed}
use Rattle.wave_pick.specs.Holding.{Holder, shared_of, reach_in, holder_in}
use Rattle.wave_pick.specs.Picking.{IsNextWave}
use Rattle.wave_pick.specs.Rounds.{state_after}
use Rattle.round_scheduler.specs.Scheduling.{AreFirst, HaveSeen, Remembers}
use Rattle.round_scheduler.specs.Telling.{AreTold, HasReaches, IsSettled, IsTold, Settles, Surveys, collides_with, kept_reach, latest_holder, held_among, held_meant, with_holder}
use Rattle.round_scheduler.specs.declared.telling.Held.{Held}
use Rattle.round_scheduler.specs.declared.scheduler.Scheduler.{Scheduler}
use Rattle.wave_pick.specs.declared.wave.Wave.{Wave}
use Rattle.wave_pick.proofs.Looked.{is_round, take_pending}
use Rattle.round_scheduler.proofs.Seeing.{has-got}
use Rattle.round_scheduler.proofs.Within.{before_pending}

meant-found : (hs : List Held) (o : Option Held) → map held_meant (hs ++ option_to_list o) ≡ map held_meant hs ++ option_to_list (option_map held_meant o)
meant-found hs None = map-append held_meant hs []
meant-found hs (Some h) = map-append held_meant hs (h ∷ [])

filter_map-one : {A B : Type 0} (h : A → Option B) (x : A) → filter_map h (x ∷ []) ≡ option_to_list (h x)
filter_map-one h x = elim (h x) as (λ o. cons_option o [] ≡ option_to_list o) [ None ↦ refl | Some y ↦ refl ]

has-reverse : (xs : List ℕ) (k : ℕ) → has (reverse xs) k ≡ true → has xs k ≡ true
has-reverse [] k h = h
has-reverse (x ∷ xs) k h = elim (has-snoc (reverse xs) x k (ap (λ ys. has ys k) (sym (reverse-append (x ∷ []) xs)) ∙ h)) [
  | inl there ↦ has-later k x xs (has-reverse xs k there)
  | inr e ↦ ap (has (x ∷ xs)) e ∙ has-here x xs
]

-- Tests that are the same on a list find the same.
find-same : (p q : ℕ → Bool) (xs : List ℕ) → ((k : ℕ) → has xs k ≡ true → p k ≡ q k) → find p xs ≡ find q xs
find-same p q [] h = refl
find-same p q (x ∷ xs) h = λ i. if h x (has-here x xs) i then Some x else find-same p q xs (λ k m. h k (has-later k x xs m)) i

-- The latest of some places whose may-access set, as a table has it, collides with an access set.
module _ (k : ℕ) (f : Footprint) (earlier : List ℕ) (table : List (Option Footprint)) where
  abbrev found : Option ℕ
  found = find (λ i. collides_with f (kept_reach (slice_get table i))) (reverse earlier)

  abbrev by_item : (ℕ → Footprint) → ℕ → Option Holder
  by_item reach i = option_map (λ (x : Item). let h : Holder = record { place = i; item = x } in h) (shared_of f (reach i))

  module _ (reach : ℕ → Footprint) (there : HasReaches table earlier reach) where
    same_found : found ≡ find (λ i. collide f (reach i)) (reverse earlier)
    same_found = find-same (λ i. collides_with f (kept_reach (slice_get table i))) (λ i. collide f (reach i)) (reverse earlier)
        (λ i m. ap (λ o. collides_with f (kept_reach o)) (there i (has-reverse earlier i m)))

    found_reach : (i : ℕ) → found ≡ Some i → slice_get table i ≡ Some (Some (reach i))
    found_reach i e = there i (has-reverse earlier i (has-got (reverse earlier) _ i (sym (find_at _ (reverse earlier)) ∙ e)))

    holder_by : (o : Option ℕ) → found ≡ o → option_and_then (by_item reach) o ≡ latest_holder f earlier reach
    holder_by o e = ap (option_and_then (by_item reach)) (sym e ∙ same_found)

  pub told_none : found ≡ None → IsTold k f earlier table None
  told_none e = λ reach there. ap (with_holder k) (holder_by reach there None e)

  pub told_some : (i : ℕ) (g : Footprint) (o : Option Item) → found ≡ Some i → kept_reach (slice_get table i) ≡ Some g → o ≡ shared_of f g
      → IsTold k f earlier table (with_holder k (option_map (λ (x : Item). let h : Holder = record { place = i; item = x } in h) o))
  told_some i g o e at is = λ reach there.
      let same : g ≡ reach i = same_Some _ _ (sym at ∙ ap kept_reach (found_reach reach there i e)) in
      ap (λ v. with_holder k (option_map (λ (x : Item). let h : Holder = record { place = i; item = x } in h) v)) (is ∙ ap (shared_of f) same)
      ∙ ap (with_holder k) (holder_by reach there (Some i) e)

  -- No place is found of which the table has no may-access set.
  pub told_lost : (i : ℕ) → found ≡ Some i → kept_reach (slice_get table i) ≡ None → IsTold k f earlier table None
  told_lost i e lost = λ reach there. absurd (none-some _ (sym lost ∙ ap kept_reach (found_reach reach there i e)))

-- One place more.
module _ (t : Recording) (s : State (replayed t)) (n : ℕ) (first : List ℕ) (are : first ≡ pending (has s.finished) n) (table : List (Option Footprint)) (there : HasReaches table first (reach_in t s)) (asked : ℕ → Bool) (x k : ℕ) (at : slice_get first x ≡ Some k) where
  abbrev earlier : List ℕ
  earlier = take x first

  abbrev told_so : List ℕ → List (ℕ × Holder)
  told_so ks = held_among t s (filter asked ks)

  told_more : told_so (earlier ++ k ∷ []) ≡ told_so earlier ++ held_among t s (if asked k then k ∷ [] else [])
  told_more = ap (held_among t s) (filter-append asked earlier (k ∷ [])) ∙ filter_map-append (λ j. with_holder j (holder_in t s j)) (filter asked earlier) (filter asked (k ∷ []))

  pub told_past : asked k ≡ false → told_so earlier ≡ told_so (earlier ++ k ∷ [])
  told_past out = sym (told_more ∙ ap (λ b. told_so earlier ++ held_among t s (if b then k ∷ [] else [])) out ∙ append-nil (told_so earlier))

  earlier_are : earlier ≡ pending (has s.finished) k
  earlier_are = ap (take x) are ∙ before_pending (has s.finished) n x k (ap (λ ks. slice_get ks x) (sym are) ∙ at)

  holder_is : latest_holder (footprint t k s.world) earlier (reach_in t s) ≡ holder_in t s k
  holder_is = ap (λ ks. latest_holder (footprint t k s.world) ks (reach_in t s)) earlier_are

  pub told_here : asked k ≡ true → (hs : List Held) (o : Option Held) → map held_meant hs ≡ told_so earlier → IsTold k (footprint t k s.world) earlier table (option_map held_meant o)
      → map held_meant (hs ++ option_to_list o) ≡ told_so (earlier ++ k ∷ [])
  told_here here hs o before told =
      let mine = told (reach_in t s) (λ j m. there j (has-take x first j m)) ∙ ap (with_holder k) holder_is in
      meant-found hs o
      ∙ (λ i. before i ++ option_to_list (mine i))
      ∙ sym (told_more ∙ ap (λ b. told_so earlier ++ held_among t s (if b then k ∷ [] else [])) here ∙ ap (λ hs. told_so earlier ++ hs) (filter_map-one (λ j. with_holder j (holder_in t s j)) k))

-- A round that is looked over, told of and settled.
module _ (t : Recording) (window : ℕ) (w : World) (s mid : Scheduler) (waits first : List ℕ) (e : first ≡ take window waits) (a : AreFirst t window w s.round (take window waits)) (remembers : Remembers t window s) (free : List ℕ) (surveys : Surveys t w first s mid free) where
  first_are : AreFirst t window w s.round first
  first_are = subst (AreFirst t window w s.round) (sym e) a

  seen : HaveSeen t window s.round first mid free
  seen = surveys window first_are remembers

  pub settled : (later : Scheduler) (ran : List ℕ) (wave : Wave) → mid.round ≡ s.round → ran ≡ free → Settles t ran mid later wave → IsSettled t window w (take window waits) later wave
  settled later ran wave round same settles =
      subst (λ ks. IsSettled t window w ks later wave) e
      (settles window w first (subst (λ n. AreFirst t window w n first) (sym round) first_are)
      (subst (λ ks. HaveSeen t window mid.round first mid ks) (sym same) (subst (λ n. HaveSeen t window n first mid free) (sym round) seen)))

  pub all_told : (table : List (Option Footprint)) (asked : ℕ → Bool) (held : List Held) → table ≡ mid.reaches.items → AreTold t w first table asked held
      → map held_meant held ≡ held_among t (state_after t window s.round) (filter asked (take window waits))
  all_told table asked held same told =
      let x = state_after t window s.round in
      let r = take_pending window (has x.finished) (places t) in
      told x r.0 a.world (first_are.first ∙ r.1) (λ k m. ap (λ v. slice_get v k) same ∙ (seen.seen k m).reach)
      ∙ ap (λ ks. held_among t x (filter asked ks)) e

-- What is settled is the next round.
pub next_wave : (t : Recording) (window : ℕ) (w : World) (waits : List ℕ) (later : Scheduler) (wave : Wave) → IsSettled t window w (take window waits) later wave → IsNextWave t window w (take window waits) wave
next_wave t window w waits later wave h = λ x same firsts. h.wave_is ∙ is_round t x (places t) window w waits same firsts
