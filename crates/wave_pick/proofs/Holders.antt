-- Which place blocks another, and that it does.
use Rattle.std.specs.Prelude.{◌≡◌, ℕ, zero, suc, ◌<◌, Bool, true, false, [], ◌∷◌, reverse, find, Option, Some, None, is_some, refl}
use Rattle.std.specs.Option.{option_map, option_and_then}
use Rattle.std.proofs.Common.{inl, inr, sym, ap, subst, ◌∙◌, arith}
use Rattle.std.proofs.lemmas.Bool.{cases_Bool}
use Rattle.std.proofs.lemmas.List.{reverse-append}
use Rattle.std.proofs.lemmas.Option.{none-some, option_and_then_some, same_Some}
use Rattle.interleaving.specs.Machine.{State, has}
use Rattle.interleaving.specs.Rounds.{pending}
use Rattle.interleaving.proofs.Skipping.{below_suc}
use Rattle.recording.specs.declared.recording.Recording.{Recording}
use Rattle.world_parts.specs.Items.{Item, Footprint, collide}
use Rattle.foot_print.specs.Footprint.{footprint}
use Rattle.foot_print.specs.Replayed.{replayed}
use Rattle.wave_pick.specs.Rounds.{state_after}
use Rattle.wave_pick.specs.Holding.{shared_of, Holder, reach_in, latest_in, holder_in}
use Rattle.wave_pick.specs.Holders.{HoldersHoldBack, NoneIsHeldBack}
use Rattle.wave_pick.proofs.Both.{shared_where_colliding}
use Rattle.wave_pick.proofs.Lists.{not_both}

-- The last of some numbers that pass a test.
module _ (p : ℕ → Bool) (done : ℕ → Bool) where
  abbrev pub last_below : ℕ → Option ℕ
  last_below n = find p (reverse (pending done n))

  -- The last one passes, and no later one does.
  pub record IsLast (n i : ℕ) : Type 0 where
    pub within : i < n
    pub waits : done i ≡ false
    pub passes : p i ≡ true
    pub later : (j : ℕ) → i < j → j < n → done j ≡ false → p j ≡ false

  further : (n i : ℕ) → IsLast n i → (done n ≡ false → p n ≡ false) → IsLast (suc n) i
  further n i h behind = record {
    within = let l = h.within in omega arith;
    waits = h.waits;
    passes = h.passes;
    later = λ j lt within w. elim (below_suc j n within) [ inl less ↦ h.later j lt less w | inr same ↦ ap p same ∙ behind (sym (ap done same) ∙ w) ];
  }

  pub found_last : (n i : ℕ) → last_below n ≡ Some i → IsLast n i
  found_last zero i e = (cc)
  found_last (suc n) i e = elim (cases_Bool (done n)) [
    | inl out ↦ further n i (found_last n i (rw out at e)) (λ w. not_both out w)
    | inr yet ↦
        let last = rw (yet, reverse-append (pending done n) (n ∷ [])) at e in
        elim (cases_Bool (p n)) [
          | inl passed ↦ subst (IsLast (suc n)) (same_Some n i (rw passed at last))
              (record { within = omega arith; waits = yet; passes = passed; later = λ j lt within w. absurd (omega arith) })
          | inr fails ↦ further n i (found_last n i (rw fails at last)) (λ w. fails)
        ]
  ]

  pub found_none : (n : ℕ) → last_below n ≡ None → (j : ℕ) → j < n → done j ≡ false → p j ≡ false
  found_none zero e j lt w = absurd (omega arith)
  found_none (suc n) e j lt w = elim (cases_Bool (done n)) [
    | inl out ↦ elim (below_suc j n lt) [ inl less ↦ found_none n (rw out at e) j less w | inr same ↦ not_both out (sym (ap done same) ∙ w) ]
    | inr yet ↦
        let last = rw (yet, reverse-append (pending done n) (n ∷ [])) at e in
        elim (cases_Bool (p n)) [
          | inl passed ↦ absurd (none-some n (sym (rw passed at last)))
          | inr fails ↦ elim (below_suc j n lt) [ inl less ↦ found_none n (rw fails at last) j less w | inr same ↦ ap p same ∙ fails ]
        ]
  ]

-- Where two access sets collide, they share an item.
shared_there : (f g : Footprint) → collide f g ≡ true → (x : Item) × (shared_of f g ≡ Some x)
shared_there f g c = elim (shared_of f g) as (λ o. is_some o ≡ true → (x : Item) × (o ≡ Some x)) [ None ↦ λ e. (cc) | Some x ↦ λ e. (x, refl) ] (shared_where_colliding f g ∙ c)

module _ (t : Recording) (s : State (replayed t)) (k : ℕ) where
  abbrev holds : ℕ → Bool
  holds i = collide (footprint t k s.world) (reach_in t s i)

  abbrev by_item : ℕ → Option Holder
  by_item i = option_map (λ (x : Item). let h : Holder = record { place = i; item = x } in h) (shared_of (footprint t k s.world) (reach_in t s i))

  -- The holder is the last place that holds.
  pub record HasHolder (h : Holder) : Type 0 where
    pub last : IsLast holds (has s.finished) k h.place
    pub item : shared_of (footprint t k s.world) (reach_in t s h.place) ≡ Some h.item

  item-of : (i : ℕ) (o : Option Item) (h : Holder) → option_map (λ (x : Item). let g : Holder = record { place = i; item = x } in g) o ≡ Some h → (i ≡ h.place) × (o ≡ Some h.item)
  item-of i None h e = (cc)
  item-of i (Some x) h e =
      let same = same_Some (record { place = i; item = x }) h e in
      (ap (λ (g : Holder). g.place) same, ap (λ (g : Holder). Some g.item) same)

  pub has_holder : (h : Holder) → holder_in t s k ≡ Some h → HasHolder h
  has_holder h e = option_and_then_some by_item (latest_in t s k) h e (λ i f g.
      let found = item-of i (shared_of (footprint t k s.world) (reach_in t s i)) h g in
      record {
        last = subst (IsLast holds (has s.finished) k) found.0 (found_last holds (has s.finished) k i f);
        item = ap (λ j. shared_of (footprint t k s.world) (reach_in t s j)) (sym found.0) ∙ found.1;
      })

  pub has_none : holder_in t s k ≡ None → latest_in t s k ≡ None
  has_none e = elim (latest_in t s k) as (λ o. latest_in t s k ≡ o → o ≡ None) [
    | None ↦ λ f. refl
    | Some i ↦ λ f.
        let there = shared_there (footprint t k s.world) (reach_in t s i) (found_last holds (has s.finished) k i f).passes in
        absurd (none-some _ (sym e ∙ ap (option_and_then by_item) f ∙ ap (option_map (λ (x : Item). let h : Holder = record { place = i; item = x } in h)) there.1))
  ] refl

pub holders_hold_back : (t : Recording) → HoldersHoldBack t
holders_hold_back t window r k h e =
    let s = state_after t window r in
    let found = has_holder t s k h e in
    record {
      holds = record { is_before = found.last.within; waits = found.last.waits; collides = found.last.passes };
      item = found.item;
      latest = λ i lt within b. not_both b.collides (found.last.later i lt within b.waits);
    }

pub none_is_held_back : (t : Recording) → NoneIsHeldBack t
none_is_held_back t window r k e i b =
    let s = state_after t window r in
    not_both b.collides (found_none (λ j. collide (footprint t k s.world) (reach_in t s j)) (has s.finished) k (has_none t s k e) i b.is_before b.waits)
