-- The places of a round may run on parts of the world that the round begins with.
use Rattle.std.proofs.Common.{◌≡◌, ◌≢◌, ℕ, zero, suc, ◌<◌, ◌≤◌, Bool, true, false, List, [], ◌∷◌, ◌++◌, map, take, length, length-append, cond, refl, sym, ap, subst, ◌∙◌, arith}
use Rattle.interleaving.specs.Rounds.{pending}
use Rattle.std.specs.Prelude.{T, not, Option, Some, None, slice_get}
use Rattle.interleaving.specs.Machine.{has}
use Rattle.interleaving.specs.Gather.{AllDifferent, SideBySide}
use Rattle.interleaving.proofs.Members.{has-other, has-different, has-choice, has-middle}
use Rattle.interleaving.proofs.Rounding.{rounds_gathered_lem}
use Rattle.recording.specs.declared.recording.Recording.{Recording}
use Rattle.recording.specs.Steps.{places}
use Rattle.recording.specs.Accepted.{IsAccepted}
use Rattle.world_parts.specs.World.{World, IsWorld}
use Rattle.world_parts.specs.Items.{Footprint, collide}
use Rattle.foot_print.specs.Footprint.{footprint}
use Rattle.foot_print.specs.Laws.{Awaits}
use Rattle.foot_print.specs.Replayed.{replayed}
use Rattle.wave_pick.specs.Lawful.{lawful}
use Rattle.wave_pick.proofs.Apart.{none_collide}
use Rattle.wave_pick.specs.Picking as picking
use Rattle.wave_pick.specs.declared.wave.Chosen.{Chosen}
use Rattle.std.specs.Option.{option_map}
use Rattle.std.proofs.lemmas.Option.{slice_get-map}
use Rattle.wave_pick.specs.Rounds.{state_after, wave_after}
use Rattle.std.proofs.lemmas.List.{length-take}
use Rattle.replay_core.proofs.Lists.{length-filter}

-- Lists of different numbers.
pub different-front : (xs : List ℕ) (k : ℕ) (rest : List ℕ) → AllDifferent (xs ++ k ∷ rest) → has xs k ≡ false
different-front [] k rest h = refl
different-front (x ∷ xs) k rest h = has-other k x xs (has-different k x (xs ++ k ∷ rest) h.0 (has-middle xs k rest)) ∙ different-front xs k rest h.1

module _ (t : Recording) (spelled : IsAccepted t) (window : ℕ) where
  module _ (r : ℕ) where
    abbrev s : World
    s = (state_after t window r).world

    -- the world that a round begins with
    pub world_there : IsWorld s
    world_there = (rounds_gathered_lem (replayed t) (lawful t spelled) (places t) window r).0

    pub side : SideBySide (replayed t) s (wave_after t window r)
    side = (rounds_gathered_lem (replayed t) (lawful t spelled) (places t) window r).1

    pub chosen_awaits : (k : ℕ) → has (wave_after t window r) k ≡ true → Awaits t k s
    chosen_awaits k h = let u = side.unused k h in record { is_world = world_there; no_node = u.no_node; no_description = u.no_description }

    pub chosen_free : (j k : ℕ) → has (wave_after t window r) j ≡ true → has (wave_after t window r) k ≡ true → j ≢ k → T (not (collide (footprint t j s) (footprint t k s)))
    chosen_free j k hj hk ne = subst (λ b. T (not b)) (sym (none_collide t spelled window r j k hj hk ne)) tt

    pub chosen_within : (k : ℕ) → has (wave_after t window r) k ≡ true → (k < places t) × (has (state_after t window r).finished k ≡ false)
    chosen_within k h = let c = has-choice (Rattle.interleaving.specs.Machine.is_free (replayed t) (state_after t window r)) window (has (state_after t window r).finished) (places t) k h in (c.1, c.2)

-- A place of a wave with its access set.
chosen_from : (t : Recording) (s : World) (o : Option ℕ) (c : Chosen) → option_map (λ (k : ℕ). let x : Chosen = record { place = k; footprint = footprint t k s } in x) o ≡ Some c → (o ≡ Some c.place) × (c.footprint ≡ footprint t c.place s)
chosen_from t s None c e = (cc)
chosen_from t s (Some k) c e = (ap (option_map (λ (x : Chosen). x.place)) e, is)
  where
    here : k ≡ c.place
    here = some-number (ap (option_map (λ (x : Chosen). x.place)) e)
      where
        some-number : {a b : ℕ} → ◌≡◌ {A = Option ℕ} (Some a) (Some b) → a ≡ b
        some-number f = cc

    theirs : footprint t k s ≡ c.footprint
    theirs = some-list (ap (option_map (λ (x : Chosen). x.footprint)) e)
      where
        some-list : {a b : Footprint} → ◌≡◌ {A = Option Footprint} (Some a) (Some b) → a ≡ b
        some-list f = cc

    is : c.footprint ≡ footprint t c.place s
    is = sym theirs ∙ ap (λ j. footprint t j s) here

pub chosen_at : (t : Recording) (window r n : ℕ) (items : List Chosen) (c : Chosen) → items ≡ map (picking.chosen_at t (state_after t window r).world) (wave_after t window r) → slice_get items n ≡ Some c
    → (slice_get (wave_after t window r) n ≡ Some c.place) × (c.footprint ≡ footprint t c.place (state_after t window r).world)
chosen_at t window r n items c e at =
    chosen_from t (state_after t window r).world (slice_get (wave_after t window r) n) c (sym (slice_get-map _ (wave_after t window r) n) ∙ ap (λ xs. slice_get xs n) (sym e) ∙ at)

pub chosen_places : (t : Recording) (s : World) (ks : List ℕ) → map (λ (c : Chosen). c.place) (map (picking.chosen_at t s) ks) ≡ ks
chosen_places t s [] = refl
chosen_places t s (k ∷ ks) = ap (λ js. k ∷ js) (chosen_places t s ks)

-- A round has no more places than the trace.
pending-few : (done : ℕ → Bool) (n : ℕ) → length (pending done n) ≤ n
pending-few done zero = omega arith
pending-few done (suc n) = go (done n) (pending-few done n)
  where
    go : (b : Bool) → length (pending done n) ≤ n → length (cond b (pending done n) (pending done n ++ n ∷ [])) ≤ suc n
    go true h = omega arith
    go false h = omega (arith, length-append (pending done n) (n ∷ []))

pub wave-few : (t : Recording) (window r : ℕ) → length (wave_after t window r) ≤ places t
wave-few t window r =
    let s = state_after t window r in
    let ps = pending (has s.finished) (places t) in
    let a = length-filter (Rattle.interleaving.specs.Machine.is_free (replayed t) s) (take window ps) in
    let b = length-take window ps in
    let c = pending-few (has s.finished) (places t) in
    omega arith
