-- The parts of a round, cut out one after another.
use Rattle.std.proofs.Common.{◌≡◌, ◌≢◌, ℕ, suc, true, false, List, [], ◌∷◌, ◌++◌, ◌⊎◌, inl, inr, refl, sym, ap, subst, ◌∙◌, Some}
use Rattle.std.specs.Prelude.{T, not, ◌==◌, None, cond, slice_get, take}
use Rattle.std.specs.List.{list_all}
use Rattle.std.specs.Cmp.{unsigned_tied}
use Rattle.std.proofs.lemmas.Bool.{cases_eq, ne_eqb, eq-eqb}
use Rattle.interleaving.specs.Machine.{has}
use Rattle.interleaving.specs.Gather.{AllDifferent}
use Rattle.interleaving.proofs.Members.{has-here, has-later, has-different, has-middle, has-front}
use Rattle.finite_maps.specs.Table.{get, number_keys, get-insert}
use Rattle.recording.specs.declared.recording.Recording.{Recording}
use Rattle.recording.specs.Accepted.{IsAccepted}
use Rattle.world_parts.specs.World.{World}
use Rattle.world_parts.specs.Items.{Footprint, collide}
use Rattle.world_parts.specs.Part.{Part, Divided}
use Rattle.world_parts.specs.Cutting.{holed, holed_by, cut_from, IsPartOf}
use Rattle.world_parts.proofs.Collision.{both}
use Rattle.world_parts.proofs.Holes.{part_of_whole}
use Rattle.foot_print.specs.Footprint.{footprint}
use Rattle.foot_print.specs.Laws.{Awaits}
use Rattle.foot_print.specs.Parts.{IsReady, are_apart, footprints, places}
use Rattle.foot_print.proofs.Putting.{ready_more}
use Rattle.sqe_codec.specs.Answers.{each}
use Rattle.replay_core.specs.declared.run.Run.{Run}
use Rattle.replay_core.specs.Jobs.{AreOf}
use Rattle.replay_core.proofs.Lists.{take-more}
use Rattle.wave_pick.specs.Rounds.{state_after, wave_after}
use Rattle.replay_core.specs.Progressing.{out_for, parts_of, AreOut}
use Rattle.replay_core.proofs.Choosing.{side, chosen_awaits, chosen_free, different-front}
use Rattle.wave_pick.proofs.Lists.{get-push}
use Rattle.std.proofs.lemmas.List.{map_push}

module _ (t : Recording) (s : World) where
  holed-more : (ps : List Part) (q : Part) (u : World) → holed_by (footprints t s (ps ++ q ∷ [])) u ≡ holed (footprint t q.place s) (holed_by (footprints t s ps) u)
  holed-more [] q u = refl
  holed-more (p ∷ ps) q u = holed-more ps q (holed (footprint t p.place s) u)

  pub out-none : (ps : List Part) (k : ℕ) → has (places ps) k ≡ false → out_for t s ps k ≡ None
  out-none [] k h = refl
  out-none (p ∷ ps) k h = go (cases_eq k p.place) (out-none ps k)
    where
      go : (k ≡ p.place) ⊎ (k ≢ p.place) → (has (places ps) k ≡ false → out_for t s ps k ≡ None) → out_for t s (p ∷ ps) k ≡ None
      go (inl e) later = let both_ways : true ≡ false = sym (has-here p.place (places ps)) ∙ sym (ap (has (places (p ∷ ps))) e) ∙ h in (cc)
      go (inr ne) later = ap (λ b. cond b (Some (footprint t p.place s)) (out_for t s ps k)) (ne_eqb k p.place ne) ∙ later (sym (ap (λ b. cond b true (has (places ps) k)) (ne_eqb k p.place ne)) ∙ h)

  out-more : (ps : List Part) (q : Part) → has (places ps) q.place ≡ false → (k : ℕ) → out_for t s (ps ++ q ∷ []) k ≡ cond (k == q.place) (Some (footprint t q.place s)) (out_for t s ps k)
  out-more [] q h k = refl
  out-more (p ∷ ps) q h k = ap (λ o. cond (k == p.place) (Some (footprint t p.place s)) o) (out-more ps q tail k) ∙ swapped (cases_eq k p.place)
    where
      apart : q.place ≢ p.place
      apart e = let both_ways : true ≡ false = sym (has-here p.place (places ps)) ∙ sym (ap (has (places (p ∷ ps))) e) ∙ h in (cc)

      tail : has (places ps) q.place ≡ false
      tail = sym (ap (λ b. cond b true (has (places ps) q.place)) (ne_eqb q.place p.place apart)) ∙ h

      swapped : (k ≡ p.place) ⊎ (k ≢ p.place)
          → cond (k == p.place) (Some (footprint t p.place s)) (cond (k == q.place) (Some (footprint t q.place s)) (out_for t s ps k))
          ≡ cond (k == q.place) (Some (footprint t q.place s)) (cond (k == p.place) (Some (footprint t p.place s)) (out_for t s ps k))
      swapped (inr ne) =
          let no = ne_eqb k p.place ne in
          ap (λ b. cond b (Some (footprint t p.place s)) (cond (k == q.place) (Some (footprint t q.place s)) (out_for t s ps k))) no
          ∙ sym (ap (λ b. cond (k == q.place) (Some (footprint t q.place s)) (cond b (Some (footprint t p.place s)) (out_for t s ps k))) no)
      swapped (inl e) =
          let yes = eq-eqb k p.place e in
          let no = ne_eqb k q.place (λ f. apart (sym f ∙ e)) in
          ap (λ b. cond b (Some (footprint t p.place s)) (cond (k == q.place) (Some (footprint t q.place s)) (out_for t s ps k))) yes
          ∙ sym (ap (λ b. cond b (Some (footprint t q.place s)) (cond (k == p.place) (Some (footprint t p.place s)) (out_for t s ps k))) no ∙ ap (λ b. cond b (Some (footprint t p.place s)) (out_for t s ps k)) yes)

  -- each of some parts is apart from one more
  all_apart : (q : Part) (ps : List Part) → ((j : ℕ) → has (places ps) j ≡ true → (j ≢ q.place) × T (not (collide (footprint t j s) (footprint t q.place s)))) → T (list_all (λ p. are_apart t s p q) ps)
  all_apart q [] h = tt
  all_apart q (p ∷ ps) h =
      let here = h p.place (has-here p.place (places ps)) in
      both (are_apart t s p q) _ (both (not (q.place == p.place)) _ (subst (λ b. T (not b)) (sym (ne_eqb q.place p.place (λ e. here.0 (sym e)))) tt) here.1)
      (all_apart q ps (λ j m. h j (has-later j p.place (places ps) m)))

  all_free : (q : Part) (ps : List Part) → ((j : ℕ) → has (places ps) j ≡ true → T (not (collide (footprint t j s) (footprint t q.place s)))) → T (list_all (λ g. not (collide g (footprint t q.place s))) (footprints t s ps))
  all_free q [] h = tt
  all_free q (p ∷ ps) h = both (not (collide (footprint t p.place s) (footprint t q.place s))) _ (h p.place (has-here p.place (places ps))) (all_free q ps (λ j m. h j (has-later j p.place (places ps) m)))

-- What is known of a place whose part is cut out behind those of others of its round.
pub record HasCut (t : Recording) (window r : ℕ) (ps : List Part) (rest : List ℕ) (before after : Divided) (f : Footprint) (part : Part) : Type 0 where
  pub spelled : IsAccepted t
  pub out : AreOut t (state_after t window r).world (state_after t window r).world ps before
  pub order : places ps ++ part.place ∷ rest ≡ wave_after t window r
  pub foot : f ≡ footprint t part.place (state_after t window r).world
  pub cut : IsPartOf before.world f part.values
  pub left : after ≡ cut_from before part.place f

module _ (t : Recording) (window r : ℕ) (ps : List Part) (rest : List ℕ) (before after : Divided) (f : Footprint) (part : Part) (h : HasCut t window r ps rest before after f part) where
  abbrev s : World
  s = (state_after t window r).world

  abbrev g : Footprint
  g = footprint t part.place s

  chosen : has (wave_after t window r) part.place ≡ true
  chosen = ap (λ ks. has ks part.place) (sym h.order) ∙ has-middle (places ps) part.place rest

  chosen_before : (j : ℕ) → has (places ps) j ≡ true → has (wave_after t window r) j ≡ true
  chosen_before j m = ap (λ ks. has ks j) (sym h.order) ∙ has-front (places ps) (part.place ∷ rest) j m

  new : has (places ps) part.place ≡ false
  new = different-front (places ps) part.place rest (subst AllDifferent (sym h.order) (side t h.spelled window r).different)

  apart : (j : ℕ) → has (places ps) j ≡ true → (j ≢ part.place) × T (not (collide (footprint t j s) g))
  apart j m = let ne = has-different j part.place (places ps) new m in (ne, chosen_free t h.spelled window r j part.place (chosen_before j m) chosen ne)

  awaited : Awaits t part.place s
  awaited = chosen_awaits t h.spelled window r part.place chosen

  ready : IsReady t s s part
  ready = record {
    awaited = awaited;
    awaits = awaited;
    agrees = record { same = λ a m. refl };
    part = part_of_whole g (footprints t s ps) s part.values (all_free t s part ps (λ j m. (apart j m).1)) (subst (λ (w : World). IsPartOf w g part.values) h.out.world (subst (λ e. IsPartOf before.world e part.values) h.foot h.cut));
  }

  pub one_cut : AreOut t s s (ps ++ part ∷ []) after
  one_cut = record {
    ready = ready_more t s s ps part h.out.ready (all_apart t s part ps apart) ready;
    world = ap (λ d. d.world) h.left ∙ (λ i. holed (h.foot i) (h.out.world i)) ∙ sym (holed-more t s ps part s);
    out = λ k. ap (λ d. get d.out k) h.left ∙ get-insert number_keys.total before.out part.place f k
        ∙ (λ i. cond (unsigned_tied k part.place i) (Some (h.foot i)) (h.out.out k i)) ∙ sym (out-more t s ps part new k);
  }

-- A place whose part isn't out yet.
pub is_home : (t : Recording) (window r : ℕ) (spelled : IsAccepted t) (ps : List Part) (k : ℕ) (rest : List ℕ) (before : Divided)
    → AreOut t (state_after t window r).world (state_after t window r).world ps before → places ps ++ k ∷ rest ≡ wave_after t window r → get before.out k ≡ None
is_home t window r spelled ps k rest before out order =
    out.out k ∙ out-none t (state_after t window r).world ps k (different-front (places ps) k rest (subst AllDifferent (sym order) (side t spelled window r).different))

-- One job more.
pub of-more : (t : Recording) (jobs more : List Run) (run : Run) → more ≡ jobs ++ run ∷ [] → run.trace.value ≡ t → AreOf t jobs → AreOf t more
of-more t jobs more run e is of k other at = go (get-push jobs run other k (ap (λ xs. slice_get xs k) (sym e) ∙ at))
  where
    go : (slice_get jobs k ≡ Some other) ⊎ (run ≡ other) → other.trace.value ≡ t
    go (inl here) = of k other here
    go (inr same) = ap (λ (x : Run). x.trace.value) (sym same) ∙ is

pub parts-more : (jobs more : List Run) (run : Run) → more ≡ jobs ++ run ∷ [] → parts_of more ≡ parts_of jobs ++ run.part ∷ []
parts-more jobs more run e = ap parts_of e ∙ map_push (λ (x : Run). x.part) jobs run

pub wave-more : (t : Recording) (window r n : ℕ) (jobs more : List Run) (run : Run) (k : ℕ) → more ≡ jobs ++ run ∷ [] → places (parts_of jobs) ≡ take n (wave_after t window r) → slice_get (wave_after t window r) n ≡ Some k → run.part.place ≡ k
    → places (parts_of more) ≡ take (suc n) (wave_after t window r)
wave-more t window r n jobs more run k e wave at is =
    ap places (parts-more jobs more run e) ∙ map_push (λ (p : Part). p.place) (parts_of jobs) run.part ∙ (λ i. wave i ++ is i ∷ [])
    ∙ sym (take-more (wave_after t window r) n ∙ ap (λ o. take n (wave_after t window r) ++ each (λ (x : ℕ). x ∷ []) o) at)
