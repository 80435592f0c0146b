-- From the places that a round looks at to those that it picks, and on to the next ones.
use Rattle.std.proofs.Common.{◌≡◌, ◌+◌, ◌<◌, ℕ, All, List, map, filter, take, ap, sym, subst, ◌∙◌}
use Rattle.interleaving.specs.Machine.{has}
use Rattle.interleaving.specs.Rounds.{pending}
use Rattle.recording.specs.declared.recording.Recording.{Recording}
use Rattle.recording.specs.Steps.{places}
use Rattle.world_parts.specs.Part.{whole}
use Rattle.wave_pick.specs.Picking.{IsNextWave}
use Rattle.wave_pick.specs.Rounds.{state_after}
use Rattle.round_scheduler.specs.Scheduling.{AreFirst}
use Rattle.round_scheduler.specs.Telling.{has_number, held_among, held_meant}
use Rattle.round_scheduler.specs.declared.telling.Held.{Held}
use Rattle.round_scheduler.specs.declared.scheduler.Scheduler.{Scheduler}
use Rattle.wave_pick.specs.declared.wave.Wave.{Wave}
use Rattle.replay_core.specs.declared.progress.Progress.{Progress}
use Rattle.replay_core.specs.Progressing.{HasChosen, HasPicked, HasRun, HasTold, IsFront, IsReady, KeptAfter, Stands}
use Rattle.replay_core.proofs.Fronts.{all_of, front_is, front_open, same_window}

-- What is handed to a scheduler, and what that gives.
module _ {t : Recording} {p : Progress} (stands : Stands t p) (front : List ℕ) (same : front ≡ p.front.items) where
  pub are_places : All (λ k. k < places t) front
  are_places = all_of (λ (k : ℕ). k < places t) front
      (λ k m. (front_open t p.window (state_after t p.window p.round) p.front.items p.next stands.front k (ap (λ ks. has ks k) (sym same) ∙ m)).0)

  shown : take p.window front ≡ take p.window (pending (has (state_after t p.window p.round).finished) (places t))
  shown = ap (take p.window) same ∙ same_window t p.window (state_after t p.window p.round) p.front.items p.next stands.front

  pub are_first : AreFirst t p.window p.world.world p.scheduler.round (take p.window front)
  are_first = subst (λ r. AreFirst t p.window p.world.world r (take p.window front)) (sym stands.picked.0) (record { world = ap (λ d. d.world) stands.world; first = shown })

  pub has_chosen : (wave : Wave) → IsNextWave t p.window p.world.world (take p.window front) wave → HasChosen t p wave
  has_chosen wave h = h (state_after t p.window p.round) (ap (λ d. d.world) stands.world) shown

  pub has_told : (numbers : List ℕ) (number : ℕ) (held : List Held) → number ≡ p.round + 1
      → map held_meant held ≡ held_among t (state_after t p.window p.scheduler.round) (filter (has_number numbers number) (take p.window front)) → HasTold t numbers p held
  has_told numbers number held next h =
      h ∙ (λ i. held_among t (state_after t p.window (stands.picked.0 i)) (filter (has_number numbers (next i)) (take p.window front)))
      ∙ ap (λ ks. held_among t (state_after t p.window p.round) (filter (has_number numbers (p.round + 1)) ks))
      (shown ∙ front_is t p.window (state_after t p.window p.round) p.front.items p.next stands.front)

-- Picking changes nothing but the scheduler.
module _ (t : Recording) (old picked : Progress) (rest : picked ≡ record old { scheduler = picked.scheduler }) where
  pub ready : Stands t old → HasPicked t (old.round + 1) picked → IsReady t picked
  ready stands has = subst (IsReady t) (sym rest) (record {
    window = stands.window;
    world = stands.world;
    keeps = stands.keeps;
    front = stands.front;
    picked = rw (← ap (λ (p : Progress). p.window) rest) has;
  })

  pub within : old.round < places t → picked.round < places t
  within lt = subst (λ (p : Progress). p.round < places t) (sym rest) lt

  pub still_chosen : (wave : Wave) → HasChosen t old wave → HasChosen t picked wave
  still_chosen wave h = subst (λ (p : Progress). HasChosen t p wave) (sym rest) h

-- Running the places changes neither the round nor what it looks at.
module _ {t : Recording} {picked new : Progress} (ready : IsReady t picked) (ran : HasRun t picked new) where
  abbrev pub window : new.window ≡ picked.window
  window = ran.rest.0

  abbrev pub round : new.round ≡ picked.round
  round = ran.rest.1

  -- so what they leave is said of the new round, too: the world,
  pub world : new.world ≡ whole (state_after t new.window (new.round + 1)).world
  world = ran.world ∙ (λ i. whole (state_after t (sym window i) (sym round i + 1)).world)

  -- the replies,
  pub keeps : KeptAfter t (new.round + 1) new
  keeps = subst (λ (r : ℕ). KeptAfter t (r + 1) new) (sym round) ran.keeps

  -- the places that it looks at,
  pub looks : IsFront t new.window (state_after t new.window new.round) new.front.items new.next
  looks = rw (window, round, ran.rest.2, ran.rest.3) ready.front

  -- and what the scheduler knows
  pub remembers : HasPicked t (new.round + 1) new
  remembers = (
    ap (λ (x : Scheduler). x.round) ran.rest.4 ∙ ready.picked.0 ∙ ap (λ (r : ℕ). r + 1) (sym round),
    rw (window, ran.rest.4) ready.picked.1,
  )
