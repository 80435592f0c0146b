-- A law: what a place does with the part of a world that its access set cuts out, and what the parts of a round leave.
use Rattle.std.specs.Prelude.{◌≡◌, ℕ, Bool, not, ◌&&◌, ◌==◌, T, List, [], ◌∷◌, map}
use Rattle.std.specs.List.{list_all}
use Rattle.interleaving.specs.Gather.{in_order, replies_in_order}
use Rattle.recording.specs.declared.recording.Recording.{Recording}
use Rattle.world_parts.specs.World.{World, IsWorld}
use Rattle.world_parts.specs.Items.{Footprint, collide, Agree}
use Rattle.world_parts.specs.Part.{Part}
use Rattle.world_parts.specs.Cutting.{holed, holed_by, is_narrow, IsPartOf, PutsTo}
use Rattle.op_meaning.specs.Step.{step_world, step_reply}
use Rattle.foot_print.specs.Footprint.{footprint}
use Rattle.foot_print.specs.Laws.{Awaits}
use Rattle.foot_print.specs.Replayed.{replayed}

-- Cutting a part out and putting it back unchanged leaves the world as it was.
abbrev pub CutThenPut : Type 0
CutThenPut = (s part after : World) (f : Footprint) → IsPartOf s f part → PutsTo f (holed f s) part after → after ≡ s

-- A place that runs on its part gives the reply of its step on the world, and putting the part back can only leave the world that the step leaves.
pub record StepsByPart (t : Recording) (k : ℕ) (s part : World) : Type 0 where
  pub reply : step_reply t k part ≡ step_reply t k s
  pub puts : PutsTo (footprint t k s) (holed (footprint t k s) s) (step_world t k part) (step_world t k s)
  pub only : (after : World) → PutsTo (footprint t k s) (holed (footprint t k s) s) (step_world t k part) after → after ≡ step_world t k s

abbrev pub PlacesRunOnParts : Type 0
PlacesRunOnParts = (t : Recording) (k : ℕ) (s part : World) → Awaits t k s → IsPartOf s (footprint t k s) part → StepsByPart t k s part

-- A world in which parts have left zeros is a world.
abbrev pub HolesKeepWorlds : Type 0
HolesKeepWorlds = (f : Footprint) (s : World) → IsWorld s → IsWorld (holed f s)

-- Access sets of places name single items and ranges: a part can be cut by each.
abbrev pub FootprintsAreNarrow : Type 0
FootprintsAreNarrow = (t : Recording) (k : ℕ) (s : World) → T (is_narrow (footprint t k s))

-- A part that is cut while others are out, with none of which it collides, is a part of the world as it was.
abbrev pub PartsAreOfTheWhole : Type 0
PartsAreOfTheWhole = (s part : World) (f : Footprint) (out : List Footprint) → T (list_all (λ g. not (collide g f)) out) → IsPartOf (holed_by out s) f part → IsPartOf s f part

-- A part that was cut from a world, and one that still awaits the part's place and agrees on its access set.
pub record IsReady (t : Recording) (s u : World) (p : Part) : Type 0 where
  pub awaited : Awaits t p.place s
  pub awaits : Awaits t p.place u
  pub agrees : Agree (footprint t p.place s) s u
  pub part : IsPartOf s (footprint t p.place s) p.values

-- Parts of different places, whose access sets don't collide.
abbrev pub are_apart : Recording → World → Part → Part → Bool
are_apart t s p q = not (q.place == p.place) && not (collide (footprint t p.place s) (footprint t q.place s))

abbrev pub AreReady : Recording → World → World → List Part → Type 0
AreReady t s u [] = Unit {0}
AreReady t s u (p ∷ ps) = IsReady t s u p × T (list_all (are_apart t s p) ps) × AreReady t s u ps

-- The access sets and the places of parts.
abbrev pub footprints : Recording → World → List Part → List Footprint
footprints t s ps = map (λ (p : Part). footprint t p.place s) ps

abbrev pub places : List Part → List ℕ
places ps = map (λ (p : Part). p.place) ps

-- A part that has run is put back into a world with its hole and those of others, and leaves the world that the place's step leaves, with the holes of the others.
pub record PutSteps (t : Recording) (s u : World) (p : Part) (others : List Part) : Type 0 where
  pub reply : step_reply t p.place p.values ≡ step_reply t p.place u
  pub is_world : IsWorld (holed_by (footprints t s others) (step_world t p.place u))
  pub puts : PutsTo (footprint t p.place s) (holed_by (footprints t s (p ∷ others)) u) (step_world t p.place p.values) (holed_by (footprints t s others) (step_world t p.place u))
  pub only : (after : World) → PutsTo (footprint t p.place s) (holed_by (footprints t s (p ∷ others)) u) (step_world t p.place p.values) after → after ≡ holed_by (footprints t s others) (step_world t p.place u)
  pub others_ready : AreReady t s (step_world t p.place u) others

abbrev pub PutIsStep : Type 0
PutIsStep = (t : Recording) (s u : World) (p : Part) (others : List Part) → AreReady t s u (p ∷ others) → PutSteps t s u p others

-- The worlds that putting parts back goes through, one after another, each after its place has run on it.
pub data PutsAll (t : Recording) (s : World) : World → List Part → World → Type 0 where
  none_left : {w : World} → PutsAll t s w [] w
  then_put : {w v x : World} {p : Part} {ps : List Part} → PutsTo (footprint t p.place s) w (step_world t p.place p.values) v → PutsAll t s v ps x → PutsAll t s w (p ∷ ps) x

-- What all parts of a round leave: the world stepped in order, and the replies that the places give in order.
pub record RoundSteps (t : Recording) (s after : World) (ps : List Part) : Type 0 where
  pub world : after ≡ in_order (replayed t) s (places ps)
  pub replies : map (λ (p : Part). step_reply t p.place p.values) ps ≡ replies_in_order (replayed t) s (places ps)

abbrev pub RoundIsSteps : Type 0
RoundIsSteps = (t : Recording) (s after : World) (ps : List Part) → AreReady t s s ps → PutsAll t s (holed_by (footprints t s ps) s) ps after → RoundSteps t s after ps
