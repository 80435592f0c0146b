-- A view of code: what places before another one do so that the other rests on them.
use Rattle.std.specs.Prelude.{◌≡◌, ℕ, Bool, true, ◌&&◌, List, [], ◌∷◌, slice_get, Option, Some}
use Rattle.std.specs.List.{list_any}
use Rattle.interleaving.specs.Machine.{has}
use Rattle.world_parts.specs.Items.{Item, chain_flag, one, all_descriptors, Footprint, collide}
use Rattle.world_parts.specs.Uses.{item_meant}
use Rattle.item_index.specs.Touching.{writes_item}
use Rattle.foot_print.specs.Outlook.{items_awaited}
use Rattle.foot_print.specs.declared.reaching.Outlook.{Outlook}
use Rattle.round_scheduler.specs.declared.scheduler.Ground.{Ground}
use Rattle.round_scheduler.specs.declared.scheduler.Ground.TheVariants.{Collides, WritesSome, Writes}

-- Whether an access set writes one of some items.
abbrev pub writes_one_of : Footprint → Footprint → Bool
writes_one_of f g = list_any (λ u. writes_item g u.item) f

abbrev pub ground_holds : Ground → Footprint → Bool
ground_holds (Collides f) g = collide f.now g
ground_holds (WritesSome f) g = writes_one_of f.now g
ground_holds (Writes x) g = writes_item g (item_meant x.now)

-- A place is one of those before, and its may-access set, as a table has it, does something.
pub record IsGround (does : Footprint → Bool) (earlier : List ℕ) (reaches : List (Option Footprint)) (i : ℕ) : Type 0 where
  pub at : ℕ
  pub reach : Footprint
  pub is_place : slice_get earlier at ≡ Some i
  pub is_reach : slice_get reaches i ≡ Some (Some reach)
  pub does_so : does reach ≡ true

-- Some place of a list is such a one.
abbrev pub HasGround : (Footprint → Bool) → List ℕ → List (Option Footprint) → List ℕ → Type 0
HasGround does earlier reaches on = (i : ℕ) × ((has on i ≡ true) × IsGround does earlier reaches i)

-- Each place of a list is one of those before.
abbrev pub AreEarlier : List ℕ → List ℕ → Type 0
AreEarlier earlier on = (i : ℕ) → has on i ≡ true → (at : ℕ) × (slice_get earlier at ≡ Some i)

-- A list has one that does something, where it is asked for, and else what it had.
pub record AddsGround (asked : Bool) (does : Footprint → Bool) (earlier : List ℕ) (reaches : List (Option Footprint)) (old new : List ℕ) : Type 0 where
  pub kept : (i : ℕ) → has old i ≡ true → has new i ≡ true
  pub each : AreEarlier earlier old → AreEarlier earlier new
  pub found : asked ≡ true → HasGround does earlier reaches new

-- The place of a list has a may-access set that collides with an access set.
pub record RestsOnCollision (f : Footprint) (earlier : List ℕ) (reaches : List (Option Footprint)) (on : List ℕ) : Type 0 where
  pub place : ℕ
  pub alone : on ≡ place ∷ []
  pub ground : IsGround (collide f) earlier reaches place

-- Of some places one writes one of the items by which a place waits, and, for all that write its chain's flag, or a descriptor where it takes the lowest one, one of them does.
pub record RestsOnGrounds (o : Outlook) (chain : ℕ) (w : Item → Bool) (earlier : List ℕ) (reaches : List (Option Footprint)) (on : List ℕ) : Type 0 where
  pub items : Footprint
  pub waits_by : items_awaited o.waits_by o.reach ≡ Some items
  pub each : AreEarlier earlier on
  pub writer : HasGround (writes_one_of items) earlier reaches on
  pub chained : w (one (chain_flag chain)) ≡ true → HasGround (λ g. writes_item g (one (chain_flag chain))) earlier reaches on
  pub descriptors : (o.takes_lowest && w all_descriptors) ≡ true → HasGround (λ g. writes_item g all_descriptors) earlier reaches on
