-- A view of code: which places have used descriptors, in groups that have used them alike.
use Rattle.std.specs.Prelude.{◌≡◌, ℕ, ◌-◌, ◌<◌, ◌≤◌, Bool, true, ◌&&◌, ◌⊎◌, leb, max, List, [], ◌∷◌, ◌++◌, length, if◌then◌else◌, slice_index_or}
use Rattle.std.specs.List.{AllByRecursion, list_all, list_any, remove}
use Rattle.world_parts.specs.Items.{Use, Footprint, collide, share}
use Rattle.use_line.specs.Known.{is_among}
use Rattle.foot_waits.specs.Rule.{descriptor_uses}

-- how the places of a group use descriptors, the latest of them, and all in order
abbrev pub Grouped : Type 0
Grouped = Footprint × ℕ × List ℕ

abbrev pub nothing : Grouped
nothing = ([], 0, [])

-- whether a use meets one of an access set where one of both writes
abbrev pub meets : Use → Footprint → Bool
meets u f = if u.written then list_any (λ v. share v.item u.item) f else list_any (λ v. v.written && share v.item u.item) f

-- the latest of all that clash with both of two access sets
abbrev pub latest_between : Footprint → Footprint → List Grouped → ℕ
latest_between own uses [] = 0
latest_between own uses (g ∷ gs) = max (if collide own g.0 && collide g.0 uses then g.1 else 0) (latest_between own uses gs)

-- the end of a list from where on all are at least a number
abbrev pub from_on : ℕ → List ℕ → List ℕ
from_on since [] = []
from_on since (p ∷ ps) = if list_all (λ q. leb since q) (p ∷ ps) then p ∷ ps else from_on since ps

pub record BeginsAt (since : ℕ) (places : List ℕ) (first : ℕ) : Type 0 where
  pub within : first ≤ length places
  pub from : (i : ℕ) → first ≤ i → i < length places → since ≤ slice_index_or places i 0
  pub before : (first ≡ 0) ⊎ (slice_index_or places (first - 1) 0 < since)

-- whether an access set waits by one of its uses for a place of a group, and of one of some groups
abbrev pub told_in : List Grouped → Footprint → Use → ℕ → Grouped → Bool
told_in all own u j g = meets u g.0 && is_among (from_on (latest_between own g.0 all) g.2) j

abbrev pub told_among : List Grouped → Footprint → Use → ℕ → List Grouped → Bool
told_among all own u j gs = list_any (told_in all own u j) gs

-- a group that has one place more
abbrev pub with_place : Grouped → ℕ → Grouped
with_place g place = (g.0, place, g.2 ++ place ∷ [])

-- one place more that uses descriptors so: it stands in a group with such uses, or in one of its own
abbrev pub IsAdded : List Grouped → List Grouped → Footprint → ℕ → Type 0
IsAdded old new uses place = ((uses ≡ []) × (new ≡ old))
    ⊎ (((i : ℕ) × (i < length old) × ((slice_index_or old i nothing).0 ≡ uses) × (new ≡ with_place (slice_index_or old i nothing) place ∷ remove old i))
    ⊎ (new ≡ (uses, place, place ∷ []) ∷ old))

-- numbers that rise
abbrev pub Rise : List ℕ → Type 0
Rise [] = Unit {0}
Rise (p ∷ ps) = AllByRecursion (λ q. p < q) ps × Rise ps

-- the places of a group are some of the first ones, all have its uses, they rise, and the latest is one of them
pub record HasUses (foot : ℕ → Footprint) (n : ℕ) (g : Grouped) : Type 0 where
  pub uses : (j : ℕ) → is_among g.2 j ≡ true → (j < n) × (descriptor_uses (foot j) ≡ g.0)
  pub latest : is_among g.2 g.1 ≡ true
  pub least : (j : ℕ) → is_among g.2 j ≡ true → j ≤ g.1
  pub rises : Rise g.2

-- of the first places each that uses descriptors stands in a group of those that use them so
pub record KeepsGroups (gs : List Grouped) (foot : ℕ → Footprint) (n : ℕ) : Type 0 where
  pub groups : AllByRecursion (HasUses foot n) gs
  pub all : (j : ℕ) → j < n → (descriptor_uses (foot j) ≡ []) ⊎ (list_any (λ g. is_among g.2 j) gs ≡ true)
