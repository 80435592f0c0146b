-- A law: which place blocks another, and by what both hang together.
use Rattle.std.specs.Prelude.{◌≡◌, ℕ, ◌<◌, true, ◌&&◌, Some, None, is_some}
use Rattle.recording.specs.declared.recording.Recording.{Recording}
use Rattle.world_parts.specs.Items.{Atom, Item, member_of, share, Footprint, collide}
use Rattle.wave_pick.specs.Rounds.{state_after}
use Rattle.wave_pick.specs.Holds.{footprint_after, reach_after, HoldsBack}
use Rattle.wave_pick.specs.Holding.{shared_item, shared_of, Holder, holder_in}

-- An atom is a member of what two items share exactly where it is a member of both.
abbrev pub SharedIsBoth : Type 0
SharedIsBoth = (x y : Item) (a : Atom) → share x y ≡ true → member_of (shared_item x y) a ≡ (member_of x a && member_of y a)

-- Two access sets share an item so exactly where they collide.
abbrev pub SharedWhereColliding : Type 0
SharedWhereColliding = (f g : Footprint) → is_some (shared_of f g) ≡ collide f g

-- The holder holds the place back, by the item that both use, and no later place does.
pub record IsHolder (t : Recording) (window r k : ℕ) (h : Holder) : Type 0 where
  pub holds : HoldsBack t window r h.place k
  pub item : shared_of (footprint_after t window r k) (reach_after t window r h.place) ≡ Some h.item
  pub latest : (i : ℕ) → h.place < i → i < k → ¬ (HoldsBack t window r i k)

-- After each number of rounds a place has its holder, or nothing holds it back: then it is in the next round, if the window shows it.
abbrev pub HoldersHoldBack : Recording → Type 0
HoldersHoldBack t = (window r k : ℕ) (h : Holder) → holder_in t (state_after t window r) k ≡ Some h → IsHolder t window r k h

abbrev pub NoneIsHeldBack : Recording → Type 0
NoneIsHeldBack t = (window r k : ℕ) → holder_in t (state_after t window r) k ≡ None → (i : ℕ) → ¬ (HoldsBack t window r i k)
