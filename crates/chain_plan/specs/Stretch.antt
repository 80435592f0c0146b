-- A view of code: the roles of places that follow one another, of whole chains.
use Rattle.std.specs.Prelude.{ℕ, suc, zero, ◌≡◌, ◌+◌, ◌<◌, ◌≤◌, ◌^◌, List, Some, false, true, length, map}
use Rattle.std.specs.List.{range_with_len, slice_get}
use Rattle.recording.specs.declared.recording.Recording.{Recording}
use Rattle.recording.specs.Steps.{places}
use Rattle.chain_plan.specs.declared.role.Role.{Role}
use Rattle.chain_plan.specs.declared.stretch.Member.{Member}
use Rattle.chain_plan.specs.declared.stretch.Chain.{Chain}
use Rattle.chain_plan.specs.Chain.{chain_of, is_linked, role}
use Rattle.chain_plan.specs.Walk.{joined}

-- Roles of places from a first one on, and how many chains there are up to the last of these.
pub record Roles : Type 0 where
  pub first : ℕ
  pub chains : ℕ
  pub roles : List Role

-- The place behind the last one.
abbrev pub end_of : Roles → ℕ
end_of s = s.first + length s.roles

-- How many chains the places ahead of a place make.
abbrev pub chains_ahead : Recording → ℕ → ℕ
chains_ahead t zero = 0
chains_ahead t (suc k) = suc (chain_of t k)

-- Whether no place ahead of this one is linked to it.
abbrev pub IsApart : Recording → ℕ → Type 0
IsApart t zero = Unit
IsApart t (suc k) = is_linked t k ≡ false

-- Whether each place from one on, ahead of the end, follows the place before it.
abbrev pub AreFollowing : Recording → ℕ → ℕ → Type 0
AreFollowing t from end = (k : ℕ) → from ≤ suc k → suc k < end → is_linked t k ≡ true

-- Whether these are the roles of places of a trace, up to the end of a chain.
pub record IsStretch (t : Recording) (s : Roles) : Type 0 where
  pub roles : s.roles ≡ map (role t) (range_with_len s.first (length s.roles))
  pub within : end_of s ≤ places t
  pub apart : IsApart t (end_of s)
  pub chains : s.chains ≡ chains_ahead t (end_of s)

-- The roles of members of the chains that begin behind so many others.
abbrev pub roles_of : ℕ → ℕ → List Chain → List Member → Roles
roles_of first before chains members =
    record { first = first; chains = before + length chains; roles = map (joined before chains) members }

-- Whether the chain of each member is at hand, and the numbers are small.
pub record IsHeld (first before : ℕ) (chains : List Chain) (members : List Member) : Type 0 where
  pub each : (k : ℕ) (m : Member) → slice_get members k ≡ Some m → (before ≤ m.chain) × (m.chain < before + length chains)
  pub places : first + length members < 2 ^ 32
  pub numbers : before + length chains < 2 ^ 32
