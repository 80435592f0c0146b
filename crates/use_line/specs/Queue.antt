-- A view of code: the reads that are left to tell.
use Rattle.std.specs.Prelude.{◌≡◌, ℕ, suc, ◌<◌, ◌-◌, ◌*◌, Bool, true, ◌&&◌, ◌⊎◌, List, Some, slice_index_or}
use Rattle.std.specs.List.{All, list_any, sum_by}
use Rattle.use_line.specs.Spans.{within}
use Rattle.use_line.specs.Known.{IsToldBy, RangeUses, is_among, range_at, readers_at}
use Rattle.use_line.specs.declared.clip.Clip.{Clip}
use Rattle.use_line.specs.declared.line.Span.{Span}
use Rattle.use_line.specs.declared.read.Read.{Read}

-- whether a place has read a number of a clip, by its read or one below that
abbrev pub has_reader : List Read → Clip → ℕ → ℕ → Bool
has_reader reads c b j = within c.low c.high b && is_among (readers_at reads (Some c.read) b) j

abbrev pub is_due : List Read → List Clip → ℕ → ℕ → Bool
is_due reads q b j = list_any (λ c. has_reader reads c b j) q

-- whether a place is told, or is to be told by one of the clips
abbrev pub Due : List Read → List ℕ → List Clip → ℕ → Type 0
Due reads told q j = (is_among told j ≡ true) ⊎ ((b : ℕ) × (is_due reads q b j ≡ true))

-- each clip has a number, and is of a read below a number
abbrev pub AreFilled : List Clip → Type 0
AreFilled q = All (λ c. c.low < c.high) q

abbrev pub AreBelow : ℕ → List Clip → Type 0
AreBelow n q = All (λ c. c.read < n) q

-- how much is left
abbrev pub weight_of : Clip → ℕ
weight_of c = (c.high - c.low) * suc c.read

abbrev pub weight : List Clip → ℕ
weight q = sum_by weight_of q

-- the top of a heap is of the same read as a clip, and touches it from below
abbrev pub IsNext : List Clip → Clip → ℕ → Type 0
IsNext q c low =
    let d : Clip = record { read = c.read; low = low; high = c.low } in
    d ≡ slice_index_or q 0 d

-- of the numbers of a range, those whom a use waits for are told or due, beside those before
abbrev pub AddsDue : RangeUses → List Span → Bool → ℕ → ℕ → List ℕ → List Clip → List ℕ → List Clip → Type 0
AddsDue u own written low high told q told₁ q₁ = (j : ℕ)
    → (Due u.reads told₁ q₁ j → Due u.reads told q j ⊎ IsToldBy (range_at u) own written low high j) × (Due u.reads told q j ⊎ IsToldBy (range_at u) own written low high j → Due u.reads told₁ q₁ j)
