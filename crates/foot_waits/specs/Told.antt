-- A view of code: by which of its uses an access set waits first.
use Rattle.std.specs.Prelude.{◌≡◌, ℕ, ◌<◌, ◌≤◌, ◌⊎◌, true, List, Option, Some, MatchOption, if◌then◌else◌, map, slice_index_or}
use Rattle.std.specs.Bool.{Decides}
use Rattle.use_line.specs.declared.line.Span.{Span}
use Rattle.use_line.specs.Known.{IsToldOf, Keeps, Uses, is_among}
use Rattle.world_parts.specs.Items.{Footprint}
use Rattle.foot_waits.specs.Groups.{Grouped, KeepsGroups, told_among}
use Rattle.foot_waits.specs.Rule.{descriptor_uses, is_of_descriptors, use_at}
use Rattle.foot_waits.specs.Spots.{AllFit, no_span, span_for}
use Rattle.foot_waits.specs.declared.waits.Waits.{Waits}

-- what is known of the places so far: on the line, and of descriptors
abbrev pub Past : Type 0
Past = Uses × List Grouped

-- whether an access set with these ranges waits for another by one of its uses
abbrev pub TellsBy : Past → Footprint → List Span → ℕ → ℕ → Type 0
TellsBy past f spans i j =
    let s = slice_index_or spans i no_span in
    let u = use_at f i in
    IsToldOf past.0 spans s.written s.low s.high j ⊎ ((is_of_descriptors u.item ≡ true) × (told_among past.1 (descriptor_uses f) u j past.1 ≡ true))

-- the first from one number up to another
abbrev pub IsFirstFrom : Past → Footprint → List Span → ℕ → ℕ → ℕ → Option ℕ → Type 0
IsFirstFrom past f spans m n j o = MatchOption o ((i : ℕ) → m ≤ i → i < n → ¬ (TellsBy past f spans i j))
    (λ i. (m ≤ i) × (i < n) × TellsBy past f spans i j × ((h : ℕ) → m ≤ h → h < i → ¬ (TellsBy past f spans h j)))

-- the first of so many by which it does
abbrev pub IsFirst : Past → Footprint → List Span → ℕ → ℕ → Option ℕ → Type 0
IsFirst past f spans n j o = MatchOption o ((i : ℕ) → i < n → ¬ (TellsBy past f spans i j))
    (λ i. (i < n) × TellsBy past f spans i j × ((h : ℕ) → h < i → ¬ (TellsBy past f spans h j)))

-- those that are told by one more use, which stands before the others
abbrev pub with_told : Option ℕ → List ℕ → ℕ → ℕ → Option ℕ
with_told o told i j = if is_among told j then Some i else o

-- what is known after the first places of a list of access sets
pub record IsAt (w : Waits) (foot : ℕ → Footprint) (n : ℕ) : Type 0 where
  pub place : w.place ≡ n
  pub keeps : Keeps w.line (λ i. map (span_for w.names) (foot i)) n
  pub groups : KeepsGroups w.descriptors foot n
  pub fit : (i : ℕ) → i < n → AllFit w.names (foot i)

-- a list has those for whom an access set waits by one of its uses
abbrev pub TellsAll : Past → Footprint → List Span → ℕ → List ℕ → Type 0
TellsAll past f spans i told = (j : ℕ) → Decides (is_among told j) (TellsBy past f spans i j)
