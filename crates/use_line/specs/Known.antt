-- A view of code: what is known of each number, and whom a use of it waits for.
use Rattle.std.specs.Prelude.{◌≡◌, ℕ, zero, suc, ◌<◌, ◌/◌, ◌%◌, ◌^◌, ltb, Bool, true, false, ◌&&◌, ◌||◌, ◌⊎◌, ◌==◌, not, length, List, [], ◌∷◌, Option, None, Some, if◌then◌else◌, slice_index_or}
use Rattle.std.specs.List.{list_any}
use Rattle.std.specs.Bool.{Decides}
use Rattle.interleaving.specs.Direct.{clash_on, IsDirect}
use Rattle.use_line.specs.History.{latest_writer, has_read, is_read, is_number}
use Rattle.use_line.specs.Spans.{within, covers, used_by, written_by}
use Rattle.use_line.specs.Steps.{AllBelow, IsLevel, step_at}
use Rattle.use_line.specs.declared.line.Span.{Span}
use Rattle.use_line.specs.declared.read.Read.{Read}

-- the read that has a number
abbrev pub read_at : List Read → ℕ → Read
read_at reads n = slice_index_or reads n (record { place = 0; older = [] })

-- the places of the reads of a number, of which one is the latest: each stands upon the one below it
abbrev pub readers_below : List Read → ℕ → Option ℕ → ℕ → List ℕ
readers_below reads zero latest b = []
readers_below reads (suc n) latest b =
    let r = read_at reads n in
    if is_number n latest then r.place ∷ readers_below reads n (step_at r.older b) b else readers_below reads n latest b

abbrev pub readers_at : List Read → Option ℕ → ℕ → List ℕ
readers_at reads latest b = readers_below reads (length reads) latest b

-- of the numbers that are used in ranges, who wrote each, which read of it is the latest, and all reads
pub record RangeUses : Type 0 where
  pub writers : List (ℕ × Option ℕ)
  pub readers : List (ℕ × Option ℕ)
  pub reads : List Read

-- each read is upon older ones alone, and the latest ones are among all
pub record IsLinked (u : RangeUses) : Type 0 where
  pub latest : AllBelow u.readers (length u.reads)
  pub older : (k : ℕ) → k < length u.reads → AllBelow (read_at u.reads k).older k

-- the latest place that wrote, and those that have read since
abbrev pub Known : Type 0
Known = Option ℕ × List ℕ

abbrev pub range_at : RangeUses → ℕ → Known
range_at u b = (step_at u.writers b, readers_at u.reads (step_at u.readers b) b)

abbrev pub no_ranges : RangeUses
no_ranges = record { writers = []; readers = []; reads = [] }

-- of the numbers that are used one by one, in rows
abbrev pub nothing_known : Known
nothing_known = (None, [])

abbrev pub row_at : List Known → ℕ → Known
row_at row i = slice_index_or row i nothing_known

abbrev pub spot_at : List (List Known) → ℕ → Known
spot_at rows b = row_at (slice_index_or rows (b / 2 ^ 64) []) (b % 2 ^ 64)

-- of all numbers: those below a limit are used one by one
pub record Uses : Type 0 where
  pub spots : List (List Known)
  pub ranges : RangeUses

abbrev pub known_at : Uses → ℕ → Known
known_at u b = if ltb b (2 ^ 76) then spot_at u.spots b else range_at u.ranges b

abbrev pub no_uses : Uses
no_uses = record { spots = []; ranges = no_ranges }

abbrev pub is_among : List ℕ → ℕ → Bool
is_among js j = list_any (λ i. i == j) js

abbrev pub is_none : List ℕ → Bool
is_none [] = true
is_none (j ∷ js) = false

-- whom a use of a place waits for, where the place writes there or doesn't
abbrev pub told_of : Known → Bool → Bool → ℕ → Bool
told_of p written own j =
    if is_none p.1 then is_number j p.0 else (if written then is_among p.1 j else (if own then false else is_number j p.0))

-- of the numbers of a range, whom a use waits for
abbrev pub IsToldBy : (ℕ → Known) → List Span → Bool → ℕ → ℕ → ℕ → Type 0
IsToldBy known own written low high j = (b : ℕ) × (within low high b ≡ true) × (told_of (known b) written (written_by own b) j ≡ true)

-- who wrote one of them last
abbrev pub HasWriter : List (ℕ × Option ℕ) → ℕ → ℕ → ℕ → Type 0
HasWriter writers low high j = (b : ℕ) × (within low high b ≡ true) × (is_number j (step_at writers b) ≡ true)

abbrev pub IsToldOf : Uses → List Span → Bool → ℕ → ℕ → ℕ → Type 0
IsToldOf u own written low high j = IsToldBy (known_at u) own written low high j

-- of each number stands who has used it among the first places
pub record Keeps (u : Uses) (spans : ℕ → List Span) (n : ℕ) : Type 0 where
  pub writer : (b : ℕ) → (known_at u b).0 ≡ latest_writer (λ i. written_by (spans i) b) n
  pub readers : (b j : ℕ) → is_among (known_at u b).1 j ≡ has_read (λ i. used_by (spans i) b) (λ i. written_by (spans i) b) n j
  pub unread : (b : ℕ) → is_none (known_at u b).1 ≡ not (is_read (λ i. used_by (spans i) b) (λ i. written_by (spans i) b) n)

-- what a write leaves
abbrev pub written_at : ℕ → Known
written_at place = (Some place, [])

-- whom a use waits for by a range, beside those who are told already
abbrev pub AddsToldBy : (ℕ → Known) → List Span → Bool → ℕ → ℕ → List ℕ → List ℕ → Type 0
AddsToldBy known own written low high before after = (j : ℕ) → Decides (is_among after j) ((is_among before j ≡ true) ⊎ IsToldBy known own written low high j)

abbrev pub AddsTold : Uses → List Span → Bool → ℕ → ℕ → List ℕ → List ℕ → Type 0
AddsTold u own written low high before after = AddsToldBy (known_at u) own written low high before after

-- whether a range has the number that only reads it
abbrev pub read_by : List Span → ℕ → Bool
read_by spans b = list_any (λ s. not s.written && covers s b) spans

-- one more place has read a number, or hasn't
pub record HasRead (old new : Known) (yes : Bool) (place : ℕ) : Type 0 where
  pub writer : new.0 ≡ old.0
  pub readers : (j : ℕ) → is_among new.1 j ≡ (is_among old.1 j || (yes && place == j))
  pub unread : is_none new.1 ≡ (is_none old.1 && not yes)

-- what tells whom a use waits for, by what comes directly before it
abbrev pub WaitsIn : (ℕ → List Span) → ℕ → Bool → ℕ → ℕ → ℕ → Type 0
WaitsIn all k written low high j = (b : ℕ) × (within low high b ≡ true) × IsDirect (clash_on (λ i. used_by (all i) b) (λ i. written_by (all i) b)) k j
    × ((written ≡ true) ⊎ (written_by (all j) b ≡ true))

-- all numbers of a range have one writer, one latest read, and some ranges write all of them or none
pub record IsPart (u : RangeUses) (own : List Span) (low high : ℕ) : Type 0 where
  pub writers : IsLevel u.writers low high
  pub readers : IsLevel u.readers low high
  pub same : (b : ℕ) → within low high b ≡ true → written_by own b ≡ written_by own low
