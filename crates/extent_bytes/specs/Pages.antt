-- A view of code: the bytes that stored pages of 4,096 bytes stand for.
use Rattle.std.specs.Prelude.{◌≡◌, ℕ, ◌+◌, ◌-◌, ◌*◌, ◌/◌, ◌%◌, ◌<◌, ◌≤◌, max, min, List, Option, None, Some, IsSome, map, length, replicate, slice_get, slice_index}
use Rattle.std.specs.List.{range_with_len}
use Rattle.std.specs.Prelude.{Bool, true, false, nat_lt, if◌then◌else◌}
use Rattle.extent_bytes.specs.Bytes.{overwritten}
use Rattle.extent_bytes.specs.declared.pages.Pages.{Pages}
use Rattle.extent_bytes.specs.declared.pages.Pages.TheVariants.{Leaf, Fork'}

-- A page of zeros.
unfoldable pub blank_page : List ℕ
blank_page = replicate 4096 0

-- Pages by their numbers.
abbrev pub PageMap : Type 0
PageMap = Pages

-- The byte at i of a page, where a page that is not there is zeros.
abbrev pub page_byte : Option (List ℕ) → ℕ → ℕ
page_byte None i = 0
page_byte (Some page) i = slice_index page i

-- What is stored at a place of a leaf, which may lie behind its last.
abbrev pub stored_at : Option (Option (List ℕ)) → Option (List ℕ)
stored_at None = None
stored_at (Some page) = page

-- The page of a number: a leaf's at that place; a fork's on its left side below the width, and else on its right.
abbrev pub page_of : PageMap → ℕ → Option (List ℕ)
page_of (Leaf places) number = stored_at (slice_get places.items number)
page_of (Fork' p left width q right height) number = if nat_lt number width then page_of left number else page_of right (number - width)

-- How many forks lie one above another.
abbrev pub levels : PageMap → ℕ
levels (Leaf places) = 0
levels (Fork' p left width q right height) = max (levels left) (levels right) + 1

-- The pages of the one below a width, and from there on those of the other.
abbrev pub IsJoined : PageMap → ℕ → PageMap → PageMap → Type 0
IsJoined left width right whole = (j : ℕ) → page_of whole j ≡ (if nat_lt j width then page_of left j else page_of right (j - width))

-- What is stored at a place where the first places, up to a width, have others behind them.
abbrev pub place_joined : List (Option (List ℕ)) → ℕ → List (Option (List ℕ)) → ℕ → Option (List ℕ)
place_joined first width second j = if nat_lt j width then stored_at (slice_get first j) else stored_at (slice_get second (j - width))

-- Both have the same page of each number.
abbrev pub SamePages : PageMap → PageMap → Type 0
SamePages old new = (j : ℕ) → page_of new j ≡ page_of old j

-- The byte at a position p: page p / 4096 holds it, at p % 4096.
unfoldable pub byte_at : PageMap → ℕ → ℕ
byte_at pages p = page_byte (page_of pages (p / 4096)) (p % 4096)

-- The byte at a position of pages that lie one behind another.
unfoldable pub byte_in : List (List ℕ) → ℕ → ℕ
byte_in pages p = page_byte (slice_get pages (p / 4096)) (p % 4096)

-- So many bytes from a position on, by the byte at each position.
unfoldable pub bytes_from : (ℕ → ℕ) → ℕ → ℕ → List ℕ
bytes_from byte start len = map (λ i. byte (start + i)) (range_with_len 0 len)

-- The bytes of a map from a position on.
abbrev pub bytes_of : PageMap → ℕ → ℕ → List ℕ
bytes_of pages = bytes_from (byte_at pages)

-- Both have the same byte at each position.
abbrev pub SameBytes : PageMap → PageMap → Type 0
SameBytes old new = (p : ℕ) → byte_at new p ≡ byte_at old p

-- Both have the same byte at each position below a bound.
abbrev pub SameBelow : PageMap → PageMap → ℕ → Type 0
SameBelow old new bound = (p : ℕ) → p < bound → byte_at new p ≡ byte_at old p

-- The patch has taken the place of the pages from first up to end, which have none where it has none.
pub record Replaced (old new : PageMap) (first end : ℕ) (patch : PageMap) : Type 0 where
  pub taken : (j : ℕ) → first + j < end → page_of new (first + j) ≡ page_of patch j
  pub below : (j : ℕ) → j < first → page_of new j ≡ page_of old j
  pub above : (j : ℕ) → end ≤ j → page_of new j ≡ page_of old j

-- It has, or it is left and all is as it was.
abbrev pub IsSpliced : Option PageMap → PageMap → PageMap → ℕ → ℕ → PageMap → Type 0
IsSpliced None old new first end patch = Replaced old new first end patch
IsSpliced (Some left) old new first end patch = (left ≡ patch) × SamePages old new

-- The bytes from one position on are those of another map from another position on.
abbrev pub SameRange : PageMap → ℕ → PageMap → ℕ → ℕ → Type 0
SameRange old from new to len = (i : ℕ) → i < len → byte_at new (to + i) ≡ byte_at old (from + i)

-- The new bytes are f from lo up to hi, and elsewhere the old ones.
pub record Overlaid (old new : PageMap) (lo hi : ℕ) (f : ℕ → ℕ) : Type 0 where
  pub below : (p : ℕ) → p < lo → byte_at new p ≡ byte_at old p
  pub inside : (p : ℕ) → lo ≤ p → p < hi → byte_at new p ≡ f p
  pub above : (p : ℕ) → hi ≤ p → byte_at new p ≡ byte_at old p

-- The bytes bs are written into the page of a number, from an offset in it on.
abbrev pub PageWritten : PageMap → PageMap → ℕ → ℕ → List ℕ → Type 0
PageWritten old new number at bs =
    Overlaid old new (number * 4096 + at) (number * 4096 + (at + length bs)) (λ p. slice_index bs (p - (number * 4096 + at)))

-- The bytes bs are written into a page from an offset on, where it is there; where not, there is none still.
abbrev pub IsRewritten : Bool → Option (List ℕ) → Option (List ℕ) → ℕ → List ℕ → Type 0
IsRewritten true None new at bs = ⊥
IsRewritten true (Some page) new at bs = new ≡ Some (overwritten page at bs)
IsRewritten false old new at bs = (old ≡ None) × (new ≡ None)

-- A part of that page is the same part of a page of another map.
abbrev pub PageCopied : PageMap → PageMap → ℕ → ℕ → ℕ → PageMap → ℕ → Type 0
PageCopied old new number from to source source_number =
    Overlaid old new (number * 4096 + from) (number * 4096 + to) (λ p. byte_at source (source_number * 4096 + (p - number * 4096)))

-- The bytes of the page of a number that lie from start up to end are written from target on.
abbrev pub PageMoved : PageMap → PageMap → List ℕ → ℕ → ℕ → ℕ → ℕ → Type 0
PageMoved old new page number start end target =
    Overlaid old new (target + (max start (number * 4096) - start)) (target + (min end (number * 4096 + 4096) - start))
    (λ p. slice_index page (start + (p - target) - number * 4096))

-- A patch, which lay over the range from lo up to hi, now has the pages from first up to end whole.
pub record Completed (pages old new : PageMap) (first end lo hi : ℕ) : Type 0 where
  pub below : (p : ℕ) → first * 4096 ≤ p → p < lo → byte_at new (p - first * 4096) ≡ byte_at pages p
  pub inside : (p : ℕ) → lo ≤ p → p < hi → byte_at new (p - first * 4096) ≡ byte_at old (p - first * 4096)
  pub above : (p : ℕ) → hi ≤ p → p < end * 4096 → byte_at new (p - first * 4096) ≡ byte_at pages p

-- The new bytes are zeros from lo up to `at`, then bs, and elsewhere the old ones.
pub record WrittenAt (old new : PageMap) (lo at : ℕ) (bs : List ℕ) : Type 0 where
  pub below : (p : ℕ) → p < lo → byte_at new p ≡ byte_at old p
  pub gap : (p : ℕ) → lo ≤ p → p < at → byte_at new p ≡ 0
  pub inside : (p : ℕ) → at ≤ p → p < at + length bs → byte_at new p ≡ slice_index bs (p - at)
  pub above : (p : ℕ) → at + length bs ≤ p → byte_at new p ≡ byte_at old p

-- The bytes bs lie from a position on.
abbrev pub HoldsAt : (ℕ → ℕ) → ℕ → List ℕ → Type 0
HoldsAt byte at bs = (i : ℕ) → i < length bs → byte (at + i) ≡ slice_index bs i

-- The bytes of the page of a number that lie from start up to end are others from a position on.
abbrev pub PageAgrees : List ℕ → ℕ → ℕ → ℕ → (ℕ → ℕ) → ℕ → Type 0
PageAgrees page number start end other other_start =
    (i : ℕ) → start + i < end → (start + i) / 4096 ≡ number →
    other (other_start + i) ≡ slice_index page ((start + i) % 4096)

-- So are those of all stored pages of a map.
abbrev pub StoredAgree : PageMap → ℕ → ℕ → (ℕ → ℕ) → ℕ → Type 0
StoredAgree pages start end other other_start =
    (i : ℕ) → start + i < end → IsSome (page_of pages ((start + i) / 4096)) →
    other (other_start + i) ≡ byte_at pages (start + i)
