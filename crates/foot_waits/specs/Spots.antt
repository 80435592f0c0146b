-- A view of code: where items lie on the line.
use Rattle.std.specs.Prelude.{◌≡◌, ℕ, ◌<◌, ◌≤◌, ◌+◌, ◌*◌, ◌^◌, Bool, List, if◌then◌else◌, is_some, true, false}
use Rattle.std.specs.List.{AllByRecursion}
use Rattle.std.specs.Option.{unwrap_or}
use Rattle.world_parts.specs.Items.{Atom, chain_flag, ring_order, slot_at, descriptor_at, description_at, position_of, size_of, byte_at, name_at, names_in, buffer_size, buffer_byte, Item, one, file_bytes, buffer_bytes, all_descriptors, Use, Footprint, reads}
use Rattle.world_parts.specs.Cutting.{is_narrow_use}
use Rattle.use_line.specs.declared.line.Span.{Span}
use Rattle.foot_waits.specs.Names.{name_key, number_at}
use Rattle.foot_waits.specs.Rule.{is_of_descriptors}

abbrev pub Numbers : Type 0
Numbers = List (List ℕ × ℕ)

-- of an atom: what sort it is of, the number of what it is in, and its place there
abbrev pub sort_of : Atom → ℕ
sort_of (chain_flag c) = 0
sort_of (ring_order r) = 1
sort_of (slot_at r n) = 2
sort_of (descriptor_at n) = 3
sort_of (description_at d) = 4
sort_of (position_of d) = 5
sort_of (size_of i) = 6
sort_of (byte_at i p) = 7
sort_of (name_at d n) = 8
sort_of (names_in d) = 9
sort_of (buffer_size r b) = 10
sort_of (buffer_byte r b p) = 11

abbrev pub row_of : Atom → ℕ
row_of (slot_at r n) = r
row_of (byte_at i p) = 256 + i
row_of (buffer_size r b) = r
row_of (buffer_byte r b p) = 256 + (r * 2 ^ 16 + b)
row_of _ = 0

abbrev pub place_of : Numbers → Atom → ℕ
place_of t (chain_flag c) = c
place_of t (ring_order r) = r
place_of t (slot_at r n) = n
place_of t (descriptor_at n) = n
place_of t (description_at d) = d
place_of t (position_of d) = d
place_of t (size_of i) = i
place_of t (byte_at i p) = p
place_of t (name_at d n) = unwrap_or (number_at t (name_key d n)) 0
place_of t (names_in d) = d
place_of t (buffer_size r b) = b
place_of t (buffer_byte r b p) = p

-- the number on the line; those of bytes, which are used in ranges, lie in rows behind the first 256
abbrev pub spot : ℕ → ℕ → ℕ → ℕ
spot sort row place = (row * 16 + sort) * 2 ^ 64 + place

-- of the atoms of a sort in a buffer, the number of the buffer
abbrev pub inner_of : Atom → ℕ
inner_of (buffer_byte r b p) = b
inner_of _ = 0

abbrev pub has_number : Numbers → Atom → Bool
has_number t (name_at d n) = is_some (number_at t (name_key d n))
has_number t _ = true

abbrev pub spot_at : Numbers → Atom → ℕ
spot_at t a = spot (sort_of a) (row_of a) (place_of t a)

-- an atom whose numbers fit, and that is no descriptor
pub record AtomFits (t : Numbers) (a : Atom) : Type 0 where
  pub row : row_of a < 2 ^ 49
  pub inner : inner_of a < 2 ^ 16
  pub place : place_of t a < 2 ^ 64
  pub known : has_number t a ≡ true
  pub other : is_of_descriptors (one a) ≡ false

-- the same of an item: its sort, its row, and its places
abbrev pub sort_in : Item → ℕ
sort_in (one a) = sort_of a
sort_in (file_bytes i low high) = 7
sort_in (buffer_bytes r b low high) = 11
sort_in all_descriptors = 3
sort_in _ = 12

abbrev pub row_in : Item → ℕ
row_in (one a) = row_of a
row_in (file_bytes i low high) = 256 + i
row_in (buffer_bytes r b low high) = 256 + (r * 2 ^ 16 + b)
row_in _ = 0

abbrev pub inner_in : Item → ℕ
inner_in (one a) = inner_of a
inner_in (buffer_bytes r b low high) = b
inner_in _ = 0

abbrev pub low_in : Numbers → Item → ℕ
low_in t (one a) = place_of t a
low_in t (file_bytes i low high) = low
low_in t (buffer_bytes r b low high) = low
low_in t _ = 0

abbrev pub high_in : Numbers → Item → ℕ
high_in t (one a) = place_of t a + 1
high_in t (file_bytes i low high) = high
high_in t (buffer_bytes r b low high) = high
high_in t all_descriptors = 2 ^ 64
high_in t _ = 0

abbrev pub item_known : Numbers → Item → Bool
item_known t (one a) = has_number t a
item_known t _ = true

abbrev pub is_narrow : Item → Bool
is_narrow x = is_narrow_use (reads x)

-- an item whose numbers fit, and that lies in one range
pub record ItemFits (t : Numbers) (x : Item) : Type 0 where
  pub narrow : is_narrow x ≡ true
  pub row : row_in x < 2 ^ 49
  pub inner : inner_in x < 2 ^ 16
  pub high : high_in t x ≤ 2 ^ 64
  pub known : item_known t x ≡ true

-- the range of a use on the line, where those of descriptors have no numbers
abbrev pub span_for : Numbers → Use → Span
span_for t u =
    let edge : ℕ → ℕ = λ place. if is_of_descriptors u.item then 0 else spot (sort_in u.item) (row_in u.item) place in
    record { low = edge (low_in t u.item); high = edge (high_in t u.item); written = u.written }

abbrev pub no_span : Span
no_span = record { low = 0; high = 0; written = false }

-- the uses of an access set, each of which fits, and writes no more than one atom or a range
abbrev pub AllFit : Numbers → Footprint → Type 0
AllFit t f = AllByRecursion (λ u. ItemFits t u.item × (is_narrow_use u ≡ true)) f
