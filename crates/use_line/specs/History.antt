-- The model: which earlier places have used something last, where each place may use it, and may write it.
use Rattle.std.specs.Prelude.{ℕ, zero, suc, Bool, false, ◌&&◌, ◌||◌, ◌==◌, Option, Some, None, if◌then◌else◌}

-- The latest place below a number that writes it.
abbrev pub latest_writer : (ℕ → Bool) → ℕ → Option ℕ
latest_writer writes zero = None
latest_writer writes (suc n) = if writes n then Some n else latest_writer writes n

-- Whether a place below a number has used it since it was written last, and whether one has.
abbrev pub has_read : (ℕ → Bool) → (ℕ → Bool) → ℕ → ℕ → Bool
has_read uses writes zero j = false
has_read uses writes (suc n) j = if writes n then false else ((uses n && n == j) || has_read uses writes n j)

abbrev pub is_read : (ℕ → Bool) → (ℕ → Bool) → ℕ → Bool
is_read uses writes zero = false
is_read uses writes (suc n) = if writes n then false else (uses n || is_read uses writes n)

-- Whether a number is the one that there is.
abbrev pub is_number : ℕ → Option ℕ → Bool
is_number j None = false
is_number j (Some i) = i == j

-- For whom a place waits by one of its uses, which writes or only reads: one that writes waits for all that have read since the last write, or else for that write; one that only reads for that write, unless the place writes, too, and one has read since.
abbrev pub waits_by : (ℕ → Bool) → (ℕ → Bool) → ℕ → Bool → ℕ → Bool
waits_by uses writes k written j =
    if is_read uses writes k then (if written then has_read uses writes k j else (if writes k then false else is_number j (latest_writer writes k)))
    else is_number j (latest_writer writes k)
