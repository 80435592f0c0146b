-- The model: the sum of a large file, made of the sums of its pieces.
use Rattle.std.specs.Prelude.{ℕ, ◌*◌, ◌/◌, ◌%◌, ◌==◌, List, [], ◌++◌, length, take, drop, if◌then◌else◌}
use Rattle.std.specs.List.{flat_map, range_with_len}
use Rattle.sha2.specs.Sha256.{sha256}

-- The most bytes of a file that has a sum of its own, and of a piece of one that has not.
abbrev pub most_summed : ℕ
most_summed = 16777216

-- A full piece, by its number.
abbrev pub piece : ℕ → List ℕ → ℕ → List ℕ
piece most bytes number = take most (drop (number * most) bytes)

-- The SHA-256 sum of what is left behind the full pieces, where something is.
abbrev pub rest_sum : ℕ → List ℕ → List ℕ
rest_sum most bytes = if length bytes % most == 0 then [] else sha256 (drop (length bytes / most * most) bytes)

-- The sums of the pieces, of 32 bytes each, one behind another.
abbrev pub piece_sums : ℕ → List ℕ → List ℕ
piece_sums most bytes = flat_map (λ number. sha256 (piece most bytes number)) (range_with_len 0 (length bytes / most)) ++ rest_sum most bytes

-- The sum of a large file is that of the sums of its pieces.
unfoldable pub tree_sum : List ℕ → List ℕ
tree_sum bytes = sha256 (piece_sums most_summed bytes)
