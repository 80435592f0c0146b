-- The model: limits of sizes.
use Rattle.std.specs.Prelude.{ℕ, ◌^◌}

-- The largest size of a file, 2^40 bytes.
abbrev pub file_limit : ℕ
file_limit = 2 ^ 40
