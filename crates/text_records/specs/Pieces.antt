-- The model: which line of a text makes a byte of its trace.
use Rattle.std.specs.Prelude.{ℕ, ◌-◌, nat_lt, List, [], ◌∷◌, ◌++◌, Option, None, Some, if◌then◌else◌}
use Rattle.text_records.specs.declared.pieces.Piece.{Piece}

-- The lines so far with bytes that one more makes: so many, and how many bytes of the text are left from its first word on.
abbrev pub with_piece : List Piece → ℕ → ℕ → List Piece
with_piece pieces len left = pieces ++ record { len = len; left = left } ∷ []

-- how many bytes of the text are left from the line on that makes the byte of a number, from 0
abbrev pub left_at : ℕ → List Piece → Option ℕ
left_at at [] = None
left_at at (p ∷ pieces) = if nat_lt at p.len then Some p.left else left_at (at - p.len) pieces
