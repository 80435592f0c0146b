-- A view of code: what sets of ranges, and of names, have.
use Rattle.std.specs.Prelude.{◌≡◌, ℕ, Bool, true, ◌&&◌, ◌||◌, ◌==◌, ltb, List}
use Rattle.world_parts.specs.Items.{ranges_meet}
use Rattle.std.specs.List.{list_any}
use Rattle.std.specs.Str.{bytes_eq}
use Rattle.item_index.specs.Spans.{covers, crosses, has_some}

-- whether the ranges of files have a byte of a file, a byte of a range of it, or one of any file below a number
abbrev pub file_covers : List (ℕ × List (ℕ × ℕ)) → ℕ → ℕ → Bool
file_covers s i p = list_any (λ f. f.0 == i && covers f.1 p) s

abbrev pub file_crosses : List (ℕ × List (ℕ × ℕ)) → ℕ → ℕ → ℕ → Bool
file_crosses s i from to = list_any (λ f. f.0 == i && crosses f.1 from to) s

abbrev pub files_below : List (ℕ × List (ℕ × ℕ)) → ℕ → Bool
files_below s n = list_any (λ f. ltb f.0 n && has_some f.1) s

-- whether those of buffers have a byte of one, or a byte of a range of it
abbrev pub buffer_covers : List ((ℕ × ℕ) × List (ℕ × ℕ)) → ℕ → ℕ → ℕ → Bool
buffer_covers s r b p = list_any (λ q. q.0.0 == r && q.0.1 == b && covers q.1 p) s

abbrev pub buffer_crosses : List ((ℕ × ℕ) × List (ℕ × ℕ)) → ℕ → ℕ → ℕ → ℕ → Bool
buffer_crosses s r b from to = list_any (λ q. q.0.0 == r && q.0.1 == b && crosses q.1 from to) s

-- the new ones have bytes of a range where the old ones do, or a range of one buffer does
abbrev pub CrossesMore : List ((ℕ × ℕ) × List (ℕ × ℕ)) → List ((ℕ × ℕ) × List (ℕ × ℕ)) → ℕ → ℕ → ℕ → ℕ → Type 0
CrossesMore old new ring index low high =
    (r b from to : ℕ) → buffer_crosses new r b from to ≡ (buffer_crosses old r b from to || (ring == r && index == b && ranges_meet low high from to))

-- whether the names have one of a directory, or some of a directory below a number
abbrev pub has_name : List (ℕ × List (List ℕ)) → ℕ → List ℕ → Bool
has_name s d n = list_any (λ k. d == k.0 && list_any (bytes_eq n) k.1) s

abbrev pub names_below : List (ℕ × List (List ℕ)) → ℕ → Bool
names_below s n = list_any (λ k. ltb k.0 n && list_any (λ m. true) k.1) s
