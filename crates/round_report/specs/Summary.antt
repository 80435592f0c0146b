-- The model: what the rounds of a replay come to: how many, how wide, and the longest path of places that wait for each other.
use Rattle.std.specs.Prelude.{ℕ, suc, ◌*◌, ◌/◌, ◌%◌, ◌==◌, max, List, [], ◌∷◌, ◌++◌, map, length, fold, count_by, position, codes, Option, Some, None, slice_index_or, if◌then◌else◌}
use Rattle.std.specs.List.{range_with_len}
use Rattle.std.specs.Fmt.{decimal}
use Rattle.replay_report.specs.Report.{line}
use Rattle.wave_pick.specs.Holding.{Holder}

-- The greatest of some numbers, 0 where there is none.
abbrev pub greatest : List ℕ → ℕ
greatest ns = fold max 0 ns

-- How many rounds there are: they are numbered from 0.
abbrev pub round_count : List ℕ → ℕ
round_count rounds = greatest (map suc rounds)

-- How many places run in a round, and in the widest.
abbrev pub width : List ℕ → ℕ → ℕ
width rounds r = count_by (λ round. round == r) rounds

abbrev pub widest : List ℕ → ℕ
widest rounds = greatest (map (width rounds) (range_with_len 0 (round_count rounds)))

-- How many hundredths of a place there are in the mean in each of so many rounds, rounded down; none where there is no round.
abbrev pub mean_of : ℕ → ℕ → ℕ
mean_of places count = if count == 0 then 0 else places * 100 / count

-- Hundredths as a number with two digits behind its point.
abbrev pub hundredths : ℕ → List ℕ
hundredths n = decimal (n / 100) ++ codes "." ++ decimal (n / 10 % 10) ++ decimal (n % 10)

-- The line of a quotient.
abbrev pub quotient_line : List ℕ → ℕ → ℕ → List ℕ
quotient_line name whole part = line (name ++ codes " " ++ hundredths (mean_of whole part))

-- How many places the longest path has that ends with the place for which a place waited; none where it didn't wait.
abbrev pub length_before : List ℕ → Option Holder → ℕ
length_before lengths None = 0
length_before lengths (Some h) = slice_index_or lengths h.place 0

-- How many places the longest path has that ends with each place, behind those of earlier places: itself, and those before it.
abbrev pub path_lengths : List ℕ → List (Option Holder) → List ℕ
path_lengths lengths [] = lengths
path_lengths lengths (wait ∷ waits) = path_lengths (lengths ++ suc (length_before lengths wait) ∷ []) waits

-- The first place with which a path of the greatest length ends.
abbrev pub ending_text : Option ℕ → List ℕ
ending_text None = []
ending_text (Some place) = codes " to place " ++ decimal place

abbrev pub longest_line : List ℕ → List ℕ
longest_line lengths = line (codes "longest " ++ decimal (greatest lengths) ++ ending_text (position (λ n. n == greatest lengths) lengths))

-- The lines at the end of a log: how many rounds, how many places the widest has and the mean, and the longest path.
abbrev pub summary : List ℕ → List (Option Holder) → List ℕ
summary rounds waits =
    line (codes "rounds " ++ decimal (round_count rounds)) ++ line (codes "widest " ++ decimal (widest rounds))
    ++ quotient_line (codes "mean") (length rounds) (round_count rounds) ++ longest_line (path_lengths [] waits)
