-- The model: the heaviest paths of places each of which waits for the one before it.
use Rattle.std.specs.Prelude.{ℕ, ◌+◌, ◌==◌, List, [], ◌∷◌, ◌++◌, map, position, codes, Option, None, slice_index_or, if◌then◌else◌}
use Rattle.std.specs.Fmt.{decimal}
use Rattle.replay_report.specs.Report.{line}
use Rattle.round_report.specs.Summary.{ending_text, greatest}
use Rattle.depend_log.specs.Waits.{Waited}
use Rattle.depend_log.specs.declared.wait.PlaceWaits.{PlaceWaits}

-- The weight of the heaviest path that ends with one of the places that are waited for; none where there are none.
abbrev pub heaviest_before : List ℕ → List Waited → ℕ
heaviest_before weights waits = greatest (map (λ w. slice_index_or weights w.after 0) waits)

-- The weight of the heaviest path that ends with each place, behind those of earlier places: its own, and that of the places before it.
abbrev pub path_weights : (PlaceWaits → ℕ) → List ℕ → List PlaceWaits → List ℕ
path_weights weight weights [] = weights
path_weights weight weights (p ∷ ps) = path_weights weight (weights ++ (weight p + heaviest_before weights p.waits) ∷ []) ps

-- How many places the longest path has that ends with each place, and how many bytes the heaviest one moves.
abbrev pub spans : List PlaceWaits → List ℕ
spans ps = path_weights (λ p. 1) [] ps

abbrev pub loads : List PlaceWaits → List ℕ
loads ps = path_weights (λ p. p.moved) [] ps

-- The first place with which a path of the greatest weight ends; none where no path has any.
abbrev pub heaviest_place : List ℕ → Option ℕ
heaviest_place weights = if greatest weights == 0 then None else position (λ n. n == greatest weights) weights

-- The line of the heaviest path.
abbrev pub path_line : List ℕ → List ℕ → List ℕ
path_line name weights = line (name ++ codes " " ++ decimal (greatest weights) ++ ending_text (heaviest_place weights))
