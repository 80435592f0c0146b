-- The model: what each place of a trace waits for, as lines and as a graph, and what that comes to.
use Rattle.std.specs.Prelude.{ℕ, List, [], ◌∷◌, ◌++◌, length, codes}
use Rattle.std.specs.List.{enumerate_from, flat_map, sum_by}
use Rattle.std.specs.Fmt.{decimal}
use Rattle.recording.specs.declared.recording.Recording.{Recording}
use Rattle.replay_report.specs.Report.{line}
use Rattle.round_report.specs.Rounds.{after_text, arrow_line}
use Rattle.round_report.specs.Summary.{greatest, quotient_line}
use Rattle.depend_log.specs.Waits.{Waited}
use Rattle.depend_log.specs.declared.wait.PlaceWaits.{PlaceWaits}
use Rattle.depend_report.specs.Paths.{loads, path_line, spans}

-- The lines of a place: one for each place that it waits for, or its number alone.
abbrev pub wait_line : Recording → ℕ → Waited → List ℕ
wait_line t place w = line (decimal place ++ after_text t w.after w.on)

abbrev pub place_lines : Recording → ℕ → List Waited → List ℕ
place_lines t place [] = line (decimal place)
place_lines t place (w ∷ ws) = flat_map (wait_line t place) (w ∷ ws)

abbrev pub all_lines : Recording → List PlaceWaits → List ℕ
all_lines t ps = flat_map (λ p. place_lines t p.0 p.1.waits) (enumerate_from 0 ps)

-- How many pairs of places there are of which one waits for the other, and how many bytes all places move.
abbrev pub pair_count : List PlaceWaits → ℕ
pair_count ps = sum_by (λ p. length p.waits) ps

abbrev pub bytes_moved : List PlaceWaits → ℕ
bytes_moved ps = sum_by (λ p. p.moved) ps

-- The line of a number.
abbrev pub count_line : List ℕ → ℕ → List ℕ
count_line name n = line (name ++ codes " " ++ decimal n)

-- The lines of the heaviest path, and of how many times its weight all places have.
abbrev pub path_lines : List ℕ → List ℕ → ℕ → List ℕ → List ℕ
path_lines span parallelism whole weights = path_line span weights ++ quotient_line parallelism whole (greatest weights)

-- The lines at the end: how many places and pairs, the longest path, and the same in bytes.
abbrev pub summary : List PlaceWaits → List ℕ
summary ps =
    count_line (codes "places") (length ps) ++ count_line (codes "pairs") (pair_count ps) ++ path_lines (codes "span") (codes "parallelism") (length ps) (spans ps)
    ++ count_line (codes "bytes") (bytes_moved ps) ++ path_lines (codes "span-bytes") (codes "parallelism-bytes") (bytes_moved ps) (loads ps)

-- What the places of a trace wait for, as text.
abbrev pub depends_text : Recording → List PlaceWaits → List ℕ
depends_text t ps = line (codes "uring-depends 1") ++ all_lines t ps ++ summary ps ++ line (codes "end")

-- The node of a place, and the arrows that lead to it.
abbrev pub place_node : Recording → ℕ → List Waited → List ℕ
place_node t place ws = line (codes "  " ++ decimal place ++ codes " [label=\"" ++ decimal place ++ codes "\"];") ++ flat_map (λ w. arrow_line t w.after place w.on) ws

abbrev pub all_nodes : Recording → List PlaceWaits → List ℕ
all_nodes t ps = flat_map (λ p. place_node t p.0 p.1.waits) (enumerate_from 0 ps)

-- The same as a graph, in the language of graphviz.
abbrev pub depends_graph : Recording → List PlaceWaits → List ℕ
depends_graph t ps = line (codes "digraph depends {") ++ all_nodes t ps ++ line (codes "}")
