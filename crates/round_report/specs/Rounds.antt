-- The model: the rounds of a trace, and for which place each one waited last, as lines and as a graph.
use Rattle.std.specs.Prelude.{ℕ, ◌==◌, ◌||◌, List, [], ◌∷◌, ◌++◌, map, length, codes, Option, Some, None, slice_index_or, if◌then◌else◌}
use Rattle.std.specs.List.{flat_map, range_with_len}
use Rattle.std.specs.Option.{option_map}
use Rattle.std.specs.Fmt.{decimal}
use Rattle.recording.specs.declared.recording.Recording.{Recording}
use Rattle.recording.specs.Steps.{places}
use Rattle.world_parts.specs.Items.{Item}
use Rattle.wave_pick.specs.Holding.{Holder}
use Rattle.wave_pick.specs.Rounds.{rounds}
use Rattle.replay_core.specs.Waits.{waited_for, waited_meant}
use Rattle.replay_core.specs.declared.round_log.RoundLog.{RoundLog}
use Rattle.replay_report.specs.Report.{line}
use Rattle.round_report.specs.Naming.{item_text}
use Rattle.round_report.specs.Summary.{summary}

-- The number of each place's round, and what it waited for in the round before.
pub record Log : Type 0 where
  pub rounds : List ℕ
  pub waits : List (Option Holder)

-- The log of a trace for a window, and the one that a value of the program means.
abbrev pub log_of : Recording → ℕ → Log
log_of t window = record { rounds = rounds t window; waits = map (waited_for t window) (range_with_len 0 (places t)) }

abbrev pub log_meant : RoundLog → Log
log_meant log = record { rounds = log.rounds; waits = map (option_map waited_meant) log.waits }

-- For which place another one waits, and what both use.
abbrev pub after_text : Recording → ℕ → Item → List ℕ
after_text t earlier item = codes " after=" ++ decimal earlier ++ codes " on=" ++ item_text t item

-- A place that had to wait: the one that it waited for last, and what both use.
abbrev pub wait_text : Recording → Option Holder → List ℕ
wait_text t None = []
wait_text t (Some h) = after_text t h.place h.item

-- The line of a place.
abbrev pub place_line : Recording → ℕ → ℕ → Option Holder → List ℕ
place_line t place round wait = line (decimal place ++ codes " round=" ++ decimal round ++ wait_text t wait)

abbrev pub logged_line : Recording → Log → ℕ → List ℕ
logged_line t log place = place_line t place (slice_index_or log.rounds place 0) (slice_index_or log.waits place None)

-- The rounds as text: a line for each place, and what they come to.
abbrev pub rounds_text : Recording → Log → List ℕ
rounds_text t log =
    line (codes "uring-rounds 1") ++ flat_map (logged_line t log) (range_with_len 0 (length log.rounds)) ++ summary log.rounds log.waits ++ line (codes "end")

-- A byte inside the quotation marks of a graph's label.
abbrev pub quoted_byte : ℕ → List ℕ
quoted_byte byte = if byte == 34 || byte == 92 then 92 ∷ byte ∷ [] else byte ∷ []

abbrev pub quoted : List ℕ → List ℕ
quoted text = flat_map quoted_byte text

-- The arrow from a place to one that waits for it, with what both use.
abbrev pub arrow_line : Recording → ℕ → ℕ → Item → List ℕ
arrow_line t earlier place item =
    line (codes "  " ++ decimal earlier ++ codes " -> " ++ decimal place ++ codes " [label=\"" ++ quoted (item_text t item) ++ codes "\"];")

-- The arrow from the place that another one waited for.
abbrev pub arrow : Recording → ℕ → Option Holder → List ℕ
arrow t place None = []
arrow t place (Some h) = arrow_line t h.place place h.item

-- The node of a place, and the arrow that leads to it.
abbrev pub place_node : Recording → ℕ → ℕ → Option Holder → List ℕ
place_node t place round wait =
    line (codes "  " ++ decimal place ++ codes " [label=\"" ++ decimal place ++ codes " in round " ++ decimal round ++ codes "\"];") ++ arrow t place wait

abbrev pub logged_node : Recording → Log → ℕ → List ℕ
logged_node t log place = place_node t place (slice_index_or log.rounds place 0) (slice_index_or log.waits place None)

-- The rounds as a graph, in the language of graphviz.
abbrev pub graph_text : Recording → Log → List ℕ
graph_text t log = line (codes "digraph rounds {") ++ flat_map (logged_node t log) (range_with_len 0 (length log.rounds)) ++ line (codes "}")
