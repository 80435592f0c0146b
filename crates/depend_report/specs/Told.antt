-- A view of code: what a text holds before its end, and what is kept of its places.
use Rattle.std.specs.Prelude.{ℕ, ◌++◌, List, length, codes}
use Rattle.recording.specs.declared.recording.Recording.{Recording}
use Rattle.replay_report.specs.Report.{line}
use Rattle.depend_log.specs.declared.wait.PlaceWaits.{PlaceWaits}
use Rattle.depend_report.specs.Depends.{all_lines, all_nodes, bytes_moved, count_line, pair_count, path_lines}
use Rattle.depend_report.specs.Paths as paths

-- The lines so far, the heaviest paths that end with each place, and two sums.
pub record Told : Type 0 where
  pub text : List ℕ
  pub spans : List ℕ
  pub loads : List ℕ
  pub pairs : ℕ
  pub bytes : ℕ

-- What is told of some places.
abbrev pub told : Recording → List PlaceWaits → Told
told t ps = record { text = line (codes "uring-depends 1") ++ all_lines t ps; spans = paths.spans ps; loads = paths.loads ps; pairs = pair_count ps; bytes = bytes_moved ps }

-- The lines at the end that are told of them.
abbrev pub ending : List ℕ → List ℕ → ℕ → ℕ → List ℕ
ending spans loads pairs bytes =
    count_line (codes "places") (length spans) ++ count_line (codes "pairs") pairs ++ path_lines (codes "span") (codes "parallelism") (length spans) spans
    ++ count_line (codes "bytes") bytes ++ path_lines (codes "span-bytes") (codes "parallelism-bytes") bytes loads

-- The nodes so far, and how many.
pub record Drawn : Type 0 where
  pub text : List ℕ
  pub places : ℕ

abbrev pub drawn : Recording → List PlaceWaits → Drawn
drawn t ps = record { text = line (codes "digraph depends {") ++ all_nodes t ps; places = length ps }
