-- The model: the texts of a trace, by what each of its places waits for.
use Rattle.std.specs.Prelude.{◌≡◌, ℕ, Bool, true, false, ◌<◌, List, length, slice_index_or}
use Rattle.recording.specs.declared.recording.Recording.{Recording}
use Rattle.recording.specs.Steps.{places}
use Rattle.depend_log.specs.Places.{IsPlaceWaits}
use Rattle.depend_log.specs.declared.wait.PlaceWaits.{PlaceWaits}
use Rattle.depend_report.specs.Depends.{depends_graph, depends_text}

-- Of the first places, in order, what each waits for and how much it moves.
pub record AreFirst (t : Recording) (ps : List PlaceWaits) (n : ℕ) : Type 0 where
  pub many : length ps ≡ n
  pub each : (k : ℕ) (d : PlaceWaits) → k < n → IsPlaceWaits t k (slice_index_or ps k d)

-- The text of some places: lines, or a graph.
abbrev pub text_of : Bool → Recording → List PlaceWaits → List ℕ
text_of false t ps = depends_text t ps
text_of true t ps = depends_graph t ps

-- The text of all places of a trace.
pub record IsTextOf (dot : Bool) (t : Recording) (bytes : List ℕ) : Type 0 where
  pub ps : List PlaceWaits
  pub waits : AreFirst t ps (places t)
  pub text : bytes ≡ text_of dot t ps
