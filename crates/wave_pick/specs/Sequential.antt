-- A law: the run that orders and rounds are compared with is the model's sequential run.
use Rattle.std.specs.Prelude.{◌≡◌, ℕ, ◌<◌, ◌≤◌, List, Some, slice_get, length}
use Rattle.interleaving.specs.System.{sequential}
use Rattle.interleaving.specs.Machine.{Event, State, reply_of, opening, run, AllLegal, IsComplete}
use Rattle.recording.specs.declared.recording.Recording.{Recording}
use Rattle.recording.specs.Steps.{places}
use Rattle.op_meaning.specs.Step.{run_world, step_reply, sequential_world, sequential_replies}
use Rattle.foot_print.specs.Replayed.{replayed}
use Rattle.wave_pick.specs.Rounds.{state_after}

-- One at a time, the places go through the worlds of the model's run, and each has the reply that the model keeps for it.
pub record RunsAsTheModel (t : Recording) : Type 0 where
  pub worlds : (n : ℕ) → sequential (replayed t) n ≡ run_world t n
  pub replies : (k : ℕ) → k < places t → slice_get (sequential_replies t) k ≡ step_reply t k (sequential (replayed t) k)
  pub each_place : length (sequential_replies t) ≡ places t

-- The state has the model's world after all places, and for each place the model's reply.
pub record EndsAsTheModel (t : Recording) (s : State (replayed t)) : Type 0 where
  pub world : s.world ≡ sequential_world t
  pub replies : (k : ℕ) → k < places t → reply_of s.replies k ≡ Some (slice_get (sequential_replies t) k)

-- Every legal and complete list of events ends so.
abbrev pub OrdersEndAsTheModel : Recording → Type 0
OrdersEndAsTheModel t = (es : List Event) → let m = replayed t in AllLegal m (places t) (opening m) es → IsComplete m (places t) (run m (opening m) es) → EndsAsTheModel t (run m (opening m) es)

-- So do rounds, as many as there are places or more.
abbrev pub RoundsEndAsTheModel : Recording → Type 0
RoundsEndAsTheModel t = (window r : ℕ) → 1 ≤ window → places t ≤ r → EndsAsTheModel t (state_after t window r)
