-- A law: any order that keeps what places depend on ends as the model's sequential run.
use Rattle.std.specs.Prelude.{ℕ, Bool, List}
use Rattle.interleaving.specs.Dependencies.{AllDue, Suffices}
use Rattle.interleaving.specs.Machine.{Event, opening, run, IsComplete}
use Rattle.recording.specs.declared.recording.Recording.{Recording}
use Rattle.recording.specs.Steps.{places}
use Rattle.foot_print.specs.Replayed.{replayed}
use Rattle.wave_pick.specs.Sequential.{EndsAsTheModel}

-- Every complete list of events in which each place waits for all that it depends on, itself or through others, gives the model's world and replies.
abbrev pub DueOrdersEndAsTheModel : Recording → Type 0
DueOrdersEndAsTheModel t = (waits : ℕ → ℕ → Bool) (es : List Event) → let m = replayed t in Suffices m waits (places t) → AllDue m waits (places t) (opening m) es
    → IsComplete m (places t) (run m (opening m) es) → EndsAsTheModel t (run m (opening m) es)
