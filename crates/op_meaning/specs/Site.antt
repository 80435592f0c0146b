-- A view of code: what is known of where an entry stands.
use Rattle.std.specs.Prelude.{ℕ, ◌<◌}
use Rattle.recording.specs.declared.recording.Recording.{Recording}
use Rattle.recording.specs.Steps.{places}
use Rattle.recording.specs.Accepted.{IsAccepted}
use Rattle.op_meaning.specs.Meaning as model
use Rattle.op_meaning.specs.declared.site.Site.{Site}

-- the trace is one that some bytes spell, and the place is one of its places
pub record IsSite (x : Site) : Type 0 where
  pub trace : IsAccepted x.trace.now
  pub place : x.place < places x.trace.now

-- where the model has it
abbrev pub site_meant : Site → model.Site
site_meant x = record { trace = x.trace.now; place = x.place; ring = x.ring }

-- the same by its parts; of a ring, for what goes by no place, and of a place, for what goes by no ring
abbrev pub sited : Recording → (place ring : ℕ) → model.Site
sited t k r = record { trace = t; place = k; ring = r }

abbrev pub in_ring : Recording → (ring : ℕ) → model.Site
in_ring t r = sited t 0 r

abbrev pub at_place : Recording → (place : ℕ) → model.Site
at_place t k = sited t k 0
