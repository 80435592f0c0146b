use Rattle.sweep_laws.proofs.Streams.{sweep_is_behind, swept_begins, swept_ends, swept_goes_on, swept_replies}
use Rattle.sweep_laws.proofs.laws.swept_replays_are_sequential.Goals as goal

pub returns : goal.returns
returns c = record { begins = swept_begins; replies = swept_replies; goes_on = swept_goes_on; sweeps = sweep_is_behind; ends = swept_ends }
