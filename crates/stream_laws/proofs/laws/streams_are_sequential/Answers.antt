use Rattle.stream_laws.proofs.Streams.{replies_are_in_order, stream_begins, stream_ends, stream_goes_on, stream_replies}
use Rattle.stream_laws.proofs.laws.streams_are_sequential.Goals as goal

pub returns : goal.returns
returns c = record { begins = stream_begins; replies = stream_replies; in_order = replies_are_in_order; goes_on = stream_goes_on; ends = stream_ends }
