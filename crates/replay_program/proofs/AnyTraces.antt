-- A trace of any version that was read from a reader.
use Rattle.std.proofs.Common.{◌++◌, ◌≤◌, ℕ, List, Vec, Global, length}
use Rattle.std.specs.Prelude.{Option}
use Rattle.std.proofs.KnownBytes.{Consumes-trans}
use Rattle.trace_format.specs.Text.{longest}
use Rattle.trace_stream.specs.Streams.{ReadsAll}
use Rattle.replay_program.specs.AnyTraces.{ReadsAny, SpellsAny}
use Rattle.replay_program.specs.Taking.{TakesText}
use Rattle.replay_program.specs.declared.any_trace.AnyTrace.{AnyTrace}
use Rattle.replay_program.specs.declared.recordings.Taken.TheVariants.{Head, Whole}

pub reads_whole : (a b : Option (List ℕ)) (text : Vec ℕ Global) (t : AnyTrace) → TakesText a b (Whole text) → length text.items ≤ longest → SpellsAny text.items t → ReadsAny a b t
reads_whole a b text t took le is = record { text = text.items; taken = took.0; ended = took.2 le; spelled = is }

pub reads_stream : (a b c : Option (List ℕ)) (head : Vec ℕ Global) (t : AnyTrace) → TakesText a b (Head head) → ReadsAll head.items b c (λ text. SpellsAny text t) → ReadsAny a c t
reads_stream a b c head t took all = record {
  text = head.items ++ all.more;
  taken = Consumes-trans a b c head.items all.more took.0 all.taken;
  ended = all.ended;
  spelled = all.is;
}
