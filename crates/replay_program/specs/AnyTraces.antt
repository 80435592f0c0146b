-- The model: the trace of any version that a text spells, and what reading one tells of the reader.
use Rattle.std.specs.Prelude.{◌≡◌, ◌⊎◌, ◌≤◌, ⊤, List, Option, ℕ}
use Rattle.std.specs.Io.KnownBytes.{Consumes, IsAtEnd}
use Rattle.trace_format.specs.Grammar.{fault}
use Rattle.trace_format.specs.Text.{SpellsTrace}
use Rattle.trace_format.specs.declared.fault.Kind.TheVariants.{Memory}
use Rattle.trace_records.specs.Front.{places_limit}
use Rattle.trace_records.specs.Tallies.{places}
use Rattle.trace_records.specs.Whole as of_records
use Rattle.replay_core.specs.Comparing.{WantsMemoryOrThread}
use Rattle.replay_program.specs.declared.any_trace.AnyTrace.{AnyTrace}
use Rattle.replay_program.specs.declared.any_trace.AnyTrace.TheVariants.{Whole, Records}
use Rattle.replay_program.specs.declared.fault.RunFault.{RunFault}
use Rattle.replay_program.specs.declared.fault.RunFault.TheVariants.{Trace, Replay, Reports, Read, Write, Different}
use Rattle.replay_program.specs.Runs.{ReadsNoTrace}

-- The text spells the trace.
abbrev pub SpellsAny : List ℕ → AnyTrace → Type 0
SpellsAny text (Whole t) = SpellsTrace text t
SpellsAny text (Records t) = of_records.SpellsTrace text t

-- One of version 3 has at most as many places as such a trace may have. Those of others count them.
abbrev pub HasFewPlaces : AnyTrace → Type 0
HasFewPlaces (Whole t) = ⊤
HasFewPlaces (Records t) = places t.records ≤ places_limit

-- The reader was read to its end, and what it had left spells the trace.
pub record ReadsAny (before after : Option (List ℕ)) (t : AnyTrace) : Type 0 where
  pub text : List ℕ
  pub taken : Consumes before after text
  pub ended : IsAtEnd after
  pub spelled : SpellsAny text t

-- What a fault tells of the reader: a trace is refused by the fault that the text has; memory that ran out before the trace was there is at 0.
abbrev pub TellsOfAny : (left left' : Option (List ℕ)) → RunFault → Type 0
TellsOfAny left left' (Trace f) = (f ≡ fault Memory 0) ⊎ ReadsNoTrace left left' f
TellsOfAny left left' (Replay f) = WantsMemoryOrThread f × ((t : AnyTrace) × ReadsAny left left' t)
TellsOfAny left left' (Reports f) = ⊥
TellsOfAny left left' Read = ⊤
TellsOfAny left left' Different = ⊥
TellsOfAny left left' Write = (t : AnyTrace) × ReadsAny left left' t
