-- A law: what is shown of a trace is read as that trace.
use Rattle.std.specs.Prelude.{◌≡◌, ℕ, List, None, Ok}
use Rattle.sqe_codec.specs.Fields.{IsBytes}
use Rattle.trace_format.specs.declared.trace.Trace.{Trace}
use Rattle.trace_format.specs.Text.{SpellsTrace}
use Rattle.trace_text.specs.declared.look.Look.{Look}
use Rattle.trace_text.specs.Shown.{text_of}
use Rattle.text_trace.specs.Whole.{meaning}

-- The text of a trace that bytes spell means those bytes, where all bytes are shown, with places or without.
abbrev pub ShownComesBack : Type 0
ShownComesBack = (look : Look) (bytes : List ℕ) (t : Trace) → look.first ≡ None → IsBytes bytes → SpellsTrace bytes t → meaning (text_of look t) ≡ Ok bytes
