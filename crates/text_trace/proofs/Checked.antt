-- The bytes of a trace, by what reading them gives.
use Rattle.std.proofs.Common.{◌≡◌, ◌⊎◌, ℕ, List, length, Result, Ok, Err, ap, subst, sym, ◌∙◌, inl, inr}
use Rattle.std.specs.Prelude.{unwrap_or}
use Rattle.trace_format.specs.declared.fault.Kind.TheVariants.{Memory}
use Rattle.trace_format.specs.declared.fault.TraceFault.{TraceFault}
use Rattle.trace_format.specs.declared.trace.Trace.{Trace}
use Rattle.trace_format.specs.Grammar as grammar
use Rattle.trace_format.specs.Read.{reading_trace}
use Rattle.trace_format.specs.Spelling.{trace_bytes}
use Rattle.trace_format.specs.Text.{IsRefusal, SpellsTrace}
use Rattle.trace_format.proofs.Whole.{reading_from_fault, reading_from_spells}
use Rattle.text_words.specs.declared.fault.Fault.{Fault}
use Rattle.text_words.specs.declared.fault.Reason.TheVariants as why
use Rattle.text_words.specs.Read.{fault}
use Rattle.text_trace.specs.Made.{line_of_byte}
use Rattle.text_trace.specs.Whole.{bytes_read}

abbrev pub read_ok : List ℕ → Result (List ℕ) Fault
read_ok bytes = Ok bytes

abbrev pub refused_at : TraceFault → ℕ → Result (List ℕ) Fault
refused_at f left = Err (fault (why.Trace f.kind) left)

-- the bytes are those of a trace
pub spelled_is : (text : List ℕ) (t : Trace) (lines bytes copy : List ℕ) (r : Trace) → bytes ≡ trace_bytes t → copy ≡ bytes → SpellsTrace copy r
    → bytes_read text (t, lines) (reading_trace (trace_bytes t)) ≡ read_ok bytes
spelled_is text t lines bytes copy r made same spells =
    ap (bytes_read text (t, lines)) (subst (λ (l : List ℕ). reading_trace l ≡ Ok r) (same ∙ made) (reading_from_spells copy r spells)) ∙ ap read_ok (sym made)

-- the bytes have a fault
pub fault_is : (text : List ℕ) (t : Trace) (lines bytes copy : List ℕ) (f : TraceFault) (left : ℕ) → bytes ≡ trace_bytes t → copy ≡ bytes
    → (f ≡ grammar.fault Memory 0) ⊎ IsRefusal copy f → (f ≡ grammar.fault Memory 0 → ⊥)
    → left ≡ unwrap_or (line_of_byte t lines f.at) (length text) → bytes_read text (t, lines) (reading_trace (trace_bytes t)) ≡ refused_at f left
fault_is text t lines bytes copy f left made same (inl m) other at = absurd (other m)
fault_is text t lines bytes copy f left made same (inr refusal) other at =
    ap (bytes_read text (t, lines)) (subst (λ (l : List ℕ). reading_trace l ≡ Err f) (same ∙ made) (reading_from_fault copy f refusal.broken))
    ∙ ap (refused_at f) (sym at)
