-- The faults of a text of version 3.
use Rattle.std.proofs.Common.{◌≡◌, ◌⊎◌, ℕ, List, Ok, inl, inr, subst}
use Rattle.trace_format.specs.Grammar as format
use Rattle.trace_format.specs.declared.fault.Kind.TheVariants.{Memory}
use Rattle.trace_format.specs.declared.fault.TraceFault.{TraceFault}
use Rattle.trace_records.specs.declared.trace.Trace.{Trace}
use Rattle.trace_records.specs.Spelling.{trace_bytes}
use Rattle.text_words.specs.declared.fault.Fault.{Fault}
use Rattle.text_words.specs.declared.fault.ReadError.{ReadError}
use Rattle.text_words.specs.declared.fault.ReadError.TheVariants as errors
use Rattle.text_words.specs.Read.{Fails}
use Rattle.text_records.specs.declared.pieces.Piece.{Piece}
use Rattle.text_records.specs.Whole.{HasFault, IsFaultOfBytes, IsFaultOfThree, OnFault, told_of, trace_meant}

-- a fault of the text
pub of_text : (text : List ℕ) (e : ReadError) → Fails e (trace_meant text) → OnFault e (IsFaultOfThree text)
of_text text errors.OutOfMemory h = tt
of_text text (errors.Fault f) h = inl h

-- a fault of its bytes
pub of_bytes : (text : List ℕ) (x : Trace × List Piece) (e : ReadError) → trace_meant text ≡ Ok x → OnFault e (IsFaultOfBytes text x) → OnFault e (IsFaultOfThree text)
of_bytes text x errors.OutOfMemory read h = tt
of_bytes text x (errors.Fault f) read h = inr (x, read, h)

-- a fault of bytes, at the line that made the byte
pub at_line : (text bytes : List ℕ) (x : Trace × List Piece) (g : TraceFault) (f : Fault) → bytes ≡ trace_bytes x.0
    → (g ≡ format.fault Memory 0) ⊎ HasFault bytes g → (g ≡ format.fault Memory 0 → ⊥) → f ≡ told_of text x.1 g → IsFaultOfBytes text x f
at_line text bytes x g f made (inl m) other told = absurd (other m)
at_line text bytes x g f made (inr fault) other told = (g, subst (λ (l : List ℕ). HasFault l g) made fault, told)
