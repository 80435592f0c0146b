-- Beginnings of a text that was not written whole.
use Rattle.std.proofs.Common.{ℕ, List, Option, sym, subst}
use Rattle.byte_transfer.specs.Transfer.{AppendsSome}
use Rattle.byte_transfer.proofs.Beginnings.{some_of_none, some_of_part}
use Rattle.json_lines.specs.Writing.{IsNotWritten}
use Rattle.json_lines.specs.declared.writing.WriteFault.{WriteFault}
use Rattle.json_lines.specs.declared.writing.WriteFault.TheVariants.{Memory, Write}

pub some_of_fault : (a b : Option (List ℕ)) (text : List ℕ) (f : WriteFault) → IsNotWritten a b text f → AppendsSome a b text
some_of_fault a b text Write part = some_of_part a b text part
some_of_fault a b text Memory keeps = subst (λ (x : Option (List ℕ)). AppendsSome a x text) (sym keeps) (some_of_none a text)
