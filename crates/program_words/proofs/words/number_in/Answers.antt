use Rattle.std.proofs.Common.{◌≡◌, Some, arith}
use Rattle.std.specs.Fmt.{decimal}
use Rattle.std.specs.Str.Parse.{ParsesUnsigned, ExplainsUnsignedError, HasUnsignedDigitsIfOk}
use Rattle.program_words.proofs.WordsLemmas.{read_number}
use Rattle.program_words.proofs.words.number_in.Goals as goal

pub returns-clause-number : goal.returns-clause-number
returns-clause-number c =
    λ n text low high.
    let read : c.get_one.result ≡ Some n =
    read_number (λ bs r. ParsesUnsigned 32 10 bs r × ExplainsUnsignedError 10 bs r × HasUnsignedDigitsIfOk bs r) n c.get_one.result (c.get_one.ensures.value (decimal n) text) (λ u x given. given.0) (omega arith) in
    let number : c.unwrap_or-number.result ≡ n = rw read at c.unwrap_or-number.ensures in
    let clamped = rw number at c.clamp.ensures in
    omega (arith, clamped, low, high)
