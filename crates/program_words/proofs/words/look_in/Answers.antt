use Rattle.std.proofs.Common.{ap₂, codes, refl}
use Rattle.std.specs.Fmt.{decimal}
use Rattle.std.specs.Str.Parse.{ParsesUnsigned, ExplainsUnsignedError, HasUnsignedDigitsIfOk}
use Rattle.clap.specs.Words.{found_of, one_text}
use Rattle.program_words.proofs.WordsLemmas.{first_told, flag_told, read_number}
use Rattle.program_words.proofs.words.look_in.Goals as goal

pub returns : goal.returns
returns c =
    λ command uses are. let text = one_text (found_of c.args.matches.now) in
    ap₂ (λ p f. record { places = p; first = f })
    (flag_told command uses text (codes "places") c.get_flag.result refl are (record { none = c.get_flag.ensures.none; value = c.get_flag.ensures.value; other = c.get_flag.ensures.other }))
    (first_told command uses text c.get_one.result are c.get_one.ensures.none
    (λ n is small. read_number (λ bs r. ParsesUnsigned 32 10 bs r × ExplainsUnsignedError 10 bs r × HasUnsignedDigitsIfOk bs r) n c.get_one.result (c.get_one.ensures.value (decimal n) is) (λ u x given. given.0) small))
