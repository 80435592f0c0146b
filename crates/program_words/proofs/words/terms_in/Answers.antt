use Rattle.std.proofs.Common.{ap₂, codes, refl}
use Rattle.clap.specs.Words.{found_of, one_text}
use Rattle.program_words.proofs.WordsLemmas.{flag_told}
use Rattle.program_words.proofs.words.terms_in.Goals as goal

pub returns : goal.returns
returns c =
    λ command uses are. let text = one_text (found_of c.args.matches.now) in
    ap₂ (λ s t. record { strict = s; truncated = t })
    (flag_told command uses text (codes "strict") c.get_flag.result refl are (record { none = c.get_flag.ensures.none; value = c.get_flag.ensures.value; other = c.get_flag.ensures.other }))
    (flag_told command uses text (codes "truncated") c.get_flag-2.result refl are (record { none = c.get_flag-2.ensures.none; value = c.get_flag-2.ensures.value; other = c.get_flag-2.ensures.other }))
