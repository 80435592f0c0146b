use Rattle.std.proofs.Common.{ap₂, codes, refl}
use Rattle.clap.specs.Words.{found_of, one_text}
use Rattle.program_words.proofs.WordsLemmas.{flag_told}
use Rattle.program_words.proofs.words.shown_in.Goals as goal

pub returns : goal.returns
returns c =
    λ command uses are.
    ap₂ (λ s n. record { sums = s; names = n }) (c.sums_in.ensures command uses are)
    (flag_told command uses (one_text (found_of c.args.matches.now)) (codes "names") c.get_flag.result refl are
    (record { none = c.get_flag.ensures.none; value = c.get_flag.ensures.value; other = c.get_flag.ensures.other }))
