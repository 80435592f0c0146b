use Rattle.std.proofs.Common.{◌∙◌, codes, false, refl, sym, true}
use Rattle.clap.specs.Words.{found_of, one_text}
use Rattle.program_words.proofs.WordsLemmas.{flag_told, sums_chosen}
use Rattle.program_words.proofs.words.sums_in.Goals as goal

pub returns-then-get_flag-2 : goal.returns-then-get_flag-2
returns-then-get_flag-2 c =
    λ command uses are.
    let text = one_text (found_of c.args.matches.now) in
    let all = c.get_flag.ensures in
    let some = c.get_flag-else-get_flag.ensures in
    sums_chosen uses false true
    (sym c.if-get_flag.false ∙ flag_told command uses text (codes "all-sums") c.get_flag.result refl are (record { none = all.none; value = all.value; other = all.other }))
    (sym c.if-get_flag-2.true ∙ flag_told command uses text (codes "sums") c.get_flag-else-get_flag.result refl are (record { none = some.none; value = some.value; other = some.other }))

pub returns-else-get_flag-2 : goal.returns-else-get_flag-2
returns-else-get_flag-2 c =
    λ command uses are.
    let text = one_text (found_of c.args.matches.now) in
    let all = c.get_flag.ensures in
    let some = c.get_flag-else-get_flag.ensures in
    sums_chosen uses false false
    (sym c.if-get_flag.false ∙ flag_told command uses text (codes "all-sums") c.get_flag.result refl are (record { none = all.none; value = all.value; other = all.other }))
    (sym c.if-get_flag-2.false ∙ flag_told command uses text (codes "sums") c.get_flag-else-get_flag.result refl are (record { none = some.none; value = some.value; other = some.other }))
