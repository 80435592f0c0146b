use Rattle.std.proofs.Common.{sym, ap, ◌∙◌, Some}
use Rattle.program_words.proofs.WordsLemmas.{serial_chosen, run_chosen, compare_chosen, rounds_chosen, depends_chosen}
use Rattle.program_words.proofs.words.options_in.Goals as goal

pub returns-in-Some-serial-default-clause-options : goal.returns-in-Some-serial-default-clause-options
returns-in-Some-serial-default-clause-options c =
    let arm = c.in-Some-serial-default.ensures in
    λ command uses found. serial_chosen c.args.matches.now c.in-Some-serial-default.chosen.now arm.rows command uses found c.shown_in.result
    (sym arm.name ∙ ap Some c.in-Some-serial-default.is-serial) c.shown_in.ensures

pub returns-in-Some-run-default-clause-options : goal.returns-in-Some-run-default-clause-options
returns-in-Some-run-default-clause-options c =
    let arm = c.in-Some-run-default.ensures in
    λ command uses found. run_chosen c.args.matches.now c.in-Some-run-default.chosen.now arm.rows command uses found c.number_in.result c.number_in-in-Some-run-default.result c.shown_in-in-Some-run-default.result c.get_flag.result
    (sym arm.name ∙ ap Some c.in-Some-run-default.is-run) c.number_in.ensures.number c.number_in-in-Some-run-default.ensures.number
    c.shown_in-in-Some-run-default.ensures (record { none = c.get_flag.ensures.none; value = c.get_flag.ensures.value; other = c.get_flag.ensures.other })

pub returns-in-Some-compare-default-clause-options : goal.returns-in-Some-compare-default-clause-options
returns-in-Some-compare-default-clause-options c =
    let arm = c.in-Some-compare-default.ensures in
    let flag = c.get_flag-in-Some-compare-default.ensures in
    λ command uses found. compare_chosen c.args.matches.now c.in-Some-compare-default.chosen.now arm.rows command uses found c.number_in-in-Some-compare-default.result c.number_in-in-Some-compare-default-2.result c.get_flag-in-Some-compare-default.result
    (sym arm.name ∙ ap Some c.in-Some-compare-default.is-compare) c.number_in-in-Some-compare-default.ensures.number c.number_in-in-Some-compare-default-2.ensures.number
    (record { none = flag.none; value = flag.value; other = flag.other })

pub returns-in-Some-rounds-default-clause-options : goal.returns-in-Some-rounds-default-clause-options
returns-in-Some-rounds-default-clause-options c =
    let arm = c.in-Some-rounds-default.ensures in
    let flag = c.get_flag-in-Some-rounds-default.ensures in
    λ command uses found. rounds_chosen c.args.matches.now c.in-Some-rounds-default.chosen.now arm.rows command uses found c.number_in-in-Some-rounds-default.result c.get_flag-in-Some-rounds-default.result
    (sym arm.name ∙ ap Some c.in-Some-rounds-default.is-rounds) c.number_in-in-Some-rounds-default.ensures.number (record { none = flag.none; value = flag.value; other = flag.other })

pub returns-in-Some-depends-default-clause-options : goal.returns-in-Some-depends-default-clause-options
returns-in-Some-depends-default-clause-options c =
    let arm = c.in-Some-depends-default.ensures in
    let flag = c.get_flag-in-Some-depends-default.ensures in
    λ command uses found. depends_chosen c.args.matches.now c.in-Some-depends-default.chosen.now arm.rows command uses found c.get_flag-in-Some-depends-default.result
    (sym arm.name ∙ ap Some c.in-Some-depends-default.is-depends) (record { none = flag.none; value = flag.value; other = flag.other })
