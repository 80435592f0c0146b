use Rattle.std.proofs.Common.{codes, refl}
use Rattle.clap.specs.Words.{found_of, one_text, subcommand_rows_of}
use Rattle.program_words.proofs.WordsLemmas.{chosen_texts, flag_told, none_chosen}
use Rattle.program_words.proofs.words.cut_in.Goals as goal

pub returns-in-Some : goal.returns-in-Some
returns-in-Some c =
    λ command uses found. let chosen = c.in-Some.chosen.now in
    flag_told command uses (one_text (found_of chosen)) (codes "cut") c.get_flag.result refl (chosen_texts c.args.matches.now chosen command uses c.in-Some.ensures.rows found)
    (record { none = c.get_flag.ensures.none; value = c.get_flag.ensures.value; other = c.get_flag.ensures.other })

pub returns-in-None : goal.returns-in-None
returns-in-None c = λ command uses found. none_chosen (subcommand_rows_of c.args.matches.now) command uses c.in-None.ensures.rows found
