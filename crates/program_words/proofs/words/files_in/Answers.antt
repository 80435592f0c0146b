use Rattle.std.proofs.Common.{codes, refl}
use Rattle.clap.specs.Words.{subcommand_rows_of}
use Rattle.program_words.proofs.WordsLemmas.{name_told, none_chosen}
use Rattle.program_words.proofs.words.files_in.Goals as goal

pub returns-in-Some : goal.returns-in-Some
returns-in-Some c =
    let chosen = c.in-Some.chosen.now in
    let rows = c.in-Some.ensures.rows in
    let names = c.files_of.ensures in
    λ command uses found. record {
      input = name_told c.args.matches.now chosen command uses (codes "file") (λ s. s.now) c.files_of.result.input rows names.input found refl;
      second = name_told c.args.matches.now chosen command uses (codes "second") (λ s. s.now) c.files_of.result.second rows names.second found refl;
      trace = name_told c.args.matches.now chosen command uses (codes "show") (λ s. s.now) c.files_of.result.trace rows names.trace found refl;
      output = name_told c.args.matches.now chosen command uses (codes "output") (λ s. s.now) c.files_of.result.output rows names.output found refl;
    }

pub returns-in-None : goal.returns-in-None
returns-in-None c = λ command uses found. none_chosen (subcommand_rows_of c.args.matches.now) command uses c.in-None.ensures.rows found
