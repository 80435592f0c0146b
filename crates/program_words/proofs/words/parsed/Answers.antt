use Rattle.std.proofs.Common.{map, Ok, Err}
use Rattle.clap.specs.Words.{app_of}
use Rattle.clap.specs.declared.parser.matches.ArgMatches.{ArgMatches}
use Rattle.program_words.proofs.WordsLemmas.{words_found, help_ends, version_ends, same_rules, words_pass}
use Rattle.program_words.proofs.words.parsed.Goals as goal

pub returns-in-Ok-clause-request : goal.returns-in-Ok-clause-request
returns-in-Ok-clause-request c =
    λ command uses asked. c.request_in.ensures.request command uses
    (words_found (app_of c.in_ok-command.command) (map (λ word. word.now) c.args.words.now) c.in-Ok.matches command uses c.in_ok-command.ensures asked c.in-Ok.ensures.matches)

pub returns-in-Err-clause-request : goal.returns-in-Err-clause-request
returns-in-Err-clause-request c =
    λ command uses asked. c.in-Err.ensures.passes (words_pass (app_of c.in_ok-command.command) (map (λ word. word.now) c.args.words.now) command uses c.in_ok-command.ensures asked)

pub returns-in-Ok-clause-help : goal.returns-in-Ok-clause-help
returns-in-Ok-clause-help c = λ asked. help_ends (app_of c.in_ok-command.command) (map (λ word. word.now) c.args.words.now) (Ok c.in-Ok.matches) c.in_ok-command.ensures asked c.in-Ok.ensures.kinds

pub returns-in-Ok-clause-version : goal.returns-in-Ok-clause-version
returns-in-Ok-clause-version c = λ asked. version_ends (app_of c.in_ok-command.command) (map (λ word. word.now) c.args.words.now) (Ok c.in-Ok.matches) c.in_ok-command.ensures asked c.in-Ok.ensures.kinds

pub returns-in-Err-clause-version : goal.returns-in-Err-clause-version
returns-in-Err-clause-version c = λ asked. version_ends {T = ArgMatches} (app_of c.in_ok-command.command) (map (λ word. word.now) c.args.words.now) (Err c.in-Err.error) c.in_ok-command.ensures asked c.in-Err.ensures.kinds

pub returns-in-Err-clause-help : goal.returns-in-Err-clause-help
returns-in-Err-clause-help c = λ asked. help_ends {T = ArgMatches} (app_of c.in_ok-command.command) (map (λ word. word.now) c.args.words.now) (Err c.in-Err.error) c.in_ok-command.ensures asked c.in-Err.ensures.kinds

pub returns-in-Ok-clause-rules : goal.returns-in-Ok-clause-rules
returns-in-Ok-clause-rules c = same_rules (app_of c.in_ok-command.command) (map (λ word. word.now) c.args.words.now) (Ok c.in-Ok.matches) c.in_ok-command.ensures c.in-Ok.ensures.kinds

pub returns-in-Err-clause-rules : goal.returns-in-Err-clause-rules
returns-in-Err-clause-rules c =
    same_rules {T = ArgMatches} (app_of c.in_ok-command.command) (map (λ word. word.now) c.args.words.now) (Err c.in-Err.error) c.in_ok-command.ensures c.in-Err.ensures.kinds
