-- The model: the words of the command line, and the answers to them.
use Rattle.std.specs.Prelude.{◌≡◌, ◌⊎◌, ⊤, ℕ, Bool, if◌then◌else◌, true, false, List, [], ◌∷◌, ◌++◌, map, Option, Some, codes, Result, MatchResult, IsErrAnd, Contains}
use Rattle.std.specs.Option.{option_and_then, option_map, option_map_or, option_or}
use Rattle.std.specs.Str.Parse.{digits_value}
use Rattle.clap.specs.Words.{App, Row, Rule, Shape, new_app, app_of, one_of, rule_of, with_rule, with_subcommand, first_of}
use Rattle.clap.specs.Simple.{new_shape, on_top}
use Rattle.clap.specs.declared.builder.command.Command.TheViews.{out-Command}
use Rattle.clap.specs.declared.builder.arg.Arg.{Arg}
use Rattle.clap.specs.declared.builder.command.Command.{Command}
use Rattle.clap.specs.declared.error.kind.ErrorKind.{ErrorKind}
use Rattle.clap.specs.declared.error.kind.ErrorKind.TheVariants.{DisplayHelp, DisplayVersion, OutOfMemory}
use Rattle.program_words.specs.declared.words.Mode.TheVariants.{Serial, Run, Compare, Rounds, Depends, Check}
use Rattle.program_words.specs.declared.words.Files.{Files}
use Rattle.json_lines.specs.declared.form.Form.{Form}
use Rattle.json_lines.specs.declared.form.Form.TheVariants as forms
use Rattle.program_words.specs.declared.words.Request.{Request}
use Rattle.program_words.specs.declared.words.Task.{Task}
use Rattle.program_words.specs.declared.words.Task.TheVariants.{Replay, Diff, Show, Make}
use Rattle.trace_text.specs.declared.look.Look.{Look}
use Rattle.report_diff.specs.declared.comparing.Terms.{Terms}
use Rattle.program_words.specs.declared.words.Usage.{Usage}
use Rattle.program_words.specs.declared.words.UsageKind.{UsageKind}
use Rattle.replay_report.specs.Report.{escaped, shown_with}
use Rattle.replay_report.specs.declared.showing.Shown.{Shown}
use Rattle.replay_report.specs.declared.showing.SumsShown.{SumsShown}
use Rattle.replay_report.specs.declared.showing.SumsShown.TheVariants as shows
use Rattle.program_words.specs.declared.words.UsageKind.TheVariants.{Help, Version, Wrong, Memory}
use Rattle.program_words.specs.Limits.{IsServed}
use Rattle.program_words.specs.Options.{AreUses, CommandName, Opt, Use, all_sums_flag, compare, cut_flag, default_in, depends, diff, dot_flag, eager_flag, every, file_argument, first_option, is_used, json_flag, make, name_of, names_flag, options_of, output_option, places_flag, rounds, rule_of_option, run, serial, show, show_option, strict_flag, sums_flag, truncated_flag, value_of, window_option, words_of, workers_option}
use Rattle.program_words.specs.declared.words.Options.{Options}

abbrev pub IsServedTask : Task → Type 0
IsServedTask (Replay options) = IsServed options.mode
IsServedTask (Diff terms) = ⊤
IsServedTask (Show look) = ⊤
IsServedTask Make = ⊤

-- A report that shows nothing more.
abbrev pub plain : Shown
plain = shown_with false

-- The words of a command with uses of its options, in any order: its name first.
abbrev pub IsCommand : CommandName → List Use → List (List ℕ) → Type 0
IsCommand command uses words = AreUses (options_of command) 1 [] uses × (words ≡ name_of command ∷ words_of uses)

-- What the uses ask for: a number, or this one where none is given; what a report shows, and a text of a trace.
abbrev pub number_in : ℕ → List ℕ → List Use → ℕ
number_in default word uses = option_map_or (digits_value 10) (value_of word uses) default

abbrev pub sums_in : List Use → SumsShown
sums_in uses = if is_used (codes "all-sums") uses then shows.All else (if is_used (codes "sums") uses then shows.Small else shows.None)

abbrev pub shown_in : List Use → Shown
shown_in uses = record { sums = sums_in uses; names = is_used (codes "names") uses }

abbrev pub look_in : List Use → Look
look_in uses = record { places = is_used (codes "places") uses; first = option_map (digits_value 10) (value_of (codes "first") uses) }

-- How two reports are compared.
abbrev pub terms_in : List Use → Terms
terms_in uses = record { strict = is_used (codes "strict") uses; truncated = is_used (codes "truncated") uses }

-- A mode, and what its report shows. Only runs have a report.
abbrev pub options_in : CommandName → List Use → Options
options_in serial uses = record { mode = Serial; shown = shown_in uses }
options_in run uses = record { mode = Run (number_in 4 (codes "workers") uses) (number_in 64 (codes "window") uses) (is_used (codes "eager") uses); shown = shown_in uses }
options_in compare uses = record { mode = Compare (number_in 4 (codes "workers") uses) (number_in 64 (codes "window") uses) (is_used (codes "eager") uses); shown = plain }
options_in rounds uses = record { mode = Rounds (number_in 64 (codes "window") uses) (is_used (codes "dot") uses); shown = plain }
options_in depends uses = record { mode = Depends (is_used (codes "dot") uses); shown = plain }
options_in _ uses = record { mode = Check; shown = plain }

-- The task.
abbrev pub task_in : CommandName → List Use → Task
task_in show uses = Show (look_in uses)
task_in make uses = Make
task_in diff uses = Diff (terms_in uses)
task_in command uses = Replay (options_in command uses)

abbrev pub form_of_flag : Bool → Form
form_of_flag false = forms.Text
form_of_flag true = forms.Json

-- The request: the task, each name of a file as it was given, the form, and whether the trace may be cut off.
pub record HasFiles (name : List ℕ → Option (List ℕ)) (files : Files) : Type 0 where
  pub input : option_map (λ s. s.now) files.input ≡ name (codes "file")
  pub second : option_map (λ s. s.now) files.second ≡ name (codes "second")
  pub trace : option_map (λ s. s.now) files.trace ≡ name (codes "show")
  pub output : option_map (λ s. s.now) files.output ≡ name (codes "output")

pub record IsRequest (command : CommandName) (uses : List Use) (request : Request) : Type 0 where
  pub task : request.task ≡ task_in command uses
  pub files : HasFiles (λ word. value_of word uses) request.files
  pub form : request.form ≡ form_of_flag (is_used (codes "json") uses)
  pub may_be_cut : request.may_be_cut ≡ is_used (codes "cut") uses

-- The same, or out of memory.
abbrev pub GivesRequest : CommandName → List Use → Result Request Usage → Type 0
GivesRequest command uses result = MatchResult result (IsRequest command uses) (λ usage. usage.kind ≡ Memory)

-- The words that ask for help, and for the version.
abbrev pub AskForHelp : List (List ℕ) → Type 0
AskForHelp words = (words ≡ codes "-h" ∷ []) ⊎ (words ≡ codes "--help" ∷ [])

abbrev pub AskForVersion : List (List ℕ) → Type 0
AskForVersion words = (words ≡ codes "-V" ∷ []) ⊎ (words ≡ codes "--version" ∷ [])

-- What is said of an argument that is not text: its bytes as those of a path in a report.
abbrev pub not_text : List ℕ → List ℕ
not_text word = codes "error: the argument '" ++ escaped word ++ codes "' is not valid UTF-8\n\nFor more information, try '--help'.\n"

-- Help, or out of memory; and the version.
abbrev pub GivesHelp : Result Request Usage → Type 0
GivesHelp result = IsErrAnd result (λ usage. (usage.kind ≡ Help) ⊎ (usage.kind ≡ Memory))

abbrev pub GivesVersion : Result Request Usage → Type 0
GivesVersion result = IsErrAnd result (λ usage. (usage.kind ≡ Version) ⊎ (usage.kind ≡ Memory))

-- What an error of the command line's parser is for the user.
abbrev pub kind_meant : ErrorKind → UsageKind
kind_meant DisplayHelp = Help
kind_meant DisplayVersion = Version
kind_meant OutOfMemory = Memory
kind_meant _ = Wrong

-- A request only where the parser finds no fault, and else the kind of one that it finds, or out of memory.
abbrev pub FailsByRules : List ErrorKind → Result Request Usage → Type 0
FailsByRules faults result = MatchResult result (λ _. faults ≡ []) (λ usage. (usage.kind ≡ Memory) ⊎ Contains (map kind_meant faults) usage.kind)

-- What the parser has found behind the name of a command: the text of each option, as it is read, and as it stands.
abbrev pub text_in : List ℕ → Option (List ℕ × List Row) → Option (List ℕ)
text_in id found = option_and_then (λ p. one_of id p.1) found

abbrev pub name_in : List ℕ → Option (List ℕ × List Row) → Option (List ℕ)
name_in id found = option_and_then (λ p. first_of id p.1) found

-- The text is that of each option's use, or else its default.
pub record AreTexts (command : CommandName) (uses : List Use) (text : List ℕ → Option (List ℕ)) : Type 0 where
  pub are : AreUses (options_of command) 1 [] uses
  pub texts : (word : List ℕ) → text word ≡ option_or (value_of word uses) (default_in word (options_of command))

pub record IsFound (command : CommandName) (uses : List Use) (found : Option (List ℕ × List Row)) : Type 0 where
  pub named : option_map (λ p. p.0) found ≡ Some (name_of command)
  pub texts : AreTexts command uses (λ word. text_in word found)
  pub names : AreTexts command uses (λ word. name_in word found)

-- A command with an option more.
abbrev pub with_option : App → Opt → App
with_option app option = with_rule app (rule_of_option option)

abbrev pub serial_command : App
serial_command = with_option (with_option (with_option (new_app (codes "serial")) sums_flag) all_sums_flag) names_flag

abbrev pub run_command : App
run_command =
    let numbered = with_option (with_option (new_app (codes "run")) workers_option) window_option in
    with_option (with_option (with_option (with_option numbered sums_flag) all_sums_flag) names_flag) eager_flag

abbrev pub compare_command : App
compare_command = with_option (with_option (with_option (new_app (codes "compare")) workers_option) window_option) eager_flag

abbrev pub rounds_command : App
rounds_command = with_option (with_option (new_app (codes "rounds")) window_option) dot_flag

abbrev pub depends_command : App
depends_command = with_option (new_app (codes "depends")) dot_flag

abbrev pub check_command : App
check_command = new_app (codes "check")

abbrev pub show_command : App
show_command = with_option (with_option (new_app (codes "show")) places_flag) first_option

abbrev pub make_command : App
make_command = new_app (codes "make")

abbrev pub diff_command : App
diff_command = with_option (with_option (with_option (new_app (codes "diff")) strict_flag) truncated_flag) show_option

-- A command with the names of its input and of its output.
abbrev pub with_files : App → App
with_files app = with_option (with_option app file_argument) output_option

-- A command whose output may be JSON.
abbrev pub with_form : App → App
with_form app = with_option app json_flag

-- A command whose trace may be cut off.
abbrev pub with_cut : App → App
with_cut app = with_option app cut_flag

-- The command line with no subcommand, and with those that replay a trace.
abbrev pub replayer_alone : App
replayer_alone = on_top (λ s. record s { has_version = true; no_binary_name = true; subcommand_required = true }) (new_app (codes "uring_replay"))

abbrev pub with_replays : App → App
with_replays app = with_subcommand (with_subcommand (with_subcommand app (with_cut (with_form (with_files serial_command))).top) (with_cut (with_form (with_files run_command))).top) (with_files compare_command).top

-- The whole command line: each command has its options of the table.
abbrev pub command_shape : CommandName → Shape
command_shape command = record (new_shape (name_of command)) { rules = map rule_of_option (options_of command) }

abbrev pub replayer : App
replayer = record { top = record replayer_alone.top { is_leaf = false }; subs = map command_shape every }

-- What the parser sees of an argument and of a subcommand; neither is one of all levels.
abbrev pub IsRule : Rule → Arg → Type 0
IsRule rule arg = (rule_of arg ≡ rule) × (arg.global ≡ false)

abbrev pub IsOption : Opt → Arg → Type 0
IsOption option arg = IsRule (rule_of_option option) arg

abbrev pub HasApp : App → Command → Type 0
HasApp app command = (app_of command ≡ app) × ((out-Command command).has_globals ≡ false)
