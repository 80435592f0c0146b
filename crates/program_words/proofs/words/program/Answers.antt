use Rattle.std.proofs.Common.{◌∙◌, ap}
use Rattle.std.proofs.lemmas.Result.{IfOk-weaker}
use Rattle.clap.specs.Words.{with_subcommand}
use Rattle.program_words.specs.Words.{check_command, depends_command, diff_command, make_command, rounds_command, show_command, with_files, with_form, with_option, with_replays}
use Rattle.program_words.specs.Options.{second_argument}
use Rattle.program_words.proofs.words.program.Goals as goal

pub returns : goal.returns
returns c =
    let replays = c.in_ok-command.ensures ∙ ap with_replays c.in_ok-program_alone.ensures in
    let with_rounds = rw c.in_ok-command-2.was at (c.with_subcommand.ensures (with_form (with_files rounds_command)) (c.with_form.ensures (with_files rounds_command) (c.with_files-rounds.ensures rounds_command c.rounds_command.ensures))) in
    let with_depends = rw c.in_ok-command-3.was at (c.with_subcommand-2.ensures (with_form (with_files depends_command)) (c.with_form-2.ensures (with_files depends_command) (c.with_files-depends.ensures depends_command c.depends_command.ensures))) in
    let with_check = rw c.in_ok-command-4.was at (c.with_subcommand-3.ensures (with_form (with_files check_command)) (c.with_form-3.ensures (with_files check_command) (c.with_files-check.ensures check_command c.check_command.ensures))) in
    let with_show = rw c.in_ok-command-5.was at (c.with_subcommand-4.ensures (with_files show_command) (c.with_files.ensures show_command c.show_command.ensures)) in
    let with_make = rw c.in_ok-command-6.was at (c.with_subcommand-5.ensures (with_files make_command) (c.with_files-2.ensures make_command c.make_command.ensures)) in
    let diff = with_form (with_option (with_files diff_command) second_argument) in
    let reports = c.with_form-4.ensures (with_option (with_files diff_command) second_argument) (c.with_second.ensures (with_files diff_command) (c.with_files-reports.ensures diff_command c.diff_command.ensures)) in
    let telling = with_depends ∙ ap (λ app. with_subcommand app (with_form (with_files depends_command)).top) (with_rounds ∙ ap (λ app. with_subcommand app (with_form (with_files rounds_command)).top) replays) in
    let reading = with_show ∙ ap (λ app. with_subcommand app (with_files show_command).top) (with_check ∙ ap (λ app. with_subcommand app (with_form (with_files check_command)).top) telling) in
    let making = with_make ∙ ap (λ app. with_subcommand app (with_files make_command).top) reading in
    IfOk-weaker c.with_subcommand-6.result _ _
    (λ command h. h ∙ ap (λ app. with_subcommand app diff.top) making)
    (c.with_subcommand-6.ensures diff reports)
