use Rattle.std.proofs.Common.{◌∙◌, ap}
use Rattle.std.proofs.lemmas.Result.{IfOk-weaker}
use Rattle.clap.specs.Words.{with_subcommand}
use Rattle.program_words.specs.Words.{compare_command, run_command, serial_command, with_cut, with_files, with_form}
use Rattle.program_words.proofs.words.with_replays.Goals as goal

pub returns : goal.returns
returns c =
    let with_serial = rw c.in_ok-command.was at (c.with_subcommand.ensures (with_cut (with_form (with_files serial_command))) (c.with_cut-serial.ensures (with_form (with_files serial_command)) (c.with_form.ensures (with_files serial_command) (c.with_files-serial.ensures serial_command c.serial_command.ensures)))) in
    let with_run = rw c.in_ok-command-2.was at (c.with_subcommand-2.ensures (with_cut (with_form (with_files run_command))) (c.with_cut-run.ensures (with_form (with_files run_command)) (c.with_form-2.ensures (with_files run_command) (c.with_files-run.ensures run_command c.run_command.ensures)))) in
    IfOk-weaker c.with_subcommand-3.result _ _
    (λ command h. h ∙ ap (λ app. with_subcommand app (with_files compare_command).top) (with_run ∙ ap (λ app. with_subcommand app (with_cut (with_form (with_files run_command))).top) with_serial))
    (c.with_subcommand-3.ensures (with_files compare_command) (c.with_files.ensures compare_command c.compare_command.ensures))
