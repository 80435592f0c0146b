use Rattle.std.proofs.Common.{sym, ap, ◌∙◌, Some, arith}
use Rattle.program_words.specs.declared.words.Task.TheVariants.{Diff, Show}
use Rattle.program_words.specs.Options.{diff, make, show}
use Rattle.program_words.proofs.WordsLemmas.{chosen_texts, is_called, replay_chosen, task_chosen}
use Rattle.program_words.proofs.words.task_in.Goals as goal

pub returns-in-Some-show-default-clause-task : goal.returns-in-Some-show-default-clause-task
returns-in-Some-show-default-clause-task c =
    let arm = c.in-Some-show-default.ensures in
    λ command uses found. task_chosen c.args.matches.now command uses show (Show c.look_in.result) found (sym arm.name ∙ ap Some c.in-Some-show-default.is-show)
    (ap Show (c.look_in.ensures command uses (chosen_texts c.args.matches.now c.in-Some-show-default.chosen.now command uses arm.rows found)))

pub returns-in-Some-diff-default-clause-task : goal.returns-in-Some-diff-default-clause-task
returns-in-Some-diff-default-clause-task c =
    let arm = c.in-Some-diff-default.ensures in
    λ command uses found. task_chosen c.args.matches.now command uses diff (Diff c.terms_in.result) found (sym arm.name ∙ ap Some c.in-Some-diff-default.is-diff)
    (ap Diff (c.terms_in.ensures command uses (chosen_texts c.args.matches.now c.in-Some-diff-default.chosen.now command uses arm.rows found)))

pub returns-in_default-clause-task : goal.returns-in_default-clause-task
returns-in_default-clause-task c =
    λ command uses found.
    let m = c.args.matches.now in
    replay_chosen command uses c.options_in.result (c.options_in.ensures.options command uses found)
    (λ same. let called = is_called m command uses found diff same in grind (arith, called, c.subcommand.ensures.name))
    (λ same. let called = is_called m command uses found show same in grind (arith, called, c.subcommand.ensures.name))
    (λ same. let called = is_called m command uses found make same in grind (arith, called, c.subcommand.ensures.name))
