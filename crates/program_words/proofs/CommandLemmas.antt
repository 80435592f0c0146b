-- A command with an argument more.
use Rattle.std.proofs.Common.{◌∙◌, ap₂, refl}
use Rattle.clap.specs.Words.{AddsArg, App, Rule, with_rule}
use Rattle.clap.specs.declared.builder.arg.Arg.{Arg}
use Rattle.clap.specs.declared.builder.command.Command.{Command}
use Rattle.program_words.specs.Words.{HasApp, IsRule}

pub argued : (old new : Command) (a : Arg) (app : App) (rule : Rule) → HasApp app old → IsRule rule a → AddsArg old a new → HasApp (with_rule app rule) new
argued old new a app rule has is adds = (adds.shape is.1 ∙ ap₂ with_rule has.0 is.0, adds.globals ∙ rw (has.1, is.1) refl)
