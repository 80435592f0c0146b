use Rattle.std.proofs.Common.{ap, sym, ◌∙◌}
use Rattle.std.specs.Prelude.{is_some}
use Rattle.std.proofs.lemmas.Result.{on_ok_weaker}
use Rattle.world_parts.specs.Items.{one, name_at}
use Rattle.world_parts.specs.Copying.{looked_up}
use Rattle.world_parts.proofs.Copies.{copied_to, none_of}
use Rattle.world_parts.proofs.CopiesOfNames.{name_copied, name_shown, number_of}
use Rattle.world_parts.proofs.state.State.show_name.Goals as goal

pub returns-then-is_some : goal.returns-then-is_some
returns-then-is_some c =
    let p = c.args.self.now in
    let d = c.args.directory in
    let n = c.args.name.now in
    name_shown c.args.from.now p d n c.requires.shadow (c.if-is_some.ensures ∙ ap is_some (sym (number_of p d n c.name.result c.name.ensures)))

pub returns : goal.returns
returns c =
    let s = c.args.from.now in
    let p = c.args.self.now in
    let d = c.args.directory in
    let n = c.args.name.now in
    let hidden = none_of (looked_up p d n) (sym (c.if-is_some.ensures ∙ ap is_some (sym (number_of p d n c.name.result c.name.ensures)))) in
    on_ok_weaker c.show.result (copied_to s p _ c.show.new.self (one (name_at d n)) (name_copied s p c.requires.shadow d n c.args.node c.requires.leads hidden c.requires.directory c.requires.node)) c.show.ensures
