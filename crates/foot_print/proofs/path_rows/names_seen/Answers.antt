use mir.Val.{SFits}
use Rattle.std.proofs.Common.{◌≡◌, ℕ, ◌++◌, ◌∙◌, List, map, Err, ap, rules, w32}
use Rattle.std.proofs.Math.Facts.{to_z-of_z}
use Rattle.sqe_codec.specs.declared.errno.Errno.TheVariants.{ENOENT}
use Rattle.entry_checks.specs.Meant.{path_meant}
use Rattle.file_tree.specs.Steps.{steps, steps_left}
use Rattle.file_tree.proofs.Walks.{last_of_steps, names_of_steps}
use Rattle.world_parts.specs.Items.{one, name_at, reads}
use Rattle.foot_print.proofs.Walking.{leads, led, names_read}
use Rattle.foot_print.proofs.path_rows.names_seen.Goals as goal

pub loop-step-init : goal.loop-step-init
loop-step-init c =
    let tree = c.args.state.now.nodes in
    let path = path_meant c.args.path in
    let fits : SFits w32 c.args.path.directory = search rules in
    let left : steps_left c.into_iter-step-iterator.result ≡ steps tree path = ap steps_left c.into_iter-step-iterator.ensures.into_iter_gives ∙ rw (to_z-of_z fits) at c.steps-step-items.ensures.left in
    record {
      can = tt;
      finite = tt;
      same = ap (λ s. s.tree.now) c.into_iter-step-iterator.ensures.into_iter_gives ∙ c.steps-step-items.ensures.same;
      names = ap (λ ss. c.args.footprint.now ++ names_read ss) left ∙ ap (λ (es : List (ℕ × List ℕ)). c.args.footprint.now ++ map (λ e. reads (one (name_at e.0 e.1))) es) (names_of_steps tree path);
      place = ap (leads (Err ENOENT)) left ∙ led (steps tree path) ∙ last_of_steps tree path;
    }
