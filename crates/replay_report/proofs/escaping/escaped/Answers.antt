use Rattle.std.proofs.Common.{ℕ, List, ◌++◌, ap, sym, subst, ◌∙◌}
use Rattle.std.specs.Str.{IsAscii}
use Rattle.std.proofs.lemmas.Str.{IsUtf8-from_ascii}
use Rattle.replay_report.specs.Report.{escaped}
use Rattle.replay_report.proofs.Ascii.{escaped_is_ascii}
use Rattle.replay_report.proofs.escaping.escaped.Goals as goal

pub unwrap-requires : goal.unwrap-requires
unwrap-requires c =
    let path : List ℕ = c.args.path.now in
    c.from_utf8.ensures.succeeds (IsUtf8-from_ascii c.push_escaped.new.text.items
    (subst IsAscii (sym (c.in_ok-push_escaped.ensures ∙ ap (λ text. text ++ escaped path) c.in_ok-text.ensures.items)) (escaped_is_ascii path)))
