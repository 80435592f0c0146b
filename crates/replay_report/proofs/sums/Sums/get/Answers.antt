use Rattle.std.proofs.Common.{◌≡◌, [], sym}
use Rattle.std.specs.Prelude.{unwrap_or}
use Rattle.std.proofs.lemmas.List.Elements.{All-contains}
use Rattle.std.proofs.lemmas.Map.Views.{Contains-from_lookup, tells_apart}
use Rattle.sha2.specs.Sha256.{sha256}
use Rattle.replay_report.specs.Sums.{held}
use Rattle.replay_report.proofs.SumLemmas.{same_holder}
use Rattle.replay_report.proofs.sums.Sums.get.Goals as goal

pub returns-in-Some : goal.returns-in-Some
returns-in-Some c =
    let known = c.args.self.now.known.entries in
    All-contains (λ e. e.1 ≡ sha256 (unwrap_or (held c.args.world.now e.0) [])) known (c.args.holder, c.in-Some.sum.now) c.requires.sums
    (Contains-from_lookup (tells_apart same_holder) c.args.holder c.in-Some.sum.now known (sym c.in-Some.ensures.value))
