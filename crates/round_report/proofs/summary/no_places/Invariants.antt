use Rattle.std.proofs.Common.{◌≡◌, replicate}
use Rattle.round_report.proofs.summary.no_places.Given as goal

abbrev pub invariant-loop-round : goal.invariant-loop-round
invariant-loop-round l = l.widths.items ≡ replicate l._round 0
