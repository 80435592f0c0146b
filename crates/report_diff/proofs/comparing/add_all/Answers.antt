use Rattle.std.proofs.Common.{refl}
use Rattle.std.specs.List.{flat_map}
use Rattle.report_diff.specs.Differences.{found, of_first, of_second}
use Rattle.report_diff.specs.Repeats.{once}
use Rattle.report_diff.proofs.AddLemmas.{adds_both}
use Rattle.report_diff.proofs.comparing.add_all.Goals as goal

pub returns : goal.returns
unfolding found
returns c = λ one other index index2.
    adds_both c.args.told.now c.add_firsts.new.told c.add_seconds.new.told
    (flat_map (of_first c.args.second.now.end other) (once one)) (flat_map (of_second c.args.first.now.end one) (once other))
    (rw (c.lines.ensures one index) at (c.in_ok-add_firsts.ensures other index2))
    (rw (c.lines-2.ensures other index2) at (c.in_ok-add_seconds.ensures one index))
