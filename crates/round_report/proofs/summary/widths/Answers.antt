use Rattle.std.proofs.Common.{◌<◌, ◌+◌, ◌∙◌, ap, get_or, length, take, arith}
use Rattle.std.proofs.Math.ListN.{set}
use Rattle.std.proofs.lemmas.Grind.{get_or_default_zero}
use Rattle.std.proofs.lemmas.List.{length-take}
use Rattle.std.proofs.lemmas.List.FromFn.{length-map-range_with_len}
use Rattle.round_report.specs.Summary.{width}
use Rattle.round_report.proofs.SummaryLemmas.{no_widths, round_within, width_bounded, widths_more}
use Rattle.round_report.proofs.summary.widths.Goals as goal

pub loop-round-init : goal.loop-round-init
loop-round-init c = c.in_ok-widths.ensures ∙ no_widths c.args.count

pub index_mut-requires : goal.index_mut-requires
index_mut-requires c =
    let within = round_within c.args.rounds.now c.loop-round.round-index 0 c.loop-round-test.true in
    let long = ap length c.loop-round.invariant ∙ length-map-range_with_len (width (take c.loop-round.round-index c.args.rounds.now)) 0 c.args.count in
    omega (arith, within, long, c.requires)

pub overflow_add-index_mut : goal.overflow_add-index_mut
overflow_add-index_mut c =
    let rounds = c.args.rounds.now in
    let i = c.loop-round.round-index in
    let within = round_within rounds i 0 c.loop-round-test.true in
    let long = ap length c.loop-round.invariant ∙ length-map-range_with_len (width (take i rounds)) 0 c.args.count in
    let most = width_bounded rounds i c.args.count (get_or rounds i 0) c.loop-round.widths.items c.loop-round.invariant (omega (arith, within, c.requires)) in
    let here = c.index_mut.ensures.value ∙ get_or_default_zero c.loop-round.widths.items (get_or rounds i 0) _ (omega (arith, within, long, c.requires)) in
    let before = length-take i rounds in
    record { fits = omega (arith, most, here, before, c.loop-round-test.true) }

pub loop-round-preserved : goal.loop-round-preserved
loop-round-preserved c =
    let rounds = c.args.rounds.now in
    let i = c.loop-round.round-index in
    let within : get_or rounds i 0 < c.args.count = omega (arith, round_within rounds i 0 c.loop-round-test.true, c.requires) in
    let long = ap length c.loop-round.invariant ∙ length-map-range_with_len (width (take i rounds)) 0 c.args.count in
    let here = c.index_mut.ensures.value ∙ get_or_default_zero c.loop-round.widths.items (get_or rounds i 0) _ (omega (arith, within, long)) in
    ap (λ n. set c.loop-round.widths.items (get_or rounds i 0) (n + 1)) here ∙ widths_more rounds i 0 c.args.count c.loop-round.widths.items c.loop-round-test.true within c.loop-round.invariant
