use Rattle.std.proofs.Common.{◌≡◌, map, take, add-one, sym, ◌∙◌, ap, true, ◌∷◌, ◌++◌, []}
use Rattle.foot_waits.specs.Spots.{ItemFits, span_for}
use Rattle.world_parts.specs.Cutting.{is_narrow_use}
use Rattle.world_parts.specs.Uses.{use_meant}
use Rattle.foot_waits.proofs.Adding.{all_pushed, map_next, map_pushed, take_whole}
use Rattle.foot_waits.proofs.Renaming.{all_fit_kept, kept_on, spans_kept}
use Rattle.foot_waits.proofs.spans.spans_of.Goals as goal

pub loop-used-preserved : goal.loop-used-preserved
loop-used-preserved c =
    let items = c.uses-used-items.result.now in
    let old = c.loop-used.names in
    let names = c.span_of.new.names in
    let before = map use_meant (take c.loop-used.used-index items) in
    let used = c.used-item.result in
    let next = map_next use_meant items c.loop-used.used-index used c.loop-used-test.true c.used-item.is in
    let inv = c.loop-used.invariant in
    let one = c.in_ok-span.ensures in
    let same = inv.spans ∙ sym (spans_kept old names one.kept before inv.fit) in
    rw (add-one, next) (record {
      kept = kept_on c.args.names.now old names inv.kept one.kept;
      spans = c.in_ok-push.ensures.items ∙ (λ i. same i ++ one.span i ∷ []) ∙ sym (map_pushed (span_for names) before (use_meant used));
      fit = all_pushed (λ u. ItemFits names u.item × (is_narrow_use u ≡ true)) before (use_meant used) (all_fit_kept old names one.kept before inv.fit) (one.fits, one.narrow);
    })

pub returns : goal.returns
returns c =
    let items = c.uses-used-items.result.now in
    let all = ap (λ us. map use_meant us) (take_whole items c.loop-used.used-index c.loop-used-test.false) ∙ c.uses-used-items.ensures in
    let inv = c.loop-used.invariant in
    rw (← all) (record { kept = inv.kept; spans = inv.spans; fit = inv.fit })
