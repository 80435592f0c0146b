use Rattle.std.proofs.Common.{◌++◌, sym, ap, ◌∙◌}
use Rattle.entry_checks.specs.Meant.{meant}
use Rattle.foot_print.specs.Shapes.{shape_meant}
use Rattle.foot_print.proofs.Outlooks as outlooks
use Rattle.item_index.specs.Ahead.{written_before}
use Rattle.foot_print.specs.Footprint.{look_reads, order_uses}
use Rattle.recording.specs.Rings.{queue_of}
use Rattle.op_meaning.specs.Site.{site_meant}
use Rattle.op_meaning.specs.Shape.{look}
use Rattle.foot_print.proofs.reaching.operation_outlook.Goals as goal

pub returns-in-Some : goal.returns-in-Some
returns-in-Some c =
    let a = c.args in
    let order = order_uses (queue_of a.site.trace.now a.site.ring) a.role_there.now in
    let shape = shape_meant c.shape_of-shape.result in
    let looked = c.in_ok-lookup.ensures.seen ∙ ap (λ f. f ++ look_reads (site_meant a.site) a.state.now (look shape)) c.new-deciding.ensures in
    let first = sym c.first_met.ensures.first ∙ c.in-Some.is in
    record {
      reach =
          outlooks.undecided_reach order a.site.trace.now a.site.place a.site.ring a.state.now (written_before a.behind.now) (meant a.op) shape c.shape_of-shape.ensures c.shape_seen.new.footprint looked
          c.in-Some.known c.in_ok-unresolved_reach.field-0 first c.in_ok-unresolved_reach.ensures;
      awaits =
          outlooks.undecided_awaits order a.site.trace.now a.site.place a.site.ring a.state.now (written_before a.behind.now) (meant a.op) shape c.shape_of-shape.ensures c.shape_seen.new.footprint looked
          c.in-Some.known c.in_ok-unresolved_reach.field-0 c.truncate.new.self c.takes_lowest.result first c.truncate.ensures c.takes_lowest.ensures;
    }

pub returns : goal.returns
returns c =
    let a = c.args in
    let order = order_uses (queue_of a.site.trace.now a.site.ring) a.role_there.now in
    let shape = shape_meant c.shape_of-shape.result in
    let looked = c.in_ok-lookup.ensures.seen ∙ ap (λ f. f ++ look_reads (site_meant a.site) a.state.now (look shape)) c.new-deciding.ensures in
    let ordered = c.in_ok-known.ensures ∙ ap (λ q. order_uses q a.role_there.now) c.queue.ensures in
    let known = c.in_ok-append.ensures ∙ (λ i. ordered i ++ (looked ∙ ap (λ x. look_reads (site_meant a.site) a.state.now (look x)) c.shape_of-shape.ensures) i) in
    let none = sym c.first_met.ensures.first ∙ c.in_default.is in
    record {
      reach =
          outlooks.decided_reach order a.site.trace.now a.site.place a.site.ring a.state.now (written_before a.behind.now) (meant a.op) shape c.shape_of-shape.ensures c.shape_seen.new.footprint looked
          none c.decided_outlook.result (c.decided_outlook.ensures.reach order known);
      awaits =
          outlooks.decided_awaits order a.site.trace.now a.site.place a.site.ring a.state.now (written_before a.behind.now) (meant a.op) shape c.shape_of-shape.ensures c.shape_seen.new.footprint looked
          none c.decided_outlook.result (c.decided_outlook.ensures.awaited order known) c.decided_outlook.ensures.lowest;
    }
