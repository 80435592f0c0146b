use Rattle.std.proofs.Common.{◌∙◌}
use Rattle.std.proofs.lemmas.Result.{on_ok_weaker}
use Rattle.entry_checks.specs.Meant.{meant}
use Rattle.foot_print.proofs.Looks.{behind_looks}
use Rattle.foot_print.specs.Footprint.{uses_in}
use Rattle.foot_print.specs.Reach.{seen}
use Rattle.op_meaning.specs.Site.{in_ring, sited}
use Rattle.op_meaning.specs.Lookups.{found_meant}
use Rattle.op_meaning.specs.Meaning.{found, shape}
use Rattle.op_meaning.specs.Shape.{look}
use Rattle.foot_print.proofs.rows.operation_uses.Goals as goal

pub returns : goal.returns
returns c =
    let a = c.args in
    let t = a.site.trace.now in
    let r = a.site.ring in
    let s = a.state.now in
    let o = meant a.op in
    let looked = rw c.shape_of.ensures at c.in_ok-lookup.ensures.seen in
    let finds = rw c.shape_of.ensures at c.in_ok-lookup.ensures.found in
    on_ok_weaker c.uses_behind.result
    (λ is. is ∙ behind_looks a.footprint.now c.shape_seen.new.footprint (seen (in_ring t r) s o) (uses_in (sited t a.site.place r) s o) (found_meant s c.in_ok-lookup.lookup) (found (in_ring t r) s (look (shape o))) looked finds)
    c.uses_behind.ensures
