use Rattle.std.proofs.Common.{ℕ, ◌≡◌, ◌++◌, ◌∙◌, ap, append_assoc, sym, take, Some}
use Rattle.std.proofs.Math.Seq.{take-append_seam}
use Rattle.entry_checks.specs.Meant.{meant}
use Rattle.entry_checks.specs.Operation.{Operation}
use Rattle.recording.specs.declared.recording.Recording.{Recording}
use Rattle.foot_print.specs.Foreseen.{meets_written, shape_extras}
use Rattle.foot_print.specs.Footprint.{foreseen, row_in, shape_row, uses, uses_in}
use Rattle.foot_print.specs.Reach.{seen}
use Rattle.foot_print.proofs.Looks.{behind_looks}
use Rattle.item_index.specs.Ahead.{written_before}
use Rattle.op_meaning.specs.Site.{in_ring, sited}
use Rattle.op_meaning.specs.Lookups.{found_meant}
use Rattle.op_meaning.specs.Meaning.{Found, found, shape}
use Rattle.op_meaning.specs.Shape.{look}
use Rattle.world_parts.specs.Items.{Footprint}
use Rattle.world_parts.specs.World.{World}
use Rattle.foot_print.proofs.reaching.decided_outlook.Goals as goal

-- its uses behind what is known of it are its row
rows : (order known : Footprint) (t : Recording) (k r : ℕ) (s : World) (o : Operation) (z : Found) → known ≡ order ++ seen (in_ring t r) s o → z ≡ found (in_ring t r) s (look (shape o)) → known ++ uses_in (sited t k r) s o z ≡ order ++ row_in (sited t k r) s o
rows order known t k r s o z is finds = behind_looks order known (seen (in_ring t r) s o) (uses_in (sited t k r) s o) z (found (in_ring t r) s (look (shape o))) is finds

pub returns-then-not-meets-clause-reach : goal.returns-then-not-meets-clause-reach
returns-then-not-meets-clause-reach c = λ order is.
    let a = c.args in
    let own = c.in_ok-uses_behind.ensures ∙ rows order a.known a.site.trace.now a.site.place a.site.ring a.state.now (meant a.op) (found_meant a.state.now a.lookup) is c.requires.lookup in
    let none = ap (meets_written (written_before a.behind.now)) (sym own) ∙ sym c.meets.ensures ∙ c.if-not-meets.true in
    rw none own

pub returns-then-not-meets-clause-awaited : goal.returns-then-not-meets-clause-awaited
returns-then-not-meets-clause-awaited c = λ order is.
    let a = c.args in
    ap Some (c.in_ok-uses_behind.ensures ∙ rows order a.known a.site.trace.now a.site.place a.site.ring a.state.now (meant a.op) (found_meant a.state.now a.lookup) is c.requires.lookup)

pub returns-clause-reach : goal.returns-clause-reach
returns-clause-reach c = λ order is.
    let a = c.args in
    let t = a.site.trace.now in
    let k = a.site.place in
    let r = a.site.ring in
    let s = a.state.now in
    let w = written_before a.behind.now in
    let o = meant a.op in
    let z = found_meant s a.lookup in
    let own = c.in_ok-uses_behind.ensures ∙ rows order a.known t k r s o z is c.requires.lookup in
    let some = ap (meets_written w) (sym own) ∙ sym c.meets.ensures ∙ c.if-not-meets.false in
    let extras = shape_extras (sited t k r) s w (shape o) in
    let front = c.in_ok-reach.ensures ∙ (λ i. take (c.len-count.ensures i) (c.in_ok-uses_behind.ensures i)) ∙ take-append_seam a.known (uses_in (sited t k r) s o z) in
    let accepted = rw c.shape_of.ensures at c.in_ok-uses_foreseen.ensures ∙ ap (λ f. f ++ uses (sited t k r) s foreseen (shape o) z) front
    ∙ behind_looks order a.known (seen (in_ring t r) s o) (uses (sited t k r) s foreseen (shape o)) z (found (in_ring t r) s (look (shape o))) is c.requires.lookup in
    rw some (rw c.shape_of-2.ensures at c.in_ok-push_extras.ensures ∙ ap (λ f. f ++ extras) accepted ∙ append_assoc order (shape_row (sited t k r) s foreseen (shape o)) extras)

pub returns-clause-awaited : goal.returns-clause-awaited
returns-clause-awaited c = λ order is.
    let a = c.args in
    ap Some (c.in_ok-uses_behind.ensures ∙ rows order a.known a.site.trace.now a.site.place a.site.ring a.state.now (meant a.op) (found_meant a.state.now a.lookup) is c.requires.lookup)
