use Rattle.std.specs.BTreeMap.{get}
use Rattle.std.specs.Ordering.{nat_cmp}
use Rattle.foot_waits.proofs.Bridge.{first_at}
use Rattle.foot_waits.proofs.Renaming.{all_fit_kept, at_kept}
use Rattle.foot_waits.proofs.Stepping.{at_next}
use Rattle.foot_waits.proofs.waits.Waits.next.Goals as goal

pub returns-clause-at : goal.returns-clause-at
returns-clause-at c = λ foot is at.
    at_next c.args.self.now c.spans_of.new.names c.in_ok-spans.ensures.kept foot c.args.footprint.now c.in_ok-spans.spans.items c.add.new.self c.add-2.new.self
    is at c.in_ok-spans.ensures.spans c.in_ok-spans.ensures.fit (rw (← c.as_slice-2.ensures.value) c.in_ok-add.ensures)
    (rw (← c.in_ok-own.ensures) c.in_ok-add-2.ensures)

pub returns-clause-first : goal.returns-clause-first
returns-clause-first c = λ foot is at j.
    let s = c.args.self.now in
    let t = c.spans_of.new.names in
    let kept = c.in_ok-spans.ensures.kept in
    first_at t c.are_apart.ensures foot s.place c.args.footprint.now (s.line, s.descriptors) c.in_ok-spans.spans.items j (get nat_cmp c.in_ok-found.found j)
    is (at_kept s.names t kept foot s.line s.place at.keeps at.fit) at.groups (λ i lt. all_fit_kept s.names t kept (foot i) (at.fit i lt)) c.in_ok-spans.ensures.fit c.in_ok-spans.ensures.spans
    (rw (← c.as_slice.ensures.value, ← c.uses.ensures) (c.in_ok-found.ensures j))
