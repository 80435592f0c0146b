use Rattle.std.proofs.Common.{◌+◌, ◌-◌, take, drop, ap, ◌∙◌, arith}
use Rattle.std.proofs.lemmas.List.{length-take}
use Rattle.trace_stream.specs.Held.{Held, grown}
use Rattle.trace_stream.proofs.Ranges.{came, part_long, range_grown}
use Rattle.trace_stream.proofs.held.Held.take_piece.Goals as goal

pub invariant_of-self-2 : goal.invariant_of-self-2
invariant_of-self-2 g c = (omega arith, c.in_ok-count.ensures.ok.1, omega (arith, c.in_ok-count.ensures.ok.0))

pub returns-clause-ok : goal.returns-clause-ok
returns-clause-ok g c =
    let h = c.self.inside in
    let old = h.buffer.value.items in
    let new = c.read_behind.new.buffer.value.items in
    let count = c.in_ok-count.count in
    let more = take count (drop h.end new) in
    let rest = range_grown old new h.used h.end count c.self.invariant.0 c.in_ok-count.ensures.kept in (
      more,
      c.in_ok-count.ensures.ok.2,
      ap (λ r. record { rest = r; place = h.place }) rest ∙ ap (λ (k : Held). grown k more) c.self.view_is,
      came count more _ (part_long new h.end count c.in_ok-count.ensures.ok.1) c.in_ok-count.ensures.ok.3,
    )

pub returns-clause-bound : goal.returns-clause-bound
returns-clause-bound g c =
    let h = c.self.inside in
    let count = c.in_ok-count.count in
    omega (arith, c.in_ok-count.ensures.ok.0, length-take (h.end + count - h.used) (drop h.used c.read_behind.new.buffer.value.items))
