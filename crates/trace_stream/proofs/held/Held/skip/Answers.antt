use Rattle.std.proofs.Common.{◌≡◌, ◌+◌, ◌-◌, ◌≤◌, take, drop, length, ap, ◌∙◌, arith}
use Rattle.std.proofs.lemmas.List.{length-take}
use Rattle.trace_format.proofs.Slices.{part_behind}
use Rattle.trace_stream.specs.Held.{Held}
use Rattle.trace_stream.proofs.held.Held.skip.Goals as goal

pub returns-clause-rest : goal.returns-clause-rest
returns-clause-rest c =
    let h = c.self.inside in
    let all = h.buffer.value.items in
    let count = c.args.count in
    let same = ap (λ (k : Held). k.rest) c.self.view_is in
    let within : count ≤ h.end - h.used = omega (arith, c.requires, ap length same, length-take (h.end - h.used) (drop h.used all)) in
    let less : h.end - (h.used + count) ≡ h.end - h.used - count = omega arith in
    ap (λ n. take n (drop (h.used + count) all)) less ∙ part_behind all h.used count (h.end - h.used) within ∙ ap (drop count) same
