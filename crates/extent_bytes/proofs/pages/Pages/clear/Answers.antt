use Rattle.std.proofs.Common.{ℕ, ◌+◌, ◌-◌, ◌*◌, length, get_or, arith, refl, ap, ◌∙◌}
use Rattle.std.proofs.lemmas.List.{length-replicate, get_or-replicate}
use Rattle.std.proofs.lemmas.Result.{on_ok_weaker}
use Rattle.extent_bytes.proofs.Overlays.{overlaid_to}
use Rattle.extent_bytes.proofs.pages.Pages.clear.Goals as goal

pub returns-clause-ok : goal.returns-clause-ok
returns-clause-ok c =
    let k = c.args.number in
    let from = c.args.from in
    let to = c.args.to in
    let n = length-replicate {A = ℕ} (to - from) 0 in
    let bs = c.zeros.ensures in
    on_ok_weaker c.write.result
    (overlaid_to c.args.self.now c.write.new.self (k * 4096 + from) (k * 4096 + (from + length c.zeros.result.now)) (k * 4096 + from) (k * 4096 + to) _ _ refl (omega (arith, n, ap length bs))
    (λ p l h. ap (λ xs. get_or xs (p - (k * 4096 + from)) 0) bs ∙ get_or-replicate (to - from) (p - (k * 4096 + from)) 0 0 (omega arith)))
    c.write.ensures.ok
