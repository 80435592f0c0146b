use Rattle.std.proofs.Common.{◌≡◌, ℕ, ◌+◌, List, ◌++◌, take, replicate, arith, ◌∙◌, ap}
use Rattle.std.proofs.lemmas.List.{take-replicate, replicate-append-replicate}
use Rattle.replay_report.proofs.zeros.Zeros.grow.Goals as goal

pub loop-self-preserved : goal.loop-self-preserved
loop-self-preserved c =
    let n : ℕ = c.loop-self.self-inside.count in
    let more : ℕ = c.min-more.result in
    let grown : replicate {A = ℕ} n 0 ++ take more (replicate {A = ℕ} 4096 0) ≡ replicate (n + more) 0 =
    ap (λ (zeros : List ℕ). replicate n 0 ++ zeros) (take-replicate more 4096 0 (omega arith)) ∙ replicate-append-replicate n more 0 in
    let step = c.update.ensures (replicate n 0) c.loop-self.invariant.holds in
    record {
      within = omega arith;
      holds = rw grown at step;
    }
