use Rattle.std.proofs.Common.{◌≡◌, ◌+◌, ◌-◌, ℕ, List, take, drop, arith, sym, ◌∙◌}
use Rattle.std.specs.Cmp.Lexicographic.{slice_cmp}
use Rattle.std.specs.Ordering.{nat_cmp}
use Rattle.world_parts.proofs.FullPaths.{behind_front, from_place, longer_front, same_part}
use Rattle.world_parts.proofs.full_path.order_of.Goals as goal

pub loop-same-preserved : goal.loop-same-preserved
loop-same-preserved c =
    let n : ℕ = c.loop-same.same in
    let xs : List ℕ = c.args.bytes.now in
    let ys : List ℕ = c.args.others.now in
    let width : n + 256 - n ≡ 256 = omega arith in
    let part : take (n + 256 - n) (drop n xs) ≡ take (n + 256 - n) (drop n ys) = same_part _ _ (sym c.if-ne.false ∙ c.ne.ensures) in
    record {
      within = omega arith;
      front = longer_front n 256 xs ys c.loop-same.invariant.front (rw width at part);
    }

pub returns : goal.returns
returns c =
    let n : ℕ = c.loop-same.same in
    let xs : List ℕ = c.args.bytes.now in
    let ys : List ℕ = c.args.others.now in
    c.cmp.ensures ∙ (λ i. slice_cmp nat_cmp (from_place n xs i) (from_place n ys i)) ∙ behind_front n xs ys c.loop-same.invariant.front
