use Rattle.std.proofs.Common.{arith, ℕ, ◌≤◌, ◌<◌}
use Rattle.use_line.proofs.Entries.{level_at}
use Rattle.use_line.proofs.steps.Steps.last_part.Goals as goal

pub returns-in-Some-clause-level : goal.returns-in-Some-clause-level
returns-in-Some-clause-level c =
    let h = c.in-Some.ensures in
    let start : ℕ = c.max.result in
    let m = c.max.ensures in
    let from : c.in-Some.key ≤ start = grind (arith, m) in
    let to : start < c.args.high = (let under = c.requires in let key = h.0 in grind (arith, m, under, key)) in
    (level_at c.args.self.now c.in-Some.key start c.args.high c.in-Some.value from to h.3).0

pub returns-in-Some-clause-value : goal.returns-in-Some-clause-value
returns-in-Some-clause-value c =
    let h = c.in-Some.ensures in
    let start : ℕ = c.max.result in
    let m = c.max.ensures in
    let from : c.in-Some.key ≤ start = grind (arith, m) in
    let to : start < c.args.high = (let under = c.requires in let key = h.0 in grind (arith, m, under, key)) in
    (level_at c.args.self.now c.in-Some.key start c.args.high c.in-Some.value from to h.3).1

pub returns-in-None-clause-level : goal.returns-in-None-clause-level
returns-in-None-clause-level c = (level_at c.args.self.now 0 c.args.low c.args.high _ (omega arith) c.requires (λ b more less. (c.in-None.ensures b less).1)).0

pub returns-in-None-clause-value : goal.returns-in-None-clause-value
returns-in-None-clause-value c = (level_at c.args.self.now 0 c.args.low c.args.high _ (omega arith) c.requires (λ b more less. (c.in-None.ensures b less).1)).1
