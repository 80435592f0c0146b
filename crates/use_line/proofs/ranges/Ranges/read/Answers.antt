use Rattle.std.proofs.Common.{rules, sym, subst, ◌≡◌, ◌∙◌, ℕ, length, vec_len}
use Rattle.std.specs.Prelude.{Some}
use Rattle.std.proofs.lemmas.Result.{on_ok_weaker}
use Rattle.use_line.specs.Steps.{HasSet}
use Rattle.use_line.specs.declared.read.Read.{Read}
use Rattle.use_line.proofs.Chain.{read_known}
use Rattle.use_line.proofs.ranges.Ranges.read.Goals as goal

pub returns : goal.returns
returns c =
    let u = c.self.inside in
    let many : length u.reads.items ≡ vec_len u.reads = search rules in
    let number : c.in-Ok.number ≡ length u.reads.items = c.in-Ok.ensures.1 ∙ c.len.ensures ∙ sym many in
    let r : Read = record { place = c.args.place; older = c.in_ok-older.older } in
    rw (← c.self.view_is, c.in_ok-push.ensures.items) (on_ok_weaker c.set.result (λ set. read_known u.writers u.readers c.set.new.self u.reads.items r c.args.low c.args.high c.self.invariant c.in_ok-older.ensures
    (subst (λ (n : ℕ). HasSet u.readers c.set.new.self c.args.low c.args.high (Some n)) number set)) c.set.ensures.set)
