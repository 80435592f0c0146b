use Rattle.std.proofs.Common.{◌-◌, ◌≤◌, arith, length, ◌∙◌, sym, subst}
use Rattle.std.proofs.lemmas.Result.{IfOk-weaker}
use Rattle.entry_checks.specs.Operation.{file_limit}
use Rattle.op_meaning.specs.Meaning.{bytes_in}
use Rattle.op_meaning.proofs.Moved.{length-taken}
use Rattle.op_meaning.proofs.transferring.bytes_from.Goals as goal

pub returns-clause-bytes : goal.returns-clause-bytes
returns-clause-bytes c = IfOk-weaker c.read_shared.result _ _ (λ taken is. is ∙ c.end_in_file.ensures.bytes) c.read_shared.ensures

pub returns-clause-count : goal.returns-clause-count
returns-clause-count c =
    let whole = bytes_in c.args.state.now c.args.node in
    IfOk-weaker c.read_shared.result _ (λ taken. length taken ≤ c.args.count) (λ taken is. subst (λ xs. length xs ≤ c.args.count) (sym is) (length-taken whole c.args.start c.args.count)) (returns-clause-bytes c)

pub returns-clause-place : goal.returns-clause-place
returns-clause-place c =
    let whole = bytes_in c.args.state.now c.args.node in
    IfOk-weaker c.read_shared.result _ (λ taken. length taken ≤ file_limit - c.args.start)
    (λ taken is. subst (λ xs. length xs ≤ file_limit - c.args.start) (sym (is ∙ c.end_in_file.ensures.bytes)) (omega (arith, c.end_in_file.ensures.count, c.end_in_file.ensures.place)))
    c.read_shared.ensures
