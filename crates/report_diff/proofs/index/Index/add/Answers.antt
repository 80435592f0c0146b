use Rattle.std.proofs.Common.{◌≡◌, true, Some}
use Rattle.std.specs.Prelude.{is_some}
use Rattle.std.proofs.lemmas.Map.Text.{btree_map_updates_str}
use Rattle.report_diff.proofs.IndexLemmas.{agrees_if, index_known, index_new}
use Rattle.report_diff.proofs.index.Index.add.Goals as goal

pub returns-then-is_none-clause-index : goal.returns-then-is_none-clause-index
returns-then-is_none-clause-index c = λ text index. index_known c.args.self.now text c.args.line.now c.in-Some.first.now index
    (rw c.subject-about.ensures at (c.in-Some.ensures text index))

pub returns-in_ok-have_same_facts-in-Some-clause-index : goal.returns-in_ok-have_same_facts-in-Some-clause-index
returns-in_ok-have_same_facts-in-Some-clause-index c = λ text index. index_known c.args.self.now text c.args.line.now c.in-Some.first.now index
    (rw c.subject-about.ensures at (c.in-Some.ensures text index))

pub returns-in_ok-have_same_facts-in-Some-clause-agrees : goal.returns-in_ok-have_same_facts-in-Some-clause-agrees
returns-in_ok-have_same_facts-in-Some-clause-agrees c = λ text index. agrees_if text c.args.line.now c.in-Some.first.now _
    (rw c.subject-about.ensures at (c.in-Some.ensures text index))
    (let some : is_some c.section.result ≡ true = rw c.if-is_none.false at c.is_none.ensures in rw (c.section.ensures, c.line_kind.ensures) at some)
    c.in_ok-have_same_facts-in-Some.ensures

pub returns-in_ok-push-in-None-clause-index : goal.returns-in_ok-push-in-None-clause-index
returns-in_ok-push-in-None-clause-index c = λ text index. index_new c.args.self.now c.insert.new.self c.push.new.self c.args.line text index
    (rw c.subject-about.ensures at (c.in-None.ensures text index)) c.subject-about.result.now c.subject-about.ensures
    (btree_map_updates_str c.subject-about.result.now c.args.self.now.known c.insert.new.self (Some c.args.line) c.in_ok-insert-in-None.ensures.updates)
    c.in_ok-push-in-None.ensures.items
