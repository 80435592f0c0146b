use Rattle.replay_report.proofs.InOrder.{lines_are_shown, reports_in_order}
use Rattle.replay_report.proofs.in_order.reports_in_order.Goals as goal

pub returns-clause-parts : goal.returns-clause-parts
returns-clause-parts c = reports_in_order

pub returns-clause-shown : goal.returns-clause-shown
returns-clause-shown c = lines_are_shown
