use Rattle.std.proofs.Common.{arith, drop, length-take, length-drop}
use Rattle.op_meaning.specs.Meaning.{bytes_in}
use Rattle.op_meaning.proofs.Moved.{range_from}
use Rattle.op_meaning.proofs.transferring.end_in_file.Goals as goal

pub returns-clause-bytes : goal.returns-clause-bytes
returns-clause-bytes c =
    let whole = bytes_in c.args.state.now c.args.node in
    range_from whole c.args.start c.args.count c.min.result (omega arith)

pub returns-clause-count : goal.returns-clause-count
returns-clause-count c =
    let whole = bytes_in c.args.state.now c.args.node in
    omega (arith, length-take c.args.count (drop c.args.start whole), length-drop c.args.start whole)
