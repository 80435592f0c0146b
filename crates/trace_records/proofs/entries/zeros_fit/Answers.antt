use Rattle.std.proofs.Common.{◌<◌, ◌≤◌, sym, arith}
use Rattle.trace_format.specs.Sides.{vector_len}
use Rattle.trace_records.proofs.Zeros.{is_writev, lengths_le, lengths_whole, write_fits, too_long, writev_fits}
use Rattle.trace_records.proofs.entries.zeros_fit.Goals as goal

pub returns-then-sqe-eq23 : goal.returns-then-sqe-eq23
returns-then-sqe-eq23 c =
    rw (c.from.ensures, c.min.ensures, c.from-then-sqe-eq23.ensures) (sym (write_fits c.args.sqe.now c.args.lengths.now c.args.len c.if-sqe-eq23.true c.requires.whole))

pub returns-then-vector-len : goal.returns-then-vector-len
returns-then-vector-len c =
    let writev = is_writev c.args.sqe.now c.requires.kind c.if-sqe-eq23.false in
    let lt : c.args.len < vector_len c.args.sqe.now = omega (arith, c.if-vector-len.true, c.vector_len-vector.ensures) in
    sym (too_long c.args.sqe.now c.args.lengths.now c.args.len writev lt (lengths_le c.args.sqe.now c.args.lengths.now c.args.len c.requires.whole))

pub returns : goal.returns
returns c =
    let writev = is_writev c.args.sqe.now c.requires.kind c.if-sqe-eq23.false in
    let le : vector_len c.args.sqe.now ≤ c.args.len = omega (arith, c.if-vector-len.false, c.vector_len-vector.ensures) in
    let whole = lengths_whole c.args.sqe.now c.args.lengths.now c.args.len writev le c.requires.whole in
    rw (c.from-2.ensures, c.from-3.ensures, c.vector_len-vector.ensures, c.written_len.ensures) (sym (writev_fits c.args.sqe.now c.args.lengths.now c.args.len writev le whole))
