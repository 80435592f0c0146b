use Rattle.std.proofs.Common.{rules}
use Rattle.json_lines.proofs.Unwritten.{some_of_fault}
use Rattle.diff_stream.proofs.Standing.{some_written, stops_none, takes_none}
use Rattle.diff_stream.proofs.Ending.{compared, part_compared, refused_up_to, up_to, up_to_write, whole_is}
use Rattle.diff_stream.proofs.Standing.{found_written, moved_ends}
use Rattle.diff_stream.proofs.report.compare_rest.Goals as goal

pub returns-in_err-write_found-clause-err : goal.returns-in_err-write_found-clause-err
returns-in_err-write_found-clause-err g c = λ l r w at.
    search (
      rules,
      up_to c.args.form c.args.terms l _ r _ w _ c.in_err-write_found.field-0.0 c.in_err-write_found.ensures.outside
          (some_written c.args.form c.args.terms c.args.sides.first c.args.sides.second c.args.sides.merging l _ _ r _ _ w _ _ at.is (takes_none _) (takes_none _) c.in_err-write_found.ensures.err),
    )

pub returns-in_err-one-clause-err : goal.returns-in_err-one-clause-err
returns-in_err-one-clause-err g c = λ l r w at.
    let is = found_written c.args.form c.args.sides.first c.args.sides.second c.args.sides.merging c.write_found.new.merging l _ r _ w _ _ at.is c.in_ok-write_found.ensures.ok in
    search (
      rules,
      up_to c.args.form c.args.terms l _ r _ w _ c.in_err-one.field-0.0 c.in_err-one.ensures.outside
          (some_written c.args.form c.args.terms c.args.sides.first c.args.sides.second c.write_found.new.merging l _ _ r _ _ w _ _ is c.in_err-one.ensures.taken (takes_none _) (stops_none c.args.form c.write_found.new.merging _)),
    )

pub returns-in_err-one-clause-taken : goal.returns-in_err-one-clause-taken
returns-in_err-one-clause-taken g c = (c.in_err-one.ensures.taken, takes_none _)

pub returns-in_err-other-clause-err : goal.returns-in_err-other-clause-err
returns-in_err-other-clause-err g c = λ l r w at.
    let is = found_written c.args.form c.args.sides.first c.args.sides.second c.args.sides.merging c.write_found.new.merging l _ r _ w _ _ at.is c.in_ok-write_found.ensures.ok in
    search (
      rules,
      up_to c.args.form c.args.terms l _ r _ w _ c.in_err-other.field-0.0 c.in_err-other.ensures.outside
          (some_written c.args.form c.args.terms c.args.sides.first c.args.sides.second c.write_found.new.merging l _ _ r _ _ w _ _ is c.in_ok-one.ensures.taken c.in_err-other.ensures.taken (stops_none c.args.form c.write_found.new.merging _)),
    )

pub returns-in_err-comparison-clause-err : goal.returns-in_err-comparison-clause-err
returns-in_err-comparison-clause-err g c = λ l r w at.
    let a = c.args.sides.first in
    let b = c.args.sides.second in
    let m = c.write_found.new.merging in
    let moved = c.in_ok-write_found.ensures.ok in
    let is = found_written c.args.form a b c.args.sides.merging m l _ r _ w _ _ at.is moved in
    let ends = moved_ends c.args.form a b c.args.sides.merging m l _ r _ w _ _ at moved in
    let leaves = c.in_ok-one.ensures.ok is.first_ended in
    let leaves2 = c.in_ok-other.ensures.ok is.second_ended in
    let it = whole_is c.args.form a b m l _ _ r _ _ w _ c.in_ok-one.one.items c.in_ok-other.other.items is ends leaves leaves2 in
    let tells = (rw (c.as_slice.ensures.value, c.as_slice-2.ensures.value) at c.in_err-comparison.ensures.err) it.is.one it.is.other it.is.taken it.is.merges it.awaits in
    search (rules, refused_up_to c.args.form c.args.terms a b m l _ _ r _ _ w _ c.in_ok-one.one.items c.in_ok-other.other.items it leaves leaves2 c.in_ok-write_found.ensures.empty c.in_err-comparison.field-0.0 tells)

pub returns-in_err-write_as-clause-err : goal.returns-in_err-write_as-clause-err
returns-in_err-write_as-clause-err g c = λ l r w at.
    let a = c.args.sides.first in
    let b = c.args.sides.second in
    let m = c.write_found.new.merging in
    let moved = c.in_ok-write_found.ensures.ok in
    let is = found_written c.args.form a b c.args.sides.merging m l _ r _ w _ _ at.is moved in
    let ends = moved_ends c.args.form a b c.args.sides.merging m l _ r _ w _ _ at moved in
    let leaves = c.in_ok-one.ensures.ok is.first_ended in
    let leaves2 = c.in_ok-other.ensures.ok is.second_ended in
    let it = whole_is c.args.form a b m l _ _ r _ _ w _ c.in_ok-one.one.items c.in_ok-other.other.items is ends leaves leaves2 in
    let compares = (rw (c.as_slice.ensures.value, c.as_slice-2.ensures.value) at c.in_ok-comparison.ensures.ok) it.is.one it.is.other it.is.taken it.is.merges it.awaits in
    let e = c.in_err-write_as.field-0.0 in
    let part = some_of_fault _ _ _ e c.in_err-write_as.ensures.err in
    search (
      rules,
      up_to_write c.args.form c.args.terms l _ r _ w _ e
          (part_compared c.args.form c.args.terms a b m l _ _ r _ _ w _ _ c.in_ok-one.one.items c.in_ok-other.other.items it leaves leaves2 c.in_ok-comparison.comparison c.as_slice-3.result.now c.as_slice-3.ensures.value compares part),
    )

pub returns-clause-ok : goal.returns-clause-ok
returns-clause-ok g c = λ l r w at.
    let a = c.args.sides.first in
    let b = c.args.sides.second in
    let m = c.write_found.new.merging in
    let moved = c.in_ok-write_found.ensures.ok in
    let is = found_written c.args.form a b c.args.sides.merging m l _ r _ w _ _ at.is moved in
    let ends = moved_ends c.args.form a b c.args.sides.merging m l _ r _ w _ _ at moved in
    let leaves = c.in_ok-one.ensures.ok is.first_ended in
    let leaves2 = c.in_ok-other.ensures.ok is.second_ended in
    let it = whole_is c.args.form a b m l _ _ r _ _ w _ c.in_ok-one.one.items c.in_ok-other.other.items is ends leaves leaves2 in
    let compares = (rw (c.as_slice.ensures.value, c.as_slice-2.ensures.value) at c.in_ok-comparison.ensures.ok) it.is.one it.is.other it.is.taken it.is.merges it.awaits in
    compared c.args.form c.args.terms a b m l _ _ r _ _ w _ _ c.in_ok-one.one.items c.in_ok-other.other.items it leaves leaves2 c.in_ok-comparison.comparison compares (rw c.as_slice-3.ensures.value at c.in_ok-write_as.ensures.ok)
