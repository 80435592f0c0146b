use Rattle.extent_bytes.proofs.Outcomes.{err_of}
use Rattle.std.proofs.lemmas.Result.{IfOk-from_err}
use Rattle.std.proofs.Common.{refl}
use Rattle.extent_bytes.proofs.extents.Extents.cut.Goals as goal

pub returns-in_err-part : goal.returns-in_err-part
returns-in_err-part c =
    let out = c.from_residual in
    let gone = out.ensures.0 in record {
      part = IfOk-from_err out.result _ gone;
      part_len = IfOk-from_err out.result _ gone;
      rest = IfOk-from_err out.result _ gone;
      len = IfOk-from_err out.result _ gone;
      err = err_of out.result refl;
    }

pub returns-in_err-zero : goal.returns-in_err-zero
returns-in_err-zero c =
    let out = c.from_residual-in_err-zero in
    let gone = out.ensures.0 in record {
      part = IfOk-from_err out.result _ gone;
      part_len = IfOk-from_err out.result _ gone;
      rest = IfOk-from_err out.result _ gone;
      len = IfOk-from_err out.result _ gone;
      err = err_of out.result c.in_err-zero.ensures.err;
    }

pub returns : goal.returns
returns c =
    let part = c.in_ok-part.ensures in
    let rest = c.in_ok-zero.ensures in record { part = part.value; part_len = part.len; rest = rest.ok; len = rest.len; err = tt }
