use Rattle.interleaving.proofs.ByRows.{rows_foresee_lem}
use Rattle.interleaving.proofs.rows_foresee.Goals as goal

pub returns : goal.returns
returns g c = λ trace. rows_foresee_lem (g.S.Rowed.system trace) (g.S.Rowed.rows trace) (g.S.Rowed.row_laws trace)
