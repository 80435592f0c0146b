use Rattle.wave_pick.proofs.RowItems.{rows_meet_the_same}
use Rattle.wave_pick.proofs.Witness.{deciding_in_row, row_witness_holds, row_witness_stays}
use Rattle.wave_pick.proofs.laws.rows_meet_the_same.Goals as goal

pub returns : goal.returns
returns c = record {
  items = rows_meet_the_same;
  deciding = deciding_in_row;
  hold = row_witness_holds;
  stay = row_witness_stays;
}
