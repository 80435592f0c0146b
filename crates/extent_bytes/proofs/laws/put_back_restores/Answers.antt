use Rattle.extent_bytes.proofs.Whole.{overwritten-zeroed-range_of}
use Rattle.extent_bytes.proofs.laws.put_back_restores.Goals as goal

pub returns : goal.returns
returns c = λ xs lo hi h l. overwritten-zeroed-range_of xs lo hi h l
