use Rattle.world_parts.proofs.FileNames.{has_file_names}
use Rattle.op_meaning.specs.Step.{run_world}
use Rattle.op_meaning.proofs.OpLaws.{named_run}
use Rattle.op_meaning.proofs.laws.runs_have_file_names.Goals as goal

pub returns : goal.returns
returns c = λ t n. has_file_names (run_world t n) (named_run t n)
