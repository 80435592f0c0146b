use Rattle.world_parts.specs.Start.{start}
use Rattle.world_parts.proofs.FileNames.{has_file_names, named_start}
use Rattle.world_parts.proofs.laws.starts_have_file_names.Goals as goal

pub returns : goal.returns
returns c = λ t. has_file_names (start t) (named_start t)
