-- A view of code: the roles of a trace's places.
use Rattle.std.specs.Prelude.{List, map}
use Rattle.std.specs.List.{range_with_len}
use Rattle.recording.specs.declared.recording.Recording.{Recording}
use Rattle.recording.specs.Steps.{places}
use Rattle.chain_plan.specs.declared.role.Role.{Role}
use Rattle.chain_plan.specs.Chain.{role}

-- The roles of all places, in order.
abbrev pub roles : Recording → List Role
roles t = map (role t) (range_with_len 0 (places t))
