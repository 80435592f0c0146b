use Rattle.std.proofs.Common.{◌≡◌, ◌||◌, ℕ, take}
use Rattle.use_line.specs.Known.{is_among}
use Rattle.foot_waits.specs.Groups.{told_among}
use Rattle.world_parts.specs.Uses.{use_meant}
use Rattle.foot_waits.proofs.descriptors.Descriptors.tell_groups.Given as goal

-- those of the groups so far are told
abbrev pub invariant-loop-group : goal.invariant-loop-group
invariant-loop-group l = (j : ℕ) → is_among l.told.items j ≡ (is_among l.fn.told.items j || told_among l.self l.own (use_meant l.used) j (take l.group-index l.self))
