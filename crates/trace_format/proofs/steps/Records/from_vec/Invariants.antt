use Rattle.std.proofs.Common.{◌≡◌, take}
use Rattle.trace_format.specs.Spots.{numbers_from, firsts_from}
use Rattle.trace_format.proofs.steps.Records.from_vec.Given as goal

-- what is kept beside the records so far
abbrev pub invariant-loop-i : goal.invariant-loop-i
invariant-loop-i l = (l.record_numbers.items ≡ numbers_from 0 (take l.i l.items.items)) × (l.firsts.items ≡ firsts_from 0 (take l.i l.items.items))
