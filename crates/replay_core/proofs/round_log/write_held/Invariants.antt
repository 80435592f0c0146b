use Rattle.std.proofs.Common.{◌≡◌, map, drop, length}
use Rattle.std.specs.Option.{option_map}
use Rattle.round_scheduler.specs.Telling.{held_meant}
use Rattle.replay_core.specs.Waits.{waited_meant}
use Rattle.replay_core.specs.Noted.{noted}
use Rattle.replay_core.proofs.round_log.write_held.Given as goal

-- what is left to write leads to the same
abbrev pub invariant-loop-found : goal.invariant-loop-found
invariant-loop-found l = record {
  next : (goal.iterator-loop-found).can_next l.found-iterator;
  finite : (goal.iterator-loop-found).is_finite l.found-iterator;
  many : length l.waits.items ≡ length l.fn.waits.items;
  rest : noted (map (option_map waited_meant) l.waits.items) (drop (length l.yielded) (map held_meant l.fn.held)) ≡ noted (map (option_map waited_meant) l.fn.waits.items) (map held_meant l.fn.held);
}
