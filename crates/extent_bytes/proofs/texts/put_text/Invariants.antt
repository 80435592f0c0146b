use Rattle.std.proofs.Common.{◌+◌, ◌-◌, ◌≤◌, get_or}
use Rattle.extent_bytes.specs.Pages.{Overlaid}
use Rattle.extent_bytes.proofs.texts.put_text.Given as goal

-- the first bytes are written
abbrev pub invariant-loop-done : goal.invariant-loop-done
invariant-loop-done l = record {
  forward : l.from ≤ l.done;
  within : l.done ≤ l.to;
  written : Overlaid l.initial.pages l.pages l.at (l.at + (l.done - l.from)) (λ p. get_or l.text.value.items (l.from + (p - l.at)) 0);
}

abbrev pub decreases-loop-done : goal.decreases-loop-done
decreases-loop-done l = l.to - l.done
