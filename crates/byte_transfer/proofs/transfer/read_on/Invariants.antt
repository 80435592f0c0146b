use Rattle.std.proofs.Common.{◌≡◌, ◌≤◌, ◌-◌, vec_len}
use Rattle.byte_transfer.specs.Transfer.{GoesOn}
use Rattle.byte_transfer.proofs.transfer.read_on.Given as goal

abbrev pub invariant-loop-piece : goal.invariant-loop-piece
invariant-loop-piece g l = record {
  taken : GoesOn l.initial.text.items (g.S.Source.left l.initial.source) (g.S.Source.left l.source) l.text.items;
  bound : vec_len l.text ≤ l.most;
  failures : g.S.Source.failures l.source ≡ g.S.Source.failures l.initial.source;
}

abbrev pub decreases-loop-piece : goal.decreases-loop-piece
decreases-loop-piece g l = l.most - vec_len l.text
