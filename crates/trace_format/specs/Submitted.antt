-- The model: a submitted entry, with the bytes in memory that it speaks of.
use Rattle.std.specs.Prelude.{ℕ, List, Option}
use Rattle.sqe_codec.specs.declared.sqe.Sqe.{Sqe}
use Rattle.trace_format.specs.declared.given.Given.{Given}

-- the fields of an entry; the lengths of its vector, the bytes that it writes, or its paths; and what a trace gives in place of deciding it, which versions 1 and 2 never do
pub record Submitted : Type 0 where
  pub sqe : Sqe
  pub side : List ℕ
  pub given : Option Given
