-- A view of code: what operations answer.
use Rattle.std.specs.Prelude.{◌≡◌, ℕ, ℤ, Bool, true, false, not, ◌==◌, List, Option, Some, None, Result, Ok, Err, pos}
use Rattle.sqe_codec.specs.declared.errno.Errno.{Errno}
use Rattle.op_meaning.specs.declared.outcome.Done.{Done}
use Rattle.op_meaning.specs.declared.reply.Reply.{Reply}
use Rattle.op_meaning.specs.Meaning.{Effect}
use Rattle.op_meaning.specs.Step.{changes_of, error_reply}
use Rattle.world_parts.specs.World.{World, apply_all}

-- the count and the bytes of an accepted operation, or its error
abbrev pub answer_of : Result Effect Errno → Result (ℕ × List ℕ) Errno
answer_of (Ok x) = Ok (x.count, x.bytes)
answer_of (Err e) = Err e

-- the same, of an outcome
abbrev pub answered : Result Done Errno → Result (ℕ × List ℕ) Errno
answered (Ok d) = Ok (d.count, d.bytes)
answered (Err e) = Err e

-- whether an outcome answers what an operation does
abbrev pub Answers : Result Effect Errno → Result Done Errno → Type 0
Answers x o = answered o ≡ answer_of x

-- the same, of an operation that is done
abbrev pub Gives : Effect → Done → Type 0
Gives x d = Answers (Ok x) (Ok d)

-- the world that an operation leaves
abbrev pub world_after : World → Result Effect Errno → World
world_after s x = apply_all (changes_of x) s

-- whether an operation failed of which this is given, if anything is, and that asked for so many bytes, or for none
abbrev pub fails_as : Option (ℤ × Bool) → Option ℕ → Result (ℕ × List ℕ) Errno → Bool
fails_as g a (Err e) = true
fails_as (Some g) a (Ok x) = g.1
fails_as None None (Ok x) = false
fails_as None (Some n) (Ok x) = not (n == x.0)

-- the reply that has what an operation answers, or where it is done what is given of it
abbrev pub reply_with : Option (ℤ × Bool) → Bool → Result (ℕ × List ℕ) Errno → Reply
reply_with None posted (Ok x) = record { res = pos x.0; bytes = x.1; posted = posted }
reply_with (Some g) posted (Ok x) = record { res = g.0; bytes = x.1; posted = posted }
reply_with g posted (Err e) = error_reply e posted
