-- A view of code: replies whose bytes lie elsewhere.
use Rattle.std.specs.Prelude.{◌≡◌, ℕ, ◌+◌, ◌<◌, ◌≤◌, List, [], ◌++◌, length, take, drop, slice_index_or, All}
use Rattle.op_meaning.specs.declared.reply.Reply.{Reply}
use Rattle.op_meaning.specs.declared.replies.Line.{Line}
use Rattle.op_meaning.specs.declared.replies.Spot.{Spot}
use Rattle.op_meaning.specs.declared.replies.Spot.TheVariants.{Copied, Listed}
use Rattle.op_meaning.specs.declared.replies.BytesRef.{BytesRef}
use Rattle.op_meaning.specs.declared.replies.BytesRef.TheVariants as here

-- the bytes of a reply, among those that are copied or in one of the lists
abbrev pub bytes_at : List ℕ → List (List ℕ) → Spot → List ℕ
bytes_at copied lists (Copied count at) = take count (drop at copied)
bytes_at copied lists (Listed index) = slice_index_or lists index []

-- they are there: few are copied, and many are a list
abbrev pub IsThere : List ℕ → List (List ℕ) → Spot → Type 0
IsThere copied lists (Copied count at) = (at + count ≤ length copied) × (count ≤ 2048)
IsThere copied lists (Listed index) = (index < length lists) × (2048 < length (slice_index_or lists index []))

-- the reply that a line stands for
abbrev pub reply_at : List ℕ → List (List ℕ) → Line → Reply
reply_at copied lists line = record { res = line.res; bytes = bytes_at copied lists line.spot; posted = line.posted }

-- the bytes of all lines are there
abbrev pub AreThere : List ℕ → List (List ℕ) → List Line → Type 0
AreThere copied lists lines = All (λ (line : Line). IsThere copied lists line.spot) lines

-- a list, and others behind it
abbrev pub Extends : {X : Type 0} → List X → List X → Type 0
Extends {X} old new = (more : List X) × (new ≡ old ++ more)

-- the bytes where they lie
abbrev pub bytes_here : BytesRef → List ℕ
bytes_here (here.Copied bytes) = bytes.now
bytes_here (here.Listed bytes) = bytes.now

-- few are copied, and many are a list
abbrev pub IsFewOrMany : BytesRef → Type 0
IsFewOrMany (here.Copied bytes) = length bytes.now ≤ 2048
IsFewOrMany (here.Listed bytes) = 2048 < length bytes.now
