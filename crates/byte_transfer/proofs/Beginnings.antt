-- Beginnings of a text that a writer took.
use Rattle.std.proofs.Common.{◌+◌, ◌++◌, ℕ, List, Option, length, take, sym, subst, length-append, arith}
use Rattle.std.specs.Io.KnownBytes.{Appends}
use Rattle.std.proofs.KnownBytes.{Appends-nil, Appends-trans}
use Rattle.std.proofs.Math.Seq.{take-append-add, take-length}
use Rattle.std.proofs.lemmas.List.{take-append-le}
use Rattle.byte_transfer.specs.Transfer.{AppendsPart, AppendsSome}

pub some_of_part : (a b : Option (List ℕ)) (text : List ℕ) → AppendsPart a b text → AppendsSome a b text
some_of_part a b text part = (part.0, omega (arith, part.1), part.2)

pub some_of_all : (a b : Option (List ℕ)) (text : List ℕ) → Appends a b text → AppendsSome a b text
some_of_all a b text wrote = (length text, omega arith, subst (Appends a b) (sym (take-length text)) wrote)

pub some_of_none : (a : Option (List ℕ)) (text : List ℕ) → AppendsSome a a text
some_of_none a text = (0, omega arith, Appends-nil a)

-- behind a text that went out whole
pub some_behind : (a b c : Option (List ℕ)) (out text : List ℕ) → Appends a b out → AppendsSome b c text → AppendsSome a c (out ++ text)
some_behind a b c out text wrote some = (
  length out + some.0,
  omega (arith, some.1, length-append out text),
  subst (Appends a c) (sym (take-append-add out text some.0)) (Appends-trans a b c out (take some.0 text) wrote some.2),
)

-- of a text that goes on
pub some_more : (a b : Option (List ℕ)) (text more : List ℕ) → AppendsSome a b text → AppendsSome a b (text ++ more)
some_more a b text more (n, within, wrote) = (
  n,
  omega (arith, within, length-append text more),
  subst (Appends a b) (sym (take-append-le n text more within)) wrote,
)
