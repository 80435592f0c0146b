-- The model: the parts of a text: all descriptions and all rings.
use Rattle.std.specs.Prelude.{ℕ, nat_le, Bool, List, [], ◌∷◌, ◌++◌, length, Option, None, Some, Result, Ok, codes, if◌then◌else◌}
use Rattle.std.specs.Str.{bytes_eq}
use Rattle.trace_format.specs.declared.trace.Description.{Description}
use Rattle.trace_format.specs.declared.trace.Buffer.{Buffer}
use Rattle.trace_format.specs.declared.trace.Ring.{Ring}
use Rattle.text_words.specs.declared.fault.Fault.{Fault}
use Rattle.text_words.specs.declared.fault.Reason.TheVariants as why
use Rattle.text_words.specs.Read.{Rest, ◌>>=◌, fault, refuse_if, repeated}
use Rattle.text_words.specs.Words.{first_word}
use Rattle.text_trace.specs.Lines.{buffer_of, description_of, ring_line, slots_of}

-- the lines with the one that is next
abbrev pub with_line : List ℕ → Rest → List ℕ
with_line lines r = lines ++ (first_word r).left ∷ []

-- whether the next line begins with a word
abbrev pub begins : List ℕ → Rest → Bool
begins word r = bytes_eq (first_word r).bytes word

-- a fault at the next line where there are as many of its kind as there may be
abbrev pub room_for : ℕ → ℕ → Rest → Result Bool Fault
room_for most count r = refuse_if (nat_le most count) (fault why.TooMany (first_word r).left)

-- Below, what is read has three parts: the values, how many bytes of the text are left from each line on that makes bytes, and what is
-- left to read.

-- one description more
unfoldable pub one_description : (List ℕ → Option ℕ) → List Description × List ℕ × Rest → Result (List Description × List ℕ × Rest) Fault
one_description names s = do
  _ ← room_for 65535 (length s.0) s.2
  x ← description_of names (length s.0) s.2
  Ok (s.0 ++ x.0 ∷ [], with_line s.1 s.2, x.1)

abbrev pub more_descriptions : (List ℕ → Option ℕ) → List Description × List ℕ × Rest → Option (Result (List Description × List ℕ × Rest) Fault)
more_descriptions names s = if begins (codes "open") s.2 then Some (one_description names s) else None

-- all descriptions
unfoldable pub descriptions_of : (List ℕ → Option ℕ) → List ℕ → Rest → Result (List Description × List ℕ × Rest) Fault
descriptions_of names lines r = repeated (length r.text) (more_descriptions names) ([], lines, r)

-- the slots of a line that begins with a word, none where the line is another
unfoldable pub slots_behind : List ℕ → List ℕ → Rest → Result (List ℕ × List ℕ × Rest) Fault
slots_behind word lines r =
    if begins word r then (slots_of r >>= λ x. Ok (x.0, with_line lines r, x.1)) else Ok ([], lines, r)

-- one buffer more
unfoldable pub one_buffer : List Buffer × List ℕ × Rest → Result (List Buffer × List ℕ × Rest) Fault
one_buffer s = do
  _ ← room_for 1024 (length s.0) s.2
  x ← buffer_of (length s.0) s.2
  Ok (s.0 ++ x.0 ∷ [], with_line s.1 s.2, x.1)

abbrev pub more_buffers : List Buffer × List ℕ × Rest → Option (Result (List Buffer × List ℕ × Rest) Fault)
more_buffers s = if begins (codes "buffer") s.2 then Some (one_buffer s) else None

-- the buffers of a ring
unfoldable pub buffers_of : List ℕ → Rest → Result (List Buffer × List ℕ × Rest) Fault
buffers_of lines r = repeated (length r.text) more_buffers ([], lines, r)

-- a ring behind so many, and its lines
unfoldable pub ring_of : ℕ → List ℕ → Rest → Result (Ring × List ℕ × Rest) Fault
ring_of n lines r = do
  rest ← ring_line n r
  slots ← slots_behind (codes "slots") lines rest
  buffers ← buffers_of slots.1 slots.2
  Ok (record { slots = slots.0; buffers = buffers.0 }, buffers.1, buffers.2)

-- one ring more
unfoldable pub one_ring : List Ring × List ℕ × Rest → Result (List Ring × List ℕ × Rest) Fault
one_ring s = do
  _ ← room_for 64 (length s.0) s.2
  x ← ring_of (length s.0) (with_line s.1 s.2) s.2
  Ok (s.0 ++ x.0 ∷ [], x.1, x.2)

abbrev pub more_rings : List Ring × List ℕ × Rest → Option (Result (List Ring × List ℕ × Rest) Fault)
more_rings s = if begins (codes "ring") s.2 then Some (one_ring s) else None

-- all rings
unfoldable pub rings_of : List ℕ → Rest → Result (List Ring × List ℕ × Rest) Fault
rings_of lines r = repeated (length r.text) more_rings ([], lines, r)
