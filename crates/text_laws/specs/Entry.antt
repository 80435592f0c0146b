-- A law: an entry is read as it is shown.
use Rattle.std.specs.Prelude.{◌≡◌, ◌<◌, ◌≤◌, ℕ, ◌-◌, ◌^◌, List, ◌++◌, length, None, Some, Ok}
use Rattle.sqe_codec.specs.Fields.{IsBytes, IsEntry}
use Rattle.trace_format.specs.Submitted.{Submitted}
use Rattle.trace_text.specs.declared.look.Look.{Look}
use Rattle.trace_text.specs.Entry.{data_of, entry_line, entry_words}
use Rattle.trace_text.specs.Names.{opcode_text}
use Rattle.text_words.specs.Words.{behind_first, first_word}
use Rattle.text_trace.specs.Entry.{entry_of}
use Rattle.text_trace.specs.Fields.{opcode_of}
use Rattle.text_laws.specs.Words.{rest}

-- The word of an operation names it.
abbrev pub OpcodeComesBack : Type 0
OpcodeComesBack = (opcode : ℕ) → opcode < 2 ^ 8 → opcode_of (opcode_text opcode) ≡ Some opcode

-- The line of an entry names its operation, and what is behind that is the entry. The bytes that it writes take their room.
pub record IsRead (e : Submitted) (text behind : List ℕ) (room : ℕ) : Type 0 where
  pub word : (first_word (rest text room)).bytes ≡ opcode_text e.sqe.opcode
  pub opcode : opcode_of (first_word (rest text room)).bytes ≡ Some e.sqe.opcode
  pub entry : entry_of e.sqe.opcode (behind_first (rest text room)) ≡ Ok (e.sqe, e.side, rest behind (room - length (data_of e.sqe e.side)))

-- The words of each entry whose fields have the ranges of their types are read as that entry, and what follows them is left.
abbrev pub EntryComesBack : Type 0
EntryComesBack =
    (look : Look) (e : Submitted) (behind : List ℕ) (room : ℕ) → look.first ≡ None → IsEntry e.sqe → IsBytes e.side → length (data_of e.sqe e.side) ≤ room
    → room < 2 ^ 64
    → IsRead e (entry_words look e ++ behind) behind room

-- So is its line, with its place or without.
abbrev pub EntryLineComesBack : Type 0
EntryLineComesBack =
    (look : Look) (place : ℕ) (e : Submitted) (behind : List ℕ) (room : ℕ) → look.first ≡ None → place < 2 ^ 64 → IsEntry e.sqe → IsBytes e.side
    → length (data_of e.sqe e.side) ≤ room → room < 2 ^ 64 → IsRead e (entry_line look place e ++ behind) behind room
