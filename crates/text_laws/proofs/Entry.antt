-- An entry is read as it is shown.
use Rattle.std.proofs.Common.{◌≡◌, ℕ, zero, suc, ◌-◌, ◌*◌, ◌/◌, ◌<◌, ◌≤◌, ◌^◌, true, false, cond, eqb, List, [], ◌∷◌, ◌++◌, length, None, Ok, inl, inr, ◌⊎◌, refl, sym, ap, subst, ◌∙◌, append_assoc, arith}
use Rattle.std.specs.Prelude.{◌==◌, ◌||◌, codes, min, bit_and, unwrap_or, if◌then◌else◌}
use Rattle.std.specs.Fmt.{decimal}
use Rattle.std.specs.Int.{w32, cast_signed, cast_unsigned}
use Rattle.std.proofs.Math.Facts.{Fits-of_z}
use Rattle.std.proofs.lemmas.Bool.{cases_Bool, cond-false, cond-true, eqb-true}
use Rattle.std.proofs.lemmas.Int.{to_z-of_z}
use Rattle.std.proofs.lemmas.List.{length-take-le}
use Rattle.sqe_codec.specs.Fields.{IsBytes, IsEntry}
use Rattle.sqe_codec.specs.declared.sqe.Sqe.{Sqe}
use Rattle.text_forms.specs.Numbers.{hexadecimal}
use Rattle.trace_format.specs.Submitted.{Submitted}
use Rattle.trace_text.specs.declared.look.Look.{Look}
use Rattle.trace_text.specs.Names.{entry_flags, opcode_text}
use Rattle.trace_text.specs.Fields.{addr_word, address_word, decimal_word, descriptor_text, fd_key, fd_word, later_words, len_key, len_text, len_word, off_key, off_text, off_word, op_flags_word, plain_words, user_word}
use Rattle.trace_text.specs.Entry.{data_of, data_text, entry_line, entry_words, words_of, has_path, has_paths, side_words, vector_count, default_len as shown_len}
use Rattle.text_words.specs.declared.numbers.Style.TheVariants.{Plain}
use Rattle.text_words.specs.Read.{Rest}
use Rattle.text_words.specs.Words.{behind_blanks, behind_lines, behind_word, line_end, word_at}
use Rattle.text_trace.specs.declared.fields.Field.TheVariants as fields
use Rattle.text_trace.specs.Entry.{Draft, add_all, add_next, add_words, default_len, empty, entry_of, fields_of, more_words, side_of, with_field}
use Rattle.text_trace.specs.Fields.{addr_key, op_flags_key, opcode_of}
use Rattle.text_laws.specs.Words.{IsIndent, at_gap, rest}
use Rattle.text_laws.specs.Entry.{EntryComesBack, EntryLineComesBack, IsRead}
use Rattle.text_laws.proofs.Chains.{leads_then, leads_to}
use Rattle.text_laws.proofs.Fields.{addr_is_field, addr_reads, addr_text, decimal_reads, descriptor_reads, hexadecimal_reads, len_reads, off_reads, op_flags_is_field, op_flags_reads, op_flags_text, user_reads, user_text}
use Rattle.text_laws.proofs.Flags.{no_bit}
use Rattle.text_laws.proofs.Keys.{addr3_is, addr_is, buf_index_is, fd_is, file_index_is, ioprio_is, len_is, off_is, op_flags_is, opcode_comes_back, opcode_is_word, pad_is, personality_is, user_data_is}
use Rattle.text_laws.proofs.Sides.{beside, count_fits, lengths_beside, side_back, side_lead}
use Rattle.text_laws.proofs.Stages.{Beside, Words, draft, field_after, field_told, flags_lead, nothing, told_marks, words_none, words_then}
use Rattle.text_laws.proofs.Strings.{Takes, bytes_drop, data_are}
use Rattle.text_laws.proofs.Words.{blanks_stop, comment_is_skipped, first_word_comes}

-- The fields that are told, one after another.
abbrev e0 : Sqe → Sqe
e0 s = record {
  opcode = s.opcode;
  flags = s.flags;
  ioprio = 0;
  fd = cast_signed w32 0;
  off = 0;
  addr = 0;
  len = 0;
  op_flags = 0;
  user_data = 0;
  buf_index = 0;
  personality = 0;
  file_index = 0;
  addr3 = 0;
  last = 0;
}

abbrev fd_of : Sqe → ℕ
fd_of s = cast_unsigned w32 s.fd

abbrev e1 : Sqe → Sqe
e1 s = with_field (e0 s) fields.Fd (fd_of s)

abbrev e2 : Sqe → Sqe
e2 s = with_field (e1 s) fields.Off s.off

abbrev e3 : Sqe → Sqe
e3 s = with_field (e2 s) fields.Addr s.addr

abbrev e4 : Sqe → ℕ → Sqe
e4 s len = with_field (e3 s) fields.Len len

abbrev e5 : Sqe → ℕ → Sqe
e5 s len = with_field (e4 s len) fields.OpFlags s.op_flags

abbrev e6 : Sqe → ℕ → Sqe
e6 s len = with_field (e5 s len) fields.BufIndex s.buf_index

abbrev e7 : Sqe → ℕ → Sqe
e7 s len = with_field (e6 s len) fields.FileIndex s.file_index

abbrev e8 : Sqe → ℕ → Sqe
e8 s len = with_field (e7 s len) fields.Ioprio s.ioprio

abbrev e9 : Sqe → ℕ → Sqe
e9 s len = with_field (e8 s len) fields.Personality s.personality

abbrev e10 : Sqe → ℕ → Sqe
e10 s len = with_field (e9 s len) fields.Addr3 s.addr3

abbrev e11 : Sqe → ℕ → Sqe
e11 s len = with_field (e10 s len) fields.Pad s.last

abbrev e12 : Sqe → ℕ → Sqe
e12 s len = with_field (e11 s len) fields.UserData s.user_data

-- Fields more have been told: whether the length was is as before.
record Told (given : ℕ) (d e : Sqe) (b : Beside) (k : ℕ) (text : List ℕ) : Type 0 where
  now : ℕ
  below : now < 2 ^ k
  kept : bit_and now 8 ≡ bit_and given 8
  words : Words text (draft d given b) (draft e now b)

told_then : (given : ℕ) (d e f : Sqe) (b : Beside) (k j : ℕ) (one two : List ℕ) → Told given d e b k one → ((now : ℕ) → now < 2 ^ k → Told now e f b j two)
    → Told given d f b j (one ++ two)
told_then given d e f b k j one two t next =
    let n = next t.now t.below in
    record {
      now = n.now;
      below = n.below;
      kept = n.kept ∙ t.kept;
      words =
          words_then one two (draft d given b) (draft e t.now b) (draft f n.now b) t.words n.words;
    }

module _ (s : Sqe) (is : IsEntry s) (b : Beside) where
  fd_fits : fd_of s < 2 ^ 32
  fd_fits = (Fits-of_z {w = w32} {z = s.fd} is.fd).fits

  fd_told : Told 0 (e0 s) (e1 s) b 1 (fd_word s.opcode (fd_of s))
  fd_told =
      let r = descriptor_reads (fd_of s) fd_fits in
      let a = field_after fields.Fd 0 (fd_of s) 0 (fd_key s.opcode) (descriptor_text (fd_of s)) (e0 s) b (fd_is s.opcode is.opcode) refl (omega arith) refl
      (λ _. r.free) (λ _. r.number) in
      record { now = a.now; below = a.below; kept = a.kept 8 refl; words = a.words }

  off_told : (given : ℕ) → given < 2 ^ 1 → Told given (e1 s) (e2 s) b 2 (off_word s.opcode s.off)
  off_told given lt =
      let r = off_reads s.opcode s.off is.off in
      let a = field_after fields.Off 1 s.off given (off_key s.opcode) (off_text s.opcode s.off) (e1 s) b (off_is s.opcode is.opcode) refl lt refl
      (λ _. r.free) (λ _. r.number) in
      record { now = a.now; below = a.below; kept = a.kept 8 refl; words = a.words }

  addr_told : (given : ℕ) → given < 2 ^ 2 → Told given (e2 s) (e3 s) b 3 (addr_word s.opcode s.addr)
  addr_told given lt =
      let r = addr_reads s.opcode s.addr is.addr in
      let a = field_after fields.Addr 2 s.addr given (addr_key s.opcode) (addr_text s.opcode s.addr) (e2 s) b (addr_is s.opcode is.opcode) refl lt refl
      (λ _. r.free) (λ _. r.number) in
      rw (addr_is_field s.opcode s.addr) (record { now = a.now; below = a.below; kept = a.kept 8 refl; words = a.words })

  front_told : (given : ℕ) → given < 2 ^ 1 → Told given (e1 s) (e3 s) b 3 (off_word s.opcode s.off ++ addr_word s.opcode s.addr)
  front_told given lt = told_then given (e1 s) (e2 s) (e3 s) b 2 3 (off_word s.opcode s.off) (addr_word s.opcode s.addr) (off_told given lt) addr_told

  module _ (len : ℕ) where
    op_flags_told : (given : ℕ) → given < 2 ^ 4 → Told given (e4 s len) (e5 s len) b 5 (op_flags_word s.opcode s.op_flags)
    op_flags_told given lt =
        let a = field_after fields.OpFlags 4 s.op_flags given (op_flags_key s.opcode) (op_flags_text s.opcode s.op_flags) (e4 s len) b
        (op_flags_is s.opcode is.opcode) refl lt refl
        (λ some. (op_flags_reads s.opcode s.op_flags is.op_flags some).free) (λ some. (op_flags_reads s.opcode s.op_flags is.op_flags some).number) in
        rw (op_flags_is_field s.opcode s.op_flags) (record { now = a.now; below = a.below; kept = a.kept 8 refl; words = a.words })

    buf_index_told : (given : ℕ) → given < 2 ^ 5 → Told given (e5 s len) (e6 s len) b 6 (decimal_word (codes "buf_index") s.buf_index)
    buf_index_told given lt =
        let r = decimal_reads Plain 16 s.buf_index (omega (arith, is.buf_index)) in
        let a = field_after fields.BufIndex 5 s.buf_index given (codes "buf_index") (decimal s.buf_index) (e5 s len) b
        (buf_index_is s.opcode is.opcode) refl lt refl (λ _. r.free) (λ _. r.number) in
        record { now = a.now; below = a.below; kept = a.kept 8 refl; words = a.words }

    file_index_told : (given : ℕ) → given < 2 ^ 6 → Told given (e6 s len) (e7 s len) b 7 (decimal_word (codes "file_index") s.file_index)
    file_index_told given lt =
        let r = decimal_reads Plain 32 s.file_index (omega (arith, is.file_index)) in
        let a = field_after fields.FileIndex 6 s.file_index given (codes "file_index") (decimal s.file_index) (e6 s len) b
        (file_index_is s.opcode is.opcode) refl lt refl (λ _. r.free) (λ _. r.number) in
        record { now = a.now; below = a.below; kept = a.kept 8 refl; words = a.words }

    ioprio_told : (given : ℕ) → given < 2 ^ 7 → Told given (e7 s len) (e8 s len) b 8 (decimal_word (codes "ioprio") s.ioprio)
    ioprio_told given lt =
        let r = decimal_reads Plain 16 s.ioprio (omega (arith, is.ioprio)) in
        let a = field_after fields.Ioprio 7 s.ioprio given (codes "ioprio") (decimal s.ioprio) (e7 s len) b (ioprio_is s.opcode is.opcode) refl lt refl
        (λ _. r.free) (λ _. r.number) in
        record { now = a.now; below = a.below; kept = a.kept 8 refl; words = a.words }

    personality_told : (given : ℕ) → given < 2 ^ 8 → Told given (e8 s len) (e9 s len) b 9 (decimal_word (codes "personality") s.personality)
    personality_told given lt =
        let r = decimal_reads Plain 16 s.personality (omega (arith, is.personality)) in
        let a = field_after fields.Personality 8 s.personality given (codes "personality") (decimal s.personality) (e8 s len) b
        (personality_is s.opcode is.opcode) refl lt refl (λ _. r.free) (λ _. r.number) in
        record { now = a.now; below = a.below; kept = a.kept 8 refl; words = a.words }

    addr3_told : (given : ℕ) → given < 2 ^ 9 → Told given (e9 s len) (e10 s len) b 10 (address_word (codes "addr3") s.addr3)
    addr3_told given lt =
        let r = hexadecimal_reads Plain 64 s.addr3 (omega (arith, is.addr3)) in
        let a = field_after fields.Addr3 9 s.addr3 given (codes "addr3") (hexadecimal s.addr3) (e9 s len) b (addr3_is s.opcode is.opcode) refl lt refl
        (λ _. r.free) (λ _. r.number) in
        record { now = a.now; below = a.below; kept = a.kept 8 refl; words = a.words }

    pad_told : (given : ℕ) → given < 2 ^ 10 → Told given (e10 s len) (e11 s len) b 11 (address_word (codes "pad") s.last)
    pad_told given lt =
        let r = hexadecimal_reads Plain 64 s.last (omega (arith, is.last)) in
        let a = field_after fields.Pad 10 s.last given (codes "pad") (hexadecimal s.last) (e10 s len) b (pad_is s.opcode is.opcode) refl lt refl (λ _. r.free)
        (λ _. r.number) in
        record { now = a.now; below = a.below; kept = a.kept 8 refl; words = a.words }

    user_told : (given : ℕ) → given < 2 ^ 11 → Told given (e11 s len) (e12 s len) b 12 (user_word s.user_data)
    user_told given lt =
        let r = user_reads s.user_data is.user_data in
        let a = field_after fields.UserData 11 s.user_data given (codes "user_data") (user_text s.user_data) (e11 s len) b
        (user_data_is s.opcode is.opcode) refl lt refl (λ _. r.free) (λ _. r.number) in
        record { now = a.now; below = a.below; kept = a.kept 8 refl; words = a.words }

    plain_told : (given : ℕ) → given < 2 ^ 5 → Told given (e5 s len) (e12 s len) b 12 (plain_words s)
    plain_told given lt =
        let w6 = decimal_word (codes "buf_index") s.buf_index in
        let w7 = decimal_word (codes "file_index") s.file_index in
        let w8 = decimal_word (codes "ioprio") s.ioprio in
        let w9 = decimal_word (codes "personality") s.personality in
        let w10 = address_word (codes "addr3") s.addr3 in
        let w11 = address_word (codes "pad") s.last in
        let t7 = told_then given (e5 s len) (e6 s len) (e7 s len) b 6 7 w6 w7 (buf_index_told given lt) file_index_told in
        let t8 = told_then given (e5 s len) (e7 s len) (e8 s len) b 7 8 (w6 ++ w7) w8 t7 ioprio_told in
        let t9 = told_then given (e5 s len) (e8 s len) (e9 s len) b 8 9 ((w6 ++ w7) ++ w8) w9 t8 personality_told in
        let t10 = told_then given (e5 s len) (e9 s len) (e10 s len) b 9 10 (((w6 ++ w7) ++ w8) ++ w9) w10 t9 addr3_told in
        let t11 = told_then given (e5 s len) (e10 s len) (e11 s len) b 10 11 ((((w6 ++ w7) ++ w8) ++ w9) ++ w10) w11 t10 pad_told in
        told_then given (e5 s len) (e11 s len) (e12 s len) b 11 12 (((((w6 ++ w7) ++ w8) ++ w9) ++ w10) ++ w11) (user_word s.user_data) t11 user_told

  -- What the words of the length say: it is told, or it is the one that is left out.
  record Length (given default : ℕ) (text : List ℕ) : Type 0 where
    len : ℕ
    now : ℕ
    below : now < 2 ^ 4
    is_so : ((bit_and now 8 ≡ 0) × (s.len ≡ default)) ⊎ ((bit_and now 8 ≡ 8) × (len ≡ s.len))
    words : Words text (draft (e3 s) given b) (draft (e4 s len) now b)

  len_told : (given default : ℕ) → given < 2 ^ 3 → Length given default (len_word s.opcode default s.len)
  len_told given default lt = elim (cases_Bool (eqb s.len default)) [
    | inl same ↦ rw same (record {
      len = 0;
      now = given;
      below = omega (arith, lt);
      is_so = inl (no_bit given 3 lt, eqb-true s.len default same);
      words = words_none (draft (e3 s) given b);
    })
    | inr other ↦
        let r = len_reads s.opcode s.len is.len in
        let value = if s.len == 0 then codes "0" else len_text s.opcode s.len in
        let a = field_told fields.Len 3 s.len given (len_key s.opcode) value (e3 s) b (len_is s.opcode is.opcode) refl lt r.free r.number in
        let marked = told_marks fields.Len 3 s.len given (len_key s.opcode) value (e3 s) b (len_is s.opcode is.opcode) refl lt r.free r.number in
        rw other (record { len = s.len; now = a.now; below = a.below; is_so = inr (marked, refl); words = a.words })
  ]

  -- all words behind what stands beside the entry
  record Later (given default : ℕ) (text : List ℕ) : Type 0 where
    len : ℕ
    now : ℕ
    is_so : ((bit_and now 8 ≡ 0) × (s.len ≡ default)) ⊎ ((bit_and now 8 ≡ 8) × (len ≡ s.len))
    words : Words text (draft (e1 s) given b) (draft (e12 s len) now b)

  later_told : (given default : ℕ) → given < 2 ^ 1 → Later given default (later_words s default)
  later_told given default lt =
      let front = off_word s.opcode s.off ++ addr_word s.opcode s.addr in
      let middle = len_word s.opcode default s.len in
      let one = front_told given lt in
      let two = len_told one.now default one.below in
      let three = told_then two.now (e4 s two.len) (e5 s two.len) (e12 s two.len) b 5 12 (op_flags_word s.opcode s.op_flags) (plain_words s)
      (op_flags_told two.len two.now two.below) (plain_told two.len) in
      let words = words_then (front ++ middle) (op_flags_word s.opcode s.op_flags ++ plain_words s) (draft (e1 s) given b) (draft (e4 s two.len) two.now b)
      (draft (e12 s two.len) three.now b)
      (words_then front middle (draft (e1 s) given b) (draft (e3 s) one.now b) (draft (e4 s two.len) two.now b) one.words two.words) three.words in
      record {
        len = two.len;
        now = three.now;
        is_so = elim two.is_so [ inl left_out ↦ inl (three.kept ∙ left_out.0, left_out.1) | inr there ↦ inr (three.kept ∙ there.0, there.1) ];
        words = subst (λ (w : List ℕ). Words w (draft (e1 s) given b) (draft (e12 s two.len) three.now b))
            (sym (append_assoc (front ++ middle) (op_flags_word s.opcode s.op_flags) (plain_words s))) words;
      }

-- the fields are those of the entry
whole_is : (s : Sqe) → IsEntry s → e12 s s.len ≡ s
whole_is s is = ap (λ z. record s { fd = z }) (to_z-of_z w32 s.fd is.fd)

-- the length that is left out
write_len : (s : Sqe) (side : List ℕ) → s.opcode ≡ 23 → data_of s side ≡ side
write_len s side op =
    let no : (n : ℕ) → eqb 23 n ≡ false → eqb s.opcode n ≡ false = λ n h. ap (λ (k : ℕ). eqb k n) op ∙ h in
    rw (no 18 refl, no 36 refl, no 37 refl, no 35 refl, no 39 refl, no 1 refl, no 2 refl) refl

vector_len : (s : Sqe) (side : List ℕ) → (s.opcode == 1 || s.opcode == 2) ≡ true → beside s side ≡ lengths_beside (vector_count s side) side
vector_len s side h = elim (cases_Bool (eqb s.opcode 1)) [
  | inl one ↦ let op = eqb-true s.opcode 1 one in by 1 op refl refl
  | inr other ↦ let two : eqb s.opcode 2 ≡ true = rw other at h in let op = eqb-true s.opcode 2 two in by 2 op refl refl
]
  where
    by : (m : ℕ) → s.opcode ≡ m → (eqb m 18 || eqb m 36 || eqb m 37) ≡ false → (eqb m 35 || eqb m 39) ≡ false → beside s side
        ≡ lengths_beside (vector_count s side) side
    by m op path paths =
        let no_path : has_path s ≡ false = ap (λ (k : ℕ). eqb k 18 || eqb k 36 || eqb k 37) op ∙ path in
        let no_both : (eqb s.opcode 35 || eqb s.opcode 39) ≡ false = ap (λ (k : ℕ). eqb k 35 || eqb k 39) op ∙ paths in
        rw (no_path, no_both) refl

count_of_lengths : (n : ℕ) (side : List ℕ) → 8 * n ≤ length side → length (unwrap_or (lengths_beside n side).lengths []) / 8 ≡ n
count_of_lengths zero side le = refl
count_of_lengths (suc n) side le = omega (arith, length-take-le (8 * suc n) side le)

-- the draft that all words make
abbrev told_draft : Sqe → List ℕ → ℕ → ℕ → Draft
told_draft s side len now = record (draft (e12 s len) now (beside s side)) { strings = data_of s side }

left_out : (s : Sqe) (side : List ℕ) (len now : ℕ) → s.len < 2 ^ 32 → s.len ≡ shown_len s side → default_len (told_draft s side len now) ≡ s.len
left_out s side len now lt h = elim (cases_Bool (eqb s.opcode 23)) [
  | inl write ↦
      let same : s.len ≡ length side = rw write at h in
      rw (write, write_len s side (eqb-true s.opcode 23 write)) (omega (arith, same, lt))
  | inr other ↦
      let same : s.len ≡ vector_count s side = rw other at h in
      elim (cases_Bool (s.opcode == 1 || s.opcode == 2)) [
        | inl vector ↦
            let lengths = length (unwrap_or (beside s side).lengths []) / 8 in
            let count : lengths ≡ vector_count s side =
            ap (λ (b : Beside). length (unwrap_or b.lengths []) / 8) (vector_len s side vector)
            ∙ count_of_lengths (vector_count s side) side (count_fits s side) in
            let least : min lengths (2 ^ 32 - 1) ≡ s.len = omega (arith, count, same, lt) in
            cond-false (eqb s.opcode 23) (min (length (data_of s side)) (2 ^ 32 - 1)) (cond (s.opcode == 1 || s.opcode == 2) (min lengths (2 ^ 32 - 1)) 0) other
            ∙ cond-true (s.opcode == 1 || s.opcode == 2) (min lengths (2 ^ 32 - 1)) 0 vector ∙ least
        | inr none ↦ let no_len : s.len ≡ 0 = rw none at same in rw (other, none) (sym no_len)
      ]
]

-- What all words up to the strings say of an entry.
record Whole (s : Sqe) (side : List ℕ) : Type 0 where
  len : ℕ
  now : ℕ
  fields : fields_of (told_draft s side len now) ≡ s
  words : Words (entry_flags s.flags ++ fd_word s.opcode (fd_of s) ++ side_words s side ++ later_words s (shown_len s side)) (empty s.opcode)
      (draft (e12 s len) now (beside s side))

fields_are : (s : Sqe) (side : List ℕ) (len now : ℕ) → IsEntry s → ((bit_and now 8 ≡ 0) × (s.len ≡ shown_len s side)) ⊎ ((bit_and now 8 ≡ 8) × (len ≡ s.len))
    → fields_of (told_draft s side len now) ≡ s
unfolding fields_of
fields_are s side len now is (inl left) = rw left.0 (ap (e12 s) (left_out s side len now is.len left.1) ∙ whole_is s is)
fields_are s side len now is (inr there) = rw there.0 (ap (e12 s) there.1 ∙ whole_is s is)

whole : (s : Sqe) (side : List ℕ) → IsEntry s → IsBytes side → Whole s side
whole s side is all =
    let b = beside s side in
    let w1 = entry_flags s.flags in
    let w2 = fd_word s.opcode (fd_of s) in
    let w3 = side_words s side in
    let two = fd_told s is nothing in
    let three = side_lead (e1 s) two.now side all s in
    let four = later_told s is b two.now (shown_len s side) two.below in
    let t2 = words_then w1 w2 (empty s.opcode) (draft (e0 s) 0 nothing) (draft (e1 s) two.now nothing)
    (flags_lead (empty s.opcode) s.flags refl is.flags) two.words in
    let t3 = words_then (w1 ++ w2) w3 (empty s.opcode) (draft (e1 s) two.now nothing) (draft (e1 s) two.now b) t2 three in
    record {
      len = four.len;
      now = four.now;
      fields = fields_are s side four.len four.now is four.is_so;
      words = words_then ((w1 ++ w2) ++ w3) (later_words s (shown_len s side)) (empty s.opcode) (draft (e1 s) two.now b)
          (draft (e12 s four.len) four.now b) t3 four.words;
    }

-- a draft with some strings
abbrev with_strings : Draft → List ℕ × Rest → Draft × Rest
with_strings d s = (record d { strings = s.0 }, s.1)

takes_words : (d : Draft) → Takes more_words (with_strings d)
unfolding add_next
takes_words d = record { takes = λ acc r s more string reads. rw (more, string, reads) refl }

data_bytes : (s : Sqe) (side : List ℕ) → IsBytes side → IsBytes (data_of s side)
data_bytes s side all = elim (cases_Bool (has_path s)) [
  | inl path ↦ rw path (λ i. omega arith)
  | inr no_path ↦ elim (cases_Bool (has_paths s side)) [
    | inl paths ↦ rw (no_path, paths) (λ i. omega arith)
    | inr no_paths ↦ rw (no_path, no_paths) (bytes_drop (8 * vector_count s side) side all)
  ]
]

line_indents : IsIndent (codes " \\\n    ")
unfolding behind_blanks
line_indents text = (refl, refl)

line_ends : (behind : List ℕ) (room : ℕ) → line_end (rest (10 ∷ behind) room) ≡ Ok (rest behind room)
unfolding line_end
line_ends behind room = rw (blanks_stop 10 behind refl refl) refl

side_is : (s : Sqe) (side : List ℕ) (len now : ℕ) → IsBytes side → side_of (told_draft s side len now) ≡ side
unfolding side_of
side_is s side len now all = side_back s side all

-- the words behind the operation, and where they end
abbrev front_words : Sqe → List ℕ → List ℕ
front_words s side = entry_flags s.flags ++ fd_word s.opcode (fd_of s) ++ side_words s side ++ later_words s (shown_len s side)

entry_reads : (look : Look) (s : Sqe) (side behind : List ℕ) (room : ℕ) → look.first ≡ None → IsEntry s → IsBytes side → length (data_of s side) ≤ room
    → room < 2 ^ 64
    → (at_gap (front_words s side ++ (data_text look (codes " \\\n    ") (data_of s side) ++ 10 ∷ behind)) ≡ true)
    × (entry_of s.opcode (rest (front_words s side ++ (data_text look (codes " \\\n    ") (data_of s side) ++ 10 ∷ behind)) room)
    ≡ Ok (s, side, rest behind (room - length (data_of s side))))
unfolding entry_of add_words add_all
entry_reads look s side behind room h is all le lt =
    let w = whole s side is all in
    let d = draft (e12 s w.len) w.now (beside s side) in
    let bytes = data_of s side in
    let shown = data_text look (codes " \\\n    ") bytes in
    let left = room - length bytes in
    let strings = data_are more_words (with_strings d) (takes_words d) look (codes " \\\n    ") bytes h line_indents (data_bytes s side all) in
    let gap = strings.gap (10 ∷ behind) refl in
    let one = w.words.leads (shown ++ 10 ∷ behind) room gap in
    let two = strings.leads [] (10 ∷ behind) room refl le lt in
    let end : more_words (told_draft s side w.len w.now, rest (10 ∷ behind) left) ≡ None = rw (blanks_stop 10 behind refl refl) refl in
    let read = leads_to (leads_then one two) end in (
      w.words.gap (shown ++ 10 ∷ behind) gap,
      rw (read, line_ends behind left) (λ i. Ok (w.fields i, side_is s side w.len w.now all i, rest behind left)),
    )

regroup : (a b c d e f g h i : List ℕ) → (a ++ b ++ c ++ d ++ e ++ f ++ g ++ h) ++ i ≡ a ++ (b ++ ((c ++ d ++ e ++ f) ++ (g ++ (h ++ i))))
regroup a b c d e f g h i = simp append_assoc

-- a line is read by what is left behind blanks and comments
same_lines : (e : Submitted) (text other behind : List ℕ) (room : ℕ) → behind_lines text ≡ behind_lines other → IsRead e other behind room
    → IsRead e text behind room
same_lines e text other behind room same read = record {
  word = ap word_at same ∙ read.word;
  opcode = ap (λ (t : List ℕ). opcode_of (word_at t)) same ∙ read.opcode;
  entry = ap (λ (t : List ℕ). entry_of e.sqe.opcode (rest (behind_word t) room)) same ∙ read.entry;
}

two_blanks : (text : List ℕ) → behind_lines (32 ∷ 32 ∷ text) ≡ behind_lines text
unfolding behind_lines
two_blanks text = refl

pub entry_comes_back : EntryComesBack
unfolding words_of
entry_comes_back look e behind room h is all le lt =
    let s = e.sqe in
    let side = e.side in
    let shown = data_text look (codes " \\\n    ") (data_of s side) in
    let op = opcode_text s.opcode in
    let after = front_words s side ++ (shown ++ 10 ∷ behind) in
    let read = entry_reads look s side behind room h is all le lt in
    let first = first_word_comes op after (opcode_is_word s.opcode is.opcode) read.0 in
    let text : entry_words look e ++ behind ≡ 32 ∷ 32 ∷ (op ++ after) =
    regroup (codes "  ") op (entry_flags s.flags) (fd_word s.opcode (fd_of s)) (side_words s side) (later_words s (shown_len s side)) shown
    (codes "\n") behind in
    let lines : behind_lines (entry_words look e ++ behind) ≡ op ++ after = ap behind_lines text ∙ two_blanks (op ++ after) ∙ first.lines in
    record {
      word = ap word_at lines ∙ first.first;
      opcode = ap (λ (t : List ℕ). opcode_of (word_at t)) lines ∙ ap opcode_of first.first ∙ opcode_comes_back s.opcode is.opcode;
      entry = ap (λ (t : List ℕ). entry_of s.opcode (rest (behind_word t) room)) lines ∙ ap (λ (t : List ℕ). entry_of s.opcode (rest t room)) first.after
          ∙ read.1;
    }

pub entry_line_comes_back : EntryLineComesBack
unfolding entry_line words_of
entry_line_comes_back look place e behind room h small is all le lt =
    let read = entry_comes_back look e behind room h is all le lt in
    let words = entry_words look e ++ behind in
    elim (cases_Bool look.places) [
      | inl shown ↦
          let comment = codes "# " ++ decimal place ++ codes "\n" in
          let skip : behind_lines (((codes "  " ++ codes "# " ++ decimal place ++ codes "\n") ++ entry_words look e) ++ behind) ≡ behind_lines words =
          ap behind_lines (append_assoc (codes "  " ++ codes "# " ++ decimal place ++ codes "\n") (entry_words look e) behind) ∙ two_blanks (comment ++ words)
          ∙ comment_is_skipped place words small in
          rw shown (same_lines e (((codes "  " ++ codes "# " ++ decimal place ++ codes "\n") ++ entry_words look e) ++ behind) words behind room skip read)
      | inr none ↦ rw none read
    ]
