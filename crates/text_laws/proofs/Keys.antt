-- Operations, flags of entries, and the keys of fields are known by their words.
use Rattle.std.proofs.Common.{◌≡◌, ℕ, suc, ◌+◌, ◌-◌, ◌<◌, ◌^◌, Bool, true, false, eqb, List, [], ◌∷◌, ◌++◌, length, drop, Option, None, Some, Ok, inl, inr, refl, sym, ap, ◌∙◌, append_assoc, arith}
use Rattle.std.specs.Prelude.{nat_eq, nat_lt, ◌==◌, ◌||◌, ◌&&◌, codes, not, slice_index, bit_and, bit_or, if◌then◌else◌}
use Rattle.std.specs.List.{list_any, position_from, starts_with}
use Rattle.std.specs.Str.{bytes_eq}
use Rattle.std.specs.Fmt.{digits}
use Rattle.std.proofs.lemmas.Bool.{agree_below_at, and_parts, cases_Bool, cond-false, eqb-true, ltb-true, ne_eqb, not-true}
use Rattle.text_forms.specs.Names.{opcode_name, opcode_names}
use Rattle.trace_text.specs.Names.{entry_flag_name, entry_flag_names, opcode_text}
use Rattle.trace_text.specs.Fields.{fd_key, off_key, len_key}
use Rattle.text_words.specs.Numbers.{number_at}
use Rattle.text_words.specs.Words.{is_gap, value_at}
use Rattle.text_trace.specs.declared.fields.Field.{Field}
use Rattle.text_trace.specs.declared.fields.Field.TheVariants as field
use Rattle.text_trace.specs.Entry.{Draft, add_field, add_keyed, add_number, add_word, key_of, mark_of, with_field}
use Rattle.text_trace.specs.Fields.{addr_key, bits_of, decimal_byte, entry_flag_of, field_of, numbered_opcode, op_flags_key, opcode_of, style_of}
use Rattle.text_laws.specs.Words.{is_word, word}
use Rattle.text_laws.specs.Entry.{OpcodeComesBack}
use Rattle.text_laws.proofs.Lists.{front_is}
use Rattle.text_laws.proofs.Words.{value_comes_back}

abbrev is_some_of : Option ℕ → ℕ → Bool
is_some_of None n = false
is_some_of (Some m) n = m == n

some_is : (o : Option ℕ) (n : ℕ) → is_some_of o n ≡ true → o ≡ Some n
some_is None n h = absurd cc
some_is (Some m) n h = ap (λ (k : ℕ). Some k) (eqb-true m n h)

-- the word of an operation
abbrev opcode_test : ℕ → Bool
opcode_test k = is_some_of (opcode_of (opcode_text k)) k && is_word (opcode_text k)

opcode_passes : (k : ℕ) → k < 256 → opcode_test k ≡ true
unfolding opcode_of opcode_names opcode_name numbered_opcode decimal_byte digits
opcode_passes k lt = agree_below_at (λ j. opcode_test j) (λ j. true) 256 k refl lt

pub opcode_comes_back : OpcodeComesBack
opcode_comes_back k lt = some_is (opcode_of (opcode_text k)) k (and_parts (is_some_of (opcode_of (opcode_text k)) k) (is_word (opcode_text k))
    (opcode_passes k lt)).0

pub opcode_is_word : (k : ℕ) → k < 256 → is_word (opcode_text k) ≡ true
opcode_is_word k lt = (and_parts (is_some_of (opcode_of (opcode_text k)) k) (is_word (opcode_text k)) (opcode_passes k lt)).1

-- the first byte is no mark of a string
abbrev pub is_plain : List ℕ → Bool
is_plain [] = false
is_plain (b ∷ bs) = not (b == 34 || b == 120)

-- the flags of an entry
abbrev flag_test : ℕ → Bool
flag_test k = is_some_of (entry_flag_of (entry_flag_name k)) (2 ^ k) && (is_word (entry_flag_name k) && is_plain (entry_flag_name k))

flag_passes : (k : ℕ) → k < 8 → flag_test k ≡ true
unfolding entry_flag_of entry_flag_name entry_flag_names
flag_passes k lt = agree_below_at (λ j. flag_test j) (λ j. true) 8 k refl lt

pub record IsFlagName (k : ℕ) : Type 0 where
  pub flag : entry_flag_of (entry_flag_name k) ≡ Some (2 ^ k)
  pub word : is_word (entry_flag_name k) ≡ true
  pub plain : is_plain (entry_flag_name k) ≡ true

pub flag_name_is : (k : ℕ) → k < 8 → IsFlagName k
flag_name_is k lt =
    let w = entry_flag_name k in
    let one = and_parts (is_some_of (entry_flag_of w) (2 ^ k)) (is_word w && is_plain w) (flag_passes k lt) in
    let two = and_parts (is_word w) (is_plain w) one.1 in
    record { flag = some_is (entry_flag_of w) (2 ^ k) one.0; word = two.0; plain = two.1 }

-- names that begin with no small letter
abbrev no_small : List (List ℕ) → Bool
no_small [] = true
no_small ([] ∷ names) = no_small names
no_small ((b ∷ bs) ∷ names) = nat_lt b 97 && no_small names

none_named : (names : List (List ℕ)) (b : ℕ) (bs : List ℕ) (i : ℕ) → no_small names ≡ true → 96 < b → position_from (λ name. bytes_eq name (b ∷ bs)) i names
    ≡ None
none_named [] b bs i h lt = refl
none_named ([] ∷ names) b bs i h lt = none_named names b bs (i + 1) h lt
none_named ((c ∷ cs) ∷ names) b bs i h lt =
    let parts = and_parts (nat_lt c 97) (no_small names) h in
    rw (ne_eqb c b (λ e. omega (arith, e, lt, ltb-true c 97 parts.0))) (none_named names b bs (i + 1) parts.1 lt)

small_names : no_small entry_flag_names ≡ true
unfolding entry_flag_names
small_names = refl

pub no_flag : (b : ℕ) (bs : List ℕ) → 96 < b → entry_flag_of (b ∷ bs) ≡ None
unfolding entry_flag_of
no_flag b bs lt = rw (ne_eqb (suc (length bs)) 0 (λ e. omega (arith, e)), none_named entry_flag_names b bs 0 small_names lt) refl

-- a key is not the front of a word that has another before its sign
abbrev pub lacks : List ℕ → List ℕ → Bool
lacks [] [] = false
lacks [] (b ∷ bs) = not (b == 61)
lacks (k ∷ ks) [] = not (k == 61)
lacks (k ∷ ks) (b ∷ bs) = if k == b then lacks ks bs else true

lacks_value : (other key value : List ℕ) → lacks other key ≡ true
    → (starts_with nat_eq (key ++ 61 ∷ value) other && (slice_index (key ++ 61 ∷ value) (length other) == 61)) ≡ false
lacks_value [] [] value h = absurd cc
lacks_value [] (b ∷ bs) value h = not-true (eqb b 61) h
lacks_value (k ∷ ks) [] value h = rw (not-true (eqb k 61) h) refl
lacks_value (k ∷ ks) (b ∷ bs) value h = elim (cases_Bool (eqb k b)) [
  | inl same ↦ rw same (lacks_value ks bs value (rw same at h))
  | inr other ↦ rw other refl
]

pub no_value : (other key value : List ℕ) (left : ℕ) → lacks other key ≡ true → value_at (word (key ++ 61 ∷ value) left) other ≡ None
unfolding value_at
no_value other key value left h =
    let w = key ++ 61 ∷ value in
    let n = length other + 1 in
    cond-false (starts_with nat_eq w other && (slice_index w (length other) == 61)) (Some (word (drop n w) (left - n))) None (lacks_value other key value h)

pub its_value : (key value : List ℕ) (left : ℕ) → value_at (word (key ++ 61 ∷ value) left) key ≡ Some (word value (left - (length key + 1)))
its_value key value left = ap (λ (w : List ℕ). value_at (word w left) key) (sym (append_assoc key (61 ∷ []) value)) ∙ value_comes_back key value left

-- fields by their marks
abbrev unmark : ℕ → Field
unmark n =
    if n == 1 then field.Fd else if n == 2 then field.Off else if n == 4 then field.Addr else if n == 8 then field.Len else if n == 16 then field.OpFlags
    else if n == 32 then field.BufIndex else if n == 64 then field.FileIndex else if n == 128 then field.Ioprio else if n == 256 then field.Personality
    else if n == 512 then field.Addr3 else if n == 1024 then field.Pad else field.UserData

unmarked : (f : Field) → unmark (mark_of f) ≡ f
unmarked field.Fd = refl
unmarked field.Off = refl
unmarked field.Addr = refl
unmarked field.Len = refl
unmarked field.OpFlags = refl
unmarked field.BufIndex = refl
unmarked field.FileIndex = refl
unmarked field.Ioprio = refl
unmarked field.Personality = refl
unmarked field.Addr3 = refl
unmarked field.Pad = refl
unmarked field.UserData = refl

abbrev is_field : Option Field → Field → Bool
is_field None f = false
is_field (Some g) f = mark_of g == mark_of f

field_is : (o : Option Field) (f : Field) → is_field o f ≡ true → o ≡ Some f
field_is None f h = absurd cc
field_is (Some g) f h = ap (λ (x : Field). Some x) (sym (unmarked g) ∙ ap unmark (eqb-true (mark_of g) (mark_of f) h) ∙ unmarked f)

abbrev pub is_sign : ℕ → Bool
is_sign b = b == 61

abbrev pub begins_small : List ℕ → Bool
begins_small [] = false
begins_small (b ∷ bs) = nat_lt 96 b && not (b == 120)

-- the key of a field of an operation
abbrev key_test : Field → (ℕ → List ℕ) → ℕ → Bool
key_test f key op =
    is_field (field_of op (key op)) f && (not (list_any is_sign (key op)) && (not (list_any is_gap (key op)) && (begins_small (key op)
    && (lacks (codes "path") (key op) && (lacks (codes "old") (key op) && lacks (codes "new") (key op))))))

pub record IsKey (op : ℕ) (key : List ℕ) (f : Field) : Type 0 where
  pub field : field_of op key ≡ Some f
  pub no_sign : list_any is_sign key ≡ false
  pub no_gap : list_any is_gap key ≡ false
  pub small : begins_small key ≡ true
  pub path : lacks (codes "path") key ≡ true
  pub old : lacks (codes "old") key ≡ true
  pub new : lacks (codes "new") key ≡ true

key_is : (f : Field) (key : ℕ → List ℕ) (op : ℕ) → key_test f key op ≡ true → IsKey op (key op) f
key_is f key op h =
    let k = key op in
    let last = lacks (codes "old") k && lacks (codes "new") k in
    let one = and_parts (is_field (field_of op k) f) (not (list_any is_sign k)
    && (not (list_any is_gap k) && (begins_small k && (lacks (codes "path") k && last)))) h in
    let two = and_parts (not (list_any is_sign k)) (not (list_any is_gap k) && (begins_small k && (lacks (codes "path") k && last))) one.1 in
    let three = and_parts (not (list_any is_gap k)) (begins_small k && (lacks (codes "path") k && last)) two.1 in
    let four = and_parts (begins_small k) (lacks (codes "path") k && last) three.1 in
    let five = and_parts (lacks (codes "path") k) last four.1 in
    let six = and_parts (lacks (codes "old") k) (lacks (codes "new") k) five.1 in
    record {
      field = field_is (field_of op k) f one.0;
      no_sign = not-true (list_any is_sign k) two.0;
      no_gap = not-true (list_any is_gap k) three.0;
      small = four.0;
      path = five.0;
      old = six.0;
      new = six.1;
    }

module _ (op : ℕ) (lt : op < 256) where
  pub fd_is : IsKey op (fd_key op) field.Fd
  unfolding field_of
  fd_is = key_is field.Fd fd_key op (agree_below_at (key_test field.Fd fd_key) (λ j. true) 256 op refl lt)

  pub off_is : IsKey op (off_key op) field.Off
  unfolding field_of
  off_is = key_is field.Off off_key op (agree_below_at (key_test field.Off off_key) (λ j. true) 256 op refl lt)

  pub addr_is : IsKey op (addr_key op) field.Addr
  unfolding field_of
  addr_is = key_is field.Addr addr_key op (agree_below_at (key_test field.Addr addr_key) (λ j. true) 256 op refl lt)

  pub len_is : IsKey op (len_key op) field.Len
  unfolding field_of
  len_is = key_is field.Len len_key op (agree_below_at (key_test field.Len len_key) (λ j. true) 256 op refl lt)

  pub op_flags_is : IsKey op (op_flags_key op) field.OpFlags
  unfolding field_of
  op_flags_is = key_is field.OpFlags op_flags_key op (agree_below_at (key_test field.OpFlags op_flags_key) (λ j. true) 256 op refl lt)

  plain_is : (f : Field) (key : List ℕ) → ((k : ℕ) → k < 256 → key_test f (λ j. key) k ≡ true) → IsKey op key f
  plain_is f key h = key_is f (λ j. key) op (h op lt)

  pub buf_index_is : IsKey op (codes "buf_index") field.BufIndex
  unfolding field_of
  buf_index_is = key_is field.BufIndex (λ j. codes "buf_index") op (agree_below_at (key_test field.BufIndex (λ j. codes "buf_index"))
      (λ j. true) 256 op refl lt)

  pub file_index_is : IsKey op (codes "file_index") field.FileIndex
  unfolding field_of
  file_index_is = key_is field.FileIndex (λ j. codes "file_index") op (agree_below_at (key_test field.FileIndex (λ j. codes "file_index"))
      (λ j. true) 256 op refl lt)

  pub ioprio_is : IsKey op (codes "ioprio") field.Ioprio
  unfolding field_of
  ioprio_is = key_is field.Ioprio (λ j. codes "ioprio") op (agree_below_at (key_test field.Ioprio (λ j. codes "ioprio")) (λ j. true) 256 op refl lt)

  pub personality_is : IsKey op (codes "personality") field.Personality
  unfolding field_of
  personality_is = key_is field.Personality (λ j. codes "personality") op
      (agree_below_at (key_test field.Personality (λ j. codes "personality")) (λ j. true) 256 op refl lt)

  pub addr3_is : IsKey op (codes "addr3") field.Addr3
  unfolding field_of
  addr3_is = key_is field.Addr3 (λ j. codes "addr3") op (agree_below_at (key_test field.Addr3 (λ j. codes "addr3")) (λ j. true) 256 op refl lt)

  pub pad_is : IsKey op (codes "pad") field.Pad
  unfolding field_of
  pad_is = key_is field.Pad (λ j. codes "pad") op (agree_below_at (key_test field.Pad (λ j. codes "pad")) (λ j. true) 256 op refl lt)

  pub user_data_is : IsKey op (codes "user_data") field.UserData
  unfolding field_of
  user_data_is = key_is field.UserData (λ j. codes "user_data") op (agree_below_at (key_test field.UserData (λ j. codes "user_data"))
      (λ j. true) 256 op refl lt)

-- a draft in which a field is told
abbrev pub told : Draft → Field → ℕ → Draft
told d f n = record d { sqe = with_field d.sqe f n; given = bit_or d.given (mark_of f) }

keyed_is_number : (d : Draft) (key value : List ℕ) (left : ℕ) (f : Field) → IsKey d.sqe.opcode key f → add_keyed d (word (key ++ 61 ∷ value) left)
    ≡ add_number d (word (key ++ 61 ∷ value) left)
unfolding add_keyed
keyed_is_number d key value left f k = rw (
  add_keyed,
  no_value (codes "path") key value left k.path,
  no_value (codes "old") key value left k.old,
  no_value (codes "new") key value left k.new,
) refl

adds_field : (d : Draft) (f : Field) (n : ℕ) (w value : List ℕ) (left after : ℕ) → bit_and d.given (mark_of f) ≡ 0
    → number_at (style_of d.sqe.opcode f) (bits_of f) (word value after) ≡ Ok n → add_field d f (word w left) (word value after) ≡ Ok (told d f n)
unfolding add_field
adds_field d f n w value left after once number = rw (once, number) refl

adds_number : (d : Draft) (key value : List ℕ) (left n : ℕ) (f : Field) → IsKey d.sqe.opcode key f → bit_and d.given (mark_of f) ≡ 0
    → ((after : ℕ) → number_at (style_of d.sqe.opcode f) (bits_of f) (word value after) ≡ Ok n) → add_number d (word (key ++ 61 ∷ value) left) ≡ Ok (told d f n)
unfolding add_number
adds_number d key value left n f k once number =
    let front : key_of (key ++ 61 ∷ value) ≡ key = front_is is_sign key (61 ∷ value) k.no_sign refl in
    rw (front, k.field, its_value key value left) (adds_field d f n (key ++ 61 ∷ value) value left (left - (length key + 1)) once
    (number (left - (length key + 1))))

pub no_other : (d : Draft) (w : List ℕ) (left : ℕ) → begins_small w ≡ true → add_word d (word w left) ≡ add_keyed d (word w left)
unfolding add_word
no_other d [] left h = absurd cc
no_other d (b ∷ bs) left h =
    let low = ltb-true 96 b (and_parts (nat_lt 96 b) (not (b == 120)) h).0 in
    rw (add_word, no_flag b bs low, ne_eqb 91 b (λ e. omega (arith, e, low)), ne_eqb b 46 (λ e. omega (arith, e, low))) refl

small_more : (key w : List ℕ) → begins_small key ≡ true → begins_small (key ++ w) ≡ true
small_more [] w h = absurd cc
small_more (b ∷ bs) w h = h

-- the word of a field tells it
pub adds_key : (d : Draft) (key value : List ℕ) (left n : ℕ) (f : Field) → IsKey d.sqe.opcode key f → bit_and d.given (mark_of f) ≡ 0
    → ((after : ℕ) → number_at (style_of d.sqe.opcode f) (bits_of f) (word value after) ≡ Ok n) → add_word d (word (key ++ 61 ∷ value) left) ≡ Ok (told d f n)
adds_key d key value left n f k once number =
    no_other d (key ++ 61 ∷ value) left (small_more key (61 ∷ value) k.small) ∙ keyed_is_number d key value left f k
    ∙ adds_number d key value left n f k once number
