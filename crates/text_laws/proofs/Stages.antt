-- The words of an entry are read one after another: its flags and fields.
use Rattle.std.proofs.Common.{◌≡◌, ℕ, zero, suc, ◌+◌, ◌*◌, ◌/◌, ◌%◌, ◌<◌, ◌≤◌, ◌^◌, true, false, eqb, List, [], ◌∷◌, ◌++◌, length, Option, None, Some, Ok, inl, inr, refl, sym, ap, subst, ◌∙◌, append_assoc, arith, length-append}
use Rattle.std.specs.Prelude.{nat_lt, ◌==◌, ◌||◌, not, bit_and, bit_or}
use Rattle.std.specs.List.{list_any}
use Rattle.std.proofs.lemmas.Bool.{and_from, and_parts, cases_Bool, eqb-true, eqb-false, ltb-true, ne_eqb, not-true, not_from_false, or_parts}
use Rattle.std.proofs.Math.Nat.{pow-suc}
use Rattle.std.proofs.lemmas.Nat.{and_or_apart, and_or_self}
use Rattle.sqe_codec.specs.declared.sqe.Sqe.{Sqe}
use Rattle.trace_text.specs.Names.{entry_flag_name, entry_flags, entry_flags_from}
use Rattle.trace_text.specs.Fields.{unless, field}
use Rattle.text_words.specs.Numbers.{number_at}
use Rattle.text_words.specs.Strings.{is_string}
use Rattle.text_words.specs.Words.{behind_blanks, is_gap}
use Rattle.text_trace.specs.declared.fields.Field.{Field}
use Rattle.text_trace.specs.Entry.{Draft, add_flag, add_next, add_word, mark_of, more_words, with_field}
use Rattle.text_trace.specs.Fields.{bits_of, style_of}
use Rattle.text_laws.specs.Words.{at_gap, is_word, rest, word}
use Rattle.text_laws.proofs.Chains.{Leads, leads_none, leads_one, leads_then}
use Rattle.text_laws.proofs.Flags.{even_worth, no_bit, odd_worth, sets_bit, twice}
use Rattle.text_laws.proofs.Keys.{IsKey, adds_key, flag_name_is, is_plain}
use Rattle.text_laws.proofs.Lists.{any_append}
use Rattle.text_laws.proofs.Words.{begins, blanks_skip, blanks_stop, next_word_comes}

-- Words, each behind a space, make one draft of another.
pub record Words (text : List ℕ) (d e : Draft) : Type 0 where
  pub gap : (behind : List ℕ) → at_gap behind ≡ true → at_gap (text ++ behind) ≡ true
  pub leads : (behind : List ℕ) (room : ℕ) → at_gap behind ≡ true → Leads more_words (d, rest (text ++ behind) room) (e, rest behind room)
      (length (text ++ behind)) (length behind)

pub words_none : (d : Draft) → Words [] d d
words_none d = record { gap = λ behind g. g; leads = λ behind room g. leads_none more_words (d, rest behind room) (length behind) }

pub words_then : (one two : List ℕ) (d e f : Draft) → Words one d e → Words two e f → Words (one ++ two) d f
words_then one two d e f a b = record {
  gap = λ behind g. ap at_gap (append_assoc one two behind) ∙ a.gap (two ++ behind) (b.gap behind g);
  leads = λ behind room g.
      subst (λ (w : List ℕ). Leads more_words (d, rest w room) (f, rest behind room) (length w) (length behind)) (sym (append_assoc one two behind))
      (leads_then (a.leads (two ++ behind) room (b.gap behind g)) (b.leads behind room g));
}

turned : (b c : ℕ) → eqb b c ≡ false → eqb c b ≡ false
turned b c h = ne_eqb c b (λ e. eqb-false b c h (sym e))

no_string : (w behind : List ℕ) (room : ℕ) → is_word w ≡ true → is_plain w ≡ true → is_string (rest (32 ∷ w ++ behind) room) ≡ false
no_string [] behind room h p = absurd cc
no_string (b ∷ bs) behind room h p =
    let k = begins b bs h in
    let parts = or_parts (eqb b 34) (eqb b 120) (not-true (eqb b 34 || eqb b 120) p) in
    let e : behind_blanks (32 ∷ (b ∷ bs) ++ behind) ≡ b ∷ (bs ++ behind) = blanks_skip ((b ∷ bs) ++ behind)
    ∙ blanks_stop b (bs ++ behind) k.no_slash k.no_blank in
    rw (e, turned b 34 parts.0, turned b 120 parts.1) refl

step_is : (d e : Draft) (w behind : List ℕ) (room : ℕ) → is_word w ≡ true → is_plain w ≡ true → at_gap behind ≡ true
    → ((left : ℕ) → add_word d (word w left) ≡ Ok e)
    → more_words (d, rest (32 ∷ w ++ behind) room) ≡ Some (Ok (e, rest behind room))
unfolding add_next
step_is d e w behind room h p g adds =
    let r = rest (32 ∷ w ++ behind) room in
    let n = next_word_comes w behind room h g in
    rw (n.more, no_string w behind room h p, n.next, adds (length (w ++ behind)), n.after) refl

pub words_one : (w : List ℕ) (d e : Draft) → is_word w ≡ true → is_plain w ≡ true → ((left : ℕ) → add_word d (word w left) ≡ Ok e) → Words (32 ∷ w) d e
words_one w d e h p adds = record {
  gap = λ behind g. refl;
  leads = λ behind room g.
      leads_one more_words (d, rest (32 ∷ w ++ behind) room) (e, rest behind room) (length (32 ∷ w ++ behind)) (length behind)
      (step_is d e w behind room h p g adds)
      (omega (arith, length-append w behind));
}

-- flags of an entry
abbrev pub flagged : Draft → ℕ → Draft
flagged d flags = record d { sqe = record d.sqe { flags = flags } }

adds_flag : (d : Draft) (bit flags left : ℕ) → bit < 8 → flags < 2 ^ bit → add_word (flagged d flags) (word (entry_flag_name bit) left)
    ≡ Ok (flagged d (flags + 2 ^ bit))
unfolding add_word add_flag
adds_flag d bit flags left lt small = rw (add_word, (flag_name_is bit lt).flag, no_bit flags bit small, sets_bit flags bit small) refl

flags_from : (n bit flags so_far : ℕ) (d : Draft) → bit + n ≤ 8 → flags < 2 ^ n → so_far < 2 ^ bit
    → Words (entry_flags_from n bit flags) (flagged d so_far) (flagged d (so_far + flags * 2 ^ bit))
flags_from zero bit flags so_far d le lt small =
    let none : flags ≡ 0 = omega (arith, lt) in
    let e : so_far ≡ so_far + flags * 2 ^ bit = rw none (omega arith) in
    subst (λ (m : ℕ). Words [] (flagged d so_far) (flagged d m)) e (words_none (flagged d so_far))
flags_from (suc n) bit flags so_far d le lt small = elim (cases_Bool (eqb (flags % 2) 1)) [
  | inl odd ↦
      let is = flag_name_is bit (omega (arith, le)) in
      let one = words_one (entry_flag_name bit) (flagged d so_far) (flagged d (so_far + 2 ^ bit)) is.word is.plain
      (λ left. adds_flag d bit so_far left (omega (arith, le)) small) in
      let more = flags_from n (bit + 1) (flags / 2) (so_far + 2 ^ bit) d (omega (arith, le)) (omega (arith, lt, pow-suc 2 n))
      (omega (arith, small, twice bit)) in
      let e : so_far + 2 ^ bit + flags / 2 * 2 ^ (bit + 1) ≡ so_far + flags * 2 ^ bit = omega (arith, odd_worth flags bit odd) in
      rw odd (subst (λ (m : ℕ). Words ((32 ∷ entry_flag_name bit) ++ entry_flags_from n (bit + 1) (flags / 2)) (flagged d so_far) (flagged d m)) e
      (words_then (32 ∷ entry_flag_name bit) (entry_flags_from n (bit + 1) (flags / 2)) (flagged d so_far) (flagged d (so_far + 2 ^ bit))
      (flagged d (so_far + 2 ^ bit + flags / 2 * 2 ^ (bit + 1))) one more))
  | inr even ↦
      let more = flags_from n (bit + 1) (flags / 2) so_far d (omega (arith, le)) (omega (arith, lt, pow-suc 2 n)) (omega (arith, small, twice bit)) in
      rw even (subst (λ (m : ℕ). Words (entry_flags_from n (bit + 1) (flags / 2)) (flagged d so_far) (flagged d (so_far + m))) (even_worth flags bit even) more)
]

pub flags_lead : (d : Draft) (flags : ℕ) → d.sqe.flags ≡ 0 → flags < 2 ^ 8 → Words (entry_flags flags) d (flagged d flags)
unfolding entry_flags
flags_lead d flags none lt =
    let e : 0 + flags * 2 ^ 0 ≡ flags = omega arith in
    let h : flagged d 0 ≡ d = λ i. flagged d (sym none i) in
    subst (λ (c : Draft). Words (entry_flags_from 8 0 flags) c (flagged d flags)) h
    (subst (λ (m : ℕ). Words (entry_flags_from 8 0 flags) (flagged d 0) (flagged d m)) e (flags_from 8 0 flags 0 d (omega arith) lt (omega arith)))

-- What stands beside an entry, as its words say it.
pub record Beside : Type 0 where
  pub path : Option (List ℕ)
  pub old_path : Option (List ℕ)
  pub new_path : Option (List ℕ)
  pub lengths : Option (List ℕ)

abbrev pub nothing : Beside
nothing = record { path = None; old_path = None; new_path = None; lengths = None }

-- a draft with no strings
abbrev pub draft : Sqe → ℕ → Beside → Draft
draft e given b = record { sqe = e; given = given; path = b.path; old_path = b.old_path; new_path = b.new_path; lengths = b.lengths; strings = [] }

-- A field more has been told, or not: the marks of the others are as they were.
pub record After (k given : ℕ) (f : Field) (d e : Sqe) (b : Beside) (text : List ℕ) : Type 0 where
  pub now : ℕ
  pub below : now < 2 ^ (k + 1)
  pub kept : (m : ℕ) → bit_and (mark_of f) m ≡ 0 → bit_and now m ≡ bit_and given m
  pub words : Words text (draft d given b) (draft e now b)

begins_small : (key w : List ℕ) (op : ℕ) (f : Field) → IsKey op key f → list_any is_gap w ≡ false → (is_word (key ++ 61 ∷ w) ≡ true)
    × (is_plain (key ++ 61 ∷ w) ≡ true)
begins_small [] w op f k free = let s = k.small in absurd cc
begins_small (b ∷ bs) w op f k free =
    let parts = and_parts (nat_lt 96 b) (not (b == 120)) k.small in
    let low = ltb-true 96 b parts.0 in
    let whole = any_append is_gap (b ∷ bs) (61 ∷ w) k.no_gap free in (
      and_from (not (eqb b 35 || eqb b 92)) (not (list_any is_gap ((b ∷ bs) ++ 61 ∷ w)))
          (rw (ne_eqb b 35 (λ e. omega (arith, e, low)), ne_eqb b 92 (λ e. omega (arith, e, low))) refl) (not_from_false _ whole),
      rw (ne_eqb b 34 (λ e. omega (arith, e, low)), not-true (eqb b 120) parts.1) refl,
    )

-- the field is told
pub field_told : (f : Field) (k n given : ℕ) (key value : List ℕ) (d : Sqe) (b : Beside) → IsKey d.opcode key f → mark_of f ≡ 2 ^ k → given < 2 ^ k
    → list_any is_gap value ≡ false
    → ((left : ℕ) → number_at (style_of d.opcode f) (bits_of f) (word value left) ≡ Ok n) → After k given f d (with_field d f n) b (field key value)
field_told f k n given key value d b is mark small free reads =
    let s = begins_small key value d.opcode f is free in
    let e = with_field d f n in
    let now = bit_or given (mark_of f) in
    let once : bit_and given (mark_of f) ≡ 0 = rw mark (no_bit given k small) in
    record {
      now = now;
      below = rw mark (omega (arith, sets_bit given k small, small, twice k));
      kept = λ m apart. and_or_apart m given (mark_of f) apart;
      words = subst (λ (w : List ℕ). Words (32 ∷ w) (draft d given b) (draft e now b)) (sym (append_assoc key (61 ∷ []) value))
          (words_one (key ++ 61 ∷ value) (draft d given b) (draft e now b) s.0 s.1 (λ left. adds_key (draft d given b) key value left n f is once reads));
    }

pub told_marks : (f : Field) (k n given : ℕ) (key value : List ℕ) (d : Sqe) (b : Beside) (is : IsKey d.opcode key f) (mark : mark_of f
    ≡ 2 ^ k) (small : given < 2 ^ k) (free : list_any is_gap value ≡ false)
    (reads : (left : ℕ) → number_at (style_of d.opcode f) (bits_of f) (word value left) ≡ Ok n)
    → bit_and (field_told f k n given key value d b is mark small free reads).now (mark_of f) ≡ mark_of f
unfolding field_told
told_marks f k n given key value d b is mark small free reads = and_or_self (mark_of f) given

-- or it is left out, as 0
pub field_after : (f : Field) (k n given : ℕ) (key value : List ℕ) (d : Sqe) (b : Beside) → IsKey d.opcode key f → mark_of f ≡ 2 ^ k → given < 2 ^ k
    → with_field d f 0 ≡ d
    → (0 < n → list_any is_gap value ≡ false) → (0 < n → (left : ℕ) → number_at (style_of d.opcode f) (bits_of f) (word value left) ≡ Ok n)
    → After k given f d (with_field d f n) b (unless 0 n (field key value))
field_after f k n given key value d b is mark small zeroed free reads = elim (cases_Bool (eqb n 0)) [
  | inl none ↦
      let e : d ≡ with_field d f n = sym zeroed ∙ ap (with_field d f) (sym (eqb-true n 0 none)) in
      rw none (record {
        now = given;
        below = omega (arith, small, twice k);
        kept = λ m apart. refl;
        words = subst (λ (c : Sqe). Words [] (draft d given b) (draft c given b)) e (words_none (draft d given b));
      })
  | inr other ↦
      let some : 0 < n = let h = eqb-false n 0 other in omega (arith, h) in
      rw other (field_told f k n given key value d b is mark small (free some) (reads some))
]
