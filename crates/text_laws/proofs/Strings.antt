-- Strings are read as they are shown.
use Rattle.std.proofs.Common.{◌≡◌, ℕ, zero, suc, ◌+◌, ◌-◌, ◌*◌, ◌/◌, ◌<◌, ◌≤◌, ◌^◌, true, false, cond, eqb, List, [], ◌∷◌, ◌++◌, length, take, drop, Option, None, Some, Result, Ok, inl, inr, refl, sym, ap, subst, ◌∙◌, append_assoc, append-nil, arith, length-append, length-drop, take-append-drop}
use Rattle.std.specs.Prelude.{nat_eq, nat_le, ◌||◌, codes}
use Rattle.std.specs.List.{flat_map, repeat, starts_with, count_by}
use Rattle.std.specs.Fmt.{decimal, digit_glyph}
use Rattle.std.proofs.lemmas.Bool.{cases_Bool, cond-false, cond-true, eqb-false, eqb-true, le-ltb, leb-true, lt-ltb, ne_eqb, or_right}
use Rattle.sqe_codec.specs.Fields.{IsBytes}
use Rattle.text_forms.specs.Strings.{ended, escape_letter, goes_on, hex_text, is_hidden, is_printable, pieces, plain_pieces, plain_text, plains, quoted_byte, run_text, string_text, hex_byte as shown_digits, hex_escape as shown_escape}
use Rattle.trace_text.specs.declared.look.Look.{Look}
use Rattle.trace_text.specs.Entry.{data_text, gap}
use Rattle.text_words.specs.declared.fault.Fault.{Fault}
use Rattle.text_words.specs.Paths.{hex_escape}
use Rattle.text_words.specs.Read.{Rest, repeated}
use Rattle.text_words.specs.Strings.{behind_count, count_of, digits, escape, is_string, letter, letters, more_string, more_strings, once, one_byte, one_letter, strings_of, up_to_mark}
use Rattle.text_words.specs.Words.{behind_blanks, ends_line, is_at_end, is_gap, word_at}
use Rattle.text_words.proofs.Repeats.{repeat_more}
use Rattle.text_laws.specs.Words.{IsIndent, StringsComeBack, at_gap, rest}
use Rattle.text_laws.proofs.Chains.{Leads, leads_none, leads_one, leads_then, leads_to}
use Rattle.text_laws.proofs.Digits.{glyph_value, none_passes}
use Rattle.text_laws.proofs.Numbers.{count_comes_back, digit_gap, digit_not}
use Rattle.text_laws.proofs.Paths.{hex_byte_reads, hex_escape_reads}
use Rattle.text_laws.proofs.Words.{blanks_skip, blanks_stop, digits_free, word_back, word_front}

-- bytes of bytes
pub bytes_take : (n : ℕ) (bytes : List ℕ) → IsBytes bytes → IsBytes (take n bytes)
bytes_take zero bytes all i = omega arith
bytes_take (suc n) [] all i = omega arith
bytes_take (suc n) (b ∷ bs) all zero = all 0
bytes_take (suc n) (b ∷ bs) all (suc i) = bytes_take n bs (λ j. all (suc j)) i

pub bytes_drop : (n : ℕ) (bytes : List ℕ) → IsBytes bytes → IsBytes (drop n bytes)
bytes_drop zero bytes all = all
bytes_drop (suc n) [] all = all
bytes_drop (suc n) (b ∷ bs) all = bytes_drop n bs (λ j. all (suc j))

pub bytes_append : (v w : List ℕ) → IsBytes v → IsBytes w → IsBytes (v ++ w)
bytes_append [] w all more i = more i
bytes_append (b ∷ bs) w all more zero = all 0
bytes_append (b ∷ bs) w all more (suc i) = bytes_append bs w (λ j. all (suc j)) more i

one_of : (b : ℕ) → b < 256 → IsBytes (b ∷ [])
one_of b lt zero = lt
one_of b lt (suc i) = omega arith

turned : (b c : ℕ) → eqb b c ≡ false → eqb c b ≡ false
turned b c h = ne_eqb c b (λ e. eqb-false b c h (sym e))

-- a byte between marks
abbrev LetterReads : List ℕ → List ℕ → ℕ → Type 0
LetterReads acc text b = up_to_mark one_letter (acc, quoted_byte b ++ text) ≡ Some (Ok (acc ++ b ∷ [], text))

-- one of six bytes that have a letter
short_reads : (acc text : List ℕ) (b n : ℕ) → eqb b n ≡ true → LetterReads acc text n → LetterReads acc text b
short_reads acc text b n is = subst (LetterReads acc text) (sym (eqb-true b n is))

-- a byte that has none
escape_reads : (b : ℕ) (text : List ℕ) → b < 256 → escape (shown_escape b ++ text) ≡ Ok (b, 4)
unfolding escape
escape_reads b text lt = rw (escape, hex_escape_reads b text lt) refl

by_digits : (acc text : List ℕ) (b : ℕ) → b < 256 → up_to_mark one_letter (acc, shown_escape b ++ text) ≡ Some (Ok (acc ++ b ∷ [], text))
unfolding one_letter letter
by_digits acc text b lt = rw (escape_reads b text lt) refl

by_itself : (acc text : List ℕ) (b : ℕ) → is_printable b ≡ true → eqb b 34 ≡ false → eqb b 92 ≡ false → up_to_mark one_letter (acc, b ∷ text)
    ≡ Some (Ok (acc ++ b ∷ [], text))
unfolding one_letter letter
by_itself acc text b itself mark slash = rw (turned b 34 mark, slash, itself) refl

long_reads : (acc text : List ℕ) (b : ℕ) → b < 256 → eqb (escape_letter b) 0 ≡ true → eqb b 34 ≡ false → eqb b 92 ≡ false → LetterReads acc text b
long_reads acc text b lt none mark slash = elim (cases_Bool (is_printable b)) [
  | inl itself ↦ rw (none, itself) (by_itself acc text b itself mark slash)
  | inr other ↦ rw (none, other) (by_digits acc text b lt)
]

letter_reads : (acc text : List ℕ) (b : ℕ) → b < 256 → LetterReads acc text b
unfolding one_letter letter escape hex_escape
letter_reads acc text b lt = elim (cases_Bool (eqb b 10)) [
  | inl is ↦ short_reads acc text b 10 is refl
  | inr c10 ↦ elim (cases_Bool (eqb b 9)) [
    | inl is ↦ short_reads acc text b 9 is refl
    | inr c9 ↦ elim (cases_Bool (eqb b 13)) [
      | inl is ↦ short_reads acc text b 13 is refl
      | inr c13 ↦ elim (cases_Bool (eqb b 0)) [
        | inl is ↦ short_reads acc text b 0 is refl
        | inr c0 ↦ elim (cases_Bool (eqb b 34)) [
          | inl is ↦ short_reads acc text b 34 is refl
          | inr c34 ↦ elim (cases_Bool (eqb b 92)) [
            | inl is ↦ short_reads acc text b 92 is refl
            | inr c92 ↦ long_reads acc text b lt (rw (c10, c9, c13, c0, c34, c92) refl) c34 c92
          ]
        ]
      ]
    ]
  ]
]

some_quoted : (b : ℕ) → 0 < length (quoted_byte b)
some_quoted b = elim (cases_Bool (eqb (escape_letter b) 0)) [
  | inl none ↦ elim (cases_Bool (is_printable b)) [ inl itself ↦ rw (none, itself) (omega arith) | inr other ↦ rw (none, other) (omega arith) ]
  | inr letter ↦ rw letter (omega arith)
]

leads_letters : (bytes acc text : List ℕ) → IsBytes bytes
    → Leads (up_to_mark one_letter) (acc, flat_map quoted_byte bytes ++ text) (acc ++ bytes, text) (length (flat_map quoted_byte bytes ++ text)) (length text)
leads_letters [] acc text all = subst (λ (p : List ℕ). Leads (up_to_mark one_letter) (acc, text) (p, text) (length text) (length text)) (sym (append-nil acc))
    (leads_none (up_to_mark one_letter) (acc, text) (length text))
leads_letters (b ∷ bs) acc text all =
    let more = flat_map quoted_byte bs ++ text in
    let whole : (quoted_byte b ++ flat_map quoted_byte bs) ++ text ≡ quoted_byte b ++ more = append_assoc (quoted_byte b) (flat_map quoted_byte bs) text in
    let first = leads_one (up_to_mark one_letter) (acc, quoted_byte b ++ more) (acc ++ b ∷ [], more) (length (quoted_byte b ++ more)) (length more)
    (letter_reads acc more b (all 0)) (omega (arith, some_quoted b, length-append (quoted_byte b) more)) in
    let next = subst (λ (p : List ℕ). Leads (up_to_mark one_letter) (acc ++ b ∷ [], more) (p, text) (length more) (length text))
    (append_assoc acc (b ∷ []) bs) (leads_letters bs (acc ++ b ∷ []) text (λ i. all (suc i))) in
    subst (λ (t : List ℕ). Leads (up_to_mark one_letter) (acc, t) (acc ++ b ∷ bs, text) (length t) (length text)) (sym whole) (leads_then first next)

-- a byte by its digits
digits_read : (acc text : List ℕ) (b : ℕ) → b < 256 → up_to_mark one_byte (acc, shown_digits b ++ text) ≡ Some (Ok (acc ++ b ∷ [], text))
unfolding one_byte
digits_read acc text b lt =
    let high : b / 16 < 16 = omega arith in
    rw (digit_not 34 (digit_glyph false (b / 16)) refl (lt-ltb _ 16 (omega (arith, high, glyph_value (b / 16) high))), hex_byte_reads b text lt) refl

leads_digits : (bytes acc text : List ℕ) → IsBytes bytes
    → Leads (up_to_mark one_byte) (acc, flat_map shown_digits bytes ++ text) (acc ++ bytes, text) (length (flat_map shown_digits bytes ++ text)) (length text)
leads_digits [] acc text all = subst (λ (p : List ℕ). Leads (up_to_mark one_byte) (acc, text) (p, text) (length text) (length text)) (sym (append-nil acc))
    (leads_none (up_to_mark one_byte) (acc, text) (length text))
leads_digits (b ∷ bs) acc text all =
    let more = flat_map shown_digits bs ++ text in
    let first = leads_one (up_to_mark one_byte) (acc, shown_digits b ++ more) (acc ++ b ∷ [], more) (length (shown_digits b ++ more)) (length more)
    (digits_read acc more b (all 0)) (omega arith) in
    let next = subst (λ (p : List ℕ). Leads (up_to_mark one_byte) (acc ++ b ∷ [], more) (p, text) (length more) (length text)) (append_assoc acc (b ∷ []) bs)
    (leads_digits bs (acc ++ b ∷ []) text (λ i. all (suc i))) in
    leads_then first next

-- A string that is read as some bytes, whatever follows its mark.
record IsOnce (text bytes : List ℕ) : Type 0 where
  reads : (behind : List ℕ) → once [] (text ++ behind) ≡ Ok (bytes, behind)
  blanks : (behind : List ℕ) → behind_blanks (text ++ behind) ≡ text ++ behind
  string : (behind : List ℕ) → (starts_with nat_eq (text ++ behind) (codes "\"") || starts_with nat_eq (text ++ behind) (codes "x\"")) ≡ true
  more : (behind : List ℕ) → ends_line (text ++ behind) ≡ false

string_once : (bytes : List ℕ) → IsBytes bytes → IsOnce (string_text bytes) bytes
unfolding once letters
string_once bytes all = record {
  reads = λ behind.
      let inside = flat_map quoted_byte bytes in
      let e : repeated (length (inside ++ 34 ∷ behind)) (up_to_mark one_letter) ([], inside ++ 34 ∷ behind)
      ≡ Ok (bytes, 34 ∷ behind) = leads_to (leads_letters bytes [] (34 ∷ behind) all) refl in
      rw (append_assoc inside (34 ∷ []) behind, e) refl;
  blanks = λ behind. blanks_stop 34 _ refl refl;
  string = λ behind. refl;
  more = λ behind. refl;
}

hex_once : (bytes : List ℕ) → IsBytes bytes → IsOnce (hex_text bytes) bytes
unfolding once digits
hex_once bytes all = record {
  reads = λ behind.
      let inside = flat_map shown_digits bytes in
      let e : repeated (length (inside ++ 34 ∷ behind)) (up_to_mark one_byte) ([], inside ++ 34 ∷ behind)
      ≡ Ok (bytes, 34 ∷ behind) = leads_to (leads_digits bytes [] (34 ∷ behind) all) refl in
      rw (append_assoc inside (34 ∷ []) behind, e) refl;
  blanks = λ behind. blanks_stop 120 _ refl refl;
  string = λ behind. refl;
  more = λ behind. refl;
}

plain_once : (bytes : List ℕ) → IsBytes bytes → IsOnce (plain_text bytes) bytes
plain_once bytes all = elim (cases_Bool (nat_le (count_by is_hidden bytes) (length bytes / 4))) [
  | inl few ↦ rw few (string_once bytes all)
  | inr many ↦ rw many (hex_once bytes all)
]

-- A string with its count, or none, behind a gap: it is read as some bytes, where there is room for them.
record IsString (text bytes : List ℕ) : Type 0 where
  reads : (acc behind : List ℕ) (room : ℕ) → at_gap behind ≡ true → length bytes ≤ room → room < 2 ^ 64
      → more_string acc (rest (text ++ behind) room) ≡ Ok (acc ++ bytes, rest behind (room - length bytes))
  string : (behind : List ℕ) (room : ℕ) → is_string (rest (text ++ behind) room) ≡ true
  more : (behind : List ℕ) (room : ℕ) → is_at_end (rest (text ++ behind) room) ≡ false
  gap : (behind : List ℕ) → at_gap (text ++ behind) ≡ true
  some : 0 < length text

no_star : (behind : List ℕ) → at_gap behind ≡ true → starts_with nat_eq behind (codes "*") ≡ false
no_star [] g = refl
no_star (b ∷ bs) g = rw (ne_eqb 42 b (λ e. let h : false ≡ true = subst (λ (n : ℕ). is_gap n ≡ true) (sym e) g in absurd cc)) refl

one_count : (behind : List ℕ) → at_gap behind ≡ true → count_of behind ≡ Ok 1
unfolding count_of
one_count behind g = rw (no_star behind g) refl

no_count : (behind : List ℕ) → at_gap behind ≡ true → behind_count behind ≡ Ok behind
unfolding behind_count
no_count [] g = refl
no_count (b ∷ bs) g = rw (no_star (b ∷ bs) g, or_right (eqb (suc (length bs)) 0) (is_gap b) g) refl

star_count : (n : ℕ) (behind : List ℕ) → 0 < n → n < 2 ^ 64 → at_gap behind ≡ true → count_of (42 ∷ decimal n ++ behind) ≡ Ok n
unfolding count_of
star_count n behind some lt g =
    let e : word_at ((42 ∷ decimal n) ++ behind) ≡ 42 ∷ decimal n = word_front (42 ∷ decimal n) behind
    (none_passes is_gap digit_gap (decimal n) (digits_free n lt)) g in
    rw e (count_comes_back n _ some lt)

star_behind : (n : ℕ) (behind : List ℕ) → n < 2 ^ 64 → at_gap behind ≡ true → behind_count (42 ∷ decimal n ++ behind) ≡ Ok behind
unfolding behind_count
star_behind n behind lt g = rw (word_back (42 ∷ decimal n) behind (none_passes is_gap digit_gap (decimal n) (digits_free n lt)) g) refl

module _ (line : List ℕ) (indent : IsIndent line) where
  behind_line : (text bytes behind : List ℕ) → IsOnce text bytes → behind_blanks ((line ++ text) ++ behind) ≡ text ++ behind
  behind_line text bytes behind o = ap behind_blanks (append_assoc line text behind) ∙ (indent (text ++ behind)).0 ∙ o.blanks behind

  plain_string : (text bytes : List ℕ) → IsOnce text bytes → 0 < length text → IsString (line ++ text) bytes
  unfolding more_string
  plain_string text bytes o some = record {
    reads = λ acc behind room g le lt.
        let e : length bytes * 1 ≡ length bytes = omega arith in
        rw (behind_line text bytes behind o, o.reads behind, one_count behind g, e, le-ltb room (length bytes) le, no_count behind g, append-nil bytes) refl;
    string = λ behind room. rw (behind_line text bytes behind o) (o.string behind);
    more = λ behind room. rw (behind_line text bytes behind o) (o.more behind);
    gap = λ behind. ap at_gap (append_assoc line text behind) ∙ (indent (text ++ behind)).1;
    some = omega (arith, some, length-append line text);
  }

  run_string : (run : List ℕ) → IsBytes run → 0 < length run → repeat (length run) (take 1 run) ≡ run → IsString (line ++ run_text run) run
  unfolding more_string
  run_string run all some same = record {
    reads = λ acc behind room g le lt.
        let n = length run in
        let o = string_once (take 1 run) (bytes_take 1 run all) in
        let text = string_text (take 1 run) in
        let tail : (text ++ 42 ∷ decimal n) ++ behind ≡ text ++ (42 ∷ decimal n ++ behind) = append_assoc text (42 ∷ decimal n) behind in
        let e : behind_blanks ((line ++ (text ++ 42 ∷ decimal n)) ++ behind) ≡ text ++ (42 ∷ decimal n ++ behind) =
        ap behind_blanks (append_assoc line (text ++ 42 ∷ decimal n) behind ∙ ap (λ (t : List ℕ). line ++ t) tail)
        ∙ (indent (text ++ (42 ∷ decimal n ++ behind))).0 ∙ o.blanks (42 ∷ decimal n ++ behind) in
        let one : length (take 1 run) * n ≡ n = one_long run some in
        rw (
          e,
          o.reads (42 ∷ decimal n ++ behind),
          star_count n behind some (omega (arith, le, lt)) g,
          one,
          le-ltb room n le,
          star_behind n behind (omega (arith, le, lt)) g,
          same,
        ) refl;
    string = λ behind room. rw (front behind) ((string_once (take 1 run) (bytes_take 1 run all)).string (42 ∷ decimal (length run) ++ behind));
    more = λ behind room. rw (front behind) ((string_once (take 1 run) (bytes_take 1 run all)).more (42 ∷ decimal (length run) ++ behind));
    gap = λ behind. ap at_gap (append_assoc line (run_text run) behind) ∙ (indent (run_text run ++ behind)).1;
    some = omega (arith, length-append line (run_text run));
  }
    where
      one_long : (run : List ℕ) → 0 < length run → length (take 1 run) * length run ≡ length run
      one_long [] lt = refl
      one_long (b ∷ bs) lt = omega arith

      front : (behind : List ℕ) → behind_blanks ((line ++ run_text run) ++ behind) ≡ string_text (take 1 run) ++ (42 ∷ decimal (length run) ++ behind)
      front behind =
          let o = string_once (take 1 run) (bytes_take 1 run all) in
          let text = string_text (take 1 run) in
          ap behind_blanks (append_assoc line (run_text run) behind ∙ ap (λ (t : List ℕ). line ++ t) (append_assoc text (42 ∷ decimal (length run)) behind))
          ∙ (indent (text ++ (42 ∷ decimal (length run) ++ behind))).0 ∙ o.blanks (42 ∷ decimal (length run) ++ behind)

-- A step takes a string, where one is next.
pub record Takes {S : Type 0} (step : S → Option (Result S Fault)) (f : List ℕ × Rest → S) : Type 0 where
  pub takes : (acc : List ℕ) (r : Rest) (s : List ℕ × Rest) → is_at_end r ≡ false → is_string r ≡ true → more_string acc r ≡ Ok s → step (f (acc, r))
      ≡ Some (Ok (f s))

-- Strings one after another, read as some bytes.
pub record AreStrings {S : Type 0} (step : S → Option (Result S Fault)) (f : List ℕ × Rest → S) (text bytes : List ℕ) : Type 0 where
  pub gap : (behind : List ℕ) → at_gap behind ≡ true → at_gap (text ++ behind) ≡ true
  pub leads : (acc behind : List ℕ) (room : ℕ) → at_gap behind ≡ true → length bytes ≤ room → room < 2 ^ 64
      → Leads step (f (acc, rest (text ++ behind) room)) (f (acc ++ bytes, rest behind (room - length bytes))) (length (text ++ behind)) (length behind)

module _ {S : Type 0} (step : S → Option (Result S Fault)) (f : List ℕ × Rest → S) (t : Takes step f) where
  are_none : AreStrings step f [] []
  are_none = record {
    gap = λ behind g. g;
    leads = λ acc behind room g le lt.
        let e : room ≡ room - 0 = omega arith in
        let h : (acc, rest behind room) ≡ (acc ++ [], rest behind (room - 0)) = λ i. (sym (append-nil acc) i, rest behind (e i)) in
        subst (λ (s : List ℕ × Rest). Leads step (f (acc, rest behind room)) (f s) (length behind) (length behind)) h
        (leads_none step (f (acc, rest behind room)) (length behind));
  }

  are_one : (text bytes : List ℕ) → IsString text bytes → AreStrings step f text bytes
  are_one text bytes s = record {
    gap = λ behind g. s.gap behind;
    leads = λ acc behind room g le lt.
        leads_one step (f (acc, rest (text ++ behind) room)) (f (acc ++ bytes, rest behind (room - length bytes))) (length (text ++ behind)) (length behind)
        (t.takes acc (rest (text ++ behind) room) (acc ++ bytes, rest behind (room - length bytes)) (s.more behind room) (s.string behind room)
        (s.reads acc behind room g le lt))
        (omega (arith, s.some, length-append text behind));
  }

  are_both : (one two more less : List ℕ) → AreStrings step f one more → AreStrings step f two less → AreStrings step f (one ++ two) (more ++ less)
  are_both one two more less a b = record {
    gap = λ behind g. ap at_gap (append_assoc one two behind) ∙ a.gap (two ++ behind) (b.gap behind g);
    leads = λ acc behind room g le lt.
        let len = length-append more less in
        let first = a.leads acc (two ++ behind) room (b.gap behind g) (omega (arith, len, le)) lt in
        let next = b.leads (acc ++ more) behind (room - length more) g (omega (arith, len, le)) (omega (arith, lt)) in
        let e : room - length more - length less ≡ room - length (more ++ less) = omega (arith, len, le) in
        let h : ((acc ++ more) ++ less, rest behind (room - length more - length less))
        ≡ (acc ++ (more ++ less), rest behind (room - length (more ++ less))) = λ i. (append_assoc acc more less i, rest behind (e i)) in
        subst (λ (w : List ℕ). Leads step (f (acc, rest w room)) (f (acc ++ (more ++ less), rest behind (room - length (more ++ less)))) (length w)
        (length behind)) (sym (append_assoc one two behind))
        (subst (λ (s : List ℕ × Rest). Leads step (f (acc, rest (one ++ (two ++ behind)) room)) (f s) (length (one ++ (two ++ behind))) (length behind)) h
        (leads_then first next));
  }

some_plain : (bytes : List ℕ) → 0 < length (plain_text bytes)
some_plain bytes = elim (cases_Bool (nat_le (count_by is_hidden bytes) (length bytes / 4))) [
  | inl few ↦ rw few (omega arith)
  | inr many ↦
      rw many (omega arith)
]

-- a run of one byte, with one more
abbrev IsRun : List ℕ → Type 0
IsRun run = repeat (length run) (take 1 run) ≡ run

run_more : (run : List ℕ) (c : ℕ) → goes_on c run ≡ true → IsRun run → IsRun (run ++ c ∷ [])
run_more [] c on same = refl
run_more (b ∷ bs) c on same =
    let e : c ≡ b = eqb-true c b on in
    let len : length ((b ∷ bs) ++ c ∷ []) ≡ length (b ∷ bs) + 1 = length-append (b ∷ bs) (c ∷ []) in
    ap (λ (n : ℕ). repeat n (b ∷ [])) len ∙ repeat_more (length (b ∷ bs)) (b ∷ []) ∙ ap (λ (l : List ℕ). l ++ b ∷ []) same
    ∙ ap (λ (n : ℕ). (b ∷ bs) ++ n ∷ []) (sym e)

no_bytes : (bytes : List ℕ) → eqb (length bytes) 0 ≡ true → bytes ≡ []
no_bytes [] h = refl
no_bytes (b ∷ bs) h = let e = eqb-true (suc (length bs)) 0 h in absurd (omega (arith, e))

module _ {S : Type 0} (step : S → Option (Result S Fault)) (f : List ℕ × Rest → S) (t : Takes step f) (line : List ℕ) (indent : IsIndent line) where
  plains_are : (n : ℕ) (bytes : List ℕ) → IsBytes bytes → length bytes ≤ n → AreStrings step f (plains line n bytes) bytes
  plains_are zero [] all le = are_none step f t
  plains_are zero (b ∷ bs) all le = absurd (omega (arith, le))
  plains_are (suc n) bytes all le = elim (cases_Bool (eqb (length bytes) 0)) [
    | inl none ↦ rw none (subst (AreStrings step f []) (sym (no_bytes bytes none)) (are_none step f t))
    | inr some ↦
        let front = take 64 bytes in
        let back = drop 64 bytes in
        let one = are_one step f t (line ++ plain_text front) front (plain_string line indent (plain_text front) front
        (plain_once front (bytes_take 64 bytes all)) (some_plain front)) in
        let lt : length back ≤ n = omega (arith, length-drop 64 bytes, le) in
        let both = are_both step f t (line ++ plain_text front) (plains line n back) front back one (plains_are n back (bytes_drop 64 bytes all) lt) in
        rw some (subst (AreStrings step f ((line ++ plain_text front) ++ plains line n back)) (take-append-drop 64 bytes) both)
  ]

  plain_are : (bytes : List ℕ) → IsBytes bytes → AreStrings step f (plain_pieces line bytes) bytes
  plain_are bytes all = plains_are (length bytes) bytes all (omega arith)

  ended_are : (plain run : List ℕ) → IsBytes plain → IsBytes run → IsRun run → AreStrings step f (ended line plain run) (plain ++ run)
  ended_are plain run all more same = elim (cases_Bool (nat_le 16 (length run))) [
    | inl long ↦
        let some : 0 < length run = omega (arith, leb-true 16 (length run) long) in
        rw (long, append_assoc (plain_pieces line plain) line (run_text run))
        (are_both step f t (plain_pieces line plain) (line ++ run_text run) plain run (plain_are plain all)
        (are_one step f t (line ++ run_text run) run (run_string line indent run more some same)))
    | inr short ↦ rw short (plain_are (plain ++ run) (bytes_append plain run all more))
  ]

  pieces_are : (bytes plain run : List ℕ) → IsBytes plain → IsBytes run → IsRun run → IsBytes bytes
      → AreStrings step f (pieces line plain run bytes) (plain ++ (run ++ bytes))
  pieces_are [] plain run all more same last = subst (λ (l : List ℕ). AreStrings step f (ended line plain run) (plain ++ l)) (sym (append-nil run))
      (ended_are plain run all more same)
  pieces_are (c ∷ bs) plain run all more same last =
      let one = one_of c (last 0) in
      let others : IsBytes bs = λ i. last (suc i) in
      elim (cases_Bool (goes_on c run)) [
        | inl on ↦
            rw on (subst (λ (l : List ℕ). AreStrings step f (pieces line plain (run ++ c ∷ []) bs) (plain ++ l)) (append_assoc run (c ∷ []) bs)
            (pieces_are bs plain (run ++ c ∷ []) all (bytes_append run (c ∷ []) more one) (run_more run c on same) others))
        | inr off ↦ elim (cases_Bool (nat_le 16 (length run))) [
          | inl long ↦
              let front = ended line plain run in
              let back = pieces line [] (c ∷ []) bs in
              let same_run = pieces line plain (run ++ c ∷ []) bs in
              let no_run = pieces line (plain ++ run) (c ∷ []) bs in
              let turn : pieces line plain run (c ∷ bs) ≡ front ++ back =
              cond-false (goes_on c run) same_run (cond (nat_le 16 (length run)) (front ++ back) no_run) off
              ∙ cond-true (nat_le 16 (length run)) (front ++ back) no_run long in
              subst (λ (w : List ℕ). AreStrings step f w (plain ++ (run ++ c ∷ bs))) (sym turn)
              (subst (AreStrings step f (front ++ back)) (append_assoc plain run (c ∷ bs))
              (are_both step f t front back (plain ++ run) (c ∷ bs) (ended_are plain run all more same)
              (pieces_are bs [] (c ∷ []) (λ i. omega arith) one refl others)))
          | inr short ↦
              rw (off, short) (subst (AreStrings step f (pieces line (plain ++ run) (c ∷ []) bs)) (append_assoc plain run (c ∷ bs))
              (pieces_are bs (plain ++ run) (c ∷ []) (bytes_append plain run all more) one refl others))
        ]
      ]

space_indents : IsIndent (codes " ")
space_indents text = (blanks_skip text, refl)

gap_indents : (line bytes : List ℕ) → IsIndent line → IsIndent (gap line bytes)
gap_indents line bytes indent = elim (cases_Bool (nat_le (length bytes) 64)) [ inl few ↦ rw few space_indents | inr many ↦ rw many indent ]

-- all bytes are shown
all_shown : (look : Look) (line bytes : List ℕ) → look.first ≡ None → data_text look line bytes ≡ pieces (gap line bytes) [] [] bytes
all_shown look line bytes h = rw (h, le-ltb (length bytes) (length bytes) (omega arith)) (append-nil (pieces (gap line bytes) [] [] bytes))

pub data_are : {S : Type 0} (step : S → Option (Result S Fault)) (f : List ℕ × Rest → S) → Takes step f → (look : Look) (line bytes : List ℕ) → look.first
    ≡ None → IsIndent line → IsBytes bytes
    → AreStrings step f (data_text look line bytes) bytes
data_are step f t look line bytes h indent all =
    subst (λ (w : List ℕ). AreStrings step f w bytes) (sym (all_shown look line bytes h))
    (pieces_are step f t (gap line bytes) (gap_indents line bytes indent) bytes [] [] (λ i. omega arith) (λ i. omega arith) refl all)

takes_strings : Takes more_strings (λ s. s)
takes_strings = record { takes = λ acc r s more string reads. rw (more, reads) refl }

pub strings_come_back : StringsComeBack
unfolding strings_of
strings_come_back look line bytes behind room h indent all le lt =
    let end : more_strings (bytes, rest (10 ∷ behind) (room - length bytes)) ≡ None = rw (blanks_stop 10 behind refl refl) refl in
    leads_to ((data_are more_strings (λ s. s) takes_strings look line bytes h indent all).leads [] (10 ∷ behind) room refl le lt) end
