-- Words are read as they are shown.
use Rattle.std.proofs.Common.{◌≡◌, ℕ, ◌+◌, ◌-◌, ◌<◌, ◌^◌, true, false, eqb, List, [], ◌∷◌, ◌++◌, length, drop, None, Some, refl, sym, ap, ◌∙◌, append_assoc, arith, length-append}
use Rattle.std.specs.Prelude.{nat_eq, ◌==◌, ◌||◌, ◌&&◌, not, slice_index}
use Rattle.std.specs.List.{list_all, list_any, starts_with}
use Rattle.std.specs.Fmt.{decimal, digits}
use Rattle.std.proofs.lemmas.Bool.{and_from, and_parts, cond-true, eq-eqb, not-true, not_from_false, or_parts}
use Rattle.std.proofs.lemmas.List.{drop_at}
use Rattle.text_words.specs.Words.{behind_blanks, behind_lines, behind_lines_from, behind_word, is_blank, is_gap, value_at, word_at}
use Rattle.text_laws.specs.Words.{CommentIsSkipped, DecimalIsWord, FirstWordComesBack, HexadecimalIsWord, ValueComesBack, NextWordComesBack, at_gap, is_word, rest, word}
use Rattle.text_laws.proofs.Digits.{all_digits, is_digit, none_passes}
use Rattle.text_laws.proofs.Lists.{back_is, front_is, stops_at}
use Rattle.text_laws.proofs.Numbers.{decimal_digits, digit_gap, hexadecimal_digits, not_digit}

pub gap_stops : (behind : List ℕ) → at_gap behind ≡ true → stops_at is_gap behind ≡ true
gap_stops [] h = refl
gap_stops (b ∷ bs) h = h

-- what is known of the first byte of a word, and of all
pub record Begins (b : ℕ) (bs : List ℕ) : Type 0 where
  pub no_comment : eqb b 35 ≡ false
  pub no_slash : eqb b 92 ≡ false
  pub no_blank : is_blank b ≡ false
  pub no_feed : eqb b 10 ≡ false
  pub no_gap : is_gap b ≡ false
  pub whole : list_any is_gap (b ∷ bs) ≡ false

pub begins : (b : ℕ) (bs : List ℕ) → is_word (b ∷ bs) ≡ true → Begins b bs
begins b bs h =
    let parts = and_parts (not (eqb b 35 || eqb b 92)) (not (list_any is_gap (b ∷ bs))) h in
    let sign = or_parts (eqb b 35) (eqb b 92) (not-true _ parts.0) in
    let whole = not-true (list_any is_gap (b ∷ bs)) parts.1 in
    let first = or_parts (is_gap b) (list_any is_gap bs) whole in
    let gap = or_parts (is_blank b) (eqb b 10) first.0 in
    record { no_comment = sign.0; no_slash = sign.1; no_blank = gap.0; no_feed = gap.1; no_gap = first.0; whole = whole }

-- a word ends where a gap follows
pub word_front : (w behind : List ℕ) → list_any is_gap w ≡ false → at_gap behind ≡ true → word_at (w ++ behind) ≡ w
unfolding word_at
word_front w behind h g = front_is is_gap w behind h (gap_stops behind g)

pub word_back : (w behind : List ℕ) → list_any is_gap w ≡ false → at_gap behind ≡ true → behind_word (w ++ behind) ≡ behind
unfolding behind_word
word_back w behind h g = back_is is_gap w behind h (gap_stops behind g)

pub blanks_stop : (b : ℕ) (bs : List ℕ) → eqb b 92 ≡ false → is_blank b ≡ false → behind_blanks (b ∷ bs) ≡ b ∷ bs
unfolding behind_blanks
blanks_stop b bs h g = rw (h, g) refl

pub blanks_skip : (text : List ℕ) → behind_blanks (32 ∷ text) ≡ behind_blanks text
unfolding behind_blanks
blanks_skip text = refl

pub next_word_comes : NextWordComesBack
next_word_comes [] behind room h g = absurd cc
next_word_comes (b ∷ bs) behind room h g =
    let k = begins b bs h in
    let e : behind_blanks (32 ∷ (b ∷ bs) ++ behind) ≡ (b ∷ bs) ++ behind = blanks_skip ((b ∷ bs) ++ behind)
    ∙ blanks_stop b (bs ++ behind) k.no_slash k.no_blank in
    record {
      next = ap (λ (t : List ℕ). word (word_at t) (length t)) e ∙ ap (λ (w : List ℕ). word w (length ((b ∷ bs) ++ behind)))
          (word_front (b ∷ bs) behind k.whole g);
      after = ap (λ (t : List ℕ). rest (behind_word t) room) e ∙ ap (λ (t : List ℕ). rest t room) (word_back (b ∷ bs) behind k.whole g);
      more = rw (e, k.no_feed, k.no_comment) refl;
    }

pub lines_stop : (b : ℕ) (bs : List ℕ) → is_gap b ≡ false → eqb b 35 ≡ false → behind_lines (b ∷ bs) ≡ b ∷ bs
unfolding behind_lines
lines_stop b bs h g = rw (h, g) refl

pub first_word_comes : FirstWordComesBack
first_word_comes [] behind h g = absurd cc
first_word_comes (b ∷ bs) behind h g =
    let k = begins b bs h in
    record {
      lines = lines_stop b (bs ++ behind) k.no_gap k.no_comment;
      first = word_front (b ∷ bs) behind k.whole g;
      after = word_back (b ∷ bs) behind k.whole g;
    }

-- a comment ends with its line
comment_ends : (w text : List ℕ) → list_any (λ b. b == 10) w ≡ false → behind_lines_from true (w ++ 10 ∷ text) ≡ behind_lines_from false text
comment_ends [] text h = refl
comment_ends (b ∷ bs) text h = let parts = or_parts (eqb b 10) (list_any (λ c. c == 10) bs) h in rw (behind_lines_from, parts.0) (comment_ends bs text parts.1)

pub digits_free : (n : ℕ) → n < 2 ^ 64 → list_all (is_digit 16) (decimal n) ≡ true
digits_free n lt = all_digits 10 (decimal n) (omega arith) (decimal_digits n lt).0

pub comment_is_skipped : CommentIsSkipped
unfolding behind_lines
comment_is_skipped place text lt =
    ap (behind_lines_from true) (append_assoc (decimal place) (10 ∷ []) text)
    ∙ comment_ends (decimal place) text (none_passes (λ b. b == 10) (λ b h. not_digit 10 b refl h) (decimal place) (digits_free place lt))

-- digits are a word
digits_word : (w : List ℕ) → list_all (is_digit 16) w ≡ true → 0 < length w → is_word w ≡ true
digits_word [] h lt = absurd (omega (arith, lt))
digits_word (b ∷ bs) h lt =
    let parts = and_parts (is_digit 16 b) (list_all (is_digit 16) bs) h in
    and_from (not (eqb b 35 || eqb b 92)) (not (list_any is_gap (b ∷ bs))) (rw (not_digit 35 b refl parts.0, not_digit 92 b refl parts.0) refl)
    (not_from_false (list_any is_gap (b ∷ bs)) (none_passes is_gap digit_gap (b ∷ bs) h))

pub decimal_is_word : DecimalIsWord
decimal_is_word n lt = digits_word (decimal n) (digits_free n lt) (decimal_digits n lt).2

pub hexadecimal_is_word : HexadecimalIsWord
hexadecimal_is_word n lt = rw (none_passes is_gap digit_gap (digits 16 false n) (hexadecimal_digits n lt)) refl

-- what follows a key
starts_front : (key w : List ℕ) → starts_with nat_eq (key ++ w) key ≡ true
starts_front [] w = refl
starts_front (k ∷ ks) w = and_from (eqb k k) (starts_with nat_eq (ks ++ w) ks) (eq-eqb k k refl) (starts_front ks w)

pub at_sign : (key w : List ℕ) (b : ℕ) → slice_index (key ++ b ∷ w) (length key) ≡ b
at_sign [] w b = refl
at_sign (k ∷ ks) w b = at_sign ks w b

pub behind_sign : (key w : List ℕ) (b : ℕ) → drop (length key + 1) (key ++ b ∷ w) ≡ w
behind_sign key w b =
    ap (drop (length key + 1)) (sym (append_assoc key (b ∷ []) w)) ∙ drop_at (key ++ b ∷ []) w (length key + 1) (length-append key (b ∷ []))

pub value_comes_back : ValueComesBack
unfolding value_at
value_comes_back key value left =
    let w = key ++ (61 ∷ value) in
    let n = length key + 1 in
    let found = and_from (starts_with nat_eq w key) (slice_index w (length key) == 61) (starts_front key (61 ∷ value))
    (eq-eqb (slice_index w (length key)) 61 (at_sign key value 61)) in
    rw (append_assoc key (61 ∷ []) value)
    (cond-true (starts_with nat_eq w key && (slice_index w (length key) == 61)) (Some (word (drop n w) (left - n))) None found
    ∙ ap (λ (v : List ℕ). Some (word v (left - n))) (behind_sign key value 61))
