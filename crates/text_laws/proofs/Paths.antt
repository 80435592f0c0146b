-- Paths are read as they are shown.
use Rattle.std.proofs.Common.{◌≡◌, ℕ, suc, ◌+◌, ◌*◌, ◌/◌, ◌%◌, ◌<◌, ◌≤◌, true, false, eqb, List, [], ◌∷◌, ◌++◌, length, None, Some, Ok, inl, inr, refl, sym, ap, subst, ◌∙◌, append_assoc, append-nil, arith, length-append}
use Rattle.std.specs.Prelude.{nat_le, ◌&&◌, not}
use Rattle.std.specs.List.{list_any}
use Rattle.std.specs.Fmt.{digit_glyph}
use Rattle.std.proofs.lemmas.Bool.{and_parts, cases_Bool, le-ltb, leb-true, lt-ltb, ne_eqb, not-true}
use Rattle.sqe_codec.specs.Fields.{IsBytes}
use Rattle.text_forms.specs.Strings.{is_visible, path_text, path_byte as shown_byte}
use Rattle.text_words.specs.Paths.{hex_byte, hex_escape, letters_of, more_path, path_at, path_byte, path_letter}
use Rattle.text_words.specs.Read.{Word}
use Rattle.text_words.specs.Words.{is_gap}
use Rattle.text_laws.specs.Words.{PathComesBack, PathIsWord, word}
use Rattle.text_laws.proofs.Chains.{Leads, leads_none, leads_one, leads_then, leads_to}
use Rattle.text_laws.proofs.Digits.{glyph_value}
use Rattle.text_laws.proofs.Lists.{any_append}
use Rattle.text_laws.proofs.Numbers.{digit_gap}

-- the two digits of a byte
pub hex_byte_reads : (b : ℕ) (text : List ℕ) → b < 256 → hex_byte (digit_glyph false (b / 16) ∷ digit_glyph false (b % 16) ∷ text) ≡ Some b
unfolding hex_byte
hex_byte_reads b text lt =
    let high : b / 16 < 16 = omega arith in
    let low : b % 16 < 16 = omega arith in
    let whole : 16 * (b / 16) + b % 16 ≡ b = omega arith in
    rw (glyph_value (b / 16) high, glyph_value (b % 16) low, lt-ltb (b / 16) 16 high, lt-ltb (b % 16) 16 low, whole) refl

pub hex_escape_reads : (b : ℕ) (text : List ℕ) → b < 256 → hex_escape (92 ∷ 120 ∷ digit_glyph false (b / 16) ∷ digit_glyph false (b % 16) ∷ text) ≡ Some b
unfolding hex_escape
hex_escape_reads b text lt = hex_byte_reads b text lt

pub no_escape : (b : ℕ) (text : List ℕ) → eqb 92 b ≡ false → hex_escape (b ∷ text) ≡ None
unfolding hex_escape
no_escape b text h = rw h refl

slash_turned : (b : ℕ) → eqb b 92 ≡ false → eqb 92 b ≡ false
slash_turned b h = ne_eqb 92 b (λ e. let f : eqb b 92 ≡ true = ap (λ (n : ℕ). eqb n 92) (sym e) in let g : true ≡ false = sym f ∙ h in absurd cc)

-- what is known of a byte that can be seen
pub record IsSeen (b : ℕ) : Type 0 where
  pub low : 33 ≤ b
  pub high : b ≤ 126
  pub no_slash : eqb b 92 ≡ false

pub seen : (b : ℕ) → is_visible b ≡ true → IsSeen b
seen b h =
    let one = and_parts (nat_le 33 b && nat_le b 126) (not (eqb b 92)) h in
    let two = and_parts (nat_le 33 b) (nat_le b 126) one.0 in
    record { low = leb-true 33 b two.0; high = leb-true b 126 two.1; no_slash = not-true (eqb b 92) one.1 }

letter_itself : (b : ℕ) (text : List ℕ) → is_visible b ≡ true → path_letter (b ∷ text) ≡ Some (b, 1)
unfolding path_letter
letter_itself b text itself = rw (path_letter, no_escape b text (slash_turned b (seen b itself).no_slash), itself) refl

letter_digits : (b : ℕ) (text : List ℕ) → b < 256 → path_letter (92 ∷ 120 ∷ digit_glyph false (b / 16) ∷ digit_glyph false (b % 16) ∷ text) ≡ Some (b, 4)
unfolding path_letter
letter_digits b text lt = rw (path_letter, hex_escape_reads b text lt) refl

byte_itself : (w : Word) (path : List ℕ) (b : ℕ) (text : List ℕ) → is_visible b ≡ true → path_byte w path (b ∷ text) ≡ Ok (path ++ b ∷ [], text)
unfolding path_byte
byte_itself w path b text itself = rw (letter_itself b text itself) refl

byte_digits : (w : Word) (path : List ℕ) (b : ℕ) (text : List ℕ) → b < 256
    → path_byte w path (92 ∷ 120 ∷ digit_glyph false (b / 16) ∷ digit_glyph false (b % 16) ∷ text) ≡ Ok (path ++ b ∷ [], text)
unfolding path_byte
byte_digits w path b text lt = rw (letter_digits b text lt) refl

reads_byte : (w : Word) (path : List ℕ) (b : ℕ) (text : List ℕ) → b < 256 → path_byte w path (shown_byte b ++ text) ≡ Ok (path ++ b ∷ [], text)
reads_byte w path b text lt = elim (cases_Bool (is_visible b)) [
  | inl itself ↦ rw itself (byte_itself w path b text itself)
  | inr other ↦ rw other (byte_digits w path b text lt)
]

some_shown : (b : ℕ) → 0 < length (shown_byte b)
some_shown b = elim (cases_Bool (is_visible b)) [ inl itself ↦ rw itself (omega arith) | inr digits ↦ rw digits (omega arith) ]

no_end : (w : List ℕ) → 0 < length w → eqb (length w) 0 ≡ false
no_end w lt = ne_eqb (length w) 0 (λ e. omega (arith, e, lt))

leads_path : (w : Word) (bytes path : List ℕ) → IsBytes bytes → Leads (more_path w) (path, path_text bytes) (path ++ bytes, []) (length (path_text bytes)) 0
leads_path w [] path all = subst (λ (p : List ℕ). Leads (more_path w) (path, []) (p, []) 0 0) (sym (append-nil path)) (leads_none (more_path w) (path, []) 0)
leads_path w (b ∷ bs) path all =
    let text = path_text bs in
    let some = some_shown b in
    let len : length (shown_byte b ++ text) ≡ length (shown_byte b) + length text = length-append (shown_byte b) text in
    let one : more_path w (path, shown_byte b ++ text) ≡ Some (Ok (path ++ b ∷ [], text)) =
    rw (no_end (shown_byte b ++ text) (omega (arith, some, len)), reads_byte w path b text (all 0)) refl in
    let first = leads_one (more_path w) (path, shown_byte b ++ text) (path ++ b ∷ [], text) (length (shown_byte b ++ text)) (length text) one
    (omega (arith, some, len)) in
    leads_then first (subst (λ (p : List ℕ). Leads (more_path w) (path ++ b ∷ [], text) (p, []) (length text) 0) (append_assoc path (b ∷ []) bs)
    (leads_path w bs (path ++ b ∷ []) (λ i. all (suc i))))

-- the letters of a path, of any length
pub letters_come_back : (path : List ℕ) (left : ℕ) → IsBytes path → letters_of (word (path_text path) left) ≡ Ok path
unfolding letters_of
letters_come_back path left all =
    let w = word (path_text path) left in
    rw (leads_to (leads_path w path [] all) refl) refl

some_text : (path : List ℕ) → 0 < length path → 0 < length (path_text path)
some_text [] lt = absurd (omega (arith, lt))
some_text (b ∷ bs) lt = omega (arith, some_shown b, length-append (shown_byte b) (path_text bs))

pub path_comes_back : PathComesBack
unfolding path_at
path_comes_back path left all some most =
    rw (no_end (path_text path) (some_text path some), letters_come_back path left all, le-ltb 65535 (length path) most) refl

visible_gap : (b : ℕ) → is_visible b ≡ true → is_gap b ≡ false
visible_gap b h =
    let s = seen b h in
    rw (
      ne_eqb b 32 (λ e. omega (arith, e, s.low)),
      ne_eqb b 9 (λ e. omega (arith, e, s.low)),
      ne_eqb b 13 (λ e. omega (arith, e, s.low)),
      ne_eqb b 10 (λ e. omega (arith, e, s.low)),
    ) refl

glyph_gap : (d : ℕ) → d < 16 → is_gap (digit_glyph false d) ≡ false
glyph_gap d lt = digit_gap (digit_glyph false d) (lt-ltb _ 16 (omega (arith, lt, glyph_value d lt)))

byte_free : (b : ℕ) → b < 256 → list_any is_gap (shown_byte b) ≡ false
byte_free b lt = elim (cases_Bool (is_visible b)) [
  | inl itself ↦ rw (itself, visible_gap b itself) refl
  | inr digits ↦ rw (digits, glyph_gap (b / 16) (omega arith), glyph_gap (b % 16) (omega arith)) refl
]

pub path_free : (bytes : List ℕ) → IsBytes bytes → list_any is_gap (path_text bytes) ≡ false
path_free [] all = refl
path_free (b ∷ bs) all = any_append is_gap (shown_byte b) (path_text bs) (byte_free b (all 0)) (path_free bs (λ i. all (suc i)))

pub path_is_word : PathIsWord
path_is_word path all = rw (path_free path all) refl
