-- Strings of a line: what they begin with, and that they are read where they are shown.
use Rattle.std.proofs.Common.{◌≡◌, ℕ, zero, suc, ◌+◌, ◌-◌, ◌<◌, ◌^◌, ◌/◌, Bool, true, false, cond, eqb, leb, List, [], ◌∷◌, ◌++◌, length, take, drop, None, Ok, inl, inr, ◌⊎◌, refl, sym, ap, subst, ◌∙◌, append_assoc, append-nil, arith}
use Rattle.std.proofs.lemmas.Bool.{cases_Bool, le-ltb}
use Rattle.std.specs.Prelude.{codes}
use Rattle.std.specs.List.{position_or_len, count_by}
use Rattle.sqe_codec.specs.Fields.{IsBytes}
use Rattle.text_forms.specs.Strings.{ended, goes_on, is_hidden, least_run, most_plain, pieces, plain_pieces, plain_text, plains, run_text}
use Rattle.trace_text.specs.declared.look.Look.{Look}
use Rattle.trace_text.specs.Entry.{data_text, gap}
use Rattle.text_words.specs.Strings.{strings_of}
use Rattle.text_words.specs.Words.{is_gap, is_blank, behind_blanks, word_at, value_at}
use Rattle.text_laws.specs.Words.{IsIndent, at_gap, rest, word}
use Rattle.text_laws.proofs.Words.{blanks_skip, blanks_stop}
use Rattle.text_laws.proofs.Parts.{NoKey, no_key_at_end}
use Rattle.text_laws.proofs.Strings.{strings_come_back}

-- a text with nothing, or with a string behind what stands before each
abbrev Starts : List ℕ → List ℕ → Type 0
Starts before text = (text ≡ []) ⊎ ((b : ℕ) × (more : List ℕ) × ((b ≡ 34) ⊎ (b ≡ 120)) × (text ≡ before ++ (b ∷ more)))

starts_then : (before x y : List ℕ) → Starts before x → Starts before y → Starts before (x ++ y)
starts_then before x y (inl none) h = subst (λ (t : List ℕ). Starts before (t ++ y)) (sym none) h
starts_then before x y (inr s) h = inr (s.0, s.1 ++ y, s.2, ap (λ (t : List ℕ). t ++ y) s.3 ∙ append_assoc before (s.0 ∷ s.1) y)

chosen : (before : List ℕ) (b : Bool) (x y : List ℕ) → Starts before x → Starts before y → Starts before (cond b x y)
chosen before true x y h g = h
chosen before false x y h g = g

starts_plain : (before bytes y : List ℕ) → Starts before (before ++ plain_text bytes ++ y)
starts_plain before bytes y = by (leb (count_by is_hidden bytes) (length bytes / 4)) _ _
  where
    by : (b : Bool) (u v : List ℕ) → Starts before (before ++ cond b (34 ∷ u) (120 ∷ v) ++ y)
    by true u v = inr (34, u ++ y, inl refl, append_assoc before (34 ∷ u) y)
    by false u v = inr (120, v ++ y, inr refl, append_assoc before (120 ∷ v) y)

starts_plains : (before : List ℕ) (n : ℕ) (bytes : List ℕ) → Starts before (plains before n bytes)
starts_plains before zero bytes = inl refl
starts_plains before (suc n) bytes = elim (cases_Bool (eqb (length bytes) 0)) [
  | inl none ↦ rw none (inl refl)
  | inr some ↦ rw some (starts_plain before (take most_plain bytes) (plains before n (drop most_plain bytes)))
]

starts_ended : (before plain run : List ℕ) → Starts before (ended before plain run)
starts_ended before plain run = elim (cases_Bool (leb least_run (length run))) [
  | inl long ↦ rw long (rw (append_assoc (plain_pieces before plain) before (run_text run))
      (starts_then before (plain_pieces before plain) (before ++ run_text run) (starts_plains before (length plain) plain) (inr (34, _, inl refl, refl))))
  | inr short ↦ rw short (starts_plains before (length (plain ++ run)) (plain ++ run))
]

starts_pieces : (before plain run bytes : List ℕ) → Starts before (pieces before plain run bytes)
starts_pieces before plain run [] = starts_ended before plain run
starts_pieces before plain run (c ∷ bytes) =
    chosen before (goes_on c run) _ _ (starts_pieces before plain (run ++ c ∷ []) bytes)
    (chosen before (leb least_run (length run)) _ _
    (starts_then before (ended before plain run) (pieces before [] (c ∷ []) bytes) (starts_ended before plain run) (starts_pieces before [] (c ∷ []) bytes))
    (starts_pieces before (plain ++ run) (c ∷ []) bytes))

-- what stands before each string is blanks
space_is : IsIndent (32 ∷ [])
space_is text = (blanks_skip text, refl)

pub line_is : IsIndent (codes " \\\n  ")
unfolding behind_blanks
line_is text = (refl, refl)

gap_is : (bytes : List ℕ) → IsIndent (gap (codes " \\\n  ") bytes)
gap_is bytes = elim (cases_Bool (leb (length bytes) 64)) [
  | inl few ↦ rw few space_is
  | inr many ↦ rw many line_is
]

pub data_is : (look : Look) (line bytes : List ℕ) → look.first ≡ None → data_text look line bytes ≡ pieces (gap line bytes) [] [] bytes
data_is look line bytes whole = rw (whole, le-ltb (length bytes) (length bytes) (omega arith)) (append-nil (pieces (gap line bytes) [] [] bytes))

-- a word with its first byte
word_head : (b : ℕ) (bs : List ℕ) → is_gap b ≡ false → (w : List ℕ) × (word_at (b ∷ bs) ≡ b ∷ w)
unfolding word_at
word_head b bs h =
    let n = position_or_len is_gap bs in
    let next : 1 + n ≡ suc n = omega arith in
    (take n bs, rw (h, next) refl)

not_key : (k : ℕ) (key : List ℕ) (b : ℕ) (bs : List ℕ) (left : ℕ) → eqb k b ≡ false → value_at (word (b ∷ bs) left) (k ∷ key) ≡ None
unfolding value_at
not_key k key b bs left other = rw other refl

no_key_behind : (k : ℕ) (key before : List ℕ) (b : ℕ) (more : List ℕ) → IsIndent before → eqb b 92 ≡ false → is_gap b ≡ false → is_blank b ≡ false
    → eqb k b ≡ false → NoKey (k ∷ key) (before ++ (b ∷ more))
no_key_behind k key before b more indent slash no_gap no_blank other =
    let w = word_head b more no_gap in
    rw ((indent (b ∷ more)).0, blanks_stop b more slash no_blank, w.1) (not_key k key b w.0 _ other)

data_no_key : (k : ℕ) (key before text more : List ℕ) → IsIndent before → eqb k 34 ≡ false → eqb k 120 ≡ false → Starts before text
    → NoKey (k ∷ key) (text ++ (10 ∷ more))
data_no_key k key before text more indent quote digits (inl none) = rw none (no_key_at_end k key more)
data_no_key k key before text more indent quote digits (inr s) =
    rw (s.3, append_assoc before (s.0 ∷ s.1) (10 ∷ more)) (elim s.2 [
      | inl e ↦ rw e (no_key_behind k key before 34 (s.1 ++ (10 ∷ more)) indent refl refl refl quote)
      | inr e ↦ rw e (no_key_behind k key before 120 (s.1 ++ (10 ∷ more)) indent refl refl refl digits)
    ])

data_gap : (before text more : List ℕ) → IsIndent before → Starts before text → at_gap (text ++ (10 ∷ more)) ≡ true
data_gap before text more indent (inl none) = rw none refl
data_gap before text more indent (inr s) = rw (s.3, append_assoc before (s.0 ∷ s.1) (10 ∷ more)) (indent (s.0 ∷ s.1 ++ (10 ∷ more))).1

-- the strings of a line, and its end
abbrev pub with_data : Look → List ℕ → List ℕ → List ℕ
with_data look bytes more = data_text look (codes " \\\n  ") bytes ++ (10 ∷ more)

-- the same of the strings of a line
pub no_key_at_data : (look : Look) (k : ℕ) (key bytes more : List ℕ) → look.first ≡ None → eqb k 34 ≡ false → eqb k 120 ≡ false
    → NoKey (k ∷ key) (with_data look bytes more)
no_key_at_data look k key bytes more whole quote digits =
    let before = gap (codes " \\\n  ") bytes in
    rw (data_is look (codes " \\\n  ") bytes whole)
    (data_no_key k key before (pieces before [] [] bytes) more (gap_is bytes) quote digits (starts_pieces before [] [] bytes))

pub gap_at_data : (look : Look) (bytes more : List ℕ) → look.first ≡ None → at_gap (with_data look bytes more) ≡ true
gap_at_data look bytes more whole =
    let before = gap (codes " \\\n  ") bytes in
    rw (data_is look (codes " \\\n  ") bytes whole) (data_gap before (pieces before [] [] bytes) more (gap_is bytes) (starts_pieces before [] [] bytes))

-- strings take the room of their bytes
pub data_comes : (look : Look) (bytes more : List ℕ) (room : ℕ) → look.first ≡ None → IsBytes bytes → length bytes + room < 2 ^ 64
    → strings_of (rest (with_data look bytes more) (length bytes + room)) ≡ Ok (bytes, rest (10 ∷ more) room)
data_comes look bytes more room whole fits small =
    let left : length bytes + room - length bytes ≡ room = omega arith in
    strings_come_back look (codes " \\\n  ") bytes more (length bytes + room) whole line_is fits (omega arith) small ∙ rw left refl
