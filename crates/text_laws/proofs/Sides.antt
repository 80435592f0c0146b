-- What stands beside an entry is read as it is shown.
use Rattle.std.proofs.Common.{◌≡◌, ℕ, zero, suc, ◌+◌, ◌-◌, ◌*◌, ◌<◌, ◌≤◌, ◌^◌, Bool, true, false, cond, eqb, List, [], ◌∷◌, ◌++◌, length, take, drop, None, Some, Ok, inl, inr, refl, sym, ap, subst, ◌∙◌, append_assoc, append-nil, arith, length-append, length-drop, take-append-drop}
use Rattle.std.specs.Prelude.{nat_le, ◌==◌, ◌||◌, ◌&&◌, codes, min, not, unwrap_or}
use Rattle.std.specs.List.{before_first, list_any, position_or_len, slice_split}
use Rattle.std.specs.Fmt.{decimal}
use Rattle.std.specs.Int.{w16, w64, from_le_bytes, to_le_bytes}
use Rattle.std.proofs.Math.Seq.{take-add}
use Rattle.std.proofs.lemmas.Bool.{and_parts, cases_Bool, leb-true, le-ltb, ne_eqb}
use Rattle.std.proofs.lemmas.List.{length-take, length-take-le, take_at}
use Rattle.std.proofs.lemmas.Nat.{le_bytes_2, le_bytes_8}
use Rattle.sqe_codec.specs.Fields.{IsBytes}
use Rattle.sqe_codec.specs.declared.sqe.Sqe.{Sqe}
use Rattle.text_forms.specs.Strings.{path_text}
use Rattle.trace_text.specs.Fields.{field}
use Rattle.trace_text.specs.Entry.{data_of, has_path, has_paths, lengths_from, lengths_text, paths_text, side_words, vector_count}
use Rattle.trace_text.specs.Names.{entry_flag_names}
use Rattle.text_words.specs.Read.{taken}
use Rattle.text_words.specs.Words.{is_gap}
use Rattle.text_words.proofs.Parts.{takes_last, takes_part}
use Rattle.text_trace.specs.Entry.{Draft, add_keyed, add_lengths, add_word, first_path, has_brackets, inside, len_bytes, lengths_at, more_lengths, two_paths}
use Rattle.text_trace.specs.Fields.{entry_flag_of}
use Rattle.text_laws.specs.Words.{is_word, word}
use Rattle.text_laws.proofs.Digits.{none_passes}
use Rattle.text_laws.proofs.Keys.{is_plain, its_value, no_other, no_value}
use Rattle.text_laws.proofs.Lists.{any_append, front_is, stops, stops_alone}
use Rattle.text_laws.proofs.Numbers.{decimal_comes_back, decimal_digits, digit_gap, not_digit}
use Rattle.text_laws.proofs.Paths.{letters_come_back, path_free}
use Rattle.text_laws.proofs.Stages.{Beside, Words, draft, nothing, words_none, words_one, words_then}
use Rattle.text_laws.proofs.Strings.{bytes_drop, bytes_take}
use Rattle.text_laws.proofs.Words.{at_sign, behind_sign, digits_free}

-- a path behind a key
path_word : (b : ℕ) (key path : List ℕ) → (not (eqb b 35 || eqb b 92)) ≡ true → list_any is_gap (b ∷ key) ≡ false → IsBytes path
    → is_word ((b ∷ key) ++ 61 ∷ path_text path) ≡ true
path_word b key path first free all = rw (first, any_append is_gap (b ∷ key) (61 ∷ path_text path) free (path_free path all)) refl

keyed_word : (key path : List ℕ) (d e : Draft) → is_word (key ++ 61 ∷ path_text path) ≡ true → is_plain (key ++ 61 ∷ path_text path) ≡ true
    → ((left : ℕ) → add_word d (word (key ++ 61 ∷ path_text path) left) ≡ Ok e) → Words (field key (path_text path)) d e
keyed_word key path d e h p adds = subst (λ (w : List ℕ). Words (32 ∷ w) d e) (sym (append_assoc key (61 ∷ []) (path_text path)))
    (words_one (key ++ 61 ∷ path_text path) d e h p adds)

module _ (d : Draft) (path : List ℕ) (all : IsBytes path) where
  adds_path : d.path ≡ None → (left : ℕ) → add_word d (word (codes "path" ++ 61 ∷ path_text path) left) ≡ Ok (record d { path = Some path })
  unfolding add_keyed first_path
  adds_path none left =
      no_other d (codes "path" ++ 61 ∷ path_text path) left refl
      ∙ rw (add_keyed, its_value (codes "path") (path_text path) left, none, letters_come_back path (left - 5) all) refl

  adds_old : d.old_path ≡ None → length path ≤ 65535 → (left : ℕ) → add_word d (word (codes "old" ++ 61 ∷ path_text path) left)
      ≡ Ok (record d { old_path = Some path })
  unfolding add_keyed first_path
  adds_old none le left =
      no_other d (codes "old" ++ 61 ∷ path_text path) left refl
      ∙ rw (
        add_keyed,
        no_value (codes "path") (codes "old") (path_text path) left refl,
        its_value (codes "old") (path_text path) left,
        none,
        letters_come_back path (left - 4) all,
        le-ltb 65535 (length path) le,
      ) refl

  adds_new : d.new_path ≡ None → (left : ℕ) → add_word d (word (codes "new" ++ 61 ∷ path_text path) left) ≡ Ok (record d { new_path = Some path })
  unfolding add_keyed first_path
  adds_new none left =
      no_other d (codes "new" ++ 61 ∷ path_text path) left refl
      ∙ rw (
        add_keyed,
        no_value (codes "path") (codes "new") (path_text path) left refl,
        no_value (codes "old") (codes "new") (path_text path) left refl,
        its_value (codes "new") (path_text path) left,
        none,
        letters_come_back path (left - 4) all,
      ) refl

-- lengths
abbrev is_comma : ℕ → Bool
is_comma b = b == 44

length_below : (bytes : List ℕ) → IsBytes bytes → from_le_bytes w64 bytes < 2 ^ 64
length_below bytes all = omega arith

short_below : (bytes : List ℕ) → IsBytes bytes → from_le_bytes w16 bytes < 2 ^ 16
short_below bytes all = omega arith

-- one length
one_length : (acc bytes : List ℕ) (left : ℕ) → IsBytes bytes → 8 ≤ length bytes
    → more_lengths (acc, left) (decimal (from_le_bytes w64 (take 8 bytes)))
    ≡ Ok (acc ++ take 8 bytes, left - (length (decimal (from_le_bytes w64 (take 8 bytes))) + 1))
unfolding more_lengths
one_length acc bytes left all le =
    let front = take 8 bytes in
    let n = from_le_bytes w64 front in
    let lt = length_below front (bytes_take 8 bytes all) in
    let e : to_le_bytes w64 n ≡ front = le_bytes_8 front n (length-take-le 8 bytes le) (bytes_take 8 bytes all) refl in
    rw (decimal_comes_back 64 n left (omega (arith, lt)), e) refl

no_comma : (n : ℕ) → n < 2 ^ 64 → list_any is_comma (decimal n) ≡ false
no_comma n lt = none_passes is_comma (λ b h. not_digit 44 b refl h) (decimal n) (digits_free n lt)

-- lengths that were read, wherever that ended
record AreRead (acc w : List ℕ) (left : ℕ) (lengths : List ℕ) : Type 0 where
  after : ℕ
  is : taken more_lengths (acc, left) (slice_split is_comma w) ≡ Ok (lengths, after)

tail : (n : ℕ) (bytes acc w so_far : List ℕ) (left then : ℕ) → IsBytes bytes → 8 * n ≤ length bytes → list_any is_comma w ≡ false → more_lengths (acc, left) w
    ≡ Ok (so_far, then)
    → AreRead acc (w ++ lengths_from n bytes) left (so_far ++ take (8 * n) bytes)
tail zero bytes acc w so_far left then all le comma h = record {
  after = then;
  is = ap (λ (t : List ℕ). taken more_lengths (acc, left) (slice_split is_comma t)) (append-nil w)
      ∙ takes_last more_lengths (acc, left) is_comma w (stops_alone is_comma w comma) ∙ h
      ∙ ap (λ (l : List ℕ). Ok (l, then)) (sym (append-nil so_far));
}
tail (suc n) bytes acc w so_far left then all le comma h =
    let m = from_le_bytes w64 (take 8 bytes) in
    let v = decimal m in
    let rest = lengths_from n (drop 8 bytes) in
    let text = w ++ 44 ∷ (v ++ rest) in
    let len = length-append w (44 ∷ (v ++ rest)) in
    let front : w ≡ before_first is_comma text = sym (front_is is_comma w (44 ∷ (v ++ rest)) comma refl) in
    let place : length w ≡ position_or_len is_comma text = sym (stops is_comma w (44 ∷ (v ++ rest)) comma refl) in
    let part = takes_part more_lengths (acc, left) is_comma text w front place (omega (arith, len)) in
    let one = one_length so_far bytes then all (omega (arith, le)) in
    let more = tail n (drop 8 bytes) so_far v (so_far ++ take 8 bytes) then (then - (length v + 1)) (bytes_drop 8 bytes all)
    (omega (arith, le, length-drop 8 bytes)) (no_comma m (length_below (take 8 bytes) (bytes_take 8 bytes all))) one in
    let k : 8 * suc n ≡ 8 + 8 * n = omega arith in
    let e : (so_far ++ take 8 bytes) ++ take (8 * n) (drop 8 bytes) ≡ so_far ++ take (8 * suc n) bytes =
    append_assoc so_far (take 8 bytes) (take (8 * n) (drop 8 bytes)) ∙ ap (λ (l : List ℕ). so_far ++ l)
    (sym (ap (λ (j : ℕ). take j bytes) k ∙ take-add 8 (8 * n) bytes)) in
    record {
      after = more.after;
      is = part ∙ rw (h, behind_sign w (v ++ rest) 44) (more.is ∙ ap (λ (l : List ℕ). Ok (l, more.after)) e);
    }

lengths_free : (n : ℕ) (bytes : List ℕ) → IsBytes bytes → list_any is_gap (lengths_from n bytes) ≡ false
lengths_free zero bytes all = refl
lengths_free (suc n) bytes all =
    let m = from_le_bytes w64 (take 8 bytes) in
    any_append is_gap (44 ∷ decimal m) (lengths_from n (drop 8 bytes)) (none_passes is_gap digit_gap (decimal m)
    (digits_free m (length_below (take 8 bytes) (bytes_take 8 bytes all)))) (lengths_free n (drop 8 bytes) (bytes_drop 8 bytes all))

-- brackets round them
bracketed : (w : List ℕ) → 0 < length w → (has_brackets (91 ∷ w ++ 93 ∷ []) ≡ true) × (inside (91 ∷ w ++ 93 ∷ []) ≡ w)
bracketed w some =
    let len = length-append w (93 ∷ []) in
    let last : length (91 ∷ w ++ 93 ∷ []) - 1 ≡ length (91 ∷ w) = omega (arith, len) in
    let n : length (w ++ 93 ∷ []) - 1 ≡ length w = omega (arith, len) in (
      rw (le-ltb (length (91 ∷ w ++ 93 ∷ [])) 2 (omega (arith, len, some)), last, at_sign (91 ∷ w) [] 93) refl,
      take_at w (93 ∷ []) (length (w ++ 93 ∷ []) - 1) (sym n),
    )

not_flag : (w : List ℕ) → entry_flag_of (91 ∷ w) ≡ None
unfolding entry_flag_of entry_flag_names
not_flag w = rw (ne_eqb (suc (length w)) 0 (λ e. omega (arith, e))) refl

adds_lengths : (d : Draft) (n : ℕ) (bytes : List ℕ) (left : ℕ) → d.lengths ≡ None → IsBytes bytes → 8 * suc n ≤ length bytes
    → add_word d (word (91 ∷ (decimal (from_le_bytes w64 (take 8 bytes)) ++ lengths_from n (drop 8 bytes)) ++ 93 ∷ []) left)
    ≡ Ok (record d { lengths = Some (take (8 * suc n) bytes) })
unfolding add_word add_lengths lengths_at
adds_lengths d n bytes left none all le =
    let m = from_le_bytes w64 (take 8 bytes) in
    let lt = length_below (take 8 bytes) (bytes_take 8 bytes all) in
    let w = decimal m ++ lengths_from n (drop 8 bytes) in
    let some : 0 < length w = omega (arith, (decimal_digits m lt).2, length-append (decimal m) (lengths_from n (drop 8 bytes))) in
    let k : 8 * suc n ≡ 8 + 8 * n = omega arith in
    let read = tail n (drop 8 bytes) [] (decimal m) (take 8 bytes) (left - 1) (left - 1 - (length (decimal m) + 1)) (bytes_drop 8 bytes all)
    (omega (arith, le, length-drop 8 bytes)) (no_comma m lt)
    (one_length [] bytes (left - 1) all (omega (arith, le))) in
    let whole : take 8 bytes ++ take (8 * n) (drop 8 bytes) ≡ take (8 * suc n) bytes = sym (ap (λ (j : ℕ). take j bytes) k ∙ take-add 8 (8 * n) bytes) in
    let b = bracketed w some in
    rw (add_word, not_flag (w ++ 93 ∷ []), none, b.0, b.1, read.is, whole) refl

-- what the words say that stand beside an entry
abbrev pub first_len : List ℕ → ℕ
first_len side = from_le_bytes w16 (take 2 side)

abbrev pub lengths_beside : ℕ → List ℕ → Beside
lengths_beside zero side = nothing
lengths_beside (suc n) side = record nothing { lengths = Some (take (8 * suc n) side) }

abbrev pub paths_beside : List ℕ → Beside
paths_beside side = record nothing { old_path = Some (take (first_len side) (drop 2 side)); new_path = Some (drop (first_len side) (drop 2 side)) }

abbrev pub beside : Sqe → List ℕ → Beside
beside s side = cond (has_path s) (record nothing { path = Some side })
    (cond (has_paths s side) (paths_beside side) (lengths_beside (vector_count s side) side))

pub count_fits : (s : Sqe) (side : List ℕ) → 8 * vector_count s side ≤ length side
count_fits s side = elim (cases_Bool ((s.opcode == 1 || s.opcode == 2) && nat_le s.len 1024 && nat_le (8 * s.len) (length side))) [
  | inl fits ↦
      let parts = and_parts ((s.opcode == 1 || s.opcode == 2) && nat_le s.len 1024) (nat_le (8 * s.len) (length side)) fits in
      rw fits (leb-true (8 * s.len) (length side) parts.1)
  | inr none ↦ rw none (omega arith)
]

module _ (e : Sqe) (given : ℕ) (side : List ℕ) (all : IsBytes side) where
  lengths_lead : (n : ℕ) → 8 * n ≤ length side → Words (lengths_text n side) (draft e given nothing) (draft e given (lengths_beside n side))
  lengths_lead zero le = words_none (draft e given nothing)
  lengths_lead (suc n) le =
      let m = from_le_bytes w64 (take 8 side) in
      let w = decimal m ++ lengths_from n (drop 8 side) in
      let free : list_any is_gap w ≡ false = any_append is_gap (decimal m) (lengths_from n (drop 8 side))
      (none_passes is_gap digit_gap (decimal m) (digits_free m (length_below (take 8 side) (bytes_take 8 side all))))
      (lengths_free n (drop 8 side) (bytes_drop 8 side all)) in
      words_one (91 ∷ w ++ 93 ∷ []) (draft e given nothing) (draft e given (lengths_beside (suc n) side))
      (rw (any_append is_gap w (93 ∷ []) free refl) refl) refl
      (λ left. adds_lengths (draft e given nothing) n side left refl all le)

  path_lead : Words (field (codes "path") (path_text side)) (draft e given nothing) (draft e given (record nothing { path = Some side }))
  path_lead = keyed_word (codes "path") side (draft e given nothing) (draft e given (record nothing { path = Some side }))
      (path_word 112 (codes "ath") side refl refl all) refl (adds_path (draft e given nothing) side all refl)

  paths_lead : Words (paths_text side) (draft e given nothing) (draft e given (paths_beside side))
  paths_lead =
      let old = take (first_len side) (drop 2 side) in
      let new = drop (first_len side) (drop 2 side) in
      let old_all : IsBytes old = bytes_take (first_len side) (drop 2 side) (bytes_drop 2 side all) in
      let new_all : IsBytes new = bytes_drop (first_len side) (drop 2 side) (bytes_drop 2 side all) in
      let half : Beside = record nothing { old_path = Some old } in
      let le : length old ≤ 65535 = omega (arith, short_below (take 2 side) (bytes_take 2 side all), length-take (first_len side) (drop 2 side)) in
      words_then (field (codes "old") (path_text old)) (field (codes "new") (path_text new)) (draft e given nothing) (draft e given half)
      (draft e given (paths_beside side))
      (keyed_word (codes "old") old (draft e given nothing) (draft e given half) (path_word 111 (codes "ld") old refl refl old_all) refl
      (adds_old (draft e given nothing) old old_all refl le))
      (keyed_word (codes "new") new (draft e given half) (draft e given (paths_beside side)) (path_word 110 (codes "ew") new refl refl new_all) refl
      (adds_new (draft e given half) new new_all refl))

  pub side_lead : (s : Sqe) → Words (side_words s side) (draft e given nothing) (draft e given (beside s side))
  side_lead s = elim (cases_Bool (has_path s)) [
    | inl path ↦ rw path path_lead
    | inr no_path ↦ elim (cases_Bool (has_paths s side)) [
      | inl paths ↦ rw (no_path, paths) paths_lead
      | inr no_paths ↦ rw (no_path, no_paths) (lengths_lead (vector_count s side) (count_fits s side))
    ]
  ]

-- and these are the bytes beside it
abbrev pub bytes_of : Beside → List ℕ → List ℕ
bytes_of b strings = unwrap_or b.lengths [] ++ unwrap_or b.path [] ++ two_paths b.old_path b.new_path ++ strings

lengths_bytes : (n : ℕ) (side : List ℕ) → bytes_of (lengths_beside n side) (drop (8 * n) side) ≡ side
lengths_bytes zero side = refl
lengths_bytes (suc n) side =
    let front = take (8 * suc n) side in
    ap (λ (l : List ℕ). l ++ drop (8 * suc n) side) (append-nil (front ++ []) ∙ append-nil front) ∙ take-append-drop (8 * suc n) side

paths_bytes : (s : Sqe) (side : List ℕ) → IsBytes side → has_paths s side ≡ true → bytes_of (paths_beside side) [] ≡ side
paths_bytes s side all h =
    let n = first_len side in
    let back = drop 2 side in
    let old = take n back in
    let lt = short_below (take 2 side) (bytes_take 2 side all) in
    let parts = and_parts ((s.opcode == 35 || s.opcode == 39) && nat_le 2 (length side)) (nat_le (2 + n) (length side)) h in
    let le = leb-true (2 + n) (length side) parts.1 in
    let len : length old ≡ n = length-take-le n back (omega (arith, le, length-drop 2 side)) in
    let same : min (length old) 65535 ≡ n = omega (arith, len, lt) in
    let two : to_le_bytes w16 n ≡ take 2 side = le_bytes_2 (take 2 side) n (length-take-le 2 side (omega (arith, le))) (bytes_take 2 side all) refl in
    append-nil ((len_bytes old ++ old) ++ drop n back)
    ∙ append_assoc (len_bytes old) old (drop n back)
    ∙ ap (λ (l : List ℕ). len_bytes old ++ l) (take-append-drop n back)
    ∙ ap (λ (l : List ℕ). l ++ back) (ap (to_le_bytes w16) same ∙ two)
    ∙ take-append-drop 2 side

pub side_back : (s : Sqe) (side : List ℕ) → IsBytes side → bytes_of (beside s side) (data_of s side) ≡ side
side_back s side all = elim (cases_Bool (has_path s)) [
  | inl path ↦ rw path (append-nil (side ++ []) ∙ append-nil side)
  | inr no_path ↦ elim (cases_Bool (has_paths s side)) [
    | inl paths ↦ rw (no_path, paths) (paths_bytes s side all paths)
    | inr no_paths ↦ rw (no_path, no_paths) (lengths_bytes (vector_count s side) side)
  ]
]
