-- A text whose next line ends.
use Rattle.std.proofs.Common.{◌≡◌, ◌<◌, ◌≤◌, ◌+◌, ℕ, suc, Bool, true, false, cond, eqb, List, [], ◌∷◌, ◌++◌, length, get_or, take, drop, refl, ap, sym, ◌∙◌, append_assoc, append-nil, arith}
use Rattle.std.specs.Prelude.{◌==◌, not}
use Rattle.std.specs.List.{list_all, position_or_len, onto_first, slice_split, before_first, after_first}
use Rattle.std.proofs.lemmas.Bool.{and_parts, and_from}
use Rattle.std.proofs.lemmas.List.{take_all}
use Rattle.std.proofs.lemmas.List.Folds.{list_all-append}
use Rattle.std.proofs.lemmas.List.Sums.{split_at_first, passes_at_first}
use Rattle.std.proofs.lemmas.List.Splits.{slice_split-cons_no}
use Rattle.json_lines.specs.Lines.{is_inside, json_line, json_lines}

abbrev pub is_feed : ℕ → Bool
is_feed b = b == 10

not_feed : (b : ℕ) → not (eqb b 10) ≡ true → eqb b 10 ≡ false
not_feed b h = by_test (eqb b 10) h where
  by_test : (t : Bool) → not t ≡ true → t ≡ false
  by_test true e = cc
  by_test false e = refl

abbrev starts : ℕ → List ℕ → List ℕ → Type 0
starts b bs rest = slice_split is_feed ((b ∷ bs) ++ 10 ∷ rest) ≡ (b ∷ bs) ∷ slice_split is_feed rest

start_of : (b : ℕ) (bs rest : List ℕ) → list_all is_inside (b ∷ bs) ≡ true
    → (list_all is_inside bs ≡ true → slice_split is_feed (bs ++ 10 ∷ rest) ≡ bs ∷ slice_split is_feed rest) → starts b bs rest
start_of b bs rest h next =
    let other : eqb b 10 ≡ false = not_feed b (and_parts (is_inside b) (list_all is_inside bs) h).0 in
    slice_split-cons_no is_feed b (bs ++ 10 ∷ rest) other ∙ ap (onto_first b) (next (and_parts (is_inside b) (list_all is_inside bs) h).1)

split_front : (line rest : List ℕ) → list_all is_inside line ≡ true → slice_split is_feed (line ++ 10 ∷ rest) ≡ line ∷ slice_split is_feed rest
split_front [] rest h = refl
split_front (b ∷ bs) rest h = start_of b bs rest h (split_front bs rest)

unsplit : (line : List ℕ) → list_all is_inside line ≡ true → slice_split is_feed line ≡ line ∷ []
unsplit [] h = refl
unsplit (b ∷ bs) h = slice_split-cons_no is_feed b bs (not_feed b (and_parts (is_inside b) (list_all is_inside bs) h).0) ∙ ap (onto_first b) (unsplit bs (and_parts (is_inside b) (list_all is_inside bs) h).1)

before_of : (b : ℕ) (bs : List ℕ) → list_all is_inside (before_first is_feed bs) ≡ true → list_all is_inside (before_first is_feed (b ∷ bs)) ≡ true
before_of b bs h = by_test (eqb b 10) refl where
  by_test : (t : Bool) → eqb b 10 ≡ t → list_all is_inside (before_first is_feed (b ∷ bs)) ≡ true
  by_test true e = rw e refl
  by_test false e =
      let one : 1 + position_or_len is_feed bs ≡ suc (position_or_len is_feed bs) = omega arith in
      rw (e, one) (rw e h)

inside_before : (rest : List ℕ) → list_all is_inside (before_first is_feed rest) ≡ true
inside_before [] = refl
inside_before (b ∷ bs) = before_of b bs (inside_before bs)

-- the line that has begun and the next bytes are a line, and the rest goes on behind it
pub line_ends : (line rest more : List ℕ) (end : ℕ) → list_all is_inside line ≡ true → end ≡ position_or_len is_feed rest → end < length rest
    → json_lines (line ++ (rest ++ more)) ≡ json_line (line ++ take end rest) ++ json_lines (drop (end + 1) rest ++ more)
unfolding json_lines
line_ends line rest more end whole is lt =
    let here : position_or_len is_feed rest < length rest = rw (← is) lt in
    let feed : get_or rest (position_or_len is_feed rest) 0 ≡ 10 = grind (arith, passes_at_first is_feed rest 0 here) in
    let cut : rest ≡ before_first is_feed rest ++ (10 ∷ after_first is_feed rest) = split_at_first is_feed rest 0 here ∙ ap (λ (b : ℕ). before_first is_feed rest ++ (b ∷ after_first is_feed rest)) feed in
    let all : line ++ (rest ++ more) ≡ (line ++ before_first is_feed rest) ++ (10 ∷ (after_first is_feed rest ++ more)) =
    ap (λ (l : List ℕ). line ++ (l ++ more)) cut ∙ ap (λ (l : List ℕ). line ++ l) (append_assoc (before_first is_feed rest) (10 ∷ after_first is_feed rest) more)
    ∙ sym (append_assoc line (before_first is_feed rest) (10 ∷ (after_first is_feed rest ++ more))) in
    let front : list_all is_inside (line ++ before_first is_feed rest) ≡ true = list_all-append is_inside line (before_first is_feed rest) ∙ and_from _ _ whole (inside_before rest) in
    ap json_lines all
    ∙ rw (split_front (line ++ before_first is_feed rest) (after_first is_feed rest ++ more) front, is) refl

pub last_line : (line : List ℕ) → list_all is_inside line ≡ true → json_lines line ≡ json_line line
unfolding json_lines
last_line line whole = rw (unsplit line whole) (append-nil (json_line line))

-- neither the bytes before a line feed nor those behind the last one break a line
pub whole_with : (line rest : List ℕ) (end : ℕ) → list_all is_inside line ≡ true → end ≡ position_or_len is_feed rest → list_all is_inside (line ++ take end rest) ≡ true
whole_with line rest end whole is =
    list_all-append is_inside line (take end rest) ∙ and_from (list_all is_inside line) (list_all is_inside (take end rest)) whole (rw is (inside_before rest))

pub whole_to_end : (line rest : List ℕ) (end : ℕ) → list_all is_inside line ≡ true → end ≡ position_or_len is_feed rest → length rest ≤ end → list_all is_inside (line ++ rest) ≡ true
whole_to_end line rest end whole is past =
    ap (λ (l : List ℕ). list_all is_inside (line ++ l)) (sym (take_all end rest past)) ∙ whole_with line rest end whole is

pub whole_either : (ok : Bool) (line longer new : List ℕ) → new ≡ cond ok longer line → list_all is_inside line ≡ true → list_all is_inside longer ≡ true → list_all is_inside new ≡ true
whole_either true line longer new is one other = ap (list_all is_inside) is ∙ other
whole_either false line longer new is one other = ap (list_all is_inside) is ∙ one

-- one line more is taken
pub line_taken : (start line rest more text text' line' rest' : List ℕ) (end : ℕ) → list_all is_inside line ≡ true → end ≡ position_or_len is_feed rest → end < length rest
    → text' ≡ text ++ json_line (line ++ take end rest) → line' ≡ [] → rest' ≡ drop (end + 1) rest
    → start ≡ text ++ json_lines (line ++ (rest ++ more)) → start ≡ text' ++ json_lines (line' ++ (rest' ++ more))
line_taken start line rest more text text' line' rest' end whole is lt text_is line_is rest_is h =
    rw (text_is, line_is, rest_is) (h ∙ ap (λ (l : List ℕ). text ++ l) (line_ends line rest more end whole is lt)
    ∙ sym (append_assoc text (json_line (line ++ take end rest)) (json_lines (drop (end + 1) rest ++ more))))
