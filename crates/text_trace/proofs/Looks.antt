-- Looking for the line of a byte, line after line.
use Rattle.std.proofs.Common.{◌≡◌, ℕ, suc, ◌+◌, ◌*◌, ◌<◌, ◌≤◌, true, false, List, [], ◌∷◌, ◌++◌, length, map, drop, get_or, Option, None, Some, refl, sym, true≢false, ap, ◌∙◌, append_assoc, append-nil, drop-cons, drop_of_length-le, arith}
use Rattle.std.specs.Prelude.{◌==◌, is_some}
use Rattle.std.specs.Int.{w16, to_le_bytes}
use Rattle.std.specs.List.{flat_map}
use Rattle.std.specs.Option.{option_or}
use Rattle.std.proofs.lemmas.Bool.{eqb-true}
use Rattle.trace_format.specs.Spelling.{slot_bytes}
use Rattle.text_trace.specs.Made.{line_at, slots_lines, table_lines}

none_left : (at : ℕ) (more : List (List ℕ)) → line_at at more [] ≡ None
none_left at [] = refl
none_left at (bytes ∷ more) = refl

-- what is found stays
pub stays : (found a b : Option ℕ) → true ≡ is_some found → option_or found a ≡ option_or found b
stays (Some line) a b e = refl
stays None a b e = absurd (true≢false e)

-- no line is left
pub ends : (found : Option ℕ) (at : ℕ) (lines : List ℕ) (bytes : List ℕ) (more : List (List ℕ)) → true ≡ (length lines == 0)
    → option_or found (line_at at more lines) ≡ option_or found (line_at at (bytes ∷ more) lines)
ends (Some line) at lines bytes more e = refl
ends None at [] bytes more e = none_left at more
ends None at (line ∷ lines) bytes more e = let none = eqb-true (length (line ∷ lines)) 0 (sym e) in absurd (omega (arith, none))

pub or_none : (o : Option ℕ) → option_or o None ≡ o
or_none (Some n) = refl
or_none None = refl

pub in_turn : (a b c d e : List (List ℕ)) → a ++ (b ++ (c ++ (d ++ (e ++ [])))) ≡ a ++ b ++ c ++ d ++ e
in_turn a b c d e =
    ap (λ (l : List (List ℕ)). a ++ (b ++ (c ++ (d ++ l)))) (append-nil e)
    ∙ sym (append_assoc a b (c ++ (d ++ e))) ∙ sym (append_assoc (a ++ b) c (d ++ e)) ∙ sym (append_assoc (a ++ b ++ c) d e)

-- slots are four bytes each
pub slots_len : (slots : List ℕ) → length (flat_map slot_bytes slots) ≡ length slots * 4
slots_len [] = refl
slots_len (n ∷ slots) = omega (arith, slots_len slots)

pub table_is : (slots : List ℕ) → false ≡ (length slots == 0) → table_lines slots ≡ flat_map slot_bytes slots ∷ []
table_is [] e = absurd (true≢false (sym e))
table_is (n ∷ slots) e = refl

pub slots_are : (slots count : List ℕ) → false ≡ (length slots == 0)
    → slots_lines slots count ≡ to_le_bytes w16 (length slots) ∷ (flat_map slot_bytes slots ++ count) ∷ []
slots_are [] count e = absurd (true≢false (sym e))
slots_are (n ∷ slots) count e = refl

-- A loop over some things passes the lines of one more.
pub passes : {X : Type 0} (all : List X → List (List ℕ)) (one : X → List (List ℕ)) (xs : List X) (i : ℕ) (x : X) (old new start : List (List ℕ) → Option ℕ)
    → ((y : X) (ys : List X) → all (y ∷ ys) ≡ one y ++ all ys) → i < length xs → x ≡ get_or xs i x
    → ((more : List (List ℕ)) → new more ≡ old (one x ++ more))
    → ((more : List (List ℕ)) → old (all (drop i xs) ++ more) ≡ start (all xs ++ more))
    → (more : List (List ℕ)) → new (all (drop (i + 1) xs) ++ more) ≡ start (all xs ++ more)
passes all one xs i x old new start each lt here step so_far more =
    let k : suc i ≡ i + 1 = omega arith in
    let front : drop i xs ≡ x ∷ drop (i + 1) xs =
    drop-cons xs i x lt ∙ ap (λ (n : ℕ). get_or xs i x ∷ drop n xs) k ∙ ap (λ y. y ∷ drop (i + 1) xs) (sym here) in
    step (all (drop (i + 1) xs) ++ more)
    ∙ ap old (sym (append_assoc (one x) (all (drop (i + 1) xs)) more) ∙ ap (λ (l : List (List ℕ)). l ++ more) (sym (ap all front ∙ each x (drop (i + 1) xs))))
    ∙ so_far more

-- The same, where each has as many bytes.
pub passes_even : {X : Type 0} (one : X → List ℕ) (len : ℕ) (xs : List X) (i : ℕ) (old new start : List (List ℕ) → Option ℕ)
    → ((y : X) → length (one y) ≡ len) → i < length xs
    → ((bytes : List ℕ) (more : List (List ℕ)) → length bytes ≡ len → new more ≡ old (bytes ∷ more))
    → ((more : List (List ℕ)) → old (map one (drop i xs) ++ more) ≡ start (map one xs ++ more))
    → (more : List (List ℕ)) → new (map one (drop (i + 1) xs) ++ more) ≡ start (map one xs ++ more)
passes_even one len [] i old new start each lt step so_far more = absurd (omega (arith, lt))
passes_even one len (x ∷ xs) i old new start each lt step so_far more =
    let k : suc i ≡ i + 1 = omega arith in
    let y = get_or (x ∷ xs) i x in
    let front : drop i (x ∷ xs) ≡ y ∷ drop (i + 1) (x ∷ xs) = drop-cons (x ∷ xs) i x lt ∙ ap (λ (n : ℕ). y ∷ drop n (x ∷ xs)) k in
    step (one y) (map one (drop (i + 1) (x ∷ xs)) ++ more) (each y)
    ∙ ap (λ l. old (map one l ++ more)) (sym front)
    ∙ so_far more

-- All of them are passed.
pub has_passed : {X : Type 0} (all : List X → List (List ℕ)) (xs : List X) (i : ℕ) (now start : List (List ℕ) → Option ℕ)
    → all [] ≡ [] → length xs ≤ i
    → ((more : List (List ℕ)) → now (all (drop i xs) ++ more) ≡ start (all xs ++ more))
    → (more : List (List ℕ)) → now more ≡ start (all xs ++ more)
has_passed all xs i now start none le so_far more = ap now (ap (λ (l : List (List ℕ)). l ++ more) (sym (ap all (drop_of_length-le xs le) ∙ none))) ∙ so_far more
