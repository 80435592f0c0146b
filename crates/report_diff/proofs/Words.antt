-- The first words of a line, byte by byte.
use Rattle.std.proofs.Common.{◌≡◌, ◌==◌, ◌<◌, ◌≤◌, ◌+◌, ℕ, zero, suc, false, List}
use Rattle.std.proofs.Common.{[], ◌∷◌, ◌++◌, length, get_or, take, drop, refl, arith, append_assoc}
use Rattle.std.specs.List.{join_with_byte, onto_first}
use Rattle.std.proofs.lemmas.List.{append-nil, drop_more, drop_all, take_more, take_all}
use Rattle.std.proofs.lemmas.List.Splits.{length-slice_split}
use Rattle.report_diff.specs.Lines.{first_words, words}

-- one byte of a word more
onto : (n b : ℕ) (parts : List (List ℕ)) → join_with_byte 32 (take (suc n) (onto_first b parts)) ≡ b ∷ join_with_byte 32 (take (suc n) parts)
onto zero b [] = refl
onto (suc n) b [] = refl
onto zero b (p ∷ parts) = refl
onto (suc n) b (p ∷ []) = refl
onto (suc n) b (p ∷ q ∷ parts) = refl

pub letter : (n b : ℕ) (rest : List ℕ) → (b == 32) ≡ false → first_words (suc n) (b ∷ rest) ≡ b ∷ first_words (suc n) rest
unfolding first_words
letter n b rest other = rw other (onto n b (words rest))

-- a space before a further word
between : (n : ℕ) (parts : List (List ℕ)) → 0 < length parts
    → join_with_byte 32 (take (suc (suc n)) ([] ∷ parts)) ≡ 32 ∷ join_with_byte 32 (take (suc n) parts)
between n [] some = absurd (omega arith)
between n (p ∷ parts) some = refl

pub space : (n : ℕ) (rest : List ℕ) → first_words (suc (suc n)) (32 ∷ rest) ≡ 32 ∷ first_words (suc n) rest
unfolding first_words
space n rest = between n (words rest) (omega (arith, length-slice_split (λ c. c == 32) rest))

pub last_space : (rest : List ℕ) → first_words 1 (32 ∷ rest) ≡ []
unfolding first_words
last_space rest = refl

pub none_left : (n : ℕ) → first_words (suc n) [] ≡ []
unfolding first_words
none_left zero = refl
none_left (suc n) = refl

-- how far the first words of a line are known at a place, with so many still to come
abbrev pub KnownTo : ℕ → List ℕ → ℕ → ℕ → Type 0
KnownTo count line place left = first_words count line ≡ take place line ++ first_words left (drop place line)

-- a place further, within a word and past a space
pub known_letter : (count : ℕ) (line : List ℕ) (place left : ℕ) → place < length line → 1 ≤ left → (get_or line place 0 == 32) ≡ false
    → KnownTo count line place left → KnownTo count line (place + 1) left
known_letter count line place zero lt some other known = absurd (omega arith)
known_letter count line place (suc left) lt some other known =
    let b = get_or line place 0 in
    rw (take_more line place 0 lt, append_assoc) (rw (drop_more line place 0 lt, letter left b (drop (place + 1) line) other) at known)

pub known_space : (count : ℕ) (line : List ℕ) (place left : ℕ) → place < length line → 1 ≤ left → get_or line place 0 ≡ 32
    → KnownTo count line place (left + 1) → KnownTo count line (place + 1) left
known_space count line place zero lt some same known = absurd (omega arith)
known_space count line place (suc left) lt some same known =
    let two : suc left + 1 ≡ suc (suc left) = omega arith in
    rw (take_more line place 0 lt, same, append_assoc)
    (rw (two, drop_more line place 0 lt, same, space left (drop (place + 1) line)) at known)

pub known_last : (count : ℕ) (line : List ℕ) (place : ℕ) → place < length line → get_or line place 0 ≡ 32 → KnownTo count line place 1
    → first_words count line ≡ take place line
known_last count line place lt same known =
    rw (drop_more line place 0 lt, same, last_space (drop (place + 1) line), append-nil) at known

pub known_end : (count : ℕ) (line : List ℕ) (place left : ℕ) → length line ≤ place → 1 ≤ left → KnownTo count line place left
    → first_words count line ≡ line
known_end count line place zero past some known = absurd (omega arith)
known_end count line place (suc left) past some known = rw (drop_all place line past, none_left left, append-nil, take_all place line past) at known
