-- What is added to a text, part after part.
use Rattle.std.proofs.Common.{◌≡◌, ℕ, zero, suc, ◌+◌, ◌<◌, List, [], ◌∷◌, ◌++◌, length, take, drop, get_or, sym, ap, ◌∙◌, append_assoc, append-nil, arith, drop-cons, Result, OnOk}
use Rattle.std.proofs.lemmas.Result.{on_ok_weaker}
use Rattle.trace_text.specs.Shown.{numbered}

-- one part more behind some
pub add : (old p q now next : List ℕ) → now ≡ old ++ p → next ≡ now ++ q → next ≡ old ++ (p ++ q)
add old p q now next so_far e = e ∙ ap (λ (l : List ℕ). l ++ q) so_far ∙ append_assoc old p q

-- the same of the last part, which may be refused
pub add_last : {T E : Type 0} (r : Result T E) (old p q now next : List ℕ) → now ≡ old ++ p → OnOk r (next ≡ now ++ q) → OnOk r (next ≡ old ++ (p ++ q))
add_last r old p q now next so_far e = on_ok_weaker r (λ h. add old p q now next so_far h) e

-- the text of one value more
numbered_more : {X : Type 0} (f : ℕ → X → List ℕ) (n : ℕ) (xs : List X) (i : ℕ) (d : X) → i < length xs
    → numbered f n (take (i + 1) xs) ≡ numbered f n (take i xs) ++ f (n + i) (get_or xs i d)
numbered_more f n [] i d lt = absurd (omega arith)
numbered_more f n (x ∷ xs) zero d lt =
    let e : n ≡ n + 0 = omega arith in
    append-nil (f n x) ∙ ap (λ (k : ℕ). f k x) e
numbered_more f n (x ∷ xs) (suc i) d lt =
    let e : suc i + 1 ≡ suc (i + 1) = omega arith in
    let k : n + 1 + i ≡ n + suc i = omega arith in
    ap (λ (m : ℕ). numbered f n (take m (x ∷ xs))) e
    ∙ ap (λ (l : List ℕ). f n x ++ l) (numbered_more f (n + 1) xs i d (omega (arith, lt)) ∙ ap (λ (m : ℕ). numbered f (n + 1) (take i xs) ++ f m (get_or xs i d)) k)
    ∙ sym (append_assoc (f n x) (numbered f (n + 1) (take i xs)) (f (n + suc i) (get_or xs i d)))

pub numbered_at : {X : Type 0} (f : ℕ → X → List ℕ) (n : ℕ) (xs : List X) (i k : ℕ) (d : X) (old now next : List ℕ) → i < length xs → k ≡ n + i
    → now ≡ old ++ numbered f n (take i xs) → next ≡ now ++ f k (get_or xs i d) → next ≡ old ++ numbered f n (take (i + 1) xs)
numbered_at f n xs i k d old now next lt place so_far e =
    e ∙ ap (λ (l : List ℕ). l ++ f k (get_or xs i d)) so_far
    ∙ append_assoc old (numbered f n (take i xs)) (f k (get_or xs i d))
    ∙ ap (λ (l : List ℕ). old ++ l) (ap (λ (m : ℕ). numbered f n (take i xs) ++ f m (get_or xs i d)) place ∙ sym (numbered_more f n xs i d lt))

-- the same, where the element has a name
pub numbered_adds : {X : Type 0} (f : ℕ → X → List ℕ) (n : ℕ) (xs : List X) (i k : ℕ) (x : X) (old now next : List ℕ) → i < length xs → x ≡ get_or xs i x → k ≡ n + i
    → now ≡ old ++ numbered f n (take i xs) → next ≡ now ++ f k x → next ≡ old ++ numbered f n (take (i + 1) xs)
numbered_adds f n xs i k x old now next lt here place so_far e = numbered_at f n xs i k x old now next lt place so_far (e ∙ ap (λ y. now ++ f k y) here)

-- what is left of a list has its next element in front
pub left_is : {X : Type 0} (xs : List X) (i : ℕ) (d : X) → i < length xs → drop i xs ≡ get_or xs i d ∷ drop (i + 1) xs
left_is xs i d lt =
    let e : suc i ≡ i + 1 = omega arith in
    drop-cons xs i d lt ∙ ap (λ (n : ℕ). get_or xs i d ∷ drop n xs) e

-- the part that is left gives up its front
pub goes : (part rest left text next whole : List ℕ) → left ≡ part ++ rest → next ≡ text ++ part → text ++ left ≡ whole → next ++ rest ≡ whole
goes part rest left text next whole is e h = ap (λ (l : List ℕ). l ++ rest) e ∙ append_assoc text part rest ∙ ap (λ (l : List ℕ). text ++ l) (sym is) ∙ h
