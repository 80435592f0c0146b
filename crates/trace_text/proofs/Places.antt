-- The line of the place that a word is.
use Rattle.std.proofs.Common.{◌≡◌, ◌≢◌, ℕ, zero, suc, ◌+◌, ◌^◌, ◌<◌, ◌≤◌, Bool, true, false, List, [], ◌∷◌, ◌++◌, length, get_or, refl, sym, ap, ◌∙◌, append-nil, arith}
use Rattle.std.specs.Prelude.{Some, if◌then◌else◌, map, option_map, unwrap_or}
use Rattle.std.specs.List.{slice_get}
use Rattle.std.specs.Fmt.{decimal}
use Rattle.std.specs.Str.{bytes_eq}
use Rattle.std.proofs.lemmas.Fmt.{decimal_injective}
use Rattle.std.proofs.lemmas.Option.{slice_get-map, unwrap_or-slice_get}
use Rattle.std.proofs.lemmas.Slice.Eq.{bytes_eq-Decides}
use Rattle.trace_text.specs.Below.{line_at, line_if_named, named_line}
use Rattle.trace_text.specs.Shown.{numbered}

-- no value has a text
numbered_none : {X : Type 0} (f : ℕ → X → List ℕ) (n : ℕ) (xs : List X) → ((k : ℕ) (x : X) → k < n + length xs → n ≤ k → f k x ≡ []) → numbered f n xs ≡ []
numbered_none f n [] none = refl
numbered_none f n (x ∷ xs) none =
    ap (λ (l : List ℕ). l ++ numbered f (n + 1) xs) (none n x (omega arith) (omega arith))
    ∙ numbered_none f (n + 1) xs (λ k y high low. none k y (omega arith) (omega arith))

-- one value alone has a text
numbered_one : {X : Type 0} (f : ℕ → X → List ℕ) (n : ℕ) (xs : List X) (i : ℕ) (d : X) → i < length xs
    → ((k : ℕ) (y : X) → k < n + length xs → n ≤ k → k ≢ n + i → f k y ≡ []) → numbered f n xs ≡ f (n + i) (get_or xs i d)
numbered_one f n [] i d lt none = absurd (omega arith)
numbered_one f n (y ∷ xs) zero d lt none =
    let e : n ≡ n + 0 = omega arith in
    ap (λ (l : List ℕ). f n y ++ l) (numbered_none f (n + 1) xs (λ k z high low. none k z (omega arith) (omega arith) (omega arith)))
    ∙ append-nil (f n y) ∙ ap (λ (k : ℕ). f k y) e
numbered_one f n (y ∷ xs) (suc i) d lt none =
    let e : n + 1 + i ≡ n + suc i = omega arith in
    ap (λ (l : List ℕ). l ++ numbered f (n + 1) xs) (none n y (omega arith) (omega arith) (omega arith))
    ∙ numbered_one f (n + 1) xs i d (omega arith) (λ k z high low other. none k z (omega arith) (omega arith) (omega arith))
    ∙ ap (λ (k : ℕ). f k (get_or xs i d)) e

-- a test that fails leaves nothing, and one that holds all
left_out : (b : Bool) (l : List ℕ) → (b ≡ true → ⊥) → (if b then l else []) ≡ []
left_out true l fails = absurd (fails refl)
left_out false l fails = refl

taken : (b : Bool) (l : List ℕ) → b ≡ true → (if b then l else []) ≡ l
taken true l is = refl
taken false l is = cc

other_place : (word : List ℕ) (k : ℕ) (line : List ℕ) → word ≢ decimal k → line_if_named word k line ≡ []
other_place word k line other = left_out (bytes_eq word (decimal k)) line (λ e. other ((bytes_eq-Decides word (decimal k)).0 e))

own_place : (word : List ℕ) (k : ℕ) (line : List ℕ) → word ≡ decimal k → line_if_named word k line ≡ line
own_place word k line is = taken (bytes_eq word (decimal k)) line ((bytes_eq-Decides word (decimal k)).1 is)

-- a word that is no place has no line
pub named_none : (lines : List (List ℕ)) (word : List ℕ) → ((k : ℕ) → k < length lines → word ≢ decimal k) → named_line lines word ≡ []
unfolding named_line
named_none lines word none = numbered_none (line_if_named word) 0 lines (λ k line high low. other_place word k line (none k (omega arith)))

-- a word that is one has the line of that place
pub named_one : (lines : List (List ℕ)) (word : List ℕ) (k : ℕ) → length lines < 2 ^ 64 → k < length lines → word ≡ decimal k → named_line lines word ≡ line_at lines k
unfolding named_line
named_one lines word k few lt named =
    let here : 0 + k ≡ k = omega arith in
    numbered_one (line_if_named word) 0 lines k [] lt
    (λ m z high low other. other_place word m z (λ e. other (decimal_injective m k (omega arith) (omega arith) (sym e ∙ named) ∙ sym here)))
    ∙ own_place word (0 + k) (get_or lines k []) (named ∙ ap decimal (sym here)) ∙ sym (unwrap_or-slice_get lines k [])

-- what is added of it is nothing
pub adds_none : (lines : List (List ℕ)) (word text : List ℕ) → named_line lines word ≡ [] → text ≡ text ++ named_line lines word
adds_none lines word text none = sym (ap (λ (l : List ℕ). text ++ l) none ∙ append-nil text)

pub past_all : (lines : List (List ℕ)) (word : List ℕ) (n : ℕ) → n < 2 ^ 64 → length lines ≤ n → word ≡ decimal n → named_line lines word ≡ []
past_all lines word n small past named =
    named_none lines word (λ k lt is. let e = decimal_injective n k (omega arith) (omega arith) (sym named ∙ is) in omega arith)

-- the line of a place, by what stands there
pub line_of : {X : Type 0} (f : X → List ℕ) (xs : List X) (k : ℕ) (x : X) → slice_get xs k ≡ Some x → line_at (map f xs) k ≡ f x
line_of f xs k x is = ap (λ line. unwrap_or line []) (slice_get-map f xs k ∙ ap (option_map f) is)
