-- Parts of a list, from one place to another.
use Rattle.std.proofs.Common.{◌≡◌, ℕ, zero, suc, ◌+◌, ◌-◌, ◌<◌, ◌≤◌, eqb, List, [], ◌∷◌, ◌++◌, length, take, drop, get_or, refl, sym, ap, ◌∙◌, arith, drop-cons}
use Rattle.std.proofs.lemmas.List.{drop-drop, length-drop, length-take}
use Rattle.std.proofs.lemmas.Bool.{eq-eqb}
use Rattle.std.proofs.Math.Seq.{take-add}
use Rattle.text_forms.specs.Strings.{goes_on}

abbrev pub between : ℕ → ℕ → List ℕ → List ℕ
between a b xs = take (b - a) (drop a xs)

pub joined : (xs : List ℕ) (a b c : ℕ) → a ≤ b → b ≤ c → between a c xs ≡ between a b xs ++ between b c xs
joined xs a b c h g =
    let e : c - a ≡ (b - a) + (c - b) = omega arith in
    let f : a + (b - a) ≡ b = omega arith in
    ap (λ (n : ℕ). take n (drop a xs)) e ∙ take-add (b - a) (c - b) (drop a xs)
    ∙ ap (λ (l : List ℕ). take (b - a) (drop a xs) ++ take (c - b) l) (drop-drop (b - a) a xs ∙ ap (λ (n : ℕ). drop n xs) f)

pub front_is : (xs : List ℕ) (i : ℕ) → i < length xs → drop i xs ≡ get_or xs i 0 ∷ drop (i + 1) xs
front_is xs i lt =
    let e : suc i ≡ i + 1 = omega arith in
    drop-cons xs i 0 lt ∙ ap (λ (n : ℕ). get_or xs i 0 ∷ drop n xs) e

pub one_is : (xs : List ℕ) (i : ℕ) → i < length xs → between i (i + 1) xs ≡ get_or xs i 0 ∷ []
one_is xs i lt =
    let e : i + 1 - i ≡ 1 = omega arith in
    ap (λ (n : ℕ). take n (drop i xs)) e ∙ ap (take 1) (front_is xs i lt)

pub one_more : (xs : List ℕ) (run i : ℕ) → run ≤ i → i < length xs → between run (i + 1) xs ≡ between run i xs ++ get_or xs i 0 ∷ []
one_more xs run i le lt = joined xs run i (i + 1) le (omega arith) ∙ ap (λ (l : List ℕ). between run i xs ++ l) (one_is xs i lt)

pub none_is : (xs : List ℕ) (i : ℕ) → between i i xs ≡ []
none_is xs i =
    let e : i - i ≡ 0 = omega arith in
    ap (λ (n : ℕ). take n (drop i xs)) e

-- a byte goes on with what begins at an earlier place where it is the byte there
pub goes : (xs : List ℕ) (run i : ℕ) → run ≤ i → i < length xs → goes_on (get_or xs i 0) (between run i xs) ≡ eqb (get_or xs i 0) (get_or xs run 0)
goes xs run i le lt = by_gap (i - run) refl where
  by_gap : (k : ℕ) → i - run ≡ k → goes_on (get_or xs i 0) (between run i xs) ≡ eqb (get_or xs i 0) (get_or xs run 0)
  by_gap zero e =
      let same : i ≡ run = omega (arith, e, le) in
      ap (λ (n : ℕ). goes_on (get_or xs i 0) (take n (drop run xs))) e ∙ sym (eq-eqb (get_or xs i 0) (get_or xs run 0) (ap (λ (n : ℕ). get_or xs n 0) same))
  by_gap (suc k) e =
      ap (λ (n : ℕ). goes_on (get_or xs i 0) (take n (drop run xs))) e
      ∙ ap (λ (l : List ℕ). goes_on (get_or xs i 0) (take (suc k) l)) (front_is xs run (omega (arith, e, lt)))

pub between_len : (xs : List ℕ) (a b : ℕ) → b ≤ length xs → length (between a b xs) ≡ b - a
between_len xs a b h = omega (arith, length-take (b - a) (drop a xs), length-drop a xs)
