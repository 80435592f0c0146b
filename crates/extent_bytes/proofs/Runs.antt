-- Bytes of pages that lie one behind another, against those of a map.
use Rattle.std.proofs.Common.{◌≡◌, ℕ, ◌+◌, ◌/◌, ◌%◌, ◌<◌, ◌≢◌, ◌↔◌, ◌++◌, ◌∷◌, [], ⊎_elim, List, Some, length, get_or, arith, ap, refl, sym, ◌∙◌}
use Rattle.std.specs.Prelude.{slice_get}
use Rattle.extent_bytes.specs.Pages.{PageMap, page_of, byte_at, byte_in, bytes_from}
use Rattle.std.proofs.lemmas.Bool.{cases_eq}
use Rattle.extent_bytes.proofs.Fronts.{added_last, added_others}
use Rattle.extent_bytes.proofs.ExtentFacts.{bytes_from-is, get_or-bytes_from, length-bytes_from}

-- a byte of a page
pub byte_in-stored : (ps : List (List ℕ)) (p k : ℕ) (page : List ℕ) → slice_get ps k ≡ Some page → p / 4096 ≡ k → byte_in ps p ≡ get_or page (p % 4096) 0
unfolding byte_in
byte_in-stored ps p k page e d = rw (d, e) refl

-- pages taken from a map have its bytes
pub byte_in-taken : (m : PageMap) (ps : List (List ℕ)) (from i : ℕ) → slice_get ps ((from % 4096 + i) / 4096) ≡ page_of m (from / 4096 + (from % 4096 + i) / 4096) → byte_in ps (from % 4096 + i) ≡ byte_at m (from + i)
unfolding byte_in byte_at
byte_in-taken m ps from i e =
    let number : from / 4096 + (from % 4096 + i) / 4096 ≡ (from + i) / 4096 = omega arith in
    let place : (from % 4096 + i) % 4096 ≡ (from + i) % 4096 = omega arith in
    grind (arith, e, number, place)

-- the same byte at each position makes the same list
pub bytes_from-same : (f g : ℕ → ℕ) (s t n : ℕ) → ((i : ℕ) → i < n → f (s + i) ≡ g (t + i)) → bytes_from f s n ≡ bytes_from g t n
bytes_from-same f g s t n e = bytes_from-is f s n (bytes_from g t n) (length-bytes_from g t n) (λ i h. e i h ∙ sym (get_or-bytes_from g t n i h))

-- and so does each byte that was compared
pub bytes_from-agree : (f g : ℕ → ℕ) (s t n : ℕ) (xs : List ℕ) → bytes_from f s n ≡ xs → ((i : ℕ) → s + i < s + n → g (t + i) ≡ f (s + i)) ↔ (xs ≡ bytes_from g t (length xs))
bytes_from-agree f g s t n xs e =
    let l : length xs ≡ n = ap length (sym e) ∙ length-bytes_from f s n in (
      (λ same. sym e ∙ bytes_from-same f g s t n (λ i h. sym (same i (omega arith))) ∙ ap (bytes_from g t) (sym l)),
      (λ d i h. sym (get_or-bytes_from g t (length xs) i (omega (arith, l))) ∙ ap (λ ys. get_or ys i 0) (sym d ∙ sym e) ∙ get_or-bytes_from f s n i (omega arith)),
    )

-- one more page of a map is taken, behind the others
pub taken_more : (m : PageMap) (from k : ℕ) (xs ys : List (List ℕ)) (page copy : List ℕ) → from + length xs ≡ k → ys ≡ xs ++ copy ∷ [] → copy ≡ page → page_of m k ≡ Some page
    → ((j : ℕ) → from + j < k → slice_get xs j ≡ page_of m (from + j)) → (j : ℕ) → from + j < k + 1 → slice_get ys j ≡ page_of m (from + j)
taken_more m from k xs ys page copy n f same e taken = λ j h.
    ⊎_elim
    (λ (q : j ≡ length xs).
    let z : from + j ≡ k = omega arith in
    (λ i. slice_get (f i) (q i)) ∙ added_last xs copy ∙ ap (λ p. Some p) same ∙ sym e ∙ ap (page_of m) (sym z))
    (λ (ne : j ≢ length xs).
    let l : from + j < k = grind arith in
    ap (λ zs. slice_get zs j) f ∙ added_others xs copy j ne ∙ taken j l)
    (cases_eq j (length xs))
