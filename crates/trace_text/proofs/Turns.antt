-- What is left of pieces behind one byte more.
use Rattle.std.proofs.Common.{◌≡◌, ℕ, zero, suc, ◌+◌, ◌-◌, ◌<◌, ◌≤◌, eqb, true, false, List, [], ◌∷◌, ◌++◌, length, take, drop, get_or, refl, sym, ap, ◌∙◌, append_assoc, arith}
use Rattle.std.specs.Prelude.{nat_le, ◌≢◌}
use Rattle.std.proofs.lemmas.Bool.{ne_eqb}
use Rattle.text_forms.specs.Strings.{pieces, ended, plains, plain_text}
use Rattle.trace_text.proofs.Slices.{between, joined, front_is, one_is, one_more, none_is, goes}

pub turn_same : (before xs text whole : List ℕ) (start run i : ℕ) → run ≤ i → i < length xs → eqb (get_or xs i 0) (get_or xs run 0) ≡ true
    → text ++ pieces before (between start run xs) (between run i xs) (drop i xs) ≡ whole
    → text ++ pieces before (between start run xs) (between run (i + 1) xs) (drop (i + 1) xs) ≡ whole
turn_same before xs text whole start run i le lt same h =
    let step : pieces before (between start run xs) (between run i xs) (get_or xs i 0 ∷ drop (i + 1) xs) ≡ pieces before (between start run xs) (between run i xs ++ get_or xs i 0 ∷ []) (drop (i + 1) xs) = rw (goes xs run i le lt, same) refl in
    ap (λ (l : List ℕ). text ++ pieces before (between start run xs) l (drop (i + 1) xs)) (one_more xs run i le lt)
    ∙ ap (λ (l : List ℕ). text ++ l) (sym step)
    ∙ ap (λ (l : List ℕ). text ++ pieces before (between start run xs) (between run i xs) l) (sym (front_is xs i lt))
    ∙ h

pub turn_long : (before xs text text' whole : List ℕ) (start run i : ℕ) → run ≤ i → i < length xs → eqb (get_or xs i 0) (get_or xs run 0) ≡ false
    → nat_le 16 (length (between run i xs)) ≡ true → text' ≡ text ++ ended before (between start run xs) (between run i xs)
    → text ++ pieces before (between start run xs) (between run i xs) (drop i xs) ≡ whole
    → text' ++ pieces before (between i i xs) (between i (i + 1) xs) (drop (i + 1) xs) ≡ whole
turn_long before xs text text' whole start run i le lt other long is h =
    let rest = pieces before [] (get_or xs i 0 ∷ []) (drop (i + 1) xs) in
    let out = ended before (between start run xs) (between run i xs) in
    let step : pieces before (between start run xs) (between run i xs) (get_or xs i 0 ∷ drop (i + 1) xs) ≡ out ++ rest = rw (goes xs run i le lt, other, long) refl in
    ap (λ (l : List ℕ). text' ++ pieces before l (between i (i + 1) xs) (drop (i + 1) xs)) (none_is xs i)
    ∙ ap (λ (l : List ℕ). text' ++ pieces before [] l (drop (i + 1) xs)) (one_is xs i lt)
    ∙ ap (λ (l : List ℕ). l ++ rest) is
    ∙ append_assoc text out rest
    ∙ ap (λ (l : List ℕ). text ++ l) (sym step)
    ∙ ap (λ (l : List ℕ). text ++ pieces before (between start run xs) (between run i xs) l) (sym (front_is xs i lt))
    ∙ h

pub turn_short : (before xs text whole : List ℕ) (start run i : ℕ) → start ≤ run → run ≤ i → i < length xs → eqb (get_or xs i 0) (get_or xs run 0) ≡ false
    → nat_le 16 (length (between run i xs)) ≡ false
    → text ++ pieces before (between start run xs) (between run i xs) (drop i xs) ≡ whole
    → text ++ pieces before (between start i xs) (between i (i + 1) xs) (drop (i + 1) xs) ≡ whole
turn_short before xs text whole start run i first le lt other short h =
    let step : pieces before (between start run xs) (between run i xs) (get_or xs i 0 ∷ drop (i + 1) xs) ≡ pieces before (between start run xs ++ between run i xs) (get_or xs i 0 ∷ []) (drop (i + 1) xs) = rw (goes xs run i le lt, other, short) refl in
    ap (λ (l : List ℕ). text ++ pieces before l (between i (i + 1) xs) (drop (i + 1) xs)) (joined xs start run i first le)
    ∙ ap (λ (l : List ℕ). text ++ pieces before (between start run xs ++ between run i xs) l (drop (i + 1) xs)) (one_is xs i lt)
    ∙ ap (λ (l : List ℕ). text ++ l) (sym step)
    ∙ ap (λ (l : List ℕ). text ++ pieces before (between start run xs) (between run i xs) l) (sym (front_is xs i lt))
    ∙ h

-- no bytes have no pieces
pub nothing_left : (before bytes : List ℕ) (n : ℕ) → eqb (length bytes) 0 ≡ true → plains before n bytes ≡ []
nothing_left before bytes zero h = refl
nothing_left before bytes (suc n) h = rw h refl

pub plain_goes : (before bytes text whole : List ℕ) (n i : ℕ) → i < n → eqb (length bytes) 0 ≡ false
    → text ++ plains before (n - i) bytes ≡ whole
    → ((text ++ before) ++ plain_text (take 64 bytes)) ++ plains before (n - (i + 1)) (drop 64 bytes) ≡ whole
plain_goes before bytes text whole n i lt some h =
    let k : n - i ≡ suc (n - (i + 1)) = omega arith in
    let step : plains before (suc (n - (i + 1))) bytes ≡ before ++ plain_text (take 64 bytes) ++ plains before (n - (i + 1)) (drop 64 bytes) = rw some refl in
    ap (λ (l : List ℕ). l ++ plains before (n - (i + 1)) (drop 64 bytes)) (append_assoc text before (plain_text (take 64 bytes)))
    ∙ append_assoc text (before ++ plain_text (take 64 bytes)) (plains before (n - (i + 1)) (drop 64 bytes))
    ∙ ap (λ (l : List ℕ). text ++ l) (sym step)
    ∙ ap (λ (m : ℕ). text ++ plains before m bytes) (sym k)
    ∙ h

-- a run of one byte is short
one_short : (xs : List ℕ) (i : ℕ) → i < length xs → nat_le 16 (length (between i (i + 1) xs)) ≡ false
one_short xs i lt = ap (λ (l : List ℕ). nat_le 16 (length l)) (one_is xs i lt)

-- bytes none of which is as the one before it, so many
pub turn_unlike : (before xs text whole : List ℕ) (start run n : ℕ) → start ≤ run → run + n < length xs
    → ((k : ℕ) → k < n → get_or xs (run + (k + 1)) 0 ≢ get_or xs (run + k) 0)
    → text ++ pieces before (between start run xs) (between run (run + 1) xs) (drop (run + 1) xs) ≡ whole
    → text ++ pieces before (between start (run + n) xs) (between (run + n) (run + n + 1) xs) (drop (run + n + 1) xs) ≡ whole
turn_unlike before xs text whole start run zero first lt unlike h =
    let e : run + 0 ≡ run = omega arith in
    ap (λ (r : ℕ). text ++ pieces before (between start r xs) (between r (r + 1) xs) (drop (r + 1) xs)) e ∙ h
turn_unlike before xs text whole start run (suc n) first lt unlike h =
    let i = run + n + 1 in
    let e : run + suc n ≡ i = omega arith in
    let here : run + (n + 1) ≡ i = omega arith in
    let other = ne_eqb (get_or xs i 0) (get_or xs (run + n) 0) (λ same. unlike n (omega arith) (ap (λ (k : ℕ). get_or xs k 0) here ∙ same)) in
    let so_far = turn_unlike before xs text whole start run n first (omega (arith, lt)) (λ k less. unlike k (omega arith)) h in
    ap (λ (r : ℕ). text ++ pieces before (between start r xs) (between r (r + 1) xs) (drop (r + 1) xs)) e
    ∙ turn_short before xs text whole start (run + n) i (omega arith) (omega arith) (omega (arith, lt)) other (one_short xs (run + n) (omega (arith, lt))) so_far
