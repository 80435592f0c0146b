-- Numbers that rise, and what is left of them without some.
use Rattle.std.proofs.Common.{◌≡◌, ◌≢◌, ℕ, zero, suc, ◌+◌, ◌-◌, ◌<◌, ◌≤◌, ◌==◌, Bool, true, false, List, [], ◌∷◌, ◌++◌, take, drop, filter, length, ◌⊎◌, inl, inr, refl, sym, ap, subst, ◌∙◌, arith, get_or, slice_index_or, length-append}
use Rattle.std.specs.Prelude.{not, cond, slice_get, Some, if◌then◌else◌}
use Rattle.std.specs.List.{range_with_len}
use Rattle.std.specs.List.Sorted.{IsStrictlyIncreasing}
use Rattle.std.proofs.lemmas.Bool.{eq-eqb, ne_eqb}
use Rattle.std.proofs.lemmas.List.{get_or_append_left}
use Rattle.std.proofs.lemmas.List.FromFn.{get_or-range_with_len, length-range_with_len}
use Rattle.std.proofs.lemmas.List.Kept.{IsStrictlyIncreasing-filter, AllPairs-from_increasing}
use Rattle.std.proofs.lemmas.Option.{get_or_from_slice_get}
use Rattle.interleaving.specs.Machine.{State, has}
use Rattle.interleaving.specs.Rounds.{pending}
use Rattle.interleaving.proofs.Onwards.{finished_after, pending-later, pending-all}
use Rattle.recording.specs.declared.recording.Recording.{Recording}
use Rattle.recording.specs.Steps.{places}
use Rattle.recording.specs.Accepted.{IsAccepted}
use Rattle.foot_print.specs.Replayed.{replayed}
use Rattle.wave_pick.specs.Rounds.{state_after, wave_after}
use Rattle.replay_core.specs.Progressing.{IsFront}
use Rattle.replay_core.proofs.Fronts.{filter-same, filter-all, front_open}
use Rattle.replay_core.proofs.Stepping.{next_state}
use Rattle.interleaving.proofs.Members.{has-append}

order : (a b : ℕ) → (a < b) ⊎ ((b < a) ⊎ (a ≡ b))
order a b = grind arith

-- One number dropped.
abbrev pub other_than : ℕ → ℕ → Bool
other_than n k = not (k == n)

-- where none is the number, all are kept
none_dropped : (xs : List ℕ) (n : ℕ) → ((k : ℕ) → k < length xs → get_or xs k 0 ≢ n) → filter (other_than n) xs ≡ xs
none_dropped [] n ne = refl
none_dropped (x ∷ xs) n ne =
    ap (λ b. cond (not b) (x ∷ filter (other_than n) xs) (filter (other_than n) xs)) (ne_eqb x n (ne 0 (omega arith)))
    ∙ ap (λ zs. x ∷ zs) (none_dropped xs n (λ k lt. ne (suc k) (omega arith)))

-- where one alone is the number, that one is dropped
one_dropped : (xs : List ℕ) (i n : ℕ) → i < length xs → get_or xs i 0 ≡ n → ((k : ℕ) → k < length xs → k ≢ i → get_or xs k 0 ≢ n)
    → take i xs ++ drop (suc i) xs ≡ filter (other_than n) xs
one_dropped [] i n lt is ne = absurd (omega arith)
one_dropped (x ∷ xs) zero n lt is ne =
    sym (ap (λ b. cond (not b) (x ∷ filter (other_than n) xs) (filter (other_than n) xs)) (eq-eqb x n is)
    ∙ none_dropped xs n (λ k below. ne (suc k) (omega arith) (λ e. absurd (omega (arith, e)))))
one_dropped (x ∷ xs) (suc i) n lt is ne =
    ap (λ zs. x ∷ zs) (one_dropped xs i n (omega arith) is (λ k below apart. ne (suc k) (omega arith) (λ e. apart (omega (arith, e)))))
    ∙ sym (ap (λ b. cond (not b) (x ∷ filter (other_than n) xs) (filter (other_than n) xs)) (ne_eqb x n (ne 0 (omega arith) (λ e. absurd (omega (arith, e))))))

pub dropped : (xs : List ℕ) (i n : ℕ) → IsStrictlyIncreasing xs → i < length xs → get_or xs i 0 ≡ n → take i xs ++ drop (suc i) xs ≡ filter (other_than n) xs
dropped xs i n rises lt is = one_dropped xs i n lt is (λ k below apart e. go k below apart e (order k i))
  where
    pairs : (j k : ℕ) → j < k → k < length xs → get_or xs j 0 < get_or xs k 0
    pairs j k = AllPairs-from_increasing xs rises j k 0

    go : (k : ℕ) → k < length xs → k ≢ i → get_or xs k 0 ≡ n → (k < i) ⊎ ((i < k) ⊎ (k ≡ i)) → ⊥
    go k below apart e (inl less) = let l = pairs k i less lt in omega (arith, e, is)
    go k below apart e (inr (inl more)) = let l = pairs i k more below in omega (arith, e, is)
    go k below apart e (inr (inr same)) = apart same

-- numbers that rise don't fall
pub never_falls : (xs : List ℕ) → IsStrictlyIncreasing xs → (i j : ℕ) → i ≤ j → j < length xs → get_or xs i 0 ≤ get_or xs j 0
never_falls xs rises i j le lt = go (order i j)
  where
    go : (i < j) ⊎ ((j < i) ⊎ (i ≡ j)) → get_or xs i 0 ≤ get_or xs j 0
    go (inl less) = let l = AllPairs-from_increasing xs rises i j 0 less lt in omega arith
    go (inr (inl more)) = absurd (omega arith)
    go (inr (inr same)) = let e = ap (λ k. get_or xs k 0) same in omega (arith, e)

-- where all before a place are less than the number and all from it on are greater, all are kept
pub apart_from : (xs : List ℕ) (i n : ℕ) → ((k : ℕ) → k < i → get_or xs k 0 < n) → ((k : ℕ) → i ≤ k → k < length xs → n < get_or xs k 0) → filter (other_than n) xs ≡ xs
apart_from xs i n low high = none_dropped xs n (λ k lt e. go k lt e (order k i))
  where
    go : (k : ℕ) → k < length xs → get_or xs k 0 ≡ n → (k < i) ⊎ ((i < k) ⊎ (k ≡ i)) → ⊥
    go k lt e (inl less) = let l = low k less in omega (arith, e)
    go k lt e (inr (inl more)) = let l = high k (omega arith) lt in omega (arith, e)
    go k lt e (inr (inr same)) = let l = high k (omega (arith, same)) lt in omega (arith, e)

-- Some numbers dropped, one after another.
abbrev pub others_than : List ℕ → ℕ → Bool
others_than ns k = not (has ns k)

has-one_more : (ns : List ℕ) (n k : ℕ) → has (ns ++ n ∷ []) k ≡ (if has ns k then true else k == n)
has-one_more ns n k = has-append ns (n ∷ []) k ∙ ap (λ b. if has ns k then true else b) (one (k == n))
  where
    one : (b : Bool) → (if b then true else false) ≡ b
    one true = refl
    one false = refl

filter-twice : (p q : ℕ → Bool) (xs : List ℕ) → filter q (filter p xs) ≡ filter (λ k. if p k then q k else false) xs
filter-twice p q [] = refl
filter-twice p q (x ∷ xs) = go (p x) (filter-twice p q xs)
  where
    go : (b : Bool) → filter q (filter p xs) ≡ filter (λ k. if p k then q k else false) xs
        → filter q (cond b (x ∷ filter p xs) (filter p xs)) ≡ cond (if b then q x else false) (x ∷ filter (λ k. if p k then q k else false) xs) (filter (λ k. if p k then q k else false) xs)
    go true later = ap (λ zs. cond (q x) (x ∷ zs) zs) later
    go false later = later

pub one_more_dropped : (xs ns : List ℕ) (n : ℕ) → filter (other_than n) (filter (others_than ns) xs) ≡ filter (others_than (ns ++ n ∷ [])) xs
one_more_dropped xs ns n = filter-twice (others_than ns) (other_than n) xs ∙ filter-same (λ k. if others_than ns k then other_than n k else false) (others_than (ns ++ n ∷ [])) xs (λ k m. go (has ns k) (k == n) ∙ ap not (sym (has-one_more ns n k)))
  where
    go : (b c : Bool) → (if not b then not c else false) ≡ not (if b then true else c)
    go true c = refl
    go false c = refl

pub none_of_none : (xs : List ℕ) → filter (others_than []) xs ≡ xs
none_of_none xs = filter-all (others_than []) xs (λ k m. refl)

-- The places of a front rise.
rises-range : (a n : ℕ) → IsStrictlyIncreasing (range_with_len a n)
rises-range a n k lt = go (length-range_with_len a n)
  where
    go : length (range_with_len a n) ≡ n → get_or (range_with_len a n) k 0 < get_or (range_with_len a n) (k + 1) 0
    go many = omega (arith, get_or-range_with_len a n k 0 (omega (arith, many, lt)), get_or-range_with_len a n (k + 1) 0 (omega (arith, many, lt)))

rises-pending : (done : ℕ → Bool) (n : ℕ) → IsStrictlyIncreasing (pending done n)
rises-pending done n =
    subst IsStrictlyIncreasing (sym (pending-later (has []) done (λ k h. (cc)) n))
    (IsStrictlyIncreasing-filter (λ k. not (done k)) (pending (has []) n) (subst IsStrictlyIncreasing (sym (pending-all n)) (rises-range 0 n)))

rises-first : (xs ys : List ℕ) → IsStrictlyIncreasing (xs ++ ys) → IsStrictlyIncreasing xs
rises-first xs ys rises k lt =
    let more = rises k (omega (arith, length-append xs ys)) in
    omega (arith, more, get_or_append_left xs ys 0 k (omega arith), get_or_append_left xs ys 0 (k + 1) lt)

pub rises-front : (t : Recording) (window : ℕ) (x : State (replayed t)) (front : List ℕ) (next : ℕ) → IsFront t window x front next → IsStrictlyIncreasing front
rises-front t window x front next h =
    rises-first front (range_with_len next (places t - next)) (subst IsStrictlyIncreasing h.all (rises-pending (has x.finished) (places t)))

-- Of a front those are done that the round ran.
pub done_is_ran : (t : Recording) → IsAccepted t → (window r : ℕ) (front : List ℕ) (next : ℕ) → IsFront t window (state_after t window r) front next
    → (done : List Bool) → ((k : ℕ) → k < places t → slice_get done k ≡ Some (has (state_after t window (r + 1)).finished k))
    → (k : ℕ) → has front k ≡ true → slice_index_or done k false ≡ has (wave_after t window r) k
done_is_ran t spelled window r front next h done is k m =
    let waits = front_open t window (state_after t window r) front next h k m in
    get_or_from_slice_get done k (has (state_after t window (r + 1)).finished k) false (is k waits.0)
    ∙ ap (λ (x : State (replayed t)). has x.finished k) (sym (next_state t window r))
    ∙ finished_after (replayed t) (wave_after t window r) (state_after t window r) k
    ∙ ap (λ b. if has (wave_after t window r) k then true else b) waits.1
    ∙ alone (has (wave_after t window r) k)
  where
    alone : (b : Bool) → (if b then true else false) ≡ b
    alone true = refl
    alone false = refl
