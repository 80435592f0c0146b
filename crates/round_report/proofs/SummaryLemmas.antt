-- Greatest numbers, how many places each round has, and lengths of paths, as they grow with each place.
use Rattle.std.proofs.Common.{◌≡◌, ℕ, zero, suc, ◌+◌, ◌<◌, ◌≤◌, max, List, [], ◌∷◌, ◌++◌, All, length, map, take, get_or, replicate, Option, None, Some, inl, inr, refl, sym, ap, ◌∙◌, arith}
use Rattle.std.specs.Prelude.{◌==◌, fold}
use Rattle.std.specs.List.{range_with_len}
use Rattle.std.proofs.Math.ListN.{set, length-set}
use Rattle.std.proofs.lemmas.Bool.{cases_eq, cases_lt, eq-eqb, ne_eqb}
use Rattle.std.proofs.lemmas.List.{map-append, get_or_past, take_more, length-replicate, get_or-replicate, get_or-set_same, get_or-set_other, get_or-map, length-map}
use Rattle.std.proofs.lemmas.List.Elements.{All-append, All-cons, All-get_or, All-nil, All-weaker}
use Rattle.std.proofs.lemmas.List.FromFn.{fill_by_all, length-map-range_with_len, get_or-map-range_with_len}
use Rattle.std.proofs.lemmas.List.Sums.{count_by_more_no, count_by_more_yes, count_by-le-length}
use Rattle.wave_pick.specs.Holding.{Holder}
use Rattle.round_report.specs.Summary.{greatest, round_count, width, length_before, path_lengths}

fold_max_grows : (a : ℕ) (ns : List ℕ) → a ≤ fold max a ns
fold_max_grows a [] = omega arith
fold_max_grows a (n ∷ ns) = let rest = fold_max_grows (max a n) ns in omega (arith, rest)

fold_max_bounds : (a : ℕ) (ns : List ℕ) (i d : ℕ) → i < length ns → get_or ns i d ≤ fold max a ns
fold_max_bounds a [] i d lt = absurd (omega (arith, lt))
fold_max_bounds a (n ∷ ns) zero d lt = let rest = fold_max_grows (max a n) ns in omega (arith, rest)
fold_max_bounds a (n ∷ ns) (suc i) d lt = fold_max_bounds (max a n) ns i d (omega (arith, lt))

-- each number is at most the greatest
pub greatest_bounds : (ns : List ℕ) (i d : ℕ) → i < length ns → get_or ns i d ≤ greatest ns
greatest_bounds ns i d lt = fold_max_bounds 0 ns i d lt

-- a round's number is below how many there are
pub round_within : (rounds : List ℕ) (i d : ℕ) → i < length rounds → get_or rounds i d < round_count rounds
round_within rounds i d lt =
    let bound = greatest_bounds (map (λ n. suc n) rounds) i 0 (omega (arith, length-map rounds (λ n. suc n), lt)) in
    let here = get_or-map (λ (n : ℕ). suc n) rounds i d 0 lt in
    omega (arith, bound, here)

-- no places yet
pub no_widths : (count : ℕ) → replicate count 0 ≡ map (width []) (range_with_len 0 count)
no_widths count = fill_by_all (width []) (replicate count 0) count 0 (length-replicate count 0) (λ k lt. get_or-replicate count k 0 0 lt)

-- one place more in its round
pub widths_more : (rounds : List ℕ) (i d count : ℕ) (ws : List ℕ) → i < length rounds → get_or rounds i d < count → ws ≡ map (width (take i rounds)) (range_with_len 0 count)
    → set ws (get_or rounds i d) (get_or ws (get_or rounds i d) 0 + 1) ≡ map (width (take (i + 1) rounds)) (range_with_len 0 count)
widths_more rounds i d count ws lt within so_far =
    let round = get_or rounds i d in
    let more = get_or ws round 0 + 1 in
    let long : length ws ≡ count = ap length so_far ∙ length-map-range_with_len (width (take i rounds)) 0 count in
    let read : (k : ℕ) → k < count → get_or ws k 0 ≡ width (take i rounds) k =
    λ k less. ap (λ xs. get_or xs k 0) so_far ∙ get_or-map-range_with_len (width (take i rounds)) 0 count k k 0 less (omega arith) in
    fill_by_all (width (take (i + 1) rounds)) (set ws round more) count 0 (length-set ws round more ∙ long) (λ k less. elim (cases_eq k round) [
      | inl here ↦
          ap (λ j. get_or (set ws round more) j 0) here ∙ get_or-set_same ws round more 0 (omega (arith, within, long)) ∙ ap (λ n. n + 1) (read round within)
          ∙ sym (count_by_more_yes (λ r. r == round) rounds i d lt (eq-eqb round round refl)) ∙ ap (width (take (i + 1) rounds)) (sym here)
      | inr other ↦
          get_or-set_other ws round k more 0 other ∙ read k less
          ∙ sym (count_by_more_no (λ r. r == k) rounds i d lt (ne_eqb round k (λ e. other (sym e))))
    ])

-- a round has no more places than there are
pub width_bounded : (rounds : List ℕ) (i count r : ℕ) (ws : List ℕ) → ws ≡ map (width (take i rounds)) (range_with_len 0 count) → r < count → get_or ws r 0 ≤ length (take i rounds)
width_bounded rounds i count r ws so_far less =
    let here : get_or ws r 0 ≡ width (take i rounds) r = ap (λ xs. get_or xs r 0) so_far ∙ get_or-map-range_with_len (width (take i rounds)) 0 count r r 0 less (omega arith) in
    omega (arith, here, count_by-le-length (λ round. round == r) (take i rounds))

-- the length of the path to one place more
path_lengths_more : (before : List ℕ) (waits : List (Option Holder)) (wait : Option Holder)
    → path_lengths before (waits ++ wait ∷ []) ≡ path_lengths before waits ++ suc (length_before (path_lengths before waits) wait) ∷ []
path_lengths_more before [] wait = refl
path_lengths_more before (w ∷ waits) wait = path_lengths_more (before ++ suc (length_before before w) ∷ []) waits wait

pub lengths_more : {W : Type 0} (meant : W → Option Holder) (waits : List W) (i : ℕ) (d : W) (lengths : List ℕ) → i < length waits → lengths ≡ path_lengths [] (map meant (take i waits))
    → lengths ++ suc (length_before lengths (meant (get_or waits i d))) ∷ [] ≡ path_lengths [] (map meant (take (i + 1) waits))
lengths_more meant waits i d lengths lt so_far =
    let wait = meant (get_or waits i d) in
    ap (λ ls. ls ++ suc (length_before ls wait) ∷ []) so_far ∙ sym (path_lengths_more [] (map meant (take i waits)) wait)
    ∙ sym (rw (take_more waits i d lt) (ap (path_lengths []) (map-append meant (take i waits) (get_or waits i d ∷ []))))

-- no length is more than the number of places
pub before_bounded : (lengths : List ℕ) (most : ℕ) (wait : Option Holder) → All (λ n. n ≤ most) lengths → length_before lengths wait ≤ most
before_bounded lengths most None bounded = omega arith
before_bounded lengths most (Some h) bounded = elim (cases_lt h.place (length lengths)) [
  | inl lt ↦ All-get_or (λ n. n ≤ most) lengths h.place 0 lt bounded
  | inr past ↦ let none = get_or_past lengths h.place 0 past in omega (arith, none)
]

pub bounded_more : (lengths : List ℕ) (n : ℕ) → All (λ n. n ≤ length lengths) lengths → n ≤ length lengths + 1 → All (λ n. n ≤ length lengths + 1) (lengths ++ n ∷ [])
bounded_more lengths n bounded le =
    All-append (λ n. n ≤ length lengths + 1) lengths (n ∷ []) (All-weaker (λ n. n ≤ length lengths) (λ n. n ≤ length lengths + 1) (λ n h. omega (arith, h)) lengths bounded) (All-cons (λ n. n ≤ length lengths + 1) n [] le (All-nil (λ n. n ≤ length lengths + 1)))
