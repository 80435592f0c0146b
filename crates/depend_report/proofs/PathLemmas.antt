-- How heavy paths are at most.
use Rattle.std.proofs.Common.{◌≡◌, ℕ, ◌+◌, ◌*◌, ◌≤◌, max, List, [], ◌∷◌, ◌++◌, All, length, map, get_or, inl, inr, sym, subst, arith, length-append}
use Rattle.std.specs.Prelude.{fold}
use Rattle.std.proofs.lemmas.Bool.{cases_lt}
use Rattle.std.proofs.lemmas.List.{get_or_past}
use Rattle.std.proofs.lemmas.List.Elements.{All-append, All-cons, All-get_or, All-nil, All-weaker}
use Rattle.depend_log.specs.Waits.{Waited}
use Rattle.depend_report.specs.Paths.{heaviest_before}

weight_bounded : (weights : List ℕ) (most place : ℕ) → All (λ n. n ≤ most) weights → get_or weights place 0 ≤ most
weight_bounded weights most place bounded = elim (cases_lt place (length weights)) [
  | inl lt ↦ All-get_or (λ n. n ≤ most) weights place 0 lt bounded
  | inr past ↦ let none = get_or_past weights place 0 past in omega (arith, none)
]

folded_bounded : (weights : List ℕ) (most a : ℕ) (waits : List Waited) → All (λ n. n ≤ most) weights → a ≤ most → fold max a (map (λ w. get_or weights w.after 0) waits) ≤ most
folded_bounded weights most a [] bounded le = le
folded_bounded weights most a (w ∷ ws) bounded le =
    let here = weight_bounded weights most w.after bounded in
    folded_bounded weights most (max a (get_or weights w.after 0)) ws bounded (omega (arith, here, le))

-- the places that are waited for have no heavier paths than all have
pub before_bounded : (weights : List ℕ) (most : ℕ) (waits : List Waited) → All (λ n. n ≤ most) weights → heaviest_before weights waits ≤ most
before_bounded weights most waits bounded = folded_bounded weights most 0 waits bounded (omega arith)

-- each place adds at most its own weight
pub bounded_more : (weights grown : List ℕ) (most n : ℕ) → grown ≡ weights ++ n ∷ [] → All (λ m. m ≤ length weights * most) weights → n ≤ length weights * most + most → All (λ m. m ≤ length grown * most) grown
bounded_more weights grown most n is bounded le =
    let long : length (weights ++ n ∷ []) ≡ length weights + 1 = length-append weights (n ∷ []) in
    let more : length (weights ++ n ∷ []) * most ≡ length weights * most + most = rw long (omega arith) in
    let all = All-append (λ m. m ≤ length (weights ++ n ∷ []) * most) weights (n ∷ []) (All-weaker (λ m. m ≤ length weights * most) (λ m. m ≤ length (weights ++ n ∷ []) * most) (λ m h. omega (arith, h, more)) weights bounded)
    (All-cons (λ m. m ≤ length (weights ++ n ∷ []) * most) n [] (omega (arith, le, more)) (All-nil (λ m. m ≤ length (weights ++ n ∷ []) * most))) in
    subst (λ ws. All (λ m. m ≤ length ws * most) ws) (sym is) all
