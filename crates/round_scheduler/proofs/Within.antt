-- Of the first places that wait, as many as a window has: which they are, and that one that is among them is so until it runs.
use Rattle.std.specs.Prelude.{◌≡◌, ◌≢◌, ℕ, zero, suc, ◌+◌, ◌<◌, ◌≤◌, Bool, true, false, List, [], ◌∷◌, ◌++◌, take, length, slice_get, Some}
use Rattle.std.proofs.lemmas.List.{length-append, take_all, take-append-le, take_at}
use Rattle.std.proofs.lemmas.Option.{same_Some, slice_get_within}
use Rattle.std.proofs.Common.{◌⊎◌, inl, inr, sym, ap, subst, ◌∙◌, arith}
use Rattle.std.proofs.lemmas.Bool.{cases_eq, cases_lt, cases_Bool, false_from_ne_true}
use Rattle.interleaving.specs.Machine.{has}
use Rattle.interleaving.specs.Rounds.{pending}
use Rattle.interleaving.proofs.Members.{has-cases, has-take, has-pending, has-front, has-middle, has-snoc}
use Rattle.trace_format.proofs.Spots.{slice_get-append_left, slice_get-append_right}
use Rattle.wave_pick.proofs.Lists.{not_both}

-- One element more.
module _ (k : ℕ) where
  -- all are taken, or those that were
  all_taken : (w : ℕ) (xs : List ℕ) (y : ℕ) → length xs < w → take w (xs ++ y ∷ []) ≡ xs ++ y ∷ []
  all_taken w xs y lt = take_all w (xs ++ y ∷ []) (omega (arith, length-append xs (y ∷ [])))

  take_before : (w : ℕ) (xs : List ℕ) (y : ℕ) → has (take w xs) k ≡ true → has (take w (xs ++ y ∷ [])) k ≡ true
  take_before w xs y h = elim (cases_lt (length xs) w) [
    | inl short ↦ rw (all_taken w xs y short) (has-front xs (y ∷ []) k (has-take w xs k h))
    | inr long ↦ rw (take-append-le w xs (y ∷ []) long) h
  ]

  take_cases : (w : ℕ) (xs : List ℕ) (y : ℕ) → has (take w (xs ++ y ∷ [])) k ≡ true → (has (take w xs) k ≡ true) ⊎ ((k ≡ y) × (length xs < w))
  take_cases w xs y h = elim (cases_lt (length xs) w) [
    | inl short ↦ elim (has-snoc xs y k (rw (all_taken w xs y short) at h)) [
      | inl there ↦ inl (rw (take_all w xs (omega arith)) there)
      | inr e ↦ inr (e, short)
    ]
    | inr long ↦ inl (rw (take-append-le w xs (y ∷ []) long) at h)
  ]

-- A place that waits is among the first ones just where fewer wait before it.
module _ (done : ℕ → Bool) (w k : ℕ) where
  pub within_first : (n : ℕ) → k < n → done k ≡ false → length (pending done k) < w → has (take w (pending done n)) k ≡ true
  within_first zero lt waits few = absurd (omega arith)
  within_first (suc n) lt waits few = elim (cases_eq k n) [
    | inl e ↦ rw (← e, waits, all_taken k w (pending done k) k few) (has-middle (pending done k) k [])
    | inr ne ↦
        let before = within_first n (omega (arith, ne, lt)) waits few in
        elim (cases_Bool (done n)) [ inl out ↦ rw out before | inr yet ↦ rw yet (take_before k w (pending done n) n before) ]
  ]

  pub first_within : (n : ℕ) → has (take w (pending done n)) k ≡ true → length (pending done k) < w
  first_within zero h = let none = has-pending done 0 k (has-take w [] k h) in let low = none.0 in absurd (omega (arith, low))
  first_within (suc n) h = elim (cases_Bool (done n)) [
    | inl out ↦ first_within n (rw out at h)
    | inr yet ↦ elim (take_cases k w (pending done n) n (rw yet at h)) [
      | inl there ↦ first_within n there
      | inr p ↦ subst (λ j. length (pending done j) < w) (sym p.0) p.1
    ]
  ]

pub pending_has : (done : ℕ → Bool) (k n : ℕ) → k < n → done k ≡ false → has (pending done n) k ≡ true
pending_has done k n lt waits = has-take (suc (length (pending done k))) (pending done n) k
    (within_first done (suc (length (pending done k))) k n lt waits (omega arith))

-- Where no more places wait, no more wait before one.
pub fewer : (before after : ℕ → Bool) → ((j : ℕ) → after j ≡ false → before j ≡ false) → (k : ℕ) → length (pending after k) ≤ length (pending before k)
fewer before after waits zero = omega arith
fewer before after waits (suc k) =
    let less = fewer before after waits k in
    let more = length-append (pending before k) (k ∷ []) in
    elim (cases_Bool (after k)) [
      | inl out ↦ elim (cases_Bool (before k)) [ inl gone ↦ rw (out, gone) less | inr yet ↦ rw (out, yet) (omega (arith, less, more)) ]
      | inr yet ↦ rw (yet, waits k yet) (omega (arith, less, more, length-append (pending after k) (k ∷ [])))
    ]

-- What a list with one more hasn't, the list hasn't, and it is another one.
pub not_in_more : (ks : List ℕ) (k j : ℕ) → has (ks ++ k ∷ []) j ≡ false → (has ks j ≡ false) × (j ≢ k)
not_in_more ks k j none = (
  false_from_ne_true _ (λ h. not_both (has-front ks (k ∷ []) j h) none),
  λ e. not_both (ap (λ i. has (ks ++ i ∷ []) j) (sym e) ∙ has-middle ks j []) none,
)

-- An element of a list has a place in it.
pub place_of : (xs : List ℕ) (k : ℕ) → has xs k ≡ true → (y : ℕ) × (slice_get xs y ≡ Some k)
place_of [] k h = (cc)
place_of (x ∷ xs) k h = elim (has-cases k x xs h) [
  | inl e ↦ (zero, ap (λ j. Some j) (sym e))
  | inr later ↦ let found = place_of xs k later in (suc found.0, found.1)
]

-- The places that wait before one of them.
pub before_pending : (done : ℕ → Bool) (n x k : ℕ) → slice_get (pending done n) x ≡ Some k → take x (pending done n) ≡ pending done k
before_pending done zero zero k e = (cc)
before_pending done zero (suc x) k e = (cc)
before_pending done (suc n) x k e =
    let earlier : List ℕ = pending done n in
    elim (cases_Bool (done n)) [
      | inl out ↦ rw out (before_pending done n x k (rw out at e))
      | inr yet ↦
          let there = rw yet at e in
          elim (cases_lt x (length earlier)) [
            | inl lt ↦ rw (yet, take-append-le x earlier (n ∷ []) (omega arith))
                (before_pending done n x k (sym (slice_get-append_left earlier (n ∷ []) x lt) ∙ there))
            | inr le ↦
                let last : length earlier + 0 ≡ x = omega (arith, le, slice_get_within (earlier ++ n ∷ []) x k there, length-append earlier (n ∷ [])) in
                let same = same_Some n k (sym (slice_get-append_right earlier (n ∷ []) x 0 last) ∙ there) in
                rw yet (take_at earlier (n ∷ []) x (omega (arith, last)) ∙ ap (pending done) same)
          ]
    ]
