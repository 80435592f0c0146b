-- The first unfinished places, before a round and after it.
use Rattle.std.proofs.Common.{◌≡◌, ℕ, zero, suc, ◌+◌, ◌-◌, ◌<◌, ◌≤◌, Bool, true, false, List, [], ◌∷◌, ◌++◌, take, filter, length, ◌⊎◌, inl, inr, refl, sym, ap, subst, ◌∙◌, Some, arith, slice_index_or, get_or}
use Rattle.std.specs.Prelude.{not, cond, slice_get, All}
use Rattle.std.specs.List.{range_with_len}
use Rattle.std.proofs.lemmas.Bool.{false_from_ne_true}
use Rattle.std.proofs.lemmas.List.{append_assoc, take_all}
use Rattle.std.proofs.lemmas.List.Elements.{filter-append}
use Rattle.std.proofs.lemmas.Option.{get_or_from_slice_get}
use Rattle.interleaving.specs.Machine.{State, has, opening}
use Rattle.interleaving.specs.Rounds.{pending, in_turn}
use Rattle.interleaving.proofs.Members.{has-here, has-later, has-cases, has-pending, has-filter, has-front, has-back, has-either}
use Rattle.interleaving.proofs.Onwards.{stays_finished, finished_by, pending-later, range-snoc, pending-all}
use Rattle.recording.specs.declared.recording.Recording.{Recording}
use Rattle.recording.specs.Steps.{places}
use Rattle.recording.specs.Accepted.{IsAccepted}
use Rattle.foot_print.specs.Replayed.{replayed}
use Rattle.wave_pick.specs.Rounds.{state_after, wave_after}
use Rattle.replay_core.specs.Progressing.{IsFront}
use Rattle.replay_core.proofs.Stepping.{next_state}

-- Ranges.
in_range : (a n k : ℕ) → has (range_with_len a n) k ≡ true → (a ≤ k) × (k < a + n)
in_range a zero k h = (cc)
in_range a (suc n) k h = go (has-cases k a (range_with_len (a + 1) n) h) (in_range (a + 1) n k)
  where
    go : (k ≡ a) ⊎ (has (range_with_len (a + 1) n) k ≡ true) → (has (range_with_len (a + 1) n) k ≡ true → (a + 1 ≤ k) × (k < (a + 1) + n)) → (a ≤ k) × (k < a + suc n)
    go (inl e) later = (omega (arith, e), omega (arith, e))
    go (inr m) later = let l = later m in (omega (arith, l.0), omega (arith, l.1))

-- Tests that are the same on a list.
pub filter-same : (p q : ℕ → Bool) (xs : List ℕ) → ((k : ℕ) → has xs k ≡ true → p k ≡ q k) → filter p xs ≡ filter q xs
filter-same p q [] h = refl
filter-same p q (x ∷ xs) h = λ i. cond (h x (has-here x xs) i) (x ∷ filter-same p q xs (λ k m. h k (has-later k x xs m)) i) (filter-same p q xs (λ k m. h k (has-later k x xs m)) i)

pub filter-all : (p : ℕ → Bool) (xs : List ℕ) → ((k : ℕ) → has xs k ≡ true → p k ≡ true) → filter p xs ≡ xs
filter-all p [] h = refl
filter-all p (x ∷ xs) h = ap (λ b. cond b (x ∷ filter p xs) (filter p xs)) (h x (has-here x xs)) ∙ ap (λ zs. x ∷ zs) (filter-all p xs (λ k m. h k (has-later k x xs m)))

take-within : (w : ℕ) (xs ys : List ℕ) → length xs ≤ w → (length xs ≡ w) ⊎ (ys ≡ []) → take w (xs ++ ys) ≡ xs
take-within zero [] ys h f = refl
take-within (suc w) [] [] h f = refl
take-within (suc w) [] (y ∷ ys) h (inl e) = absurd (omega (arith, e))
take-within (suc w) [] (y ∷ ys) h (inr e) = (cc)
take-within zero (x ∷ xs) ys h f = absurd (omega arith)
take-within (suc w) (x ∷ xs) ys h f = ap (λ zs. x ∷ zs) (take-within w xs ys (omega arith) (less f))
  where
    less : (suc (length xs) ≡ suc w) ⊎ (ys ≡ []) → (length xs ≡ w) ⊎ (ys ≡ [])
    less (inl e) = inl (omega (arith, e))
    less (inr e) = inr e

module _ (t : Recording) (window : ℕ) (x : State (replayed t)) (front : List ℕ) (next : ℕ) (h : IsFront t window x front next) where
  empty_behind : (length front ≡ window) ⊎ (next ≡ places t) → (length front ≡ window) ⊎ (range_with_len next (places t - next) ≡ [])
  empty_behind (inl e) = inl e
  empty_behind (inr e) =
      let none : places t - next ≡ 0 = omega (arith, e) in
      inr (ap (range_with_len next) none)

  -- the front is what the window has of all pending places
  pub front_is : take window (pending (has x.finished) (places t)) ≡ front
  front_is = ap (take window) h.all ∙ take-within window front (range_with_len next (places t - next)) h.few (empty_behind h.full)

  pub same_window : take window front ≡ take window (pending (has x.finished) (places t))
  same_window = take_all window front h.few ∙ sym front_is

  -- its places are unfinished ones of the trace
  pub front_open : (k : ℕ) → has front k ≡ true → (k < places t) × (has x.finished k ≡ false)
  front_open k m = has-pending (has x.finished) (places t) k (ap (λ ks. has ks k) h.all ∙ has-front front (range_with_len next (places t - next)) k m)

  pub behind_open : (k : ℕ) → has (range_with_len next (places t - next)) k ≡ true → has x.finished k ≡ false
  behind_open k m = (has-pending (has x.finished) (places t) k (ap (λ ks. has ks k) h.all ∙ has-back front (range_with_len next (places t - next)) k m)).1

-- Every element, by membership.
has-get : (xs : List ℕ) (k d : ℕ) → k < length xs → has xs (get_or xs k d) ≡ true
has-get [] k d lt = absurd (omega arith)
has-get (x ∷ xs) zero d lt = has-here x xs
has-get (x ∷ xs) (suc k) d lt = has-later (get_or xs k d) x xs (has-get xs k d (omega arith))

pub all_of : (P : ℕ → Type 0) (xs : List ℕ) → ((k : ℕ) → has xs k ≡ true → P k) → All P xs
all_of P xs h k d lt = h (get_or xs k d) (has-get xs k d lt)

split-range : (a b n : ℕ) → range_with_len a (b + n) ≡ range_with_len a b ++ range_with_len (a + b) n
split-range a zero n =
    let e : 0 + n ≡ n = omega arith in
    let f : a ≡ a + 0 = omega arith in
    (λ i. range_with_len (f i) (e i))
split-range a (suc b) n =
    let e : suc b + n ≡ suc (b + n) = omega arith in
    let f : (a + 1) + b ≡ a + suc b = omega arith in
    ap (range_with_len a) e ∙ ap (λ zs. a ∷ zs) (split-range (a + 1) b n) ∙ ap (λ z. (a ∷ range_with_len (a + 1) b) ++ range_with_len z n) f

module _ (t : Recording) (spelled : IsAccepted t) (window r : ℕ) (front : List ℕ) (next : ℕ) (h : IsFront t window (state_after t window r) front next) where
  abbrev x : State (replayed t)
  x = state_after t window r

  abbrev y : State (replayed t)
  y = state_after t window (r + 1)

  abbrev open_still : ℕ → Bool
  open_still k = not (has y.finished k)

  grows : (k : ℕ) → has x.finished k ≡ true → has y.finished k ≡ true
  grows k f = subst (λ (z : State (replayed t)). has z.finished k ≡ true) (next_state t window r) (stays_finished (replayed t) x (in_turn (wave_after t window r)) k f)

  -- a chosen place is one of the front
  chosen_in_front : (k : ℕ) → has (wave_after t window r) k ≡ true → has front k ≡ true
  chosen_in_front k m = ap (λ ks. has ks k) (sym (front_is t window x front next h)) ∙ (has-filter (Rattle.interleaving.specs.Machine.is_free (replayed t) x) (take window (pending (has x.finished) (places t))) k m).1

  behind_still : (k : ℕ) → has (range_with_len next (places t - next)) k ≡ true → open_still k ≡ true
  behind_still k m = ap not (false_from_ne_true (has y.finished k) (λ f. go (finished_by (replayed t) (wave_after t window r) x k (subst (λ (z : State (replayed t)). has z.finished k ≡ true) (sym (next_state t window r)) f))))
    where
      go : (has (wave_after t window r) k ≡ true) ⊎ (has x.finished k ≡ true) → ⊥
      go (inl c) =
          let low = h.below k (chosen_in_front k c) in
          let high = (in_range next (places t - next) k m).0 in
          omega arith
      go (inr f) = let both : true ≡ false = sym f ∙ behind_open t window x front next h k m in (cc)

  pub pending_after : (left : List ℕ) → left ≡ filter open_still front → pending (has y.finished) (places t) ≡ left ++ range_with_len next (places t - next)
  pending_after left e =
      pending-later (has x.finished) (has y.finished) grows (places t) ∙ ap (filter open_still) h.all ∙ filter-append open_still front (range_with_len next (places t - next))
      ∙ (λ i. sym e i ++ filter-all open_still (range_with_len next (places t - next)) behind_still i)

  -- what is left of the front, by what is done
  pub left_is : (done : List Bool) → ((k : ℕ) → k < places t → slice_get done k ≡ Some (has y.finished k)) → filter (λ k. not (slice_index_or done k false)) front ≡ filter open_still front
  left_is done is = filter-same (λ k. not (slice_index_or done k false)) open_still front
      (λ k m. ap not (get_or_from_slice_get done k (has y.finished k) false (is k (front_open t window x front next h k m).0)))

  pub front_after : (left front' : List ℕ) (next' : ℕ) → left ≡ filter open_still front → next ≤ next' → next' ≤ places t → front' ≡ left ++ range_with_len next (next' - next)
      → length front' ≤ window → (length front' ≡ window) ⊎ (next' ≡ places t) → IsFront t window y front' next'
  front_after left front' next' e low high is few full =
      let parts : places t - next ≡ (next' - next) + (places t - next') = omega arith in
      let at : next + (next' - next) ≡ next' = omega arith in
      record {
        within = high;
        all = pending_after left e ∙ ap (λ n. left ++ range_with_len next n) parts ∙ ap (λ zs. left ++ zs) (split-range next (next' - next) (places t - next'))
            ∙ sym (append_assoc left (range_with_len next (next' - next)) (range_with_len (next + (next' - next)) (places t - next')))
            ∙ (λ i. sym is i ++ range_with_len (at i) (places t - next'));
        below = λ k m. below k (has-either left (range_with_len next (next' - next)) k (ap (λ ks. has ks k) (sym is) ∙ m));
        few = few;
        full = full;
      }
    where
      below : (k : ℕ) → (has left k ≡ true) ⊎ (has (range_with_len next (next' - next)) k ≡ true) → k < next'
      below k (inl m) = let b = h.below k (has-filter open_still front k (ap (λ ks. has ks k) (sym e) ∙ m)).1 in omega arith
      below k (inr m) = let b = (in_range next (next' - next) k m).1 in omega arith

-- Ranges that grow.
pub range-to : (a b : ℕ) → a ≤ b → range_with_len a (b + 1 - a) ≡ range_with_len a (b - a) ++ b ∷ []
range-to a b h =
    let n : b + 1 - a ≡ suc (b - a) = omega arith in
    let e : a + (b - a) ≡ b = omega arith in
    ap (range_with_len a) n ∙ range-snoc a (b - a) ∙ ap (λ z. range_with_len a (b - a) ++ z ∷ []) e

-- Before the first round.
pub front_first : (t : Recording) (window : ℕ) (front : List ℕ) (next : ℕ) → next ≤ places t → front ≡ range_with_len 0 (next - 0) → length front ≤ window → (length front ≡ window) ⊎ (next ≡ places t)
    → IsFront t window (opening (replayed t)) front next
front_first t window front next high is few full =
    let e : next - 0 ≡ next = omega arith in
    let parts : places t ≡ next + (places t - next) = omega arith in
    let at : 0 + next ≡ next = omega arith in
    record {
      within = high;
      all = pending-all (places t) ∙ ap (range_with_len 0) parts ∙ split-range 0 next (places t - next) ∙ (λ i. sym (is ∙ ap (range_with_len 0) e) i ++ range_with_len (at i) (places t - next));
      below = λ k m. let b = (in_range 0 (next - 0) k (ap (λ ks. has ks k) (sym is) ∙ m)).1 in omega arith;
      few = few;
      full = full;
    }
