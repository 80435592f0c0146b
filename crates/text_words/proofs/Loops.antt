-- Repeating steps, as a loop does.
use Rattle.std.proofs.Common.{◌≡◌, ℕ, zero, suc, ◌-◌, ◌+◌, ◌≤◌, ◌<◌, Option, None, Some, Result, Ok, Err, refl, sym, ◌∙◌, arith}
use Rattle.text_words.specs.Read.{repeated}

-- What is left to do, from the state on, gives what all was to give.
pub record Left {S F : Type 0} (step : S → Option (Result S F)) (count i : ℕ) (state start : S) : Type 0 where
  pub is : repeated (count - i) step state ≡ repeated count step start

pub begins : {S F : Type 0} (step : S → Option (Result S F)) (count : ℕ) (start : S) → Left step count 0 start start
begins step count start =
    let k : count - 0 ≡ count = omega arith in
    record { is = rw k refl }

pub goes_on : {S F : Type 0} {step : S → Option (Result S F)} {count i : ℕ} {state start next : S}
    → i < count → step state ≡ Some (Ok next) → Left step count i state start → Left step count (i + 1) next start
goes_on {count = count} {i = i} lt one left =
    let k : count - i ≡ suc (count - (i + 1)) = omega arith in
    record { is = sym (rw (k, repeated, one) refl) ∙ left.is }

-- there is no step more
stops_at : {S F : Type 0} (step : S → Option (Result S F)) (n : ℕ) (state : S) → step state ≡ None → repeated n step state ≡ Ok state
stops_at step zero state none = refl
stops_at step (suc n) state none = rw (repeated, none) refl

pub stops : {S F : Type 0} {step : S → Option (Result S F)} {count i : ℕ} {state start : S}
    → step state ≡ None → Left step count i state start → repeated count step start ≡ Ok state
stops {step = step} {count = count} {i = i} {state = state} none left = sym left.is ∙ stops_at step (count - i) state none

-- all steps are done
pub is_done : {S F : Type 0} {step : S → Option (Result S F)} {count i : ℕ} {state start : S}
    → count ≤ i → Left step count i state start → repeated count step start ≡ Ok state
is_done {count = count} {i = i} le left =
    let k : count - i ≡ 0 = omega arith in
    sym left.is ∙ rw k refl

-- a step has a fault
pub fails : {S F : Type 0} {step : S → Option (Result S F)} {count i : ℕ} {state start : S} {f : F}
    → i < count → step state ≡ Some (Err f) → Left step count i state start → repeated count step start ≡ Err f
fails {count = count} {i = i} lt broken left =
    let k : count - i ≡ suc (count - (i + 1)) = omega arith in
    sym left.is ∙ rw (k, repeated, broken) refl
