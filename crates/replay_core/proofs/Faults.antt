-- Which fault goes out at an end by an error.
use Rattle.std.proofs.Common.{◌≡◌, Bool, true, false, Result, Ok, Err, IsErrAnd}
use Rattle.std.specs.Prelude.{◌≢◌, ◌↔◌, IfErr}
use Rattle.replay_core.specs.declared.round.RoundFault.{RoundFault}
use Rattle.replay_core.specs.declared.round.RoundFault.TheVariants as faults
use Rattle.replay_core.specs.declared.serial.ReplayFault.{ReplayFault}
use Rattle.replay_core.specs.declared.serial.ReplayFault.TheVariants as refused

-- a fault that is given on is none but the one that was given
pub given_on : {X Y E : Type 0} (out : Result X E) (fault other : E) → IsErrAnd out (λ e. e ≡ fault) → (◌≡◌ {A = Result Y E} (Err fault) (Err other) → ⊥) → out ≢ Err other
given_on (Ok x) fault other h never same = absurd h
given_on (Err e) fault other h never same = never (cc (h, same))

-- where memory was refused, no thread was
pub no_memory : {X : Type 0} (out : Result X RoundFault) → IsErrAnd out (λ e. e ≡ faults.Memory) → out ≢ Err faults.NoThread
no_memory (Ok x) h same = absurd h
no_memory (Err e) h same = cc (h, same)

-- what a fault that is given on tells, the one that was given told
pub given_alike : {X Y E P : Type 0} (out : Result X E) (fault other : E) → IsErrAnd out (λ e. e ≡ fault) → ◌≡◌ {A = Result Y E} (Err fault) (Err other) ↔ P → out ≡ Err other ↔ P
given_alike (Ok x) fault other h told = absurd h
given_alike (Err e) fault other h told = (λ same. told.0 (cc (h, same)), λ p. cc (h, told.1 p))

-- whether a fault is that of a number
abbrev pub of_numbers : ReplayFault → Bool
of_numbers refused.Workers = true
of_numbers refused.Window = true
of_numbers refused.Memory = false
of_numbers refused.NoThread = false

-- what the test of a number hasn't told, no later fault tells
pub not_told : {X Y P : Type 0} (out : Result X ReplayFault) (fault : ReplayFault) (y : Y) → IfErr out (λ e. of_numbers e ≡ false) → of_numbers fault ≡ true → ◌≡◌ {A = Result Y ReplayFault} (Ok y) (Err fault) ↔ P → out ≡ Err fault ↔ P
not_told (Ok x) fault y other number told = (λ same. cc same, λ p. cc (told.1 p))
not_told (Err e) fault y other number told = (λ same. cc (same, other, number), λ p. cc (told.1 p))

-- what has gone well gives no fault
pub went_well : {X E : Type 0} (x : X) (fault : E) → Ok x ≢ Err fault
went_well x fault same = cc same
