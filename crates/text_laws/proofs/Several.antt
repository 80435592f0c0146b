-- Several values are read one after another, each from the lines that show it.
use Rattle.std.proofs.Common.{◌≡◌, ℕ, zero, suc, ◌+◌, ◌<◌, ◌≤◌, ◌^◌, List, [], ◌∷◌, ◌++◌, length, Option, None, Some, Result, Ok, refl, sym, ap, subst, ◌∙◌, append_assoc, append-nil, arith}
use Rattle.std.proofs.lemmas.List.{length-append}
use Rattle.text_words.specs.declared.fault.Fault.{Fault}
use Rattle.text_words.specs.Read.{Rest, repeated}
use Rattle.text_laws.specs.Words.{rest as left}
use Rattle.text_laws.proofs.Chains.{stops_at}

-- what is read so far: values, the lines that make bytes, and what is left
abbrev pub State : Type 0 → Type 0
State X = List X × List ℕ × Rest

-- the lines of several values, each by what came before it
abbrev pub each_shown : {X : Type 0} → (List X → X → List ℕ) → List X → List X → List ℕ
each_shown show earlier [] = []
each_shown show earlier (x ∷ xs) = show earlier x ++ each_shown show (earlier ++ x ∷ []) xs

-- how much room they take
abbrev pub total : {X : Type 0} → (X → ℕ) → List X → ℕ
total cost [] = 0
total cost (x ∷ xs) = cost x + total cost xs

-- each fits what came before it
abbrev pub Each : {X : Type 0} → (List X → X → Type 0) → List X → List X → Type 0
Each Fits earlier [] = Unit {0}
Each Fits earlier (x ∷ xs) = Fits earlier x × Each Fits (earlier ++ x ∷ []) xs

-- a state that is read, whatever lines were noted
pub record Came {X : Type 0} (read : Result (State X) Fault) (xs : List X) (rest : Rest) : Type 0 where
  pub marks : List ℕ
  pub is : read ≡ Ok (xs, marks, rest)

pub record Went {X : Type 0} (read : Option (Result (State X) Fault)) (xs : List X) (rest : Rest) : Type 0 where
  pub marks : List ℕ
  pub is : read ≡ Some (Ok (xs, marks, rest))

-- A step reads one value from its lines, and there is none at the end. What follows a value passes a test, as what shows one does.
pub record Steps {X : Type 0} (step : State X → Option (Result (State X) Fault)) (show : List X → X → List ℕ) (cost : X → ℕ)
    (Fits : List X → X → Type 0) (Follows : List ℕ → Type 0) : Type 0 where
  pub goes : (earlier : List X) (x : X) (marks more : List ℕ) (room : ℕ) → Fits earlier x → Follows more → cost x + room < 2 ^ 64
      → Went (step (earlier, marks, left (show earlier x ++ more) (cost x + room))) (earlier ++ x ∷ []) (left more room)
  pub heads : (earlier : List X) (x : X) (more : List ℕ) → Fits earlier x → Follows (show earlier x ++ more)
  pub shows : (earlier : List X) (x : X) → 0 < length (show earlier x)

follows : {X : Type 0} {step : State X → Option (Result (State X) Fault)} {show : List X → X → List ℕ} {cost : X → ℕ}
    {Fits : List X → X → Type 0} {Follows : List ℕ → Type 0}
    → Steps step show cost Fits Follows → (earlier xs : List X) (rest : List ℕ) → Each Fits earlier xs → Follows rest
    → Follows (each_shown show earlier xs ++ rest)
follows steps earlier [] rest each h = h
follows {show = show} {Follows = Follows} steps earlier (x ∷ xs) rest each h =
    let more = each_shown show (earlier ++ x ∷ []) xs in
    subst Follows (sym (append_assoc (show earlier x) more rest)) (steps.heads earlier x (more ++ rest) each.0)

abbrev done : {X : Type 0} → List X → List ℕ → Rest → Result (State X) Fault
done xs marks rest = Ok (xs, marks, rest)

went_on : {X : Type 0} (step : State X → Option (Result (State X) Fault)) (n : ℕ) (s next : State X) → step s ≡ Some (Ok next)
    → repeated (suc n) step s ≡ repeated n step next
went_on step n s next one = rw (repeated, one) refl

steps_come : {X : Type 0} {step : State X → Option (Result (State X) Fault)} {show : List X → X → List ℕ} {cost : X → ℕ}
    {Fits : List X → X → Type 0} {Follows : List ℕ → Type 0}
    → Steps step show cost Fits Follows → (n : ℕ) (earlier xs : List X) (marks rest : List ℕ) (room : ℕ) → length xs ≤ n → total cost xs + room < 2 ^ 64
    → Each Fits earlier xs → Follows rest
    → ((all : List X) (noted : List ℕ) → step (all, noted, left rest room) ≡ None)
    → Came (repeated n step (earlier, marks, left (each_shown show earlier xs ++ rest) (total cost xs + room))) (earlier ++ xs) (left rest room)
steps_come {step = step} steps n earlier [] marks rest room le small each ends stop =
    let zero_room : 0 + room ≡ room = omega arith in
    record {
      marks = marks;
      is = ap (λ (k : ℕ). repeated n step (earlier, marks, left rest k)) zero_room ∙ stops_at step n (earlier, marks, left rest room) (stop earlier marks)
          ∙ ap (λ l. done l marks (left rest room)) (sym (append-nil earlier));
    }
steps_come {step = step} steps zero earlier (x ∷ xs) marks rest room le small each ends stop = absurd (omega arith)
steps_come {X = X} {step = step} {show = show} {cost = cost} {Follows = Follows} steps (suc n) earlier (x ∷ xs) marks rest room le small each ends stop =
    let more = each_shown show (earlier ++ x ∷ []) xs in
    let after = follows steps (earlier ++ x ∷ []) xs rest each.1 ends in
    let one = steps.goes earlier x marks (more ++ rest) (total cost xs + room) each.0 after (omega (arith, small)) in
    let tail = steps_come steps n (earlier ++ x ∷ []) xs one.marks rest room (omega arith) (omega (arith, small)) each.1 ends stop in
    let moved : cost x + total cost xs + room ≡ cost x + (total cost xs + room) = omega arith in
    record {
      marks = tail.marks;
      is = ap (λ (t : List ℕ). repeated (suc n) step (earlier, marks, left t (cost x + total cost xs + room))) (append_assoc (show earlier x) more rest)
          ∙ ap (λ (k : ℕ). repeated (suc n) step (earlier, marks, left (show earlier x ++ (more ++ rest)) k)) moved
          ∙ went_on step n _ _ one.is ∙ tail.is ∙ ap (λ l. done l tail.marks (left rest room)) (append_assoc earlier (x ∷ []) xs);
    }

-- the text of several values has at least as many bytes as there are values
many : {X : Type 0} {step : State X → Option (Result (State X) Fault)} {show : List X → X → List ℕ} {cost : X → ℕ}
    {Fits : List X → X → Type 0} {Follows : List ℕ → Type 0}
    → Steps step show cost Fits Follows → (earlier xs : List X) (rest : List ℕ) → length xs ≤ length (each_shown show earlier xs ++ rest)
many steps earlier [] rest = omega arith
many {show = show} steps earlier (x ∷ xs) rest =
    let more = each_shown show (earlier ++ x ∷ []) xs in
    omega (
      arith,
      many steps (earlier ++ x ∷ []) xs rest,
      steps.shows earlier x,
      length-append (show earlier x ++ more) rest,
      length-append (show earlier x) more,
      length-append more rest,
    )

-- all values of a list, with the fuel that readings have
pub all_come : {X : Type 0} {step : State X → Option (Result (State X) Fault)} {show : List X → X → List ℕ} {cost : X → ℕ}
    {Fits : List X → X → Type 0} {Follows : List ℕ → Type 0}
    → Steps step show cost Fits Follows → (xs : List X) (marks rest : List ℕ) (room : ℕ) → total cost xs + room < 2 ^ 64 → Each Fits [] xs → Follows rest
    → ((all : List X) (noted : List ℕ) → step (all, noted, left rest room) ≡ None)
    → Came (repeated (length (each_shown show [] xs ++ rest)) step ([], marks, left (each_shown show [] xs ++ rest) (total cost xs + room))) xs (left rest room)
all_come {show = show} steps xs marks rest room small each ends stop =
    steps_come steps (length (each_shown show [] xs ++ rest)) [] xs marks rest room (many steps [] xs rest) small each ends stop
