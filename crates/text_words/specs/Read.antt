-- The model: what it is to read a text: a value, or the first fault.
use Rattle.std.specs.Prelude.{◌≡◌, ℕ, zero, suc, Bool, List, [], ◌∷◌, Option, None, Some, Result, Ok, Err, if◌then◌else◌}
use Rattle.text_words.specs.declared.fault.Fault.{Fault}
use Rattle.text_words.specs.declared.fault.Reason.{Reason}
use Rattle.text_words.specs.declared.fault.ReadError.{ReadError}
use Rattle.text_words.specs.declared.fault.ReadError.TheVariants as errors
use Rattle.text_words.specs.declared.source.Source.{Source}
use Rattle.text_words.specs.declared.source.Word.{Word as WordOf}

-- What is left of a text, and how many bytes its strings may still mean.
pub record Rest : Type 0 where
  pub text : List ℕ
  pub room : ℕ

-- A word, and how many bytes of the text are left from its first one on.
pub record Word : Type 0 where
  pub bytes : List ℕ
  pub left : ℕ

-- what is wrong, where so many bytes are left
abbrev pub fault : Reason → ℕ → Fault
fault reason left = record { reason = reason; left = left }

-- what follows a value; the first fault stands: `do` is written with it
infixl 10 ◌>>=◌
abbrev pub ◌>>=◌ : {A B F : Type 0} → Result A F → (A → Result B F) → Result B F
(Ok x) >>= f = f x
(Err e) >>= f = Err e

-- a fault where a test holds
abbrev pub refuse_if : {F : Type 0} → Bool → F → Result Bool F
refuse_if b f = if b then Err f else Ok b

-- a value that is there, or a fault
abbrev pub known : {A F : Type 0} → Option A → F → Result A F
known (Some x) f = Ok x
known None f = Err f

-- why there is no number, told where a word begins
abbrev pub told_at : {A : Type 0} → ℕ → Result A Reason → Result A Fault
told_at left (Ok x) = Ok x
told_at left (Err why) = Err (fault why left)

-- a step, if there is one more, and what follows it
abbrev pub if_any : {S F : Type 0} → Option (Result S F) → S → (S → Result S F) → Result S F
if_any None s next = Ok s
if_any (Some step) s next = step >>= next

-- steps from a state on, as long as there is one more: so many at most
abbrev pub repeated : {S F : Type 0} → ℕ → (S → Option (Result S F)) → S → Result S F
repeated zero step s = Ok s
repeated (suc n) step s = if_any (step s) s (repeated n step)

-- each of some values taken in turn, from a state on
abbrev pub taken : {S X F : Type 0} → (S → X → Result S F) → S → List X → Result S F
taken step s [] = Ok s
taken step s (x ∷ xs) = step s x >>= λ next. taken step next xs

-- What a function returned, seen by view, is what reading gives, unless memory ran out.
abbrev pub Fails : {Y : Type 0} → ReadError → Result Y Fault → Type 0
Fails errors.OutOfMemory read = Unit {0}
Fails (errors.Fault f) read = read ≡ Err f

-- the value, seen by view, is what reading gives, and so is the fault
abbrev pub Gives : {X Y : Type 0} → (X → Y) → Result X ReadError → Result Y Fault → Type 0
Gives view (Ok x) read = read ≡ Ok (view x)
Gives view (Err e) read = Fails e read

-- what is left of a text, and a word, as code has them
abbrev pub rest_of : Source → Rest
rest_of s = record { text = s.rest.now; room = s.room }

abbrev pub word_of : WordOf → Word
word_of w = record { bytes = w.bytes.now; left = w.left }
