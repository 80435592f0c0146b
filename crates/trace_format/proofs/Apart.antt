-- What a text that a format spells is made of.
use Rattle.std.proofs.Common.{◌≡◌, ℕ, zero, suc, ◌+◌, ◌≤◌, Bool, true, false, List, [], ◌∷◌, ◌++◌, length, length-append, Option, sym, ap, subst, ◌∙◌, arith, inl, inr, ◌⊎◌, refl}
use Rattle.std.specs.Int.{Width}
use Rattle.std.specs.List.{All}
use Rattle.std.proofs.lemmas.Bool.{leb-true}
use Rattle.std.proofs.lemmas.Grind.{common_steps}
use Rattle.std.proofs.lemmas.List.{get_or-append-add}
use Rattle.std.proofs.lemmas.List.Elements.{All-push, All-nil}
use Rattle.sqe_codec.specs.Fields.{IsBytes}
use Rattle.trace_format.specs.declared.fault.TraceFault.{TraceFault}
use Rattle.trace_format.specs.Grammar.{Grammar, Done, Place, Test, Known, Choice, Then, Spells, number_to, several}

-- A front and a rest have what their text has.
pub record Keeps (B : List ℕ → Type 0) : Type 0 where
  pub front : (a b : List ℕ) → B (a ++ b) → B a
  pub rest : (a b : List ℕ) → B (a ++ b) → B b

-- any text
abbrev pub AnyText : List ℕ → Type 0
AnyText text = Unit {0}

pub keeps_any : Keeps AnyText
keeps_any = record { front = λ a b h. tt; rest = λ a b h. tt }

front_fits : (a b : List ℕ) → IsBytes (a ++ b) → IsBytes a
front_fits a b fits i = grind (arith, common_steps, fits i)

rest_fits : (a b : List ℕ) → IsBytes (a ++ b) → IsBytes b
rest_fits a b fits i = rw (← get_or-append-add a b i 0) (fits (length a + i))

pub keeps_bytes : Keeps IsBytes
keeps_bytes = record { front = front_fits; rest = rest_fits }

-- A value that a format spells, with its text.
pub record Own {A : Type 0} (B : List ℕ → Type 0) (g : Grammar A) (y : A) : Type 0 where
  pub place : ℕ
  pub text : List ℕ
  pub has : B text
  pub is : Spells g place text y

-- ---- parts with no text

module _ {X A : Type 0} {B : List ℕ → Type 0} {m : Grammar X} {k : X → Grammar A} {y : A} (o : Own B (Then m k) y) (none : o.is.0 ≡ []) where
  pub skips : Spells (k o.is.2) o.place o.text y
  skips =
      let s = o.is in
      let whole : o.text ≡ s.1 = s.3 ∙ ap (λ t. t ++ s.1) none in
      let same : o.place + length s.0 ≡ o.place = omega (arith, ap length none) in
      subst (λ t. Spells (k s.2) o.place t y) (sym whole) (subst (λ p. Spells (k s.2) p s.1 y) same s.5)

  abbrev past : Own B (k o.is.2) y
  past = record { place = o.place; text = o.text; has = o.has; is = skips }

module _ {A : Type 0} {B : List ℕ → Type 0} {y : A} where
  abbrev pub at_place : {k : ℕ → Grammar A} (o : Own B (Then Place k) y) → Own B (k o.is.2) y
  at_place o = past o o.is.4.0

  abbrev pub at_test : {b : Bool} {f : TraceFault} {k : Bool → Grammar A} (o : Own B (Then (Test b f) k) y) → Own B (k o.is.2) y
  at_test o = past o o.is.4.0

  pub test_passed : {b : Bool} {f : TraceFault} {k : Bool → Grammar A} → Own B (Then (Test b f) k) y → b ≡ true
  test_passed o = o.is.4.1

  abbrev pub at_known : {X : Type 0} {known : Option X} {f : TraceFault} {k : X → Grammar A} (o : Own B (Then (Known known f) k) y) → Own B (k o.is.2) y
  at_known o = past o o.is.4.0

  pub at_done : {x : A} (o : Own B (Done x) y) → (o.text ≡ []) × (y ≡ x)
  at_done o = o.is

  -- The one that is chosen has the whole text.
  pub at_choice : {b : Bool} {m n : Grammar A} (o : Own B (Choice b m n) y)
      → ((b ≡ true) × (p : Own B m y) × (p.text ≡ o.text)) ⊎ ((b ≡ false) × (p : Own B n y) × (p.text ≡ o.text))
  at_choice o = elim o.is [
    | inl h ↦ inl (h.0, record { place = o.place; text = o.text; has = o.has; is = h.1 }, refl)
    | inr h ↦ inr (h.0, record { place = o.place; text = o.text; has = o.has; is = h.1 }, refl)
  ]

-- ---- one part after the other

-- A format's value, and what follows it.
pub record Apart {X A : Type 0} (B : List ℕ → Type 0) (m : Grammar X) (k : X → Grammar A) (text : List ℕ) (y : A) : Type 0 where
  pub x : X
  pub own : Own B m x
  pub after : Own B (k x) y
  pub whole : text ≡ own.text ++ after.text

pub apart : {X A : Type 0} {B : List ℕ → Type 0} {m : Grammar X} {k : X → Grammar A} {y : A} → Keeps B → (o : Own B (Then m k) y) → Apart B m k o.text y
apart {B = B} keeps o =
    let s = o.is in
    let both : B (s.0 ++ s.1) = subst B s.3 o.has in
    record {
      x = s.2;
      own = record { place = o.place; text = s.0; has = keeps.front s.0 s.1 both; is = s.4 };
      after = record { place = o.place + length s.0; text = s.1; has = keeps.rest s.0 s.1 both; is = s.5 };
      whole = s.3;
    }

-- A claim of the whole value, by a part whose value is only named and what follows that.
pub onward : {X A C : Type 0} {B : List ℕ → Type 0} {m : Grammar X} {k : X → Grammar A} {y : A}
    → Keeps B → Own B (Then m k) y → ((x : X) → Own B m x → Own B (k x) y → C) → C
onward keeps o more =
    let p = apart keeps o in
    more p.x p.own p.after

-- a number is within its limit
pub within_limit : {B : List ℕ → Type 0} → Keeps B → (w : Width) (limit n : ℕ) → Own B (number_to w limit) n → n ≤ limit
within_limit keeps w limit n o =
    let read = apart keeps (at_place o) in
    subst (λ m. m ≤ limit) (sym (at_done (at_test read.after)).1) (leb-true read.x limit (test_passed read.after))

-- ---- several

-- What holds of those before, and stays with one more, holds of several.
pub of_several : {X : Type 0} {B : List ℕ → Type 0} (Q : List X → Type 0) (next : List X → Grammar X) → Keeps B
    → ((earlier : List X) (x : X) → Q earlier → Own B (next earlier) x → Q (earlier ++ x ∷ []))
    → (n : ℕ) (earlier xs : List X) → Q earlier → Own B (several n next earlier) xs → Q xs
of_several Q next keeps step zero earlier xs q o = subst Q (sym (at_done o).1) q
of_several Q next keeps step (suc n) earlier xs q o =
    let p = apart keeps o in
    of_several Q next keeps step n (earlier ++ p.x ∷ []) xs (step earlier p.x q p.own) p.after

-- What holds of each value of a format holds of each of several.
pub each : {X : Type 0} {B : List ℕ → Type 0} (P : X → Type 0) (next : List X → Grammar X) → Keeps B
    → ((earlier : List X) (x : X) → Own B (next earlier) x → P x) → (n : ℕ) (xs : List X) → Own B (several n next []) xs → All P xs
each P next keeps one n xs o = of_several (All P) next keeps (λ earlier x all own. All-push P earlier x all (one earlier x own)) n [] xs (All-nil P) o

-- how many several are
length-several_from : {X : Type 0} {B : List ℕ → Type 0} (next : List X → Grammar X) → Keeps B
    → (n : ℕ) (earlier xs : List X) → Own B (several n next earlier) xs → length xs ≡ length earlier + n
length-several_from next keeps zero earlier xs o = omega (arith, ap length (at_done o).1)
length-several_from next keeps (suc n) earlier xs o =
    let p = apart keeps o in
    omega (arith, length-several_from next keeps n (earlier ++ p.x ∷ []) xs p.after, length-append earlier (p.x ∷ []))

pub length-several : {X : Type 0} {B : List ℕ → Type 0} (next : List X → Grammar X) (n : ℕ) (xs : List X)
    → Keeps B → Own B (several n next []) xs → length xs ≡ n
length-several next n xs keeps o = omega (arith, length-several_from next keeps n [] xs o)
