-- Numbers in decimal, as words of the command line.
use Rattle.std.proofs.Common.{◌≡◌, ◌∙◌, ◌<◌, ◌≤◌, ◌^◌, ◌==◌, ℕ, Bool, true, false, List, [], ◌∷◌, None, Some, refl, ap, drop, cond, length, arith}
use Rattle.std.specs.Prelude.{◌||◌, not, pos, slice_index}
use Rattle.std.specs.Fmt.{decimal}
use Rattle.std.specs.Str.{bytes_eq}
use Rattle.std.specs.Str.Parse.{IsNumeral, signed_digits_value, starts_with_minus, without_leading_plus, without_leading_sign}
use Rattle.std.proofs.lemmas.Bool.{eqb-true, ne_eqb}
use Rattle.std.proofs.lemmas.Fmt.{decimal_is_IsNumeral}
use Rattle.std.proofs.lemmas.Int.{ints}
use Rattle.std.proofs.lemmas.Str.Parse.{digit_from_value}
use Rattle.clap.specs.Lexer.{strip_byte, long_of, short_of, without_minus}
use Rattle.clap.specs.ValueTests.{accepts}
use Rattle.clap.specs.Walk.{is_empty}
use Rattle.clap.specs.declared.builder.value_parser.ValueParser.TheVariants as vp
use Rattle.clap.proofs.ValueTestLemmas.{Accepts-accepts}
use Rattle.program_words.specs.Options.{is_name}

-- a number begins with a digit
first_byte : (ds : List ℕ) → IsNumeral 10 ds → (c : ℕ) → c < 48 → (slice_index ds 0 == c) ≡ false
first_byte [] h c lt = let none = h.0 in absurd (omega arith)
first_byte (d ∷ ds) h c lt = ne_eqb _ _ (λ e. omega (arith, digit_from_value d h.1.0))

no_hyphen : (ds : List ℕ) → IsNumeral 10 ds → strip_byte 45 ds ≡ None
no_hyphen [] h = refl
no_hyphen (d ∷ ds) h = ap (λ b. cond b (Some ds) None) (first_byte (d ∷ ds) h 45 (omega arith))

no_dashes : (ds : List ℕ) → IsNumeral 10 ds → bytes_eq ds (45 ∷ 45 ∷ []) ≡ false
no_dashes [] h = refl
no_dashes (d ∷ ds) h = rw (first_byte (d ∷ ds) h 45 (omega arith)) refl

-- a word that is no flag
pub record IsValue (word : List ℕ) : Type 0 where
  pub dashes : bytes_eq word (45 ∷ 45 ∷ []) ≡ false
  pub long : long_of word ≡ None
  pub short : short_of word ≡ None

number_is_value : (ds : List ℕ) → IsNumeral 10 ds → IsValue ds
number_is_value ds h = record { dashes = no_dashes ds h; long = rw (no_hyphen ds h) refl; short = rw (no_hyphen ds h) refl }

pub decimal_is_value : (n : ℕ) → n < 2 ^ 63 → IsValue (decimal n)
decimal_is_value n small = number_is_value (decimal n) (decimal_is_IsNumeral n (omega arith)).0

pub decimal_reads : (n : ℕ) → n < 2 ^ 63 → without_minus (decimal n) ≡ decimal n
decimal_reads n small = rw (no_hyphen (decimal n) (decimal_is_IsNumeral n (omega arith)).0) refl

-- the name of a file
name_by : (hyphen : Bool) (x : ℕ) (rest : List ℕ) → (x == 45) ≡ hyphen → (not hyphen || is_empty rest) ≡ true → IsValue (x ∷ rest)
name_by true x [] is h = record { dashes = rw is refl; long = rw is refl; short = rw is refl }
name_by true x (y ∷ rest) is h = let none = eqb-true (length (y ∷ rest)) 0 h in absurd (omega (arith, none))
name_by false x rest is h = record { dashes = rw is refl; long = rw is refl; short = rw is refl }

pub name_is_value : (text : List ℕ) → is_name text ≡ true → IsValue text
name_is_value [] h = record { dashes = refl; long = refl; short = refl }
name_is_value (x ∷ rest) h = name_by (x == 45) x rest refl h

-- a number within the limits of an option passes
pub accepted : (n most : ℕ) → 1 ≤ n → n ≤ most → most < 2 ^ 63 → accepts false (vp.Signed (pos 1) (pos most)) (decimal n) ≡ true
accepted n most low high small =
    let num = decimal_is_IsNumeral n (omega arith) in
    let minus : starts_with_minus (decimal n) ≡ false = first_byte (decimal n) num.0 45 (omega arith) in
    let plus : without_leading_plus (decimal n) ≡ decimal n = ap (λ b. drop (cond b 1 0) (decimal n)) (first_byte (decimal n) num.0 43 (omega arith)) in
    let plain : without_leading_sign (decimal n) ≡ decimal n = ap (λ b. cond b (drop 1 (decimal n)) (without_leading_plus (decimal n))) minus ∙ plus in
    let value : signed_digits_value 10 (decimal n) ≡ pos n = rw (minus, plus, num.1) refl in
    Accepts-accepts false (vp.Signed (pos 1) (pos most)) (decimal n)
    (rw plain num.0, rw value (record { sfits = omega arith }), rw value (omega (arith, ints)), rw value (omega (arith, ints)))
