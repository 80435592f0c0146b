-- The number that digits are, one after another.
use Rattle.std.proofs.Common.{◌≡◌, true, false, ℕ, zero, suc, ◌+◌, ◌-◌, ◌*◌, ◌^◌, ◌<◌, ◌≤◌, List, [], ◌∷◌, length, get_or, take, sym, ap, subst, ◌∙◌, take_all, arith}
use Rattle.std.specs.Prelude.{Option, None, Some}
use Rattle.std.specs.Fmt.{decimal}
use Rattle.std.specs.Char.{digit_value}
use Rattle.std.specs.Int.{IsInRange}
use Rattle.std.specs.Str.Parse.{AllDigits, digits_value}
use Rattle.std.proofs.lemmas.Fmt.{decimal-digits_value, decimal_digit, decimal_is_IsNumeral, first_decimal}
use Rattle.std.proofs.lemmas.Int.Digits.{digits_value_more}
use Rattle.std.proofs.lemmas.Str.{digit_value_digit}
use Rattle.std.proofs.lemmas.Str.Parse.{digit_from_value, digits_value-take-le, numerals_by_value, tells_digits}

all_at : (ds : List ℕ) (i : ℕ) → i < length ds → AllDigits 10 ds → IsInRange 48 57 (get_or ds i 0)
all_at [] i lt all = absurd (omega arith)
all_at (d ∷ ds) zero lt all = digit_from_value d all.0
all_at (d ∷ ds) (suc i) lt all = all_at ds i (omega arith) all.1

all_more : (ds : List ℕ) (i : ℕ) → i < length ds → IsInRange 48 57 (get_or ds i 0) → AllDigits 10 (take i ds) → AllDigits 10 (take (i + 1) ds)
all_more [] i lt is all = absurd (omega arith)
all_more (d ∷ ds) zero lt is all = (omega (arith, digit_value_digit d is), tt)
all_more (d ∷ ds) (suc i) lt is all =
    let e : suc i + 1 ≡ suc (i + 1) = omega arith in
    subst (λ (n : ℕ). AllDigits 10 (take n (d ∷ ds))) (sym e) (all.0, all_more ds i (omega arith) is all.1)

-- what is known of the first digits, and the number that they are
pub record AreRead (ds : List ℕ) (i n : ℕ) : Type 0 where
  pub digits : AllDigits 10 (take i ds)
  pub value : n ≡ digits_value 10 (take i ds)

pub read_more : (ds : List ℕ) (i n : ℕ) → i < length ds → 48 ≤ get_or ds i 0 → get_or ds i 0 ≤ 57 → AreRead ds i n
    → AreRead ds (i + 1) (n * 10 + (get_or ds i 0 - 48))
read_more ds i n lt low high read =
    let d = get_or ds i 0 in
    let v = digit_value_digit d (low, high) in
    record {
      digits = all_more ds i lt (low, high) read.digits;
      value = let e : n * 10 + (d - 48) ≡ n * 10 + digit_value d = omega (arith, v) in
          e ∙ ap (λ (m : ℕ). m * 10 + digit_value d) read.value ∙ sym (digits_value_more 10 ds i lt);
    }

-- all of them are the number in decimal digits
pub read_all : (ds : List ℕ) (i n : ℕ) → length ds ≤ i → n < 2 ^ 64 → 0 < length ds → (get_or ds 0 0 ≡ 48 → length ds ≡ 1) → AreRead ds i n → ds ≡ decimal n
read_all ds i n past small some lead read =
    let whole = take_all i ds past in
    let digits : AllDigits 10 ds = subst (AllDigits 10) whole read.digits in
    let value : n ≡ digits_value 10 ds = read.value ∙ ap (digits_value 10) whole in
    sym (ap decimal value ∙ decimal-digits_value (numerals_by_value _ tells_digits) ds digits some lead (subst (λ (m : ℕ). m < 2 ^ 64) value small))

-- the digits of a number: it has some, and the first is 0 only where it is alone
pub begins_well : (ds : List ℕ) (k : ℕ) → k < 2 ^ 64 → ds ≡ decimal k → (0 < length ds) × (get_or ds 0 0 ≡ 48 → length ds ≡ 1)
begins_well ds zero lt is = let e = is ∙ decimal_digit 0 (omega arith) in (subst (λ (l : List ℕ). 0 < length l) (sym e) (omega arith), λ z. ap length e)
begins_well ds (suc k) lt is =
    let read = decimal_is_IsNumeral (suc k) (omega arith) in
    let first = first_decimal (suc k) (omega arith) (omega arith) in
    (subst (λ (l : List ℕ). 0 < length l) (sym is) read.0.0, λ z. absurd (omega (arith, first, ap (λ (l : List ℕ). get_or l 0 0) is)))

pub digit_of : (ds : List ℕ) (k i : ℕ) → k < 2 ^ 64 → ds ≡ decimal k → i < length ds → (48 ≤ get_or ds i 0) × (get_or ds i 0 ≤ 57)
digit_of ds k i lt is here = all_at ds i here (subst (AllDigits 10) (sym is) (decimal_is_IsNumeral k (omega arith)).0.1)

-- no more than the number is read
pub read_within : (ds : List ℕ) (k i n : ℕ) → k < 2 ^ 64 → ds ≡ decimal k → AreRead ds i n → n ≤ k
read_within ds k i n lt is read =
    let whole : digits_value 10 ds ≡ k = ap (digits_value 10) is ∙ (decimal_is_IsNumeral k (omega arith)).1 in
    omega (arith, read.value, whole, digits_value-take-le 10 ds i (omega arith))

pub read_is : (ds : List ℕ) (k i n : ℕ) → k < 2 ^ 64 → ds ≡ decimal k → length ds ≤ i → AreRead ds i n → n ≡ k
read_is ds k i n lt is past read =
    read.value ∙ ap (digits_value 10) (take_all i ds past ∙ is) ∙ (decimal_is_IsNumeral k (omega arith)).1

pub not_so : {P : Type 0} → false ≡ true → P
not_so e = cc

pub none_is : {P : Type 0} {n : ℕ} → (let none : Option ℕ = None in none) ≡ Some n → P
none_is e = cc
