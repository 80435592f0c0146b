-- Numbers are read as they are shown.
use Rattle.std.proofs.Common.{◌≡◌, ℕ, zero, suc, ◌+◌, ◌-◌, ◌<◌, ◌≤◌, ◌^◌, Bool, true, false, eqb, List, [], ◌∷◌, length, get_or, None, Ok, inl, inr, refl, sym, ap, ◌∙◌, arith}
use Rattle.std.specs.Prelude.{nat_eq, nat_lt, ◌==◌, ◌&&◌, codes, slice_index}
use Rattle.std.specs.List.{list_all, list_any, position_from, slice_split, starts_with}
use Rattle.std.specs.Str.{bytes_eq}
use Rattle.std.specs.Fmt.{decimal, digits}
use Rattle.std.proofs.lemmas.Bool.{and_left, and_parts, and_right, cases_Bool, le-leb, le-ltb, ltb-true, ne_eqb}
use Rattle.std.proofs.lemmas.Fmt.{decimal_digit, first_decimal}
use Rattle.text_forms.specs.Numbers.{hexadecimal}
use Rattle.trace_text.specs.declared.names.FlagSet.{FlagSet}
use Rattle.trace_text.specs.declared.names.FlagSet.TheVariants.{Open, Transfer, Sync, Rename, Unlink, Link, Allocate}
use Rattle.trace_text.specs.Names.{flag_names}
use Rattle.text_words.specs.declared.fault.Reason.{Reason}
use Rattle.text_words.specs.declared.numbers.Style.{Style}
use Rattle.text_words.specs.declared.numbers.Style.TheVariants.{Plain, Descriptor, Flags}
use Rattle.text_words.specs.Numbers.{count_at, digits_of, flag_of, greatest, more_parts, named, no_number, number_at, number_in, part_of, parts_of, plain_of, value_of}
use Rattle.text_words.specs.Read.{taken}
use Rattle.text_words.specs.Words.{is_gap}
use Rattle.text_words.proofs.Parts.{takes_last}
use Rattle.text_laws.specs.Words.{CountComesBack, DecimalComesBack, HexadecimalComesBack, word}
use Rattle.text_laws.proofs.Digits.{all_digits, are, digits_write, is_digit, none_passes, small_range}
use Rattle.text_laws.proofs.Lists.{stops_alone}

-- a byte that is no digit
pub not_digit : (c b : ℕ) → is_digit 16 c ≡ false → is_digit 16 b ≡ true → eqb b c ≡ false
not_digit c b n h = ne_eqb b c (λ e. let f : true ≡ false = sym h ∙ ap (is_digit 16) e ∙ n in absurd cc)

pub digit_not : (c b : ℕ) → is_digit 16 c ≡ false → is_digit 16 b ≡ true → eqb c b ≡ false
digit_not c b n h = ne_eqb c b (λ e. let f : false ≡ true = sym n ∙ ap (is_digit 16) e ∙ h in absurd cc)

abbrev pub is_bar : ℕ → Bool
is_bar b = b == 124

pub digit_bar : (b : ℕ) → is_digit 16 b ≡ true → is_bar b ≡ false
digit_bar b h = not_digit 124 b refl h

pub digit_gap : (b : ℕ) → is_digit 16 b ≡ true → is_gap b ≡ false
digit_gap b h = rw (not_digit 32 b refl h, not_digit 9 b refl h, not_digit 13 b refl h, not_digit 10 b refl h) refl

-- a word with no sign in front
pub no_minus : (w : List ℕ) → list_all (is_digit 16) w ≡ true → starts_with nat_eq w (codes "-") ≡ false
no_minus [] h = refl
no_minus (b ∷ bs) h = let parts = and_parts (is_digit 16 b) (list_all (is_digit 16) bs) h in rw (digit_not 45 b refl parts.0) refl

-- a word that is one part
pub one_part : (style : Style) (bits n : ℕ) (w : List ℕ) → starts_with nat_eq w (codes "-") ≡ false → list_any is_bar w ≡ false → part_of style w bits ≡ Ok n
    → number_in style w bits ≡ Ok n
unfolding number_in parts_of more_parts
one_part style bits n w sign bar part =
    let all : taken (more_parts style bits) 0 (slice_split is_bar w) ≡ more_parts style bits 0 w =
    takes_last (more_parts style bits) 0 is_bar w (stops_alone is_bar w bar) in
    let one : more_parts style bits 0 w ≡ Ok n = rw part refl in
    rw sign (all ∙ one)

pub reads_at : (style : Style) (bits n left : ℕ) (w : List ℕ) → number_in style w bits ≡ Ok n → n ≤ greatest bits → number_at style bits (word w left) ≡ Ok n
unfolding number_at
reads_at style bits n left w h le = rw (h, le-ltb (greatest bits) n le) refl

pub greatest_least : (bits : ℕ) → greatest bits < 2 ^ 64
greatest_least bits = elim (cases_Bool (eqb bits 8)) [
  | inl is ↦ rw is (omega arith)
  | inr a ↦ elim (cases_Bool (eqb bits 16)) [
    | inl is ↦ rw (a, is) (omega arith)
    | inr b ↦ elim (cases_Bool (eqb bits 32)) [ inl is ↦ rw (a, b, is) (omega arith) | inr c ↦ rw (a, b, c) (omega arith) ]
  ]
]

-- names begin with letters
abbrev heads : List (List ℕ) → Bool
heads [] = true
heads ([] ∷ names) = heads names
heads ((b ∷ bs) ∷ names) = nat_lt 57 b && heads names

none_named : (names : List (List ℕ)) (b : ℕ) (bs : List ℕ) (i : ℕ) → heads names ≡ true → b ≤ 57 → position_from (λ name. bytes_eq name (b ∷ bs)) i names ≡ None
none_named [] b bs i h le = refl
none_named ([] ∷ names) b bs i h le = none_named names b bs (i + 1) h le
none_named ((c ∷ cs) ∷ names) b bs i h le =
    let parts = and_parts (nat_lt 57 c) (heads names) h in
    rw (ne_eqb c b (λ e. omega (arith, e, le, ltb-true 57 c parts.0))) (none_named names b bs (i + 1) parts.1 le)

flag_heads : (set : FlagSet) → heads (flag_names set) ≡ true
unfolding flag_names
flag_heads Open = refl
flag_heads Transfer = refl
flag_heads Sync = refl
flag_heads Rename = refl
flag_heads Unlink = refl
flag_heads Link = refl
flag_heads Allocate = refl

pub no_name : (style : Style) (b : ℕ) (bs : List ℕ) → b ≤ 57 → named style (b ∷ bs) ≡ None
unfolding flag_of
no_name Plain b bs le = refl
no_name Descriptor b bs le = rw (ne_eqb b 65 (λ e. omega (arith, e, le))) refl
no_name (Flags set) b bs le = rw (ne_eqb (suc (length bs)) 0 (λ e. omega (arith, e)), none_named (flag_names set) b bs 0 (flag_heads set) le) refl

pub no_digit_name : (style : Style) (w : List ℕ) → list_all (is_digit 10) w ≡ true → 0 < length w → named style w ≡ None
no_digit_name style [] h lt = absurd (omega (arith, lt))
no_digit_name style (b ∷ bs) h lt = let parts = and_parts (is_digit 10 b) (list_all (is_digit 10) bs) h in no_name style b bs (small_range b parts.0).1

-- digits of a base
pub digits_read : (base bits n : ℕ) (why : Reason) → 2 ≤ base → base ≤ 16 → n < base ^ 64 → n ≤ greatest bits → digits_of base (digits base false n) bits why
    ≡ Ok n
unfolding digits_of
digits_read base bits n why low high lt le =
    let w = digits_write base low high n lt in
    rw (are base (digits base false n) w.0 w.2, w.1, le-leb n (greatest bits) le) refl

no_hex : (w : List ℕ) → list_all (is_digit 10) w ≡ true → starts_with nat_eq w (codes "0x") ≡ false
no_hex [] h = refl
no_hex (a ∷ []) h = and_right (eqb 48 a) false refl
no_hex (a ∷ b ∷ bs) h =
    let parts = and_parts (is_digit 10 a) (list_all (is_digit 10) (b ∷ bs)) h in
    let more = and_parts (is_digit 10 b) (list_all (is_digit 10) bs) parts.1 in
    and_right (eqb 48 a) _ (and_left (eqb 120 b) _ (ne_eqb 120 b (λ e. omega (arith, e, (small_range b more.0).1))))

no_octal : (n : ℕ) → n < 2 ^ 64 → (nat_lt 1 (length (decimal n)) && (slice_index (decimal n) 0 == 48)) ≡ false
no_octal zero lt = ap (λ (w : List ℕ). nat_lt 1 (length w) && (slice_index w 0 == 48)) (decimal_digit 0 (omega arith))
no_octal (suc k) lt = and_right (nat_lt 1 (length (decimal (suc k)))) _
    (ne_eqb (slice_index (decimal (suc k)) 0) 48 (λ e. omega (arith, e, first_decimal (suc k) (omega arith) lt)))

pub decimal_digits : (n : ℕ) → n < 2 ^ 64 → (list_all (is_digit 10) (decimal n) ≡ true) × (value_of 10 (decimal n) ≡ n) × (0 < length (decimal n))
decimal_digits n lt = digits_write 10 (omega arith) (omega arith) n (omega (arith, lt))

pub plain_decimal : (bits n : ℕ) (why : Reason) → n ≤ greatest bits → plain_of (decimal n) bits why ≡ Ok n
unfolding plain_of
plain_decimal bits n why le =
    let lt : n < 2 ^ 64 = omega (arith, le, greatest_least bits) in
    let w = decimal_digits n lt in
    rw (no_hex (decimal n) w.0, no_octal n lt) (digits_read 10 bits n why (omega arith) (omega arith) (omega (arith, lt)) le)

pub plain_hexadecimal : (bits n : ℕ) (why : Reason) → n ≤ greatest bits → plain_of (hexadecimal n) bits why ≡ Ok n
unfolding plain_of
plain_hexadecimal bits n why le = digits_read 16 bits n why (omega arith) (omega arith) (omega (arith, le, greatest_least bits)) le

pub part_plain : (style : Style) (bits n : ℕ) (w : List ℕ) → named style w ≡ None → plain_of w bits (no_number style) ≡ Ok n → part_of style w bits ≡ Ok n
unfolding part_of
part_plain style bits n w none h = rw (part_of, none) h

pub in_decimal : (style : Style) (bits n : ℕ) → n ≤ greatest bits → number_in style (decimal n) bits ≡ Ok n
in_decimal style bits n le =
    let w = decimal_digits n (omega (arith, le, greatest_least bits)) in
    let d = all_digits 10 (decimal n) (omega arith) w.0 in
    one_part style bits n (decimal n) (no_minus (decimal n) d) (none_passes is_bar digit_bar (decimal n) d)
    (part_plain style bits n (decimal n) (no_digit_name style (decimal n) w.0 w.2) (plain_decimal bits n (no_number style) le))

pub hexadecimal_digits : (n : ℕ) → n < 2 ^ 64 → list_all (is_digit 16) (digits 16 false n) ≡ true
hexadecimal_digits n lt = (digits_write 16 (omega arith) (omega arith) n (omega (arith, lt))).0

pub in_hexadecimal : (style : Style) (bits n : ℕ) → n ≤ greatest bits → number_in style (hexadecimal n) bits ≡ Ok n
in_hexadecimal style bits n le =
    let d = hexadecimal_digits n (omega (arith, le, greatest_least bits)) in
    one_part style bits n (hexadecimal n) refl (none_passes is_bar digit_bar (digits 16 false n) d)
    (part_plain style bits n (hexadecimal n) (no_name style 48 (120 ∷ digits 16 false n) (omega arith)) (plain_hexadecimal bits n (no_number style) le))

pub decimal_comes_back : DecimalComesBack
decimal_comes_back bits n left le = reads_at Plain bits n left (decimal n) (in_decimal Plain bits n le) le

pub hexadecimal_comes_back : HexadecimalComesBack
hexadecimal_comes_back bits n left le = reads_at Plain bits n left (hexadecimal n) (in_hexadecimal Plain bits n le) le

pub no_zero : (w : List ℕ) → 48 < get_or w 0 0 → starts_with nat_eq w (codes "0") ≡ false
no_zero [] h = refl
no_zero (b ∷ bs) h = rw (ne_eqb 48 b (λ e. omega (arith, e, h))) refl

pub count_comes_back : CountComesBack
unfolding count_at
count_comes_back n left lt small =
    let w = decimal_digits n small in
    rw (no_zero (decimal n) (first_decimal n lt small), are 10 (decimal n) w.0 w.2, w.1, le-ltb (2 ^ 64 - 1) n (omega (arith, small))) refl
