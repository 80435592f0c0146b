-- Flags by their names, descriptors and modes are read as they are shown.
use Rattle.std.proofs.Common.{◌≡◌, ℕ, zero, suc, ◌+◌, ◌-◌, ◌*◌, ◌/◌, ◌%◌, ◌<◌, ◌≤◌, ◌^◌, Bool, true, false, eqb, ltb, List, [], ◌∷◌, ◌++◌, length, Result, Ok, Err, inl, inr, refl, sym, ap, subst, ◌∙◌, append-nil, arith, length-append}
use Rattle.std.specs.Prelude.{nat_eq, nat_lt, ◌==◌, ◌||◌, ◌&&◌, codes, not, slice_index, bit_and, bit_or}
use Rattle.std.specs.List.{before_first, list_all, list_any, position_or_len, slice_split, starts_with}
use Rattle.std.specs.Fmt.{decimal, digits}
use Rattle.std.proofs.Math.Nat.{div-eq_of_lt, mul_assoc, mul_comm, pow-suc}
use Rattle.std.proofs.lemmas.Bool.{agree_below_at, and_parts, cases_Bool, eqb-true, eqb-false, le-ltb, lt-ltb, ltb-false, ltb-true, ne_eqb, not-true}
use Rattle.std.proofs.lemmas.Fmt.{first_decimal}
use Rattle.std.proofs.lemmas.Nat.{or_disjoint}
use Rattle.std.proofs.lemmas.Nat.Bits.{and_pow}
use Rattle.text_forms.specs.Numbers.{octal}
use Rattle.trace_text.specs.declared.names.FlagSet.{FlagSet}
use Rattle.trace_text.specs.declared.names.FlagSet.TheVariants.{Open, Transfer, Sync, Rename, Unlink, Link, Allocate}
use Rattle.trace_text.specs.Names.{flag, flag_name, flag_names, flag_text, flags_from, flags_text}
use Rattle.trace_text.specs.Fields.{descriptor_text}
use Rattle.text_words.specs.declared.fault.Reason.{Reason}
use Rattle.text_words.specs.declared.numbers.Style.{Style}
use Rattle.text_words.specs.declared.numbers.Style.TheVariants.{Plain, Descriptor, Flags}
use Rattle.text_words.specs.Numbers.{digits_of, flag_of, greatest, more_parts, negative_of, no_number, number_in, part_of, parts_of, plain_of}
use Rattle.text_words.specs.Read.{taken}
use Rattle.text_words.specs.Words.{is_gap}
use Rattle.text_words.proofs.Parts.{takes_last, takes_part}
use Rattle.text_laws.proofs.Digits.{all_digits, digits_write, is_digit, none_passes}
use Rattle.text_laws.proofs.Lists.{any_append, front_is, stops, stops_alone}
use Rattle.text_laws.proofs.Numbers.{digit_bar, digit_gap, digit_not, digits_read, greatest_least, in_decimal, is_bar, no_name, no_zero, one_part, part_plain}
use Rattle.text_laws.proofs.Words.{behind_sign, digits_free}

-- a number that was read
abbrev is_read : Result ℕ Reason → ℕ → Bool
is_read (Ok n) m = n == m
is_read (Err _) m = false

read_is : (r : Result ℕ Reason) (m : ℕ) → is_read r m ≡ true → r ≡ Ok m
read_is (Ok n) m h = ap (λ (k : ℕ). Ok k) (eqb-true n m h)
read_is (Err _) m h = absurd cc

-- a flag by itself is read as its bit, and has no bar, no gap and no sign in front
abbrev flag_test : FlagSet → ℕ → Bool
flag_test set k = is_read (part_of (Flags set) (flag_text set k) 32) (2 ^ k)
    && (not (list_any is_bar (flag_text set k)) && (not (list_any is_gap (flag_text set k)) && nat_lt 45 (slice_index (flag_text set k) 0)))

flag_passes : (set : FlagSet) (k : ℕ) → k < 32 → flag_test set k ≡ true
unfolding part_of plain_of digits_of flag_of flag_names flag_name digits
flag_passes Open k lt = agree_below_at (λ j. flag_test Open j) (λ j. true) 32 k refl lt
flag_passes Transfer k lt = agree_below_at (λ j. flag_test Transfer j) (λ j. true) 32 k refl lt
flag_passes Sync k lt = agree_below_at (λ j. flag_test Sync j) (λ j. true) 32 k refl lt
flag_passes Rename k lt = agree_below_at (λ j. flag_test Rename j) (λ j. true) 32 k refl lt
flag_passes Unlink k lt = agree_below_at (λ j. flag_test Unlink j) (λ j. true) 32 k refl lt
flag_passes Link k lt = agree_below_at (λ j. flag_test Link j) (λ j. true) 32 k refl lt
flag_passes Allocate k lt = agree_below_at (λ j. flag_test Allocate j) (λ j. true) 32 k refl lt

record IsFlag (set : FlagSet) (k : ℕ) : Type 0 where
  reads : part_of (Flags set) (flag_text set k) 32 ≡ Ok (2 ^ k)
  no_bar : list_any is_bar (flag_text set k) ≡ false
  no_gap : list_any is_gap (flag_text set k) ≡ false
  head : 45 < slice_index (flag_text set k) 0

flag_is : (set : FlagSet) (k : ℕ) → k < 32 → IsFlag set k
flag_is set k lt =
    let w = flag_text set k in
    let one = and_parts (is_read (part_of (Flags set) w 32) (2 ^ k)) (not (list_any is_bar w)
    && (not (list_any is_gap w) && nat_lt 45 (slice_index w 0))) (flag_passes set k lt) in
    let two = and_parts (not (list_any is_bar w)) (not (list_any is_gap w) && nat_lt 45 (slice_index w 0)) one.1 in
    let three = and_parts (not (list_any is_gap w)) (nat_lt 45 (slice_index w 0)) two.1 in
    record {
      reads = read_is (part_of (Flags set) w 32) (2 ^ k) one.0;
      no_bar = not-true (list_any is_bar w) two.0;
      no_gap = not-true (list_any is_gap w) three.0;
      head = ltb-true 45 (slice_index w 0) three.1;
    }

-- a bit above all that are set
pub no_bit : (n k : ℕ) → n < 2 ^ k → bit_and n (2 ^ k) ≡ 0
no_bit n k lt = and_pow n k ∙ ap (λ (q : ℕ). q % 2 * 2 ^ k) (div-eq_of_lt lt) ∙ omega arith

pub sets_bit : (n k : ℕ) → n < 2 ^ k → bit_or n (2 ^ k) ≡ n + 2 ^ k
sets_bit n k lt = or_disjoint n (2 ^ k) (no_bit n k lt)

double : (k : ℕ) → 2 ^ (k + 1) ≡ 2 ^ k * 2
double k = let e : k + 1 ≡ suc k = omega arith in ap (λ (n : ℕ). 2 ^ n) e ∙ pow-suc 2 k

pub twice : (k : ℕ) → 2 ^ (k + 1) ≡ 2 ^ k + 2 ^ k
twice k = double k ∙ omega arith

-- the bits from one on: an even number, and an odd one
pub even_worth : (n k : ℕ) → eqb (n % 2) 1 ≡ false → n / 2 * 2 ^ (k + 1) ≡ n * 2 ^ k
even_worth n k e =
    let whole : n ≡ n / 2 * 2 = omega (arith, eqb-false (n % 2) 1 e) in
    ap (λ (p : ℕ). n / 2 * p) (double k ∙ mul_comm (2 ^ k) 2) ∙ sym (mul_assoc (n / 2) 2 (2 ^ k)) ∙ ap (λ (m : ℕ). m * 2 ^ k) (sym whole)

pub odd_worth : (n k : ℕ) → eqb (n % 2) 1 ≡ true → 2 ^ k + n / 2 * 2 ^ (k + 1) ≡ n * 2 ^ k
odd_worth n k e =
    let whole : n ≡ suc (n / 2 * 2) = omega (arith, eqb-true (n % 2) 1 e) in
    let twofold : n / 2 * 2 ^ (k + 1) ≡ n / 2 * 2 * 2 ^ k = ap (λ (p : ℕ). n / 2 * p) (double k ∙ mul_comm (2 ^ k) 2) ∙ sym (mul_assoc (n / 2) 2 (2 ^ k)) in
    let more : suc (n / 2 * 2) * 2 ^ k ≡ 2 ^ k + n / 2 * 2 * 2 ^ k = suc_worth (n / 2 * 2) (2 ^ k) in
    ap (λ (m : ℕ). 2 ^ k + m) twofold ∙ sym more ∙ ap (λ (m : ℕ). m * 2 ^ k) (sym whole)
  where
    suc_worth : (a p : ℕ) → suc a * p ≡ p + a * p
    suc_worth a p = mul_comm (suc a) p ∙ grind arith

pub power_some : (k : ℕ) → 0 < 2 ^ k
power_some zero = omega arith
power_some (suc k) = omega (arith, pow-suc 2 k, power_some k)

-- one part more
flag_step : (set : FlagSet) (k total : ℕ) → k < 32 → total < 2 ^ k → more_parts (Flags set) 32 total (flag_text set k) ≡ Ok (total + 2 ^ k)
unfolding more_parts
flag_step set k total lt small = rw ((flag_is set k lt).reads, no_bit total k small, sets_bit total k small) refl

abbrev step : FlagSet → ℕ → List ℕ → Result ℕ Reason
step set = more_parts (Flags set) 32

module _ (set : FlagSet) where
  tail : (k bit flags total next : ℕ) (w : List ℕ) → bit + k ≤ 32 → flags < 2 ^ k → next < 2 ^ bit → list_any is_bar w ≡ false → step set total w ≡ Ok next
      → taken (step set) total (slice_split is_bar (w ++ flags_from set k bit true flags)) ≡ Ok (next + flags * 2 ^ bit)
  tail zero bit flags total next w le lt small bar h =
      let none : flags ≡ 0 = omega (arith, lt) in
      let e : next ≡ next + flags * 2 ^ bit = rw none (omega arith) in
      ap (λ (t : List ℕ). taken (step set) total (slice_split is_bar t)) (append-nil w) ∙ takes_last (step set) total is_bar w (stops_alone is_bar w bar) ∙ h
      ∙ ap (λ (n : ℕ). Ok n) e
  tail (suc k) bit flags total next w le lt small bar h = elim (cases_Bool (eqb (flags % 2) 1)) [
    | inl odd ↦
        let f = flag_text set bit in
        let rest = flags_from set k (bit + 1) true (flags / 2) in
        let text = w ++ 124 ∷ (f ++ rest) in
        let is = flag_is set bit (omega (arith, le)) in
        let len = length-append w (124 ∷ (f ++ rest)) in
        let front : w ≡ before_first is_bar text = sym (front_is is_bar w (124 ∷ (f ++ rest)) bar refl) in
        let place : length w ≡ position_or_len is_bar text = sym (stops is_bar w (124 ∷ (f ++ rest)) bar refl) in
        let part = takes_part (step set) total is_bar text w front place (omega (arith, len)) in
        let more = tail k (bit + 1) (flags / 2) next (next + 2 ^ bit) f (omega (arith, le)) (omega (arith, lt, pow-suc 2 k))
        (omega (arith, small, twice bit)) is.no_bar (flag_step set bit next (omega (arith, le)) small) in
        let e : next + 2 ^ bit + flags / 2 * 2 ^ (bit + 1) ≡ next + flags * 2 ^ bit = omega (arith, odd_worth flags bit odd) in
        rw odd (part ∙ rw (h, behind_sign w (f ++ rest) 124) (more ∙ ap (λ (n : ℕ). Ok n) e))
    | inr even ↦
        let more = tail k (bit + 1) (flags / 2) total next w (omega (arith, le)) (omega (arith, lt, pow-suc 2 k)) (omega (arith, small, twice bit)) bar h in
        rw even (more ∙ ap (λ (n : ℕ). Ok (next + n)) (even_worth flags bit even))
  ]

  head : (k bit flags : ℕ) → bit + k ≤ 32 → flags < 2 ^ k → 0 < flags → taken (step set) 0 (slice_split is_bar (flags_from set k bit false flags))
      ≡ Ok (flags * 2 ^ bit)
  head zero bit flags le lt some = absurd (omega (arith, lt, some))
  head (suc k) bit flags le lt some = elim (cases_Bool (eqb (flags % 2) 1)) [
    | inl odd ↦
        let more = tail k (bit + 1) (flags / 2) 0 (0 + 2 ^ bit) (flag_text set bit) (omega (arith, le)) (omega (arith, lt, pow-suc 2 k))
        (omega (arith, twice bit, power_some bit)) (flag_is set bit (omega (arith, le))).no_bar
        (flag_step set bit 0 (omega (arith, le)) (power_some bit)) in
        let e : 0 + 2 ^ bit + flags / 2 * 2 ^ (bit + 1) ≡ flags * 2 ^ bit = omega (arith, odd_worth flags bit odd) in
        rw odd (more ∙ ap (λ (n : ℕ). Ok n) e)
    | inr even ↦
        let more = head k (bit + 1) (flags / 2) (omega (arith, le)) (omega (arith, lt, pow-suc 2 k)) (omega (arith, some, eqb-false (flags % 2) 1 even)) in
        rw even (more ∙ ap (λ (n : ℕ). Ok n) (even_worth flags bit even))
  ]

  no_gaps : (k bit flags : ℕ) (some : Bool) → bit + k ≤ 32 → list_any is_gap (flags_from set k bit some flags) ≡ false
  no_gaps zero bit flags some le = refl
  no_gaps (suc k) bit flags some le =
      let one = no_gap_in bit some (omega (arith, le)) in
      any_append is_gap (flag set (flags % 2 == 1) some bit) (flags_from set k (bit + 1) (some || (flags % 2 == 1)) (flags / 2)) (one (flags % 2 == 1))
      (no_gaps k (bit + 1) (flags / 2) (some || (flags % 2 == 1)) (omega (arith, le)))
    where
      no_gap_in : (bit : ℕ) (some : Bool) → bit < 32 → (is_set : Bool) → list_any is_gap (flag set is_set some bit) ≡ false
      no_gap_in bit some lt false = refl
      no_gap_in bit true lt true = (flag_is set bit lt).no_gap
      no_gap_in bit false lt true = (flag_is set bit lt).no_gap

  first_byte : (v w : List ℕ) → 45 < slice_index v 0 → slice_index (v ++ w) 0 ≡ slice_index v 0
  first_byte [] w h = absurd (omega (arith, h))
  first_byte (b ∷ bs) w h = refl

  head_byte : (k bit flags : ℕ) → bit + k ≤ 32 → flags < 2 ^ k → 0 < flags → 45 < slice_index (flags_from set k bit false flags) 0
  head_byte zero bit flags le lt some = absurd (omega (arith, lt, some))
  head_byte (suc k) bit flags le lt some = elim (cases_Bool (eqb (flags % 2) 1)) [
    | inl odd ↦
        let is = flag_is set bit (omega (arith, le)) in
        rw (odd, first_byte (flag_text set bit) (flags_from set k (bit + 1) true (flags / 2)) is.head) is.head
    | inr even ↦ rw even (head_byte k (bit + 1) (flags / 2) (omega (arith, le)) (omega (arith, lt, pow-suc 2 k))
        (omega (arith, some, eqb-false (flags % 2) 1 even)))
  ]

no_sign : (w : List ℕ) → 45 < slice_index w 0 → starts_with nat_eq w (codes "-") ≡ false
no_sign [] h = refl
no_sign (b ∷ bs) h = rw (ne_eqb 45 b (λ e. omega (arith, e, h))) refl

pub flags_free : (set : FlagSet) (n : ℕ) → list_any is_gap (flags_text set n) ≡ false
unfolding flags_text
flags_free set n = no_gaps set 32 0 n false (omega arith)

pub in_flags : (set : FlagSet) (n : ℕ) → n < 2 ^ 32 → 0 < n → number_in (Flags set) (flags_text set n) 32 ≡ Ok n
unfolding number_in parts_of flags_text
in_flags set n lt some =
    let e : n * 2 ^ 0 ≡ n = omega arith in
    rw (no_sign (flags_from set 32 0 false n) (head_byte set 32 0 n (omega arith) lt some)) (head set 32 0 n (omega arith) lt some ∙ ap (λ (m : ℕ). Ok m) e)

-- a number below zero
pub in_negative : (style : Style) (bits m : ℕ) → 0 < greatest bits → m < greatest bits / 2 + 1 → number_in style (45 ∷ decimal (suc m)) bits
    ≡ Ok (greatest bits - m)
unfolding number_in negative_of
in_negative style bits m some lt =
    let small : suc m < 2 ^ 64 = omega (arith, lt, greatest_least bits) in
    let less : suc m - 1 ≡ m = omega arith in
    rw (
      no_zero (decimal (suc m)) (first_decimal (suc m) (omega arith) small),
      digits_read 10 bits (suc m) Reason.Number (omega arith) (omega arith) (omega (arith, small)) (omega (arith, some, lt)),
      ne_eqb (suc m) 0 (λ e. omega (arith, e)),
      le-ltb (greatest bits / 2 + 1) (suc m) (omega (arith, lt)),
      less,
    ) refl

no_hex : (w : List ℕ) → list_all (is_digit 16) w ≡ true → starts_with nat_eq (48 ∷ w) (codes "0x") ≡ false
no_hex [] h = refl
no_hex (b ∷ bs) h = let parts = and_parts (is_digit 16 b) (list_all (is_digit 16) bs) h in rw (digit_not 120 b refl parts.0) refl

pub octal_digits : (n : ℕ) → n < 2 ^ 64 → list_all (is_digit 16) (digits 8 false n) ≡ true
octal_digits n lt = all_digits 8 (digits 8 false n) (omega arith) (digits_write 8 (omega arith) (omega arith) n (omega (arith, lt))).0

pub plain_octal : (bits n : ℕ) (why : Reason) → n ≤ greatest bits → plain_of (octal n) bits why ≡ Ok n
unfolding plain_of
plain_octal bits n why le =
    let lt : n < 2 ^ 64 = omega (arith, le, greatest_least bits) in
    let some = (digits_write 8 (omega arith) (omega arith) n (omega (arith, lt))).2 in
    rw (no_hex (digits 8 false n) (octal_digits n lt), lt-ltb 1 (suc (length (digits 8 false n))) (omega (arith, some)))
    (digits_read 8 bits n why (omega arith) (omega arith) (omega (arith, lt)) le)

pub in_octal : (style : Style) (bits n : ℕ) → n ≤ greatest bits → number_in style (octal n) bits ≡ Ok n
in_octal style bits n le =
    let d = octal_digits n (omega (arith, le, greatest_least bits)) in
    one_part style bits n (octal n) refl (none_passes is_bar digit_bar (digits 8 false n) d)
    (part_plain style bits n (octal n) (no_name style 48 (digits 8 false n) (omega arith)) (plain_octal bits n (no_number style) le))

pub in_descriptor : (n : ℕ) → n < 2 ^ 32 → number_in Descriptor (descriptor_text n) 32 ≡ Ok n
unfolding number_in parts_of more_parts part_of
in_descriptor n lt = elim (cases_Bool (eqb n (2 ^ 32 - 100))) [
  | inl is ↦ subst (λ (m : ℕ). number_in Descriptor (descriptor_text m) 32 ≡ Ok m) (sym (eqb-true n (2 ^ 32 - 100) is)) refl
  | inr other ↦ elim (cases_Bool (ltb n (2 ^ 31))) [
    | inl low ↦ rw (other, low) (in_decimal Descriptor 32 n (omega (arith, lt)))
    | inr high ↦
        let m = 2 ^ 32 - suc n in
        let e : greatest 32 - m ≡ n = omega (arith, lt) in
        rw (other, high) (in_negative Descriptor 32 m (omega arith) (omega (arith, lt, ltb-false n (2 ^ 31) high)) ∙ ap (λ (k : ℕ). Ok k) e)
  ]
]

pub in_offset : number_in Plain (codes "-1") 64 ≡ Ok (2 ^ 64 - 1)
unfolding number_in negative_of digits_of
in_offset = refl

pub descriptor_free : (n : ℕ) → n < 2 ^ 32 → list_any is_gap (descriptor_text n) ≡ false
descriptor_free n lt = elim (cases_Bool (eqb n (2 ^ 32 - 100))) [
  | inl is ↦ rw is refl
  | inr other ↦ elim (cases_Bool (ltb n (2 ^ 31))) [
    | inl low ↦ rw (other, low) (none_passes is_gap digit_gap (decimal n) (digits_free n (omega (arith, lt))))
    | inr high ↦ rw (other, high) (none_passes is_gap digit_gap (decimal (suc (2 ^ 32 - suc n))) (digits_free (suc (2 ^ 32 - suc n)) (omega (arith, lt))))
  ]
]
