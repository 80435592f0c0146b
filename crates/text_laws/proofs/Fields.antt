-- The number of each field is read as it is shown.
use Rattle.std.proofs.Common.{◌≡◌, ℕ, ◌-◌, ◌<◌, ◌≤◌, ◌^◌, Bool, true, false, eqb, List, length, Ok, inl, inr, refl, sym, subst, arith}
use Rattle.std.specs.Prelude.{nat_lt, ◌==◌, ◌||◌, codes, if◌then◌else◌}
use Rattle.std.specs.List.{list_any}
use Rattle.std.specs.Fmt.{decimal, digits}
use Rattle.std.proofs.lemmas.Bool.{cases_Bool, eqb-true, eqb-false}
use Rattle.std.proofs.lemmas.Fmt.{decimal_digit}
use Rattle.text_forms.specs.Numbers.{hexadecimal, octal}
use Rattle.trace_text.specs.declared.names.FlagSet.{FlagSet}
use Rattle.trace_text.specs.declared.names.FlagSet.TheVariants.{Open, Transfer, Sync, Rename, Unlink, Link, Allocate}
use Rattle.trace_text.specs.Names.{flags_text}
use Rattle.trace_text.specs.Fields.{addr_word, descriptor_text, field, len_text, off_text, op_flags_field, unless}
use Rattle.text_words.specs.declared.numbers.Style.{Style}
use Rattle.text_words.specs.declared.numbers.Style.TheVariants.{Plain, Descriptor, Flags}
use Rattle.text_words.specs.Numbers.{greatest, number_at, number_in}
use Rattle.text_words.specs.Words.{is_gap}
use Rattle.text_trace.specs.Fields.{addr_key, is_transfer, len_style, op_flags_key, op_flags_style}
use Rattle.text_laws.specs.Words.{word}
use Rattle.text_laws.proofs.Digits.{none_passes}
use Rattle.text_laws.proofs.Flags.{descriptor_free, flags_free, in_descriptor, in_flags, in_octal, in_offset, octal_digits}
use Rattle.text_laws.proofs.Numbers.{digit_gap, greatest_least, hexadecimal_digits, in_decimal, in_hexadecimal, reads_at}
use Rattle.text_laws.proofs.Words.{digits_free}

-- A text without gaps is read as a number of so many bits.
pub record Reads (style : Style) (bits n : ℕ) (text : List ℕ) : Type 0 where
  pub free : list_any is_gap text ≡ false
  pub number : (left : ℕ) → number_at style bits (word text left) ≡ Ok n

reads : (style : Style) (bits n : ℕ) (text : List ℕ) → n ≤ greatest bits → list_any is_gap text ≡ false → number_in style text bits ≡ Ok n
    → Reads style bits n text
reads style bits n text le free h = record { free = free; number = λ left. reads_at style bits n left text h le }

module _ (style : Style) (bits n : ℕ) (le : n ≤ greatest bits) where
  small : n < 2 ^ 64
  small = omega (arith, le, greatest_least bits)

  pub decimal_reads : Reads style bits n (decimal n)
  decimal_reads = reads style bits n (decimal n) le (none_passes is_gap digit_gap (decimal n) (digits_free n small)) (in_decimal style bits n le)

  pub hexadecimal_reads : Reads style bits n (hexadecimal n)
  hexadecimal_reads = reads style bits n (hexadecimal n) le (none_passes is_gap digit_gap (digits 16 false n) (hexadecimal_digits n small))
      (in_hexadecimal style bits n le)

  octal_reads : Reads style bits n (octal n)
  octal_reads = reads style bits n (octal n) le (none_passes is_gap digit_gap (digits 8 false n) (octal_digits n small)) (in_octal style bits n le)

pub descriptor_reads : (n : ℕ) → n < 2 ^ 32 → Reads Descriptor 32 n (descriptor_text n)
descriptor_reads n lt = reads Descriptor 32 n (descriptor_text n) (omega (arith, lt)) (descriptor_free n lt) (in_descriptor n lt)

flags_reads : (set : FlagSet) (n : ℕ) → n < 2 ^ 32 → 0 < n → Reads (Flags set) 32 n (flags_text set n)
flags_reads set n lt some = reads (Flags set) 32 n (flags_text set n) (omega (arith, lt)) (flags_free set n) (in_flags set n lt some)

-- each field
pub off_reads : (op n : ℕ) → n < 2 ^ 64 → Reads Plain 64 n (off_text op n)
off_reads op n lt = elim (cases_Bool (op == 35 || op == 39)) [
  | inl second ↦ rw second (hexadecimal_reads Plain 64 n (omega (arith, lt)))
  | inr off ↦ elim (cases_Bool (eqb n (2 ^ 64 - 1))) [
    | inl last ↦ rw (off, last) (subst (λ (m : ℕ). Reads Plain 64 m (codes "-1")) (sym (eqb-true n (2 ^ 64 - 1) last))
        (reads Plain 64 (2 ^ 64 - 1) (codes "-1") (omega arith) refl in_offset))
    | inr other ↦ rw (off, other) (decimal_reads Plain 64 n (omega (arith, lt)))
  ]
]

abbrev pub addr_text : ℕ → ℕ → List ℕ
addr_text op n = if op == 17 then decimal n else hexadecimal n

pub addr_is_field : (op n : ℕ) → addr_word op n ≡ unless 0 n (field (addr_key op) (addr_text op n))
addr_is_field op n = elim (cases_Bool (op == 17)) [ inl length ↦ rw length refl | inr addr ↦ rw addr refl ]

pub addr_reads : (op n : ℕ) → n < 2 ^ 64 → Reads Plain 64 n (addr_text op n)
addr_reads op n lt = elim (cases_Bool (op == 17)) [
  | inl length ↦ rw length (decimal_reads Plain 64 n (omega (arith, lt)))
  | inr addr ↦ rw addr (hexadecimal_reads Plain 64 n (omega (arith, lt)))
]

zero_reads : (style : Style) → Reads style 32 0 (codes "0")
zero_reads style = subst (Reads style 32 0) (decimal_digit 0 (omega arith)) (decimal_reads style 32 0 (omega arith))

some_len_reads : (op n : ℕ) → n < 2 ^ 32 → 0 < n → Reads (len_style op) 32 n (len_text op n)
some_len_reads op n lt some = elim (cases_Bool (op == 17)) [
  | inl mode ↦ rw mode (flags_reads Allocate n lt some)
  | inr a ↦ elim (cases_Bool (op == 18 || op == 37)) [
    | inl mode ↦ rw (a, mode) (octal_reads (if op == 35 || op == 39 then Descriptor else Plain) 32 n (omega (arith, lt)))
    | inr b ↦ elim (cases_Bool (op == 35 || op == 39)) [
      | inl second ↦ rw (a, b, second) (descriptor_reads n lt)
      | inr len ↦ rw (a, b, len) (decimal_reads Plain 32 n (omega (arith, lt)))
    ]
  ]
]

pub len_reads : (op n : ℕ) → n < 2 ^ 32 → Reads (len_style op) 32 n (if n == 0 then codes "0" else len_text op n)
len_reads op n lt = elim (cases_Bool (n == 0)) [
  | inl none ↦ rw none (subst (λ (m : ℕ). Reads (len_style op) 32 m (codes "0")) (sym (eqb-true n 0 none)) (zero_reads (len_style op)))
  | inr some ↦ let h = eqb-false n 0 some in rw some (some_len_reads op n lt (omega (arith, h)))
]

abbrev pub op_flags_text : ℕ → ℕ → List ℕ
op_flags_text op n =
    if is_transfer op then flags_text Transfer n else if op == 3 then flags_text Sync n else if op == 18 then flags_text Open n
    else if op == 35 then flags_text Rename n else if op == 36 then flags_text Unlink n else if op == 39 then flags_text Link n
    else hexadecimal n

pub op_flags_is_field : (op n : ℕ) → op_flags_field op n ≡ field (op_flags_key op) (op_flags_text op n)
op_flags_is_field op n = by (is_transfer op) (op == 3) (op == 18) (op == 35) (op == 36) (op == 39)
  where
    by : (a b c d e f : Bool) →
        (if a then field (codes "rw_flags") (flags_text Transfer n) else if b then field (codes "fsync_flags") (flags_text Sync n) else if c then field
        (codes "open_flags") (flags_text Open n)
        else if d then field (codes "rename_flags") (flags_text Rename n) else if e then field (codes "unlink_flags")
        (flags_text Unlink n) else if f then field (codes "hardlink_flags") (flags_text Link n)
        else field (codes "op_flags") (hexadecimal n))
        ≡ field (if a then codes "rw_flags" else if b then codes "fsync_flags" else if c then codes "open_flags" else if d then codes "rename_flags" else if e
        then codes "unlink_flags" else if f then codes "hardlink_flags" else codes "op_flags")
        (if a then flags_text Transfer n else if b then flags_text Sync n else if c then flags_text Open n else if d then flags_text Rename n else if e
        then flags_text Unlink n else if f then flags_text Link n else hexadecimal n)
    by true b c d e f = refl
    by false true c d e f = refl
    by false false true d e f = refl
    by false false false true e f = refl
    by false false false false true f = refl
    by false false false false false true = refl
    by false false false false false false = refl

pub op_flags_reads : (op n : ℕ) → n < 2 ^ 32 → 0 < n → Reads (op_flags_style op) 32 n (op_flags_text op n)
op_flags_reads op n lt some = by (is_transfer op) (op == 3) (op == 18) (op == 35) (op == 36) (op == 39)
  where
    by : (a b c d e f : Bool) →
        Reads (if a then Flags Transfer else if b then Flags Sync else if c then Flags Open else if d then Flags Rename else if e then Flags Unlink else if f
        then Flags Link else Plain) 32 n
        (if a then flags_text Transfer n else if b then flags_text Sync n else if c then flags_text Open n else if d then flags_text Rename n else if e
        then flags_text Unlink n else if f then flags_text Link n else hexadecimal n)
    by true b c d e f = flags_reads Transfer n lt some
    by false true c d e f = flags_reads Sync n lt some
    by false false true d e f = flags_reads Open n lt some
    by false false false true e f = flags_reads Rename n lt some
    by false false false false true f = flags_reads Unlink n lt some
    by false false false false false true = flags_reads Link n lt some
    by false false false false false false = hexadecimal_reads Plain 32 n (omega (arith, lt))

abbrev pub user_text : ℕ → List ℕ
user_text n = if nat_lt n (2 ^ 32) then decimal n else hexadecimal n

pub user_reads : (n : ℕ) → n < 2 ^ 64 → Reads Plain 64 n (user_text n)
user_reads n lt = elim (cases_Bool (nat_lt n (2 ^ 32))) [
  | inl few ↦ rw few (decimal_reads Plain 64 n (omega (arith, lt)))
  | inr many ↦ rw many (hexadecimal_reads Plain 64 n (omega (arith, lt)))
]
