-- The model: numbers of a text.
use Rattle.std.specs.Prelude.{ℕ, ◌+◌, ◌-◌, ◌/◌, ◌^◌, ◌==◌, ◌&&◌, ◌||◌, not, nat_le, nat_lt, nat_eq, Bool, List, map, length, drop, Option, None, Some, Result, Ok, Err, bit_and, bit_or, codes, option_map, slice_index, if◌then◌else◌}
use Rattle.std.specs.List.{list_all, position_from, starts_with, slice_split}
use Rattle.std.specs.Str.{bytes_eq}
use Rattle.std.specs.Int.Digits.{number_from_digits}
use Rattle.trace_text.specs.declared.names.FlagSet.{FlagSet}
use Rattle.trace_text.specs.Names.{flag_names}
use Rattle.text_words.specs.declared.fault.Fault.{Fault}
use Rattle.text_words.specs.declared.fault.Reason.{Reason}
use Rattle.text_words.specs.declared.fault.Reason.TheVariants as why
use Rattle.text_words.specs.declared.numbers.Style.{Style}
use Rattle.text_words.specs.declared.numbers.Style.TheVariants.{Plain, Descriptor, Flags}
use Rattle.text_words.specs.Read.{Word, ◌>>=◌, fault, refuse_if, taken, told_at}

-- the greatest number of so many bits
abbrev pub greatest : ℕ → ℕ
greatest bits = if bits == 8 then 2 ^ 8 - 1 else if bits == 16 then 2 ^ 16 - 1 else if bits == 32 then 2 ^ 32 - 1 else 2 ^ 64 - 1

-- the value of a digit, with small letters, and more than any where it is none
abbrev pub digit_value : ℕ → ℕ
digit_value b = if nat_le 48 b && nat_le b 57 then b - 48 else if nat_le 97 b && nat_le b 102 then b - 87 else 255

-- one digit of a base or more, and nothing else
abbrev pub are_digits : ℕ → List ℕ → Bool
are_digits base digits = not (length digits == 0) && list_all (λ b. nat_lt (digit_value b) base) digits

-- the number that digits write
abbrev pub value_of : ℕ → List ℕ → ℕ
value_of base digits = number_from_digits base (map digit_value digits)

-- the number that decimal digits are, where it is not above the last one
abbrev pub decimal_of : List ℕ → ℕ → Option ℕ
decimal_of digits last = if are_digits 10 digits && nat_le (value_of 10 digits) last then Some (value_of 10 digits) else None

-- a number of so many bits, by its digits in a base
unfoldable pub digits_of : ℕ → List ℕ → ℕ → Reason → Result ℕ Reason
digits_of base digits bits none =
    if not (are_digits base digits) then Err none
    else if nat_le (value_of base digits) (greatest bits) then Ok (value_of base digits)
    else Err (why.Bits bits)

-- a number: hexadecimal behind 0x, octal behind 0, else decimal
unfoldable pub plain_of : List ℕ → ℕ → Reason → Result ℕ Reason
plain_of word bits none =
    if starts_with nat_eq word (codes "0x") then digits_of 16 (drop 2 word) bits none
    else if nat_lt 1 (length word) && slice_index word 0 == 48 then digits_of 8 (drop 1 word) bits none
    else digits_of 10 word bits none

-- the bit that a name of a set stands for
unfoldable pub flag_of : FlagSet → List ℕ → Option ℕ
flag_of set word = if length word == 0 then None else option_map (λ bit. 2 ^ bit) (position_from (λ name. bytes_eq name word) 0 (flag_names set))

-- the number that a name stands for, where the style has it
abbrev pub named : Style → List ℕ → Option ℕ
named Plain word = None
named Descriptor word = if bytes_eq word (codes "AT_FDCWD") then Some (2 ^ 32 - 100) else None
named (Flags set) word = flag_of set word

-- why a word is no number of a style
abbrev pub no_number : Style → Reason
no_number Plain = why.Number
no_number Descriptor = why.Number
no_number (Flags set) = why.Flag

-- a name or digits
unfoldable pub part_of : Style → List ℕ → ℕ → Result ℕ Reason
part_of style word bits = elim (named style word) [ None ↦ plain_of word bits (no_number style) | Some number ↦ Ok number ]

-- one part more, which has no bit of those before
unfoldable pub more_parts : Style → ℕ → ℕ → List ℕ → Result ℕ Reason
more_parts style bits total part = do
  number ← part_of style part bits
  _ ← refuse_if (not (bit_and total number == 0)) why.FlagTwice
  Ok (bit_or total number)

-- parts with bars between them
unfoldable pub parts_of : Style → List ℕ → ℕ → Result ℕ Reason
parts_of style word bits = taken (more_parts style bits) 0 (slice_split (λ b. b == 124) word)

-- a number below zero: that much below what its bits have room for
unfoldable pub negative_of : List ℕ → ℕ → Result ℕ Reason
negative_of digits bits = do
  _ ← refuse_if (starts_with nat_eq digits (codes "0")) why.Number
  number ← digits_of 10 digits bits why.Number
  _ ← refuse_if (number == 0 || nat_lt (greatest bits / 2 + 1) number) (why.Bits bits)
  Ok (greatest bits - (number - 1))

-- the number that a word is, of so many bits
unfoldable pub number_in : Style → List ℕ → ℕ → Result ℕ Reason
number_in style word bits = if starts_with nat_eq word (codes "-") then negative_of (drop 1 word) bits else parts_of style word bits

-- the same, told at its place where it is none
unfoldable pub number_at : Style → ℕ → Word → Result ℕ Fault
number_at style bits word = told_at word.left (do
  number ← number_in style word.bytes bits
  _ ← refuse_if (nat_lt (greatest bits) number) (why.Bits bits)
  Ok number)

-- a number without names
abbrev pub number : ℕ → Word → Result ℕ Fault
number bits word = number_at Plain bits word

-- the count behind a star: from 1 on
unfoldable pub count_at : Word → Result ℕ Fault
count_at word = do
  _ ← refuse_if (starts_with nat_eq word.bytes (codes "0") || not (are_digits 10 word.bytes)) (fault why.Count word.left)
  _ ← refuse_if (nat_lt (2 ^ 64 - 1) (value_of 10 word.bytes)) (fault (why.Bits 64) word.left)
  Ok (value_of 10 word.bytes)
