-- Each line is read as what it shows.
use Rattle.std.proofs.Common.{◌≡◌, ℕ, ◌<◌, ◌^◌, true, List, [], ◌∷◌, ◌++◌, Some, Ok, refl, ap, ◌∙◌, arith}
use Rattle.std.specs.Prelude.{codes}
use Rattle.std.specs.Fmt.{decimal}
use Rattle.std.proofs.lemmas.Fmt.{decimal_digit}
use Rattle.text_forms.specs.Numbers.{hexadecimal}
use Rattle.trace_format.specs.declared.version.Version.{Version}
use Rattle.trace_format.specs.declared.version.Version.TheVariants.{One, Two, Three}
use Rattle.trace_format.specs.declared.trace.Buffer.{Buffer}
use Rattle.trace_format.specs.Versions.{rules}
use Rattle.trace_text.specs.Shown.{buffer_line}
use Rattle.text_trace.specs.Lines.{version_of, version_named, buffer_of, ring_line, enter_line as read_enter}
use Rattle.text_laws.specs.Words.{is_word, rest}
use Rattle.text_laws.proofs.Parts.{joined_is, next_bytes, next_behind, first_bytes, first_behind, indent_is, end_is, next_number_comes, next_decimal_comes, next_hexadecimal_comes}

version_read : (version : Version) (digits more : List ℕ) (room : ℕ) → is_word digits ≡ true → version_named digits ≡ Some version
    → version_of (rest (codes "uring-trace " ++ digits ++ 10 ∷ more) room) ≡ Ok (version, rest more room)
unfolding version_of
version_read version digits more room w named =
    rw (
      first_bytes (codes "uring-trace") (32 ∷ digits ++ 10 ∷ more) refl refl,
      first_behind (codes "uring-trace") (32 ∷ digits ++ 10 ∷ more) refl refl,
      next_bytes digits (10 ∷ more) w refl,
      next_behind digits (10 ∷ more) w refl,
      named,
      end_is more room,
    ) refl

pub version_comes : (version : Version) → (version ≡ Three → ⊥) → (more : List ℕ) (room : ℕ)
    → version_of (rest (codes "uring-trace " ++ decimal (rules version).number ++ 10 ∷ more) room) ≡ Ok (version, rest more room)
version_comes One other more room = rw (decimal_digit 1 (omega arith)) (version_read One (49 ∷ []) more room refl refl)
version_comes Two other more room = rw (decimal_digit 2 (omega arith)) (version_read Two (50 ∷ []) more room refl refl)
version_comes Three other more room = absurd (other refl)

abbrev pub buffer_flat : ℕ → Buffer → List ℕ → List ℕ
buffer_flat n b more = codes "  buffer" ++ (32 ∷ decimal n ++ (32 ∷ hexadecimal b.address ++ (32 ∷ decimal b.len ++ (10 ∷ more))))

pub buffer_text : (n : ℕ) (b : Buffer) (more : List ℕ) → buffer_line n b ++ more ≡ buffer_flat n b more
buffer_text n b more = joined_is (codes "  buffer ") (decimal n ∷ codes " " ∷ hexadecimal b.address ∷ codes " " ∷ decimal b.len ∷ codes "\n" ∷ []) more

buffer_read : (n : ℕ) (b : Buffer) (more : List ℕ) (room : ℕ) → n < 2 ^ 64 → b.address < 2 ^ 64 → b.len < 2 ^ 32
    → buffer_of n (rest (buffer_flat n b more) room) ≡ Ok (b, rest more room)
unfolding buffer_of
buffer_read n b more room few address len =
    let t2 : List ℕ = 32 ∷ decimal b.len ++ (10 ∷ more) in
    let t1 : List ℕ = 32 ∷ hexadecimal b.address ++ t2 in
    rw (
      indent_is (codes "buffer" ++ (32 ∷ decimal n ++ t1)),
      first_behind (codes "buffer") (32 ∷ decimal n ++ t1) refl refl,
      next_number_comes n t1 room few refl,
      next_hexadecimal_comes 64 b.address t2 room address (omega (arith, address)) refl,
      next_decimal_comes 32 b.len (10 ∷ more) room (omega (arith, len)) (omega (arith, len)) refl,
      end_is more room,
    ) refl

pub buffer_comes : (n : ℕ) (b : Buffer) (more : List ℕ) (room : ℕ) → n < 2 ^ 64 → b.address < 2 ^ 64 → b.len < 2 ^ 32
    → buffer_of n (rest (buffer_line n b ++ more) room) ≡ Ok (b, rest more room)
buffer_comes n b more room few address len = ap (λ (t : List ℕ). buffer_of n (rest t room)) (buffer_text n b more) ∙ buffer_read n b more room few address len

-- the line of a ring
pub ring_line_comes : (n : ℕ) (more : List ℕ) (room : ℕ) → n < 2 ^ 64
    → ring_line n (rest (codes "ring " ++ (decimal n ++ (10 ∷ more))) room) ≡ Ok (rest more room)
unfolding ring_line
ring_line_comes n more room few =
    rw (first_behind (codes "ring") (32 ∷ decimal n ++ (10 ∷ more)) refl refl, next_number_comes n (10 ∷ more) room few refl) (end_is more room)

-- the line of an enter
pub enter_comes : (ring : ℕ) (more : List ℕ) (room : ℕ) → ring < 2 ^ 8
    → read_enter (rest (codes "enter " ++ decimal ring ++ 10 ∷ more) room) ≡ Ok (ring, rest more room)
unfolding read_enter
enter_comes ring more room few =
    rw (
      first_behind (codes "enter") (32 ∷ decimal ring ++ (10 ∷ more)) refl refl,
      next_decimal_comes 8 ring (10 ∷ more) room (omega (arith, few)) (omega (arith, few)) refl,
      end_is more room,
    ) refl
