-- Escaped paths are ASCII.
use Rattle.std.specs.Prelude.{◌≡◌, ℕ, ◌/◌, ◌%◌, Bool, true, false, ◌&&◌, not, ◌==◌, nat_le, nat_lt, T, List, [], ◌∷◌, ◌++◌, codes, slice_index, if◌then◌else◌, refl}
use Rattle.std.specs.Str.{IsAscii}
use Rattle.std.proofs.lemmas.Str.{IsAscii-append}
use Rattle.std.proofs.lemmas.Str.Ascii.{IsAscii-nil, IsAscii-cons}
use native.Mathlib.Omega.{arith}
use Rattle.hex.specs.Hex.{encode_lower, encode_with, lower_digits}
use Rattle.replay_report.specs.Report.{escaped, escaped_byte}

abbrev all_low : List ℕ → Bool
all_low [] = true
all_low (b ∷ bs) = nat_lt b 128 && all_low bs

low : (bs : List ℕ) → T (all_low bs) → IsAscii bs
low [] h = IsAscii-nil
low (b ∷ bs) h = IsAscii-cons b bs (grind arith) (low bs (grind arith))

digits_are_ascii : IsAscii lower_digits
digits_are_ascii = low lower_digits tt

chosen : (test : Bool) (bs others : List ℕ) → (test ≡ true → IsAscii bs) → IsAscii others → IsAscii (if test then bs else others)
chosen true bs others h k = h refl
chosen false bs others h k = k

byte_is_ascii : (byte : ℕ) → IsAscii (escaped_byte byte)
unfolding encode_with
byte_is_ascii byte =
    chosen ((nat_le 33 byte && nat_le byte 126) && not (byte == 92)) (byte ∷ []) (codes "\\x" ++ encode_lower (byte ∷ []))
    (λ e. IsAscii-cons byte [] (grind arith) IsAscii-nil)
    (IsAscii-append (codes "\\x") (encode_lower (byte ∷ [])) (low (codes "\\x") tt)
    (IsAscii-cons (slice_index lower_digits (byte / 16)) (slice_index lower_digits (byte % 16) ∷ []) (digits_are_ascii (byte / 16))
    (IsAscii-cons (slice_index lower_digits (byte % 16)) [] (digits_are_ascii (byte % 16)) IsAscii-nil)))

-- an escaped path is ASCII
pub escaped_is_ascii : (path : List ℕ) → IsAscii (escaped path)
escaped_is_ascii [] = IsAscii-nil
escaped_is_ascii (b ∷ bs) = IsAscii-append (escaped_byte b) (escaped bs) (byte_is_ascii b) (escaped_is_ascii bs)
