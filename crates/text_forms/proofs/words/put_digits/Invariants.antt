use Rattle.std.proofs.Common.{◌≡◌, ◌-◌, drop, length, false}
use Rattle.std.specs.Fmt.{digits, digits_onto}
use Rattle.text_forms.proofs.words.put_digits.Given as goal

abbrev pub invariant-loop-count : goal.invariant-loop-count
invariant-loop-count l = record { room : length l.room ≡ 64; left : digits_onto (64 - l.count) l.base false l.rest (drop (64 - l.count) l.room) ≡ digits l.base false l.number }
