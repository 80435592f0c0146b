-- The model: why texts are not two reports, in the words that say it.
use Rattle.std.specs.Prelude.{ℕ, ◌&&◌, nat_le, nat_lt, List, [], ◌++◌, length, take, map, codes, if◌then◌else◌}
use Rattle.std.specs.Fmt.{decimal}
use Rattle.report_diff.specs.declared.refusal.Side.{Side}
use Rattle.report_diff.specs.declared.refusal.Side.TheVariants.{First, Second}
use Rattle.report_diff.specs.declared.refusal.Flaw.{Flaw}
use Rattle.report_diff.specs.declared.refusal.Flaw.TheVariants.{Heading, End, GoesOn, Versions, Order, Otherwise}
use Rattle.report_diff.specs.declared.refusal.Refusal.{Refusal}
use Rattle.report_diff.specs.declared.version.Version.{Version}
use Rattle.report_diff.specs.declared.version.Version.TheVariants.{One, Two}

abbrev pub side_name : Side → List ℕ
side_name First = codes "first"
side_name Second = codes "second"

-- A byte that is visible, or a space, is shown as it is, any other by `?`.
abbrev pub shown_byte : ℕ → ℕ
shown_byte byte = if nat_le 32 byte && nat_le byte 126 then byte else 63

-- The first 128 bytes of a subject, and a `+` where there are more.
unfoldable pub shown_subject : List ℕ → List ℕ
shown_subject subject = map shown_byte (take 128 subject) ++ (if nat_lt 128 (length subject) then codes "+" else [])

-- What a line does, by its number from 1 and its subject.
abbrev pub line_text : List ℕ → Side → ℕ → List ℕ → List ℕ
line_text does side line subject = codes "line " ++ (decimal line ++ (codes " of the " ++ (side_name side ++ (does ++ subject))))

abbrev pub otherwise_text : Side → ℕ → List ℕ → List ℕ
otherwise_text = line_text (codes " contradicts an earlier one about ")

abbrev pub order_text : Side → ℕ → List ℕ → List ℕ
order_text = line_text (codes " is out of order at ")

-- The versions of two reports.
abbrev pub version_number : Version → ℕ
version_number One = 1
version_number Two = 2

abbrev pub versions_text : Version → Version → List ℕ
versions_text first second =
    codes "the first is uring-report " ++ (decimal (version_number first) ++ (codes ", the second uring-report " ++ decimal (version_number second)))

-- What is wrong with a text.
abbrev pub flaw_text : Side → Flaw → List ℕ
flaw_text side Heading = codes "the " ++ side_name side ++ codes " does not begin with uring-report 1"
flaw_text First End = codes "the first has no line end"
flaw_text Second End = codes "the second has no end"
flaw_text side GoesOn = codes "there is text after the end of the " ++ side_name side
flaw_text side (Versions first second) = versions_text first second
flaw_text side (Order line subject) = order_text side line subject.bytes
flaw_text side (Otherwise line subject) = otherwise_text side line subject.bytes

abbrev pub refusal_text : Refusal → List ℕ
refusal_text why = flaw_text why.side why.flaw
