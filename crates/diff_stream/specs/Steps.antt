-- A helper: what stands between two lines while two reports are compared, and what the parts of a turn do.
use Rattle.std.specs.Prelude.{◌≡◌, ◌⊎◌, ◌≤◌, ◌++◌, ℕ, Bool, true, false, is_some, List, [], ◌∷◌, Option, None, Some}
use Rattle.std.specs.List.{list_any}
use Rattle.std.specs.Io.KnownBytes.{Appends, Consumes, IsAtEnd}
use Rattle.byte_transfer.specs.Transfer.{AppendsSome}
use Rattle.report_diff.specs.declared.fronts.Merging.{Merging}
use Rattle.report_diff.specs.Merging.{IsAwaited, Merges, goes_on, heading, is_feed, passed_lines, text_of}
use Rattle.text_lines.specs.Lines.{first_line}
use Rattle.json_lines.specs.Forms.{IsWhole, written_as}
use Rattle.json_lines.specs.declared.form.Form.{Form}
use Rattle.std.specs.Str.{bytes_eq}
use Rattle.diff_stream.specs.declared.held.Side.{Side}
use Rattle.diff_stream.specs.declared.held.Sides.{Sides}

-- What was found is written, or is kept as it was.
pub record Moves (form : Form) (m m' : Merging) (written written' : Option (List ℕ)) : Type 0 where
  pub out : List ℕ
  pub wrote : Appends written written' (written_as form out)
  pub text : m.told.text.items ≡ out ++ m'.told.text.items
  pub all : (m'.told.text.items ≡ []) ⊎ (out ≡ [])
  pub merges : (one other : List (List ℕ)) → (taken : List ℕ) → Merges m one other taken → Merges m' one other (taken ++ out)
  pub first : m'.first ≡ m.first
  pub second : m'.second.next ≡ m.second.next
  pub from : m'.from ≡ m.from
  pub ahead : m'.ahead ≡ m.ahead
  pub lines : passed_lines m' ≡ passed_lines m

-- A beginning of what was found is written.
abbrev pub StopsAt : Form → Merging → (written written' : Option (List ℕ)) → Type 0
StopsAt form m written written' = AppendsSome written written' (written_as form m.told.text.items)

-- Whether a line is held whole: bytes came behind until it is, or until the reader was found at its end.
abbrev pub HasLine : Bool → Side → Side → Option (List ℕ) → Option (List ℕ) → Type 0
HasLine true s s' left left' = (more : List ℕ) × Consumes left left' more × (s'.lines ≡ s.lines ++ more) × (is_some (first_line s'.lines) ≡ true)
    × (s'.ended ≡ true → (s.ended ≡ true) × (left' ≡ left))
HasLine false s s' left left' = (more : List ℕ) × Consumes left left' more × (s'.lines ≡ s.lines ++ more) × (first_line s'.lines ≡ None)
    × (s'.ended ≡ true) × (IsAtEnd left' ⊎ ((s.ended ≡ true) × (left' ≡ left)))

-- All that a side and its reader have left.
abbrev pub LeavesAll : Side → Option (List ℕ) → Option (List ℕ) → List ℕ → Type 0
LeavesAll s left left' all = (more : List ℕ) × Consumes left left' more × IsAtEnd left' × (all ≡ s.lines ++ more) × (s.ended ≡ true → more ≡ [])

-- The bytes that were taken are the lines that were passed and what is held; what was found of them, and is not with the merging, was written. It is whole lines.
pub record Stands (form : Form) (first second : Side) (m : Merging) (left left' more more' written written' : Option (List ℕ)) : Type 0 where
  pub one : List (List ℕ)
  pub other : List (List ℕ)
  pub taken : List ℕ
  pub merges : Merges m one other taken
  pub plain : list_any (list_any is_feed) one ≡ false
  pub plain_other : list_any (list_any is_feed) other ≡ false
  pub first_taken : Consumes left left' (text_of (heading ∷ one) ++ first.lines)
  pub second_taken : Consumes more more' (text_of (heading ∷ other) ++ second.lines)
  pub first_ended : first.ended ≡ true → IsAtEnd left'
  pub second_ended : second.ended ≡ true → IsAtEnd more'
  pub whole : IsWhole taken
  pub wrote : Appends written written' (written_as form taken)
  pub awaits : (m.from ≡ m.first.next) ⊎ ((line : List ℕ) × (first_line first.lines ≡ Some line) × IsAwaited m.from line)

-- It is so of what was left and written at some time.
pub record IsUnderWay (form : Form) (first second : Side) (m : Merging) (left more written : Option (List ℕ)) : Type 0 where
  pub left_first : Option (List ℕ)
  pub more_first : Option (List ℕ)
  pub written_first : Option (List ℕ)
  pub is : Stands form first second m left_first left more_first more written_first written

-- A front ends: behind the lines that were passed no line is whole, or the next is no entry whose place rises.
abbrev pub SideEnds : List (List ℕ) → Side → Type 0
SideEnds passed s =
    ((first_line s.lines ≡ None) × (s.ended ≡ true)) ⊎ ((line : List ℕ) × (first_line s.lines ≡ Some line) × (goes_on (heading ∷ passed) line ≡ false))

-- The front of the first ends, or that of the second, which does not reach the next entry of the first.
abbrev pub FrontsEnd : (one other : List (List ℕ)) → Side → Side → Merging → Type 0
FrontsEnd one other first second m =
    SideEnds one first ⊎ (SideEnds other second × (m.second.next ≤ m.from) × ((line : List ℕ) × (first_line first.lines ≡ Some line) × IsAwaited m.from line))

pub record AtEnds (form : Form) (first second : Side) (m : Merging) (left left' more more' written written' : Option (List ℕ)) : Type 0 where
  pub is : Stands form first second m left left' more more' written written'
  pub ends : FrontsEnd is.one is.other first second m

-- A turn goes on, or finds where the fronts end.
abbrev pub GoesTo : Form → Bool → Side → Side → Merging → (left left' more more' written written' : Option (List ℕ)) → Type 0
GoesTo form true = Stands form
GoesTo form false = AtEnds form

-- Nothing was read.
pub record Begun (s : Sides) : Type 0 where
  pub first : s.first.lines ≡ []
  pub first_goes_on : s.first.ended ≡ false
  pub second : s.second.lines ≡ []
  pub second_goes_on : s.second.ended ≡ false
  pub merges : Merges s.merging [] [] []
  pub level : s.merging.from ≡ s.merging.first.next

-- What is held is no beginning of a report of version 2.
abbrev pub IsOther : Side → Type 0
IsOther s = ((first_line s.lines ≡ None) × (s.ended ≡ true)) ⊎ ((line : List ℕ) × (first_line s.lines ≡ Some line) × (bytes_eq line heading ≡ false))

-- What is held is all that was taken of the reader.
pub record HoldsAll (s : Side) (left left' : Option (List ℕ)) : Type 0 where
  pub taken : Consumes left left' s.lines
  pub ended : s.ended ≡ true → IsAtEnd left'

-- Whether a report begins as one of version 2: bytes came behind those that were held.
abbrev pub Begins : Bool → Side → Side → Option (List ℕ) → Option (List ℕ) → Type 0
Begins true s s' left left' = (more : List ℕ) × Consumes left left' more × (s'.lines ≡ s.lines ++ more) × (first_line s'.lines ≡ Some heading) × (s'.ended ≡ s.ended)
Begins false s s' left left' = (more : List ℕ) × Consumes left left' more × (s'.lines ≡ s.lines ++ more) × IsOther s' × (s'.ended ≡ true → (s.ended ≡ false → IsAtEnd left'))
