-- The model: what is written of two reports that are compared while they are read.
use Rattle.std.specs.Prelude.{◌≡◌, ◌⊎◌, ℕ, Bool, List, Option, None, Some}
use Rattle.std.specs.Io.KnownBytes.{Appends, Consumes, IsAtEnd}
use Rattle.byte_transfer.specs.Transfer.{AppendsSome}
use Rattle.report_diff.specs.Inputs.{differences_of_two, passes_of_two, refusal_of_two}
use Rattle.report_diff.specs.Merging.{early_text_of_two}
use Rattle.report_diff.specs.Refusals.{refusal_text}
use Rattle.report_diff.specs.declared.comparing.Terms.{Terms}
use Rattle.report_diff.specs.declared.refusal.Refusal.{Refusal}
use Rattle.json_lines.specs.Forms.{written_as}
use Rattle.json_lines.specs.declared.form.Form.{Form}
use Rattle.diff_stream.specs.declared.fault.CompareFault.{CompareFault}
use Rattle.diff_stream.specs.declared.fault.CompareFault.TheVariants.{Refused, Memory, Read, Write}

-- Both readers were read to their ends, and had these texts left.
pub record ReadsBoth (left left' more more' : Option (List ℕ)) (first second : List ℕ) : Type 0 where
  pub one : Consumes left left' first
  pub one_ended : IsAtEnd left'
  pub other : Consumes more more' second
  pub other_ended : IsAtEnd more'

-- The texts are two reports, and the writer took the whole text of their comparison in this form, and nothing else.
pub record WritesComparison (form : Form) (terms : Terms) (left left' more more' written written' : Option (List ℕ)) (passes : Bool) : Type 0 where
  pub first : List ℕ
  pub second : List ℕ
  pub read : ReadsBoth left left' more more' first second
  pub reports : refusal_of_two terms first second ≡ None
  pub wrote : Appends written written' (written_as form (differences_of_two terms first second))
  pub decided : passes ≡ passes_of_two terms first second

-- The texts are not two reports, for this reason, and the writer took what is told early of them in this form, and nothing else.
pub record WritesRefused (form : Form) (terms : Terms) (why : Refusal) (left left' more more' written written' : Option (List ℕ)) : Type 0 where
  pub first : List ℕ
  pub second : List ℕ
  pub read : ReadsBoth left left' more more' first second
  pub refused : refusal_of_two terms first second ≡ Some (refusal_text why)
  pub wrote : Appends written written' (written_as form (early_text_of_two first second))

-- What bytes tell of two reports: what is told early of them, or the whole text of their comparison, where they are two reports.
abbrev pub Tells : Terms → List ℕ → List ℕ → List ℕ → Type 0
Tells terms first second text = (text ≡ early_text_of_two first second) ⊎ ((refusal_of_two terms first second ≡ None) × (text ≡ differences_of_two terms first second))

-- The writer took a beginning of what the bytes that were read tell, in this form, and nothing else.
pub record WritesSome (form : Form) (terms : Terms) (left left' more more' written written' : Option (List ℕ)) : Type 0 where
  pub first : List ℕ
  pub second : List ℕ
  pub one : Consumes left left' first
  pub other : Consumes more more' second
  pub text : List ℕ
  pub told : Tells terms first second text
  pub wrote : AppendsSome written written' (written_as form text)

-- What was written before a fault.
abbrev pub WritesUpTo : Form → Terms → (left left' more more' written written' : Option (List ℕ)) → CompareFault → Type 0
WritesUpTo form terms left left' more more' written written' (Refused why) = WritesRefused form terms why left left' more more' written written'
WritesUpTo form terms left left' more more' written written' Memory = WritesSome form terms left left' more more' written written'
WritesUpTo form terms left left' more more' written written' Read = WritesSome form terms left left' more more' written written'
WritesUpTo form terms left left' more more' written written' Write = WritesSome form terms left left' more more' written written'
