-- What a comparison of two reports wrote, by what it read.
use Rattle.std.proofs.Common.{◌≡◌, ◌≢◌, List, [], ℕ, arith, inl, inr, refl, subst, ◌∙◌}
use Rattle.std.specs.Prelude.{Option}
use Rattle.std.proofs.KnownBytes.{Consumes-nil}
use Rattle.report_diff.specs.declared.comparing.Comparison.{Comparison}
use Rattle.report_diff.specs.declared.comparing.Terms.{Terms}
use Rattle.replay_program.specs.declared.fault.RunFault.{RunFault}
use Rattle.replay_program.specs.declared.fault.RunFault.TheVariants.{Trace, Replay, Reports, Read, Write, Different}
use Rattle.replay_program.specs.declared.fault.ReportsFault.TheVariants.{Refused, TooLong, Memory}
use Rattle.json_lines.specs.declared.form.Form.{Form}
use Rattle.replay_program.specs.Diffs.{ComparesReports, TellsOfText, TellsOfTwoReports, WritesDifferencesPart}
use Rattle.replay_program.specs.Runs.{writes_failed}
use Rattle.byte_transfer.specs.Transfer.{AppendsPart, ConsumesUpTo}

-- a part of the text went out
pub part : (form : Form) (terms : Terms) (left left' written written' : Option (List ℕ)) (comparison : Comparison) (bytes : List ℕ) → ComparesReports form terms left left' comparison → bytes ≡ comparison.text.items
    → AppendsPart written written' bytes → WritesDifferencesPart form terms left left' written written'
part form terms left left' written written' comparison bytes found text wrote =
    record { input = found.input; read = found.read; wrote = subst (AppendsPart written written') (text ∙ found.text) wrote }

-- a fault of the first text, before the second was asked for, and of the second
pub tells_first : (terms : Terms) (left left' more more' : Option (List ℕ)) (f : RunFault) → TellsOfText left left' f → TellsOfTwoReports terms left left' more more' f
tells_first terms left left' more more' (Reports (Refused why)) h = absurd h
tells_first terms left left' more more' (Reports TooLong) h = inl h
tells_first terms left left' more more' (Reports Memory) h = tt
tells_first terms left left' more more' Read h = tt
tells_first terms left left' more more' (Trace f) h = absurd h
tells_first terms left left' more more' (Replay f) h = absurd h
tells_first terms left left' more more' Write h = absurd h
tells_first terms left left' more more' Different h = absurd h

pub tells_second : (terms : Terms) (left left' more more' : Option (List ℕ)) (f : RunFault) → TellsOfText more more' f → TellsOfTwoReports terms left left' more more' f
tells_second terms left left' more more' (Reports (Refused why)) h = absurd h
tells_second terms left left' more more' (Reports TooLong) h = inr h
tells_second terms left left' more more' (Reports Memory) h = tt
tells_second terms left left' more more' Read h = tt
tells_second terms left left' more more' (Trace f) h = absurd h
tells_second terms left left' more more' (Replay f) h = absurd h
tells_second terms left left' more more' Write h = absurd h
tells_second terms left left' more more' Different h = absurd h

-- neither is one of the writer's
pub text_writes : (left left' : Option (List ℕ)) (f : RunFault) → TellsOfText left left' f → writes_failed f ≡ 0
text_writes left left' (Reports f) h = refl
text_writes left left' Read h = refl
text_writes left left' (Trace f) h = refl
text_writes left left' (Replay f) h = refl
text_writes left left' Write h = absurd h
text_writes left left' Different h = refl

pub text_neither : (left left' : Option (List ℕ)) (f : RunFault) → TellsOfText left left' f → (f ≢ Write) × (f ≢ Different)
text_neither left left' f h = (λ is. subst (TellsOfText left left') is h, λ is. subst (TellsOfText left left') is h)

-- a reader that was not asked has given nothing
pub takes_none : (most : ℕ) (left : Option (List ℕ)) → ConsumesUpTo most left left
takes_none most left = ([], Consumes-nil left, omega arith)
