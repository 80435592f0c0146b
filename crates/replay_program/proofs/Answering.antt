-- What a check wrote and what its fault tells, by the answer to what it read.
use Rattle.std.proofs.Common.{◌≡◌, ℕ, ◌+◌, inl, refl, List, Result, Err, sym, ap, subst}
use Rattle.std.specs.Prelude.{Option, IfErr, OnErr, OnOk, ⊤}
use Rattle.std.specs.Io.KnownBytes.{Appends}
use Rattle.std.proofs.lemmas.Result.{IfErr-at_err, IfErr-weaker, on_ok_weaker}
use Rattle.trace_format.specs.Grammar.{fault}
use Rattle.trace_format.specs.declared.fault.Kind.TheVariants.{Memory}
use Rattle.replay_program.specs.declared.fault.RunFault.{RunFault}
use Rattle.replay_program.specs.declared.fault.RunFault.TheVariants.{Trace, Write}
use Rattle.json_lines.specs.declared.form.Form.{Form}
use Rattle.replay_program.specs.Checks.{ReadsAnswer, TellsOfCheck, WritesAnswer, WritesAnswerPart}
use Rattle.json_lines.specs.Forms.{written_as}
use Rattle.replay_program.specs.Runs.{reads_failed, writes_failed}
use Rattle.byte_transfer.specs.Transfer.{AppendsPart}

-- the whole answer went out
pub whole : (form : Form) (left left' written written' : Option (List ℕ)) (answer bytes : List ℕ) (r : Result ⊤ RunFault) → ReadsAnswer left left' answer → bytes ≡ written_as form answer
    → OnOk r (Appends written written' bytes) → OnOk r (WritesAnswer form left left' written written')
whole form left left' written written' answer bytes r read is wrote =
    on_ok_weaker r (λ all. record { answer = answer; read = read; wrote = subst (Appends written written') is all }) wrote

-- a part of it went out
pub part : (form : Form) (left left' written written' : Option (List ℕ)) (answer bytes : List ℕ) (r : Result ⊤ RunFault) → ReadsAnswer left left' answer → bytes ≡ written_as form answer
    → OnErr r (AppendsPart written written' bytes) → r ≡ Err Write → WritesAnswerPart form left left' written written'
part form left left' written written' answer bytes r read is wrote failed =
    record { answer = answer; read = read; wrote = subst (AppendsPart written written') is (IfErr-at_err (λ f. AppendsPart written written' bytes) failed wrote) }

-- a write that failed tells that there was an answer
pub tells_answer : (left left' : Option (List ℕ)) (answer : List ℕ) (r : Result ⊤ RunFault) → ReadsAnswer left left' answer → IfErr r (λ f. f ≡ Write) → IfErr r (TellsOfCheck left left')
tells_answer left left' answer r read = IfErr-weaker r (λ f. f ≡ Write) (TellsOfCheck left left') (λ f is. subst (TellsOfCheck left left') (sym is) (answer, read))

-- memory that ran out is no failed write, and adds no failed call of either side
pub memory_no_write : {P : Type 0} (e : RunFault) → e ≡ Trace (fault Memory 0) → e ≡ Write → P
memory_no_write e is write = absurd (cc)

pub memory_tells : (left left' : Option (List ℕ)) (e : RunFault) → e ≡ Trace (fault Memory 0) → TellsOfCheck left left' e
memory_tells left left' e is = subst (TellsOfCheck left left') (sym is) (inl refl)

pub memory_reads : (old new : ℕ) (e : RunFault) → e ≡ Trace (fault Memory 0) → new ≡ old + 0 → new ≡ old + reads_failed e
memory_reads old new e is kept = subst (λ f. new ≡ old + reads_failed f) (sym is) kept

pub memory_writes : (e : RunFault) → e ≡ Trace (fault Memory 0) → writes_failed e ≡ 0
memory_writes e is = ap writes_failed is
