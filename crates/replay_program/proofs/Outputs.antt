-- What a run wrote and what its fault tells, by the trace that it read.
use Rattle.std.proofs.Common.{◌≡◌, ◌≢◌, ℕ, ◌+◌, inl, inr, refl, List, Result, Ok, Err, sym, ap, subst, arith}
use Rattle.std.specs.Prelude.{Option, IfErr, OnErr, OnOk, ⊤}
use Rattle.std.specs.Io.KnownBytes.{Appends}
use Rattle.std.proofs.lemmas.Result.{IfErr-at_err, IfErr-weaker, on_ok_weaker}
use Rattle.recording.specs.declared.recording.Recording.{Recording}
use Rattle.replay_program.specs.declared.fault.RunFault.{RunFault}
use Rattle.replay_program.specs.declared.fault.RunFault.TheVariants.{Different, Write}
use Rattle.json_lines.specs.declared.form.Form.{Form}
use Rattle.program_words.specs.declared.words.Options.{Options}
use Rattle.replay_program.specs.Runs.{IsOutputOf, ReadsTrace, ReplayWantsMemoryOrThread, TellsOfReading, WritesOutput, WritesPart, read_failures, reads_failed, writes_failed}
use Rattle.byte_transfer.specs.Transfer.{AppendsPart}
use Rattle.replay_program.proofs.Faults.{different_is_not_write}

-- a fault that the writer had no part in is no failed write
pub is_no_write : {P : Type 0} (e : RunFault) → writes_failed e ≡ 0 → e ≡ Write → P
is_no_write e none is = absurd (omega (arith, none, ap writes_failed is))

-- and one that tells of the reading of a trace is no difference
pub is_no_difference : {P : Type 0} (left left' : Option (List ℕ)) (e : RunFault) → TellsOfReading left left' e → e ≡ Different → P
is_no_difference left left' e tells is = absurd (subst (TellsOfReading left left') is tells)

-- nor is one of a replay that wants memory or a thread either of these
pub wants_no_write : {P : Type 0} (e : RunFault) → ReplayWantsMemoryOrThread e → e ≡ Write → P
wants_no_write e (inl is) write = absurd (cc)
wants_no_write e (inr is) write = absurd (cc)

pub wants_no_difference : {P : Type 0} (e : RunFault) → ReplayWantsMemoryOrThread e → e ≡ Different → P
wants_no_difference e (inl is) same = absurd (cc)
wants_no_difference e (inr is) same = absurd (cc)

-- it tells that a trace was read
pub wants_tells : (left left' : Option (List ℕ)) (t : Recording) (e : RunFault) → ReplayWantsMemoryOrThread e → ReadsTrace left left' t → TellsOfReading left left' e
wants_tells left left' t e (inl is) read = subst (TellsOfReading left left') (sym is) (inl refl, (t, read))
wants_tells left left' t e (inr is) read = subst (TellsOfReading left left') (sym is) (inr refl, (t, read))

-- and adds no failed call of either side
pub wants_reads : (old new : ℕ) (e : RunFault) → ReplayWantsMemoryOrThread e → new ≡ old + 0 → new ≡ old + reads_failed e
wants_reads old new e (inl is) kept = subst (λ f. new ≡ old + reads_failed f) (sym is) kept
wants_reads old new e (inr is) kept = subst (λ f. new ≡ old + reads_failed f) (sym is) kept

pub wants_writes : (e : RunFault) → ReplayWantsMemoryOrThread e → writes_failed e ≡ 0
wants_writes e (inl is) = ap writes_failed is
wants_writes e (inr is) = ap writes_failed is

-- the whole output went out
pub whole : (options : Options) (form : Form) (left left' written written' : Option (List ℕ)) (t : Recording) (bytes : List ℕ) (r : Result ⊤ RunFault) → ReadsTrace left left' t → IsOutputOf options form t bytes
    → OnOk r (Appends written written' bytes) → OnOk r (WritesOutput options form left left' written written')
whole options form left left' written written' t bytes r read is wrote =
    on_ok_weaker r (λ all. record { t = t; output = bytes; read = read; is = is; wrote = all }) wrote

-- a part of it went out
pub part : (options : Options) (form : Form) (left left' written written' : Option (List ℕ)) (t : Recording) (bytes : List ℕ) (r : Result ⊤ RunFault) → ReadsTrace left left' t → IsOutputOf options form t bytes
    → OnErr r (AppendsPart written written' bytes) → r ≡ Err Write → WritesPart options form left left' written written'
part options form left left' written written' t bytes r read is wrote failed =
    record { t = t; output = bytes; read = read; is = is; wrote = IfErr-at_err (λ f. AppendsPart written written' bytes) failed wrote }

-- a write that failed tells that a trace was read
pub tells_read : (left left' : Option (List ℕ)) (t : Recording) (r : Result ⊤ RunFault) → ReadsTrace left left' t → IfErr r (λ f. f ≡ Write) → IfErr r (TellsOfReading left left')
tells_read left left' t r read = IfErr-weaker r (λ f. f ≡ Write) (TellsOfReading left left') (λ f is. subst (TellsOfReading left left') (sym is) (t, read))

-- and no call of the reader failed
pub reads_well : (old new : ℕ) (r : Result ⊤ RunFault) → IfErr r (λ f. f ≡ Write) → new ≡ old + 0 → new ≡ old + read_failures r
reads_well old new (Ok x) failed same = same
reads_well old new (Err f) failed same = subst (λ e. new ≡ old + reads_failed e) (sym failed) same

-- and it is no difference
pub writes_no_difference : {P : Type 0} (r : Result ⊤ RunFault) → IfErr r (λ f. f ≡ Write) → r ≡ Err Different → P
writes_no_difference r failed is = different_is_not_write (IfErr-at_err (λ f. f ≡ Write) is failed)

-- nothing is asked of any other fault
pub writes_alone : (P : RunFault → Type 0) (r : Result ⊤ RunFault) → IfErr r (λ f. f ≡ Write) → IfErr r (λ f. f ≢ Write → P f)
writes_alone P r = IfErr-weaker r (λ f. f ≡ Write) (λ f. f ≢ Write → P f) (λ f is other. absurd (other is))
