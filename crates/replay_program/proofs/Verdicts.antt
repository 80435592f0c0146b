-- What a run wrote and what its fault tells, where it compared both replays.
use Rattle.std.proofs.Common.{◌≡◌, ◌≢◌, ℕ, ◌+◌, ◌⊎◌, inl, inr, refl, List, Result, Ok, Err, sym, ap, subst}
use Rattle.std.specs.Prelude.{Bool, Option, IfErr, OnOk, ⊤}
use Rattle.std.specs.Io.KnownBytes.{Appends, Keeps}
use Rattle.recording.specs.declared.recording.Recording.{Recording}
use Rattle.replay_core.specs.declared.serial.ReplayFault.TheVariants.{Memory}
use Rattle.replay_core.specs.declared.difference.Verdict.{Verdict}
use Rattle.replay_core.specs.declared.difference.Verdict.TheVariants.{Equal}
use Rattle.replay_program.specs.declared.fault.RunFault.{RunFault}
use Rattle.replay_program.specs.declared.fault.RunFault.TheVariants.{Trace, Replay, Reports, Read, Write, Different}
use Rattle.json_lines.specs.declared.form.Form.{Form}
use Rattle.program_words.specs.declared.words.Options.{Options}
use Rattle.program_words.specs.declared.words.Mode.TheVariants.{Compare}
use Rattle.replay_program.specs.Runs.{ReadsTrace, TellsOfReading, WritesOutput, read_failures, reads_failed, verdict_line}

-- the whole line went out
pub told_whole : (options : Options) (form : Form) (left left' written written' : Option (List ℕ)) (t : Recording) (workers window : ℕ) (eager : Bool) (v : Verdict) (r : Result ⊤ RunFault) → ReadsTrace left left' t
    → options.mode ≡ Compare workers window eager → v ≡ Equal → ((r ≡ Ok tt) ⊎ (r ≡ Err Different) → Appends written written' (verdict_line v)) → OnOk r (WritesOutput options form left left' written written')
told_whole options form left left' written written' t workers window eager v (Ok x) read mode equal whole = record { t = t; output = verdict_line v; read = read; is = record { text = verdict_line v; is = rw mode (ap verdict_line equal); written = rw mode refl }; wrote = whole (inl refl) }
told_whole options form left left' written written' t workers window eager v (Err f) read mode equal whole = tt

-- how telling that both are equal may fail
abbrev Told : RunFault → Type 0
Told f = f ≢ Write → f ≢ Different → f ≡ Replay Memory

-- a failed write or refused memory
told_fault : (f : RunFault) → f ≢ Different → Told f → (f ≡ Write) ⊎ (f ≡ Replay Memory)
told_fault (Trace f) same told = inr (told (λ e. absurd (cc)) same)
told_fault (Replay f) same told = inr (told (λ e. absurd (cc)) same)
told_fault (Reports f) same told = inr (told (λ e. absurd (cc)) same)
told_fault Read same told = inr (told (λ e. absurd (cc)) same)
told_fault Write same told = inl refl
told_fault Different same told = absurd (same refl)

-- nothing went out where memory was refused
pub told_nothing : (written written' : Option (List ℕ)) (r : Result ⊤ RunFault) → IfErr r Told → (r ≡ Err (Replay Memory) → Keeps written written') → IfErr r (λ f. f ≢ Write → f ≢ Different → Keeps written written')
told_nothing written written' (Ok x) told kept = tt
told_nothing written written' (Err f) told kept = λ other same. kept (ap Err (told other same))

-- a trace was read
pub told_reading : (left left' : Option (List ℕ)) (t : Recording) (r : Result ⊤ RunFault) → ReadsTrace left left' t → r ≢ Err Different → IfErr r Told → IfErr r (TellsOfReading left left')
told_reading left left' t (Ok x) read same told = tt
told_reading left left' t (Err f) read same told = elim (told_fault f (λ e. same (ap Err e)) told) [
  | inl is ↦ subst (TellsOfReading left left') (sym is) (t, read)
  | inr is ↦ subst (TellsOfReading left left') (sym is) (inl refl, (t, read))
]

-- and no call of the reader failed
pub told_reads : (old new : ℕ) (r : Result ⊤ RunFault) → r ≢ Err Different → IfErr r Told → new ≡ old + 0 → new ≡ old + read_failures r
told_reads old new (Ok x) same told kept = kept
told_reads old new (Err f) same told kept = elim (told_fault f (λ e. same (ap Err e)) told) [
  | inl is ↦ subst (λ e. new ≡ old + reads_failed e) (sym is) kept
  | inr is ↦ subst (λ e. new ≡ old + reads_failed e) (sym is) kept
]
