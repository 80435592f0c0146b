-- What a run that ended by a fault says.
use Rattle.std.proofs.Common.{◌≡◌, ◌≢◌, ℕ, ◌+◌, Result, Ok, Err, IsErrAnd, sym, subst, ◌∙◌, arith}
use Rattle.std.specs.Prelude.{IfErr, OnOk}
use Rattle.replay_program.specs.declared.fault.RunFault.{RunFault}
use Rattle.replay_program.specs.declared.fault.RunFault.TheVariants.{Different, Write}
use Rattle.replay_program.specs.Runs.{reads_failed, read_failures, writes_failed, write_failures}

-- a run that ended by a fault gives nothing
pub gives_nothing : {T : Type 0} (r : Result T RunFault) (e : RunFault) (P : Type 0) → IsErrAnd r (λ y. y ≡ e) → OnOk r P
gives_nothing (Ok x) e P h = absurd h
gives_nothing (Err y) e P h = tt

-- and did not end by another fault
pub not_by : {T P : Type 0} (r : Result T RunFault) (e f : RunFault) → IsErrAnd r (λ y. y ≡ e) → e ≢ f → r ≡ Err f → P
not_by r e f h other ended = absurd (other (sym (subst (λ x. IsErrAnd x (λ y. y ≡ e)) ended h)))

-- what is so of its fault is so of its result
pub by : {T : Type 0} (Q : RunFault → Type 0) (r : Result T RunFault) (e : RunFault) → IsErrAnd r (λ y. y ≡ e) → Q e → IfErr r Q
by Q (Ok x) e h q = absurd h
by Q (Err y) e h q = subst Q (sym h) q

-- it ended by the fault that this one is
pub named : {T : Type 0} (r : Result T RunFault) (e f : RunFault) → IsErrAnd r (λ y. y ≡ e) → e ≡ f → IsErrAnd r (λ y. y ≡ f)
named (Ok x) e f h same = absurd h
named (Err y) e f h same = h ∙ same

-- the calls of the reader that failed are those of the fault
pub reads : {T : Type 0} (r : Result T RunFault) (e : RunFault) (old new : ℕ) → IsErrAnd r (λ y. y ≡ e) → new ≡ old + reads_failed e → new ≡ old + read_failures r
reads (Ok x) e old new h q = absurd h
reads (Err y) e old new h q = subst (λ f. new ≡ old + reads_failed f) (sym h) q

-- and so are those of the writer
pub writes : {T : Type 0} (r : Result T RunFault) (e : RunFault) (old new : ℕ) → IsErrAnd r (λ y. y ≡ e) → new ≡ old + writes_failed e → new ≡ old + write_failures r
writes (Ok x) e old new h q = absurd h
writes (Err y) e old new h q = subst (λ f. new ≡ old + writes_failed f) (sym h) q

-- a fault that none of the writer's calls had adds none there
pub adds_none : (old n : ℕ) → n ≡ 0 → old ≡ old + n
adds_none old n none = omega (arith, none)

-- a failed write is no difference
pub write_is_not_different : {P : Type 0} → Write ≡ Different → P
write_is_not_different e = absurd (cc)

pub different_is_not_write : {P : Type 0} → Different ≡ Write → P
different_is_not_write e = absurd (cc)
