-- What showing a trace wrote, by the trace that was read.
use Rattle.std.proofs.Common.{◌≡◌, ℕ, inl, inr, refl, List, Result, Err, sym, subst}
use Rattle.std.specs.Prelude.{Option, IfErr, OnErr, OnOk, ⊤}
use Rattle.std.specs.Io.KnownBytes.{Appends}
use Rattle.std.proofs.lemmas.Result.{IfErr-at_err, IfErr-weaker, on_ok_weaker}
use Rattle.replay_program.specs.declared.any_trace.AnyTrace.{AnyTrace}
use Rattle.replay_program.specs.Shows.{text_of}
use Rattle.trace_text.specs.declared.look.Look.{Look}
use Rattle.replay_program.specs.declared.fault.RunFault.{RunFault}
use Rattle.replay_program.specs.declared.fault.RunFault.TheVariants.{Write}
use Rattle.replay_program.specs.Runs.{ReplayWantsMemoryOrThread}
use Rattle.replay_program.specs.AnyTraces.{ReadsAny, TellsOfAny}
use Rattle.replay_program.specs.Shows.{WritesShown, WritesShownPart}
use Rattle.byte_transfer.specs.Transfer.{AppendsPart}

-- the whole text went out
pub whole : (look : Look) (left left' written written' : Option (List ℕ)) (t : AnyTrace) (bytes : List ℕ) (r : Result ⊤ RunFault) → ReadsAny left left' t → bytes ≡ text_of look t
    → OnOk r (Appends written written' bytes) → OnOk r (WritesShown look left left' written written')
whole look left left' written written' t bytes r read is wrote =
    on_ok_weaker r (λ all. record { t = t; read = read; wrote = subst (Appends written written') is all }) wrote

-- a part of it went out
pub part : (look : Look) (left left' written written' : Option (List ℕ)) (t : AnyTrace) (bytes : List ℕ) (r : Result ⊤ RunFault) → ReadsAny left left' t → bytes ≡ text_of look t
    → OnErr r (AppendsPart written written' bytes) → r ≡ Err Write → WritesShownPart look left left' written written'
part look left left' written written' t bytes r read is wrote failed =
    record { t = t; read = read; wrote = subst (AppendsPart written written') is (IfErr-at_err (λ f. AppendsPart written written' bytes) failed wrote) }

-- A replay that wants memory behind a trace that was read.
pub wants_tells : (left left' : Option (List ℕ)) (t : AnyTrace) (e : RunFault) → ReplayWantsMemoryOrThread e → ReadsAny left left' t → TellsOfAny left left' e
wants_tells left left' t e (inl is) read = subst (TellsOfAny left left') (sym is) (inl refl, (t, read))
wants_tells left left' t e (inr is) read = subst (TellsOfAny left left') (sym is) (inr refl, (t, read))

-- A write that fails behind a trace that was read.
pub tells_read : (left left' : Option (List ℕ)) (t : AnyTrace) (r : Result ⊤ RunFault) → ReadsAny left left' t → IfErr r (λ f. f ≡ Write) → IfErr r (TellsOfAny left left')
tells_read left left' t r read = IfErr-weaker r (λ f. f ≡ Write) (TellsOfAny left left') (λ f is. subst (TellsOfAny left left') (sym is) (t, read))
