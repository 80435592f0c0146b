-- Bytes that tell the version of a text, and what was read behind them.
use Rattle.std.proofs.Common.{◌≡◌, ◌∙◌, ◌⊎◌, ◌++◌, ◌∷◌, ◌-◌, ◌<◌, ◌≤◌, [], ℕ, Bool, true, false, List, Vec, Global, length, take, nat_eq, codes, sym, ap, subst, inl, inr, refl, length-append, arith}
use Rattle.std.specs.Prelude.{Option}
use Rattle.std.specs.Io.KnownBytes.{Consumes}
use Rattle.std.specs.Cmp.Lexicographic.{pointwise}
use Rattle.std.proofs.KnownBytes.{Consumes-trans}
use Rattle.std.proofs.lemmas.List.{take-append-le, length-take}
use Rattle.byte_transfer.specs.Transfer.{ConsumesUpTo, GoesOn, Takes}
use Rattle.trace_format.specs.Grammar.{fault}
use Rattle.trace_format.specs.Text.{IsRefusal, longest}
use Rattle.trace_format.specs.declared.fault.Kind.TheVariants.{Memory}
use Rattle.trace_format.specs.declared.fault.TraceFault.{TraceFault}
use Rattle.trace_stream.specs.Streams.{HasTally, ReadsAll, Tells}
use Rattle.trace_records.specs.Tallies as tallies
use Rattle.trace_records.specs.declared.counting.Tally.{Tally}
use Rattle.trace_stream.specs.declared.fault.StreamFault.TheVariants as stream_fault
use Rattle.recording.specs.declared.recording.Recording.{Recording}
use Rattle.replay_program.specs.Checks.{IsAnswer, ReadsAnswer, ok_line}
use Rattle.replay_program.specs.Recordings.{has_version_3, IsEnough, IsFaultOf, SpellsRecording}
use Rattle.replay_program.specs.Runs.{ReadsTrace, ReadsNoTrace, TakesTrace, most_taken}
use Rattle.replay_program.specs.Taking.{TakesText, TellsOfStream, TellsOfText}
use Rattle.replay_program.specs.declared.fault.RunFault.{RunFault}
use Rattle.replay_program.specs.declared.fault.RunFault.TheVariants.{Trace, Read}
use Rattle.replay_program.specs.declared.recordings.Taken.TheVariants.{Head, Whole}
use lib.Pointwise.{pointwise_long}

abbrev mark : List ℕ
mark = codes "URINGTRC" ++ 3 ∷ 0 ∷ 0 ∷ 0 ∷ []

not_true : (b : Bool) → (b ≡ true → ⊥) → b ≡ false
not_true true other = absurd (other refl)
not_true false other = refl

-- fewer bytes are of no version 3
pub too_short : (text : List ℕ) → length text < 12 → has_version_3 text ≡ false
too_short text lt = not_true (has_version_3 text) (λ e. omega (arith, pointwise_long nat_eq mark (take 12 text) e, length-take 12 text, lt))

-- so many tell it, whatever follows
pub told_early : (head more : List ℕ) → 12 ≤ length head → has_version_3 (head ++ more) ≡ has_version_3 head
told_early head more le = ap (pointwise nat_eq mark) (take-append-le 12 head more le)

-- ---- what was taken

pub goes_from_none : (a b : Option (List ℕ)) (none all : List ℕ) → none ≡ [] → GoesOn none a b all → Consumes a b all
goes_from_none a b none all is g = subst (Consumes a b) (sym (g.2 ∙ ap (λ (x : List ℕ). x ++ g.0) is)) g.1

pub goes_from : (a b c : Option (List ℕ)) (head all : List ℕ) → Consumes a b head → GoesOn head b c all → Consumes a c all
goes_from a b c head all before g = subst (Consumes a c) (sym g.2) (Consumes-trans a b c head g.0 before g.1)

pub goes_told : (b c : Option (List ℕ)) (head all : List ℕ) → 12 ≤ length head → has_version_3 head ≡ false → GoesOn head b c all → has_version_3 all ≡ false
goes_told b c head all long is g = ap has_version_3 g.2 ∙ told_early head g.0 long ∙ is

pub takes_few : (a b : Option (List ℕ)) (most : ℕ) → ConsumesUpTo most a b → most ≤ most_taken → TakesTrace a b
takes_few a b most t le = (t.0, t.1, λ e. omega (arith, t.2, le))

pub takes_then : (a b c : Option (List ℕ)) (head : Vec ℕ Global) → Consumes a b head.items → head.len ≤ most_taken → ConsumesUpTo (most_taken - head.len) b c → TakesTrace a c
takes_then a b c head before le t =
    (head.items ++ t.0, Consumes-trans a b c head.items t.0 before t.1, λ e. omega (arith, t.2, le, length-append head.items t.0, head.ok.0))

pub takes_all : (a b : Option (List ℕ)) (text : List ℕ) → Consumes a b text → length text ≤ most_taken → TakesTrace a b
takes_all a b text t le = (text, t, λ e. le)

-- ---- a text of version 1 or 2

pub reads_whole : (a b : Option (List ℕ)) (text : Vec ℕ Global) (t : Recording) → TakesText a b (Whole text) → length text.items ≤ longest → SpellsRecording false text.items t → ReadsTrace a b t
reads_whole a b text t took le is =
    record { text = text.items; taken = took.0; ended = took.2 le; spelled = subst (λ (v : Bool). SpellsRecording v text.items t) (sym took.1) is }

pub refuses_whole : (a b : Option (List ℕ)) (text : Vec ℕ Global) (f : TraceFault) → TakesText a b (Whole text) → (f ≡ fault Memory 0) ⊎ IsRefusal text.items f → (f ≡ fault Memory 0) ⊎ ReadsNoTrace a b f
refuses_whole a b text f took (inl memory) = inl memory
refuses_whole a b text f took (inr refused) = inr (record {
  text = text.items;
  taken = took.0;
  enough = subst (λ (v : Bool). IsEnough v text.items f b) (sym took.1) took.2;
  refused = subst (λ (v : Bool). IsFaultOf v text.items f) (sym took.1) refused;
})

-- ---- a text of version 3

pub takes_stream : (a b c : Option (List ℕ)) (head : Vec ℕ Global) → TakesText a b (Head head) → Takes b c → TakesTrace a c
takes_stream a b c head took t =
    (head.items ++ t.0, Consumes-trans a b c head.items t.0 took.0 t.1, λ e. absurd (cc (took.1 t.0)))

pub reads_stream : (a b c : Option (List ℕ)) (head : Vec ℕ Global) (t : Recording) → TakesText a b (Head head) → ReadsAll head.items b c (λ text. SpellsRecording true text t) → ReadsTrace a c t
reads_stream a b c head t took all = record {
  text = head.items ++ all.more;
  taken = Consumes-trans a b c head.items all.more took.0 all.taken;
  ended = all.ended;
  spelled = subst (λ (v : Bool). SpellsRecording v (head.items ++ all.more) t) (sym (took.1 all.more)) all.is;
}

no_trace : (a b c : Option (List ℕ)) (head : Vec ℕ Global) (f : TraceFault) → TakesText a b (Head head) → Tells head.items b c (stream_fault.Trace f) → (f ≡ fault Memory 0) ⊎ ReadsNoTrace a c f
no_trace a b c head f took (inl memory) = inl memory
no_trace a b c head f took (inr is) =
    let text = head.items ++ is.more in
    let three : true ≡ has_version_3 text = sym (took.1 is.more) in
    inr (record {
      text = text;
      taken = Consumes-trans a b c head.items is.more took.0 is.taken;
      enough = subst (λ (v : Bool). IsEnough v text f c) three (is.ended, is.stays);
      refused = subst (λ (v : Bool). IsFaultOf v text f) three is.is;
    })

-- what a fault of a stream tells, where a fault of a trace tells what a whole text does
pub stream_tells : (P : RunFault → Type 0) (a b c : Option (List ℕ)) (head : Vec ℕ Global) (e : RunFault) → TakesText a b (Head head) → ((f : TraceFault) → (f ≡ fault Memory 0) ⊎ ReadsNoTrace a c f → P (Trace f)) → P Read → TellsOfStream head.items b c e → P e
stream_tells P a b c head e took refused failed (stream_fault.Read, told, is) = subst P (sym is) failed
stream_tells P a b c head e took refused failed (stream_fault.Trace f, told, is) = subst P (sym is) (refused f (no_trace a b c head f took told))

pub no_memory_tells : (ahead : List ℕ) (b c : Option (List ℕ)) (f : TraceFault) → f ≡ fault Memory 0 → TellsOfStream ahead b c (Trace f)
no_memory_tells ahead b c f is = (stream_fault.Trace f, inl is, refl)

-- what a fault of a whole text tells
pub whole_tells : (P : RunFault → Type 0) (a b : Option (List ℕ)) (text : Vec ℕ Global) (e : RunFault) → TakesText a b (Whole text) → ((f : TraceFault) → (f ≡ fault Memory 0) ⊎ ReadsNoTrace a b f → P (Trace f)) → TellsOfText text.items e → P e
whole_tells P a b text e took refused told = subst P (sym told.2) (refused told.0 (refuses_whole a b text told.0 took told.1))

-- ---- answers

pub answers_whole : (a b : Option (List ℕ)) (text : Vec ℕ Global) (answer : List ℕ) → TakesText a b (Whole text) → length text.items ≤ longest → IsAnswer false text.items answer → ReadsAnswer a b answer
answers_whole a b text answer took le is =
    record { text = text.items; taken = took.0; ended = took.2 le; is = subst (λ (v : Bool). IsAnswer v text.items answer) (sym took.1) is }

pub answers_stream : (a b c : Option (List ℕ)) (head : Vec ℕ Global) (answer : List ℕ) → TakesText a b (Head head) → ReadsAll head.items b c (λ text. IsAnswer true text answer) → ReadsAnswer a c answer
answers_stream a b c head answer took all = record {
  text = head.items ++ all.more;
  taken = Consumes-trans a b c head.items all.more took.0 all.taken;
  ended = all.ended;
  is = subst (λ (v : Bool). IsAnswer v (head.items ++ all.more) answer) (sym (took.1 all.more)) all.is;
}

pub answers_tally : (ahead : List ℕ) (b c : Option (List ℕ)) (tally : Tally) (answer : List ℕ) → ReadsAll ahead b c (HasTally tally) → answer ≡ ok_line tally.places tally.rings → ReadsAll ahead b c (λ text. IsAnswer true text answer)
answers_tally ahead b c tally answer all is =
    let t = all.is.0 in
    let counted = all.is.2 in
    let line : answer ≡ ok_line (tallies.places t.records) (tallies.rings t.records) =
    is ∙ ap (λ (n : ℕ). ok_line n tally.rings) counted.places_are ∙ ap (λ (n : ℕ). ok_line (tallies.places t.records) n) counted.rings_are in
    record { more = all.more; taken = all.taken; ended = all.ended; is = (t, all.is.1, line) }
