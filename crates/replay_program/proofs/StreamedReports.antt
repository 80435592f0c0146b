-- What was written of a text, by its version.
use Rattle.std.proofs.Common.{◌≡◌, ◌≢◌, ◌∙◌, ◌⊎◌, ◌++◌, [], ℕ, Bool, true, false, List, Option, None, Some, Vec, Global, ap, sym, subst, inl, inr, refl, arith}
use Rattle.std.specs.Io.KnownBytes.{Appends, Consumes}
use Rattle.std.proofs.KnownBytes.{Appends-nil, Consumes-trans, Keeps-refl}
use Rattle.byte_transfer.specs.Transfer.{AppendsPart}
use Rattle.trace_format.specs.Grammar.{fault}
use Rattle.trace_format.specs.declared.fault.Kind.TheVariants as kind
use Rattle.json_lines.specs.Forms.{written_as}
use Rattle.json_lines.specs.declared.form.Form.{Form}
use Rattle.recording.specs.Growing.{of_records}
use Rattle.recording.specs.declared.recording.Recording.{Recording}
use Rattle.replay_report.specs.declared.showing.Shown.{Shown}
use Rattle.report_stream.specs.Written.{Writes, WritesReport, WritesSome, WritesUpTo}
use Rattle.report_stream.specs.declared.fault.ReportFault.{ReportFault}
use Rattle.report_stream.specs.declared.fault.ReportFault.TheVariants as streamed
use Rattle.replay_program.specs.Recordings.{has_version_3}
use Rattle.replay_program.specs.Runs.{IsModeOutput, IsNoComparison, IsOutputOf, ReadsTrace, TakesTrace, TellsOfReading, sequential_report}
use Rattle.replay_program.specs.Streaming.{IsStreamed, ReportUpTo, UpTo, WholeUpTo, WritesReportOf, WritesReportUpTo, report_told}
use Rattle.replay_program.specs.Taking.{IsReportOf, TakesText, TellsOfReport}
use Rattle.replay_program.specs.declared.fault.RunFault.{RunFault}
use Rattle.replay_program.specs.declared.fault.RunFault.TheVariants.{Trace, Read, Write}
use Rattle.program_words.specs.declared.words.Options.{Options}
use Rattle.program_words.specs.declared.words.Mode.{Mode}
use Rattle.program_words.specs.declared.words.Mode.TheVariants.{Serial, Run, Compare, Rounds, Depends, Check}
use Rattle.replay_program.specs.declared.recordings.Taken.TheVariants.{Head, Whole}
use Rattle.replay_program.proofs.JsonPieces.{form_kept}
use Rattle.replay_program.proofs.Outputs.{wants_no_write, wants_tells}
use Rattle.replay_program.proofs.Taking.{reads_stream, reads_whole, refuses_whole}

-- ---- the modes whose report is written as it comes

pub is_no_comparison : (m : Mode) → IsStreamed m → IsNoComparison m
is_no_comparison Serial is = tt
is_no_comparison (Run workers window eager) is = tt
is_no_comparison (Compare workers window eager) is = absurd is
is_no_comparison (Rounds window dot) is = absurd is
is_no_comparison (Depends dot) is = absurd is
is_no_comparison Check is = absurd is

is_report : (m : Mode) (shown : Shown) (t : Recording) (output : List ℕ) → IsStreamed m → IsModeOutput m shown t output → output ≡ sequential_report t shown
is_report Serial shown t output is gives = gives
is_report (Run workers window eager) shown t output is gives = gives
is_report (Compare workers window eager) shown t output is gives = absurd is
is_report (Rounds window dot) shown t output is gives = absurd is
is_report (Depends dot) shown t output is gives = absurd is
is_report Check shown t output is gives = absurd is

pub report_as : (options : Options) (form : Form) (t : Recording) (output : List ℕ) → IsStreamed options.mode → IsOutputOf options form t output → output ≡ written_as form (sequential_report t options.shown)
report_as options form t output is gives =
    gives.written ∙ ap (λ (f : Form). written_as f gives.text) (form_kept options.mode form (is_no_comparison options.mode is))
    ∙ ap (written_as form) (is_report options.mode options.shown t gives.text is gives.is)

-- ---- a text of version 1 or 2

up_to_whole : (may : Bool) (shown : Shown) (form : Form) (a b w v : Option (List ℕ)) (text : Vec ℕ Global) (f : RunFault) → TakesText a b (Whole text) → WholeUpTo shown form a b w v f → ReportUpTo may shown form a b w v f
up_to_whole may shown form a b w v text f took is =
    record { text = text.items; taken = took.0; is = subst (λ (three : Bool). UpTo three may shown form a b w v f) (sym took.1) is }

nothing_written : (shown : Shown) (form : Form) (a b w : Option (List ℕ)) (f : RunFault) → (f ≢ Write) → TellsOfReading a b f → WholeUpTo shown form a b w w f
nothing_written shown form a b w f other told = record { told = told; nothing = λ no. Keeps-refl w; part = λ is. absurd (other is) }

pub whole_fails : (may : Bool) (shown : Shown) (form : Form) (a b w : Option (List ℕ)) (text : Vec ℕ Global) (f : RunFault) → TakesText a b (Whole text) → TellsOfReport text.items f → ReportUpTo may shown form a b w w f
whole_fails may shown form a b w text f took (inl told) =
    subst (ReportUpTo may shown form a b w w) (sym told.2) (up_to_whole may shown form a b w w text (Trace told.0) took (nothing_written shown form a b w (Trace told.0) (λ e. absurd (cc)) (refuses_whole a b text told.0 took told.1)))
whole_fails may shown form a b w text f took (inr wants) =
    let t = wants.1.0 in
    let read = reads_whole a b text t took wants.1.1 wants.1.2 in
    up_to_whole may shown form a b w w text f took (record { told = wants_tells a b t f wants.0 read; nothing = λ other. Keeps-refl w; part = λ is. wants_no_write f wants.0 is })

pub whole_done : (shown : Shown) (form : Form) (a b w v : Option (List ℕ)) (text : Vec ℕ Global) (report : List ℕ) → TakesText a b (Whole text) → IsReportOf text.items shown form report → Appends w v report → WritesReportOf shown form a b w v
whole_done shown form a b w v text report took is wrote = record { t = is.0; read = reads_whole a b text is.0 took is.1 is.2; wrote = subst (Appends w v) is.3 wrote }

pub whole_part : (may : Bool) (shown : Shown) (form : Form) (a b w v : Option (List ℕ)) (text : Vec ℕ Global) (report : List ℕ) (f : RunFault) → f ≡ Write → TakesText a b (Whole text) → IsReportOf text.items shown form report → AppendsPart w v report
    → ReportUpTo may shown form a b w v f
whole_part may shown form a b w v text report f write took is part =
    let read : ReadsTrace a b is.0 = reads_whole a b text is.0 took is.1 is.2 in
    subst (ReportUpTo may shown form a b w v) (sym write) (up_to_whole may shown form a b w v text Write took (record {
      told = (is.0, read);
      nothing = λ other. absurd (other refl);
      part = λ e. record { t = is.0; read = read; wrote = subst (AppendsPart w v) is.3 part };
    }))

-- ---- a text of version 3

whole_stream : (shown : Shown) (form : Form) (a b c w v : Option (List ℕ)) (head : Vec ℕ Global) → TakesText a b (Head head) → WritesReport head.items shown form b c w v → WritesReportOf shown form a c w v
whole_stream shown form a b c w v head took wrote =
    let t = of_records wrote.is.0 in
    record { t = t; read = reads_stream a b c head t took (record { more = wrote.more; taken = wrote.taken; ended = wrote.ended; is = (wrote.is.0, wrote.is.1, refl) }); wrote = wrote.is.2 }

pub stream_done : (cut : Option ℕ) (shown : Shown) (form : Form) (a b c w v : Option (List ℕ)) (head : Vec ℕ Global) → TakesText a b (Head head) → Writes cut head.items shown form b c w v → WritesReportUpTo cut shown form a c w v
stream_done None shown form a b c w v head took wrote = whole_stream shown form a b c w v head took wrote
stream_done (Some at) shown form a b c w v head took wrote =
    record { more = head.items ++ wrote.more; taken = Consumes-trans a b c head.items wrote.more took.0 wrote.taken; ended = wrote.ended; is = wrote.is }

up_to_stream : (may : Bool) (shown : Shown) (form : Form) (a c w v : Option (List ℕ)) (text : List ℕ) (e : ReportFault) → has_version_3 text ≡ true → Consumes a c text → WritesUpTo may [] shown form a c w v e → ReportUpTo may shown form a c w v (report_told e)
up_to_stream may shown form a c w v text e three taken wrote =
    record { text = text; taken = taken; is = subst (λ (v3 : Bool). UpTo v3 may shown form a c w v (report_told e)) (sym three) (record { e = e; told = refl; wrote = wrote }) }

abbrev some_stream : (may : Bool) (shown : Shown) (form : Form) (a b c w v : Option (List ℕ)) (head : Vec ℕ Global) → TakesText a b (Head head) → WritesSome may head.items shown form b c w v → WritesSome may [] shown form a c w v
some_stream may shown form a b c w v head took wrote =
    record { more = head.items ++ wrote.more; taken = Consumes-trans a b c head.items wrote.more took.0 wrote.taken; text = wrote.text; told = wrote.told; wrote = wrote.wrote }

pub stream_fails : (may : Bool) (shown : Shown) (form : Form) (a b c w v : Option (List ℕ)) (head : Vec ℕ Global) (e : ReportFault) → TakesText a b (Head head) → WritesUpTo may head.items shown form b c w v e → ReportUpTo may shown form a c w v (report_told e)
stream_fails may shown form a b c w v head (streamed.Trace f) took before =
    let taken = Consumes-trans a b c head.items before.more took.0 before.taken in
    up_to_stream may shown form a c w v (head.items ++ before.more) (streamed.Trace f) (took.1 before.more) taken (record { more = head.items ++ before.more; taken = taken; ended = before.ended; wrote = before.wrote })
stream_fails may shown form a b c w v head streamed.Memory took some =
    let on = some_stream may shown form a b c w v head took some in up_to_stream may shown form a c w v on.more streamed.Memory (took.1 some.more) on.taken on
stream_fails may shown form a b c w v head streamed.Read took some =
    let on = some_stream may shown form a b c w v head took some in up_to_stream may shown form a c w v on.more streamed.Read (took.1 some.more) on.taken on
stream_fails may shown form a b c w v head streamed.Write took some =
    let on = some_stream may shown form a b c w v head took some in up_to_stream may shown form a c w v on.more streamed.Write (took.1 some.more) on.taken on

-- ---- before the version is known

none_some : (may : Bool) (shown : Shown) (form : Form) (a b w : Option (List ℕ)) (text : List ℕ) → Consumes a b text → WritesSome may [] shown form a b w w
none_some may shown form a b w text taken = record { more = text; taken = taken; text = []; told = inl refl; wrote = (0, omega arith, Appends-nil w) }

memory_early : (may : Bool) (shown : Shown) (form : Form) (a b w : Option (List ℕ)) (text : List ℕ) → Consumes a b text → (v3 : Bool) → UpTo v3 may shown form a b w w (Trace (fault kind.Memory 0))
memory_early may shown form a b w text taken true = record { e = streamed.Memory; told = refl; wrote = none_some may shown form a b w text taken }
memory_early may shown form a b w text taken false = nothing_written shown form a b w (Trace (fault kind.Memory 0)) (λ e. absurd (cc)) (inl refl)

read_early : (may : Bool) (shown : Shown) (form : Form) (a b w : Option (List ℕ)) (text : List ℕ) → Consumes a b text → (v3 : Bool) → UpTo v3 may shown form a b w w Read
read_early may shown form a b w text taken true = record { e = streamed.Read; told = refl; wrote = none_some may shown form a b w text taken }
read_early may shown form a b w text taken false = nothing_written shown form a b w Read (λ e. absurd (cc)) tt

pub early_fails : (may : Bool) (shown : Shown) (form : Form) (a b w : Option (List ℕ)) (f : RunFault) → TakesTrace a b → (f ≡ Trace (fault kind.Memory 0)) ⊎ (f ≡ Read) → ReportUpTo may shown form a b w w f
early_fails may shown form a b w f takes (inl memory) =
    record { text = takes.0; taken = takes.1; is = subst (UpTo (has_version_3 takes.0) may shown form a b w w) (sym memory) (memory_early may shown form a b w takes.0 takes.1 (has_version_3 takes.0)) }
early_fails may shown form a b w f takes (inr read) =
    record { text = takes.0; taken = takes.1; is = subst (UpTo (has_version_3 takes.0) may shown form a b w w) (sym read) (read_early may shown form a b w takes.0 takes.1 (has_version_3 takes.0)) }
