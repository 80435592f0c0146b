-- The replies of the sequential run, one per place, and its report.
use Rattle.std.proofs.Common.{◌≡◌, ℕ, zero, suc, ◌≤◌, Bool, List, [], ◌∷◌, length, Some, refl, ap, ◌∙◌, arith, inl, inr, length-append}
use Rattle.std.proofs.lemmas.Option.{slice_get_cases}
use Rattle.sqe_codec.specs.Answers.{each}
use Rattle.recording.specs.declared.recording.Recording.{Recording}
use Rattle.recording.specs.Steps.{Step, steps, places, step_at}
use Rattle.world_parts.specs.World.{World}
use Rattle.op_meaning.specs.declared.reply.Reply.{Reply}
use Rattle.op_meaning.specs.Step.{step_reply, run_world, run_replies, sequential_reply, sequential_world, sequential_replies}
use Rattle.replay_report.specs.Report.{report_of}
use Rattle.replay_report.specs.declared.showing.Shown.{Shown}
use Rattle.std.specs.Prelude.{Option}
use Rattle.replay_core.specs.declared.difference.Verdict.{Verdict}
use Rattle.replay_core.specs.declared.difference.Verdict.TheVariants as verdict
use Rattle.replay_program.specs.Runs.{ReadsTrace, WritesPart, sequential_report, verdict_line}
use Rattle.byte_transfer.specs.Transfer.{AppendsPart}
use Rattle.json_lines.specs.declared.form.Form.{Form}
use Rattle.program_words.specs.declared.words.Options.{Options}
use Rattle.program_words.specs.declared.words.Mode.TheVariants.{Compare}

-- a place has one reply
one_reply : (t : Recording) (k : ℕ) (s : World) (x : Step) → step_at t k ≡ Some x → length (each (λ (reply : Reply). reply ∷ []) (step_reply t k s)) ≡ 1
one_reply t k s x e = rw e refl

pub length-run_replies : (t : Recording) (n : ℕ) → n ≤ places t → length (run_replies t n) ≡ n
length-run_replies t zero le = refl
length-run_replies t (suc n) le =
    let before = length-run_replies t n (omega arith) in
    elim ((slice_get_cases (steps t) n).1) [
      | inl here ↦
          let one = one_reply t n (run_world t n) here.0 here.2 in
          omega (arith, length-append (run_replies t n) (each (λ (reply : Reply). reply ∷ []) (sequential_reply t n)), before, one)
      | inr past ↦ absurd (omega (arith, past.0))
    ]

pub length-replies : (t : Recording) (replies : List Reply) → replies ≡ sequential_replies t → length replies ≡ places t
length-replies t replies e = ap length e ∙ length-run_replies t (places t) (omega arith)

-- the report of a replay that is the sequential run
pub sequential_text : (t : Recording) (s : World) (replies : List Reply) (shown : Shown) (text : List ℕ) → s ≡ sequential_world t → replies ≡ sequential_replies t
    → text ≡ report_of t s replies shown → text ≡ sequential_report t shown
sequential_text t s replies shown text world answers e = e ∙ ap (λ w. report_of t w replies shown) world ∙ ap (λ rs. report_of t (sequential_world t) rs shown) answers

-- the line of a comparison that went out in part
pub comparison_part : (options : Options) (form : Form) (left left' written written' : Option (List ℕ)) (t : Recording) (workers window : ℕ) (eager : Bool) (v : Verdict) → ReadsTrace left left' t → options.mode ≡ Compare workers window eager → v ≡ verdict.Equal
    → AppendsPart written written' (verdict_line v) → WritesPart options form left left' written written'
comparison_part options form left left' written written' t workers window eager v read mode equal part = record { t = t; output = verdict_line v; read = read; is = record { text = verdict_line v; is = rw mode (ap verdict_line equal); written = rw mode refl }; wrote = part }
