use Rattle.std.proofs.Common.{Box, Global}
use Rattle.std.proofs.lemmas.Result.{IfErr-weaker, IfOk-weaker}
use Rattle.recording.specs.declared.recording.Recording.{Recording}
use Rattle.replay_program.specs.Runs.{TellsOfReading}
use Rattle.replay_program.proofs.Taking.{reads_stream, reads_whole, stream_tells, takes_stream, whole_tells}
use Rattle.replay_program.proofs.recordings.taken_recording.Goals as goal

pub returns-in-Head-clause-ok : goal.returns-in-Head-clause-ok
returns-in-Head-clause-ok g c =
    let took = rw c.in-Head.is at c.in_ok-head.ensures.ok in
    IfOk-weaker _ _ _ (λ (t : Box Recording Global) all. reads_stream _ _ _ c.in-Head.head t.value took all) c.recording_on.ensures.ok

pub returns-in-Head-clause-taken : goal.returns-in-Head-clause-taken
returns-in-Head-clause-taken g c = takes_stream _ _ _ c.in-Head.head (rw c.in-Head.is at c.in_ok-head.ensures.ok) c.recording_on.ensures.taken

pub returns-in-Head-clause-err : goal.returns-in-Head-clause-err
returns-in-Head-clause-err g c =
    let took = rw c.in-Head.is at c.in_ok-head.ensures.ok in
    let tells = TellsOfReading (g.R.Source.left c.args.reader.now) (g.R.Source.left c.recording_on.new.reader) in
    IfErr-weaker _ _ tells (λ e told. stream_tells tells _ _ _ c.in-Head.head e took (λ f why. why) tt told) c.recording_on.ensures.err

pub returns-in-Whole-clause-ok : goal.returns-in-Whole-clause-ok
returns-in-Whole-clause-ok g c =
    let took = rw c.in-Whole.is at c.in_ok-head.ensures.ok in
    IfOk-weaker _ _ _ (λ (t : Box Recording Global) is. reads_whole _ _ c.in-Whole.text t.value took is.0 is.1) c.recording_of_whole.ensures.ok

pub returns-in-Whole-clause-err : goal.returns-in-Whole-clause-err
returns-in-Whole-clause-err g c =
    let took = rw c.in-Whole.is at c.in_ok-head.ensures.ok in
    let tells = TellsOfReading (g.R.Source.left c.args.reader.now) (g.R.Source.left c.taken_text.new.reader) in
    IfErr-weaker _ _ tells (λ e told. whole_tells tells _ _ c.in-Whole.text e took (λ f why. why) told) c.recording_of_whole.ensures.err
