use Rattle.std.proofs.Common.{ℕ, Vec, Global}
use Rattle.std.proofs.lemmas.Result.{IfErr-weaker, IfOk-weaker}
use Rattle.replay_program.specs.Checks.{TellsOfCheck}
use Rattle.replay_program.proofs.Taking.{answers_stream, answers_whole, stream_tells, takes_stream, whole_tells}
use Rattle.replay_program.proofs.checking.taken_answer.Goals as goal

pub returns-in-Head-clause-ok : goal.returns-in-Head-clause-ok
returns-in-Head-clause-ok g c =
    let took = rw c.in-Head.is at c.in_ok-head.ensures.ok in
    IfOk-weaker _ _ _ (λ (t : Vec ℕ Global) all. answers_stream _ _ _ c.in-Head.head t.items took all) c.answer_on.ensures.ok

pub returns-in-Head-clause-taken : goal.returns-in-Head-clause-taken
returns-in-Head-clause-taken g c = takes_stream _ _ _ c.in-Head.head (rw c.in-Head.is at c.in_ok-head.ensures.ok) c.answer_on.ensures.taken

pub returns-in-Head-clause-err : goal.returns-in-Head-clause-err
returns-in-Head-clause-err g c =
    let took = rw c.in-Head.is at c.in_ok-head.ensures.ok in
    let tells = TellsOfCheck (g.R.Source.left c.args.reader.now) (g.R.Source.left c.answer_on.new.reader) in
    IfErr-weaker _ _ tells (λ e told. stream_tells tells _ _ _ c.in-Head.head e took (λ f why. why) tt told) c.answer_on.ensures.err

pub returns-in-Whole-clause-ok : goal.returns-in-Whole-clause-ok
returns-in-Whole-clause-ok g c =
    let took = rw c.in-Whole.is at c.in_ok-head.ensures.ok in
    IfOk-weaker _ _ _ (λ (t : Vec ℕ Global) is. answers_whole _ _ c.in-Whole.text t.items took is.0 is.1) c.answer_of_whole.ensures.ok

pub returns-in-Whole-clause-err : goal.returns-in-Whole-clause-err
returns-in-Whole-clause-err g c =
    let took = rw c.in-Whole.is at c.in_ok-head.ensures.ok in
    let tells = TellsOfCheck (g.R.Source.left c.args.reader.now) (g.R.Source.left c.taken_text.new.reader) in
    IfErr-weaker _ _ tells (λ e told. whole_tells tells _ _ c.in-Whole.text e took (λ f why. why) told) c.answer_of_whole.ensures.err
