use Rattle.std.proofs.Common.{◌++◌, ℕ, IfOk, sym, subst}
use Rattle.replay_stream.specs.Replayed.{HasRun, HasRunNext}
use Rattle.replay_stream.specs.declared.replaying.Replaying.{Replaying}
use Rattle.report_stream.specs.Steps.{StopsAt, UnderWay}
use Rattle.report_stream.specs.Written.{WritesUpTo}
use Rattle.report_stream.proofs.Turns.{at_end, before_lines, goes_on, let_on, may_run, memory_out, next_front, not_told, ran_last, stays, stopped_if, fails_if, told_out}
use Rattle.report_stream.proofs.turn.take_turn.Goals as goal

pub returns-in-Err-clause-ok : goal.returns-in-Err-clause-ok
returns-in-Err-clause-ok g c = λ ahead a w h.
    stopped_if ahead a _ w _ c.args.pending.now.stream c.args.replaying.value c.args.pending.now.text.items c.args.asked.shown c.args.asked.form h c.stopped.result _ _ c.in-Err.fault _ _ c.in-Err.ensures.err
    (subst (λ (at : ℕ). IfOk c.stopped.result (StopsAt c.args.replaying.value at c.in-Err.fault)) c.place-at.ensures c.stopped.ensures.ok)

pub returns-in-Err-clause-err : goal.returns-in-Err-clause-err
returns-in-Err-clause-err g c = λ ahead a w h may.
    fails_if ahead a _ w _ c.args.pending.now.stream c.args.replaying.value c.args.pending.now.text.items c.args.asked.shown c.args.asked.form h c.stopped.result may _ _ c.in-Err.fault c.in-Err.ensures.err c.stopped.ensures.err

pub returns-in_default-clause-ok : goal.returns-in_default-clause-ok
returns-in_default-clause-ok g c = λ ahead a w h.
    at_end ahead a _ w _ c.args.pending.now.stream c.args.replaying.value c.args.pending.now.text.items c.args.asked.shown c.args.asked.form h _ _ c.next_record-found.new.stream _ (rw c.in_default.is at c.in-Ok.ensures.ok) c.in-Ok.ensures.moves

pub run_next-requires : goal.run_next-requires
run_next-requires g c =
    let u = c.requires.under_way in
    may_run u.ahead u.left_first _ u.written_first _ c.args.pending.now.stream c.args.replaying.value c.args.pending.now.text.items c.args.asked.shown c.args.asked.form u.is _ c.next_record-found.new.stream c.in-Some.next (rw c.in-Some.is at c.in-Ok.ensures.ok)

pub returns-in_err-replaying-clause-err : goal.returns-in_err-replaying-clause-err
returns-in_err-replaying-clause-err g c = λ ahead a w h may.
    memory_out _ may ahead a _ w _ c.args.asked.shown c.args.asked.form c.from_residual.ensures.1
    (stays ahead a _ w _ c.args.pending.now.stream c.args.replaying.value c.args.pending.now.text.items c.args.asked.shown c.args.asked.form h may _ _ c.next_record-found.new.text.items c.in-Ok.ensures.taken c.in-Ok.ensures.moves)

pub tell-requires-clause-ran : goal.tell-requires-clause-ran
tell-requires-clause-ran g c =
    let u = c.requires.under_way in
    let h = u.is in
    let gives = rw c.in-Some.is at c.in-Ok.ensures.ok in
    let front = next_front u.ahead u.left_first _ u.written_first _ c.args.pending.now.stream c.args.replaying.value c.args.pending.now.text.items c.args.asked.shown c.args.asked.form h _ c.next_record-found.new.stream c.in-Some.next gives in
    ran_last h.start h.rs c.in-Some.next c.in_ok-replaying.replaying.value c.deref.result.now c.deref.ensures (c.in_ok-replaying.ensures h.start h.rs h.run front)

pub returns-in_err-tell-clause-err : goal.returns-in_err-tell-clause-err
returns-in_err-tell-clause-err g c = λ ahead a w h may.
    let s = c.args.pending.now.stream in
    let p = c.args.replaying.value in
    let text = c.args.pending.now.text.items in
    let shown = c.args.asked.shown in
    let form = c.args.asked.form in
    let next = c.in-Some.next in
    let q = c.deref.result.now in
    let e = c.in_err-tell.field-0.0 in
    let left' = g.R.Source.left c.next_record-found.new.reader in
    let written' = g.W.Sink.written c.tell.new.writer in
    let gives = rw c.in-Some.is at c.in-Ok.ensures.ok in
    let moves = c.in-Ok.ensures.moves in
    let front = next_front ahead a _ w _ s p text shown form h _ c.next_record-found.new.stream next gives in
    let ran : HasRunNext h.start h.rs next q = subst (HasRunNext h.start h.rs next) (sym c.deref.ensures) (c.in_ok-replaying.ensures h.start h.rs h.run front) in
    let before = before_lines ahead a _ w _ s p text shown form h _ next q c.next_record-found.new.text.items moves ran in
    told_out _ e (WritesUpTo may ahead shown form a left' w written') c.from_residual-in_err-tell.ensures.1
    (not_told ahead a _ w _ s p text shown form h _ _ _ c.next_record-found.new.stream next q c.next_record-found.new.text.items c.tell.new.text.items e gives c.in-Ok.ensures.taken moves ran
    (c.in_err-tell.ensures.ok h.start h.rs next (h.out ++ moves.0) ran before) may)

pub returns-clause-ok : goal.returns-clause-ok
returns-clause-ok g c = λ ahead a w h.
    let s = c.args.pending.now.stream in
    let p = c.args.replaying.value in
    let text = c.args.pending.now.text.items in
    let shown = c.args.asked.shown in
    let form = c.args.asked.form in
    let next = c.in-Some.next in
    let q = c.deref.result.now in
    let left' = g.R.Source.left c.next_record-found.new.reader in
    let written' = g.W.Sink.written c.tell.new.writer in
    let gives = rw c.in-Some.is at c.in-Ok.ensures.ok in
    let moves = c.in-Ok.ensures.moves in
    let front = next_front ahead a _ w _ s p text shown form h _ c.next_record-found.new.stream next gives in
    let ran : HasRunNext h.start h.rs next q = subst (HasRunNext h.start h.rs next) (sym c.deref.ensures) (c.in_ok-replaying.ensures h.start h.rs h.run front) in
    let before = before_lines ahead a _ w _ s p text shown form h _ next q c.next_record-found.new.text.items moves ran in
    let told = subst (λ (r : Replaying). UnderWay ahead a left' w written' c.next_record-found.new.stream r c.tell.new.text.items shown form) c.deref.ensures
    (goes_on ahead a _ w _ s p text shown form h _ _ _ c.next_record-found.new.stream next q c.next_record-found.new.text.items c.tell.new.text.items gives moves ran
    (c.in_ok-tell.ensures.ok h.start h.rs next (h.out ++ moves.0) ran before)) in
    let_on ahead a left' w written' c.next_record-found.new.stream c.in_ok-replaying.replaying.value c.let_go.new.self c.tell.new.text.items shown form told
    (λ start rs run. c.let_go.ensures start rs (subst (HasRun start rs) (sym c.deref_mut.ensures.value) run))
