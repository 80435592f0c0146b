use Rattle.std.proofs.Common.{◌∙◌}
use Rattle.std.proofs.KnownBytes.{Keeps-refl}
use Rattle.replay_program.proofs.Answering.{whole, part, tells_answer, memory_no_write, memory_tells, memory_reads, memory_writes}
use Rattle.replay_program.proofs.Faults.{gives_nothing, not_by, by, reads, writes, adds_none}
use Rattle.replay_program.proofs.Outputs.{is_no_write, reads_well, writes_alone}
use Rattle.replay_program.proofs.checking.run_check.Goals as goal

pub returns-in_err-answer : goal.returns-in_err-answer
returns-in_err-answer g c =
    let e = c.in_err-answer.field-0.0 in
    let told = c.in_err-answer.ensures in
    let ended = c.from_residual.ensures.1 in
    record {
      done = gives_nothing _ e _ ended;
      part = not_by _ e _ ended (is_no_write e told.write);
      nothing = by _ _ e ended (λ no_write. Keeps-refl _);
      taken = told.taken;
      reading = by _ _ e ended told.err;
      read = reads _ e _ _ ended told.read;
      write = writes _ e _ _ ended (adds_none _ _ told.write);
    }

pub returns-in_err-text : goal.returns-in_err-text
returns-in_err-text g c =
    let e = c.in_err-text.field-0.0 in
    let memory = c.in_err-text.ensures.err in
    let ended = c.from_residual-in_err-text.ensures.1 in
    let read = c.in_ok-answer.ensures in
    record {
      done = gives_nothing _ e _ ended;
      part = not_by _ e _ ended (memory_no_write e memory);
      nothing = by _ _ e ended (λ no_write. Keeps-refl _);
      taken = read.taken;
      reading = by _ _ e ended (memory_tells _ _ e memory);
      read = reads _ e _ _ ended (memory_reads _ _ e memory read.read);
      write = writes _ e _ _ ended (adds_none _ _ (memory_writes e memory));
    }

pub returns-clause-done : goal.returns-clause-done
returns-clause-done g c =
    whole c.args.form _ _ _ _ c.in_ok-answer.answer.items _ _ c.in_ok-answer.ensures.ok (c.as_slice.ensures.value ∙ c.in_ok-text.ensures.ok) c.written.ensures.ok

pub returns-clause-part : goal.returns-clause-part
returns-clause-part g c =
    part c.args.form _ _ _ _ c.in_ok-answer.answer.items _ _ c.in_ok-answer.ensures.ok (c.as_slice.ensures.value ∙ c.in_ok-text.ensures.ok) c.written.ensures.part

pub returns-clause-nothing : goal.returns-clause-nothing
returns-clause-nothing g c = writes_alone _ _ c.written.ensures.err

pub returns-clause-reading : goal.returns-clause-reading
returns-clause-reading g c = tells_answer _ _ c.in_ok-answer.answer.items _ c.in_ok-answer.ensures.ok c.written.ensures.err

pub returns-clause-read : goal.returns-clause-read
returns-clause-read g c = reads_well _ _ _ c.written.ensures.err c.in_ok-answer.ensures.read
