use Rattle.std.proofs.Common.{inl, ap, ◌∙◌}
use Rattle.std.proofs.KnownBytes.{Keeps-refl}
use Rattle.replay_program.proofs.Faults.{gives_nothing, not_by, by, reads, writes, adds_none}
use Rattle.replay_program.proofs.Outputs.{is_no_write, wants_no_write, wants_reads, wants_writes, reads_well, writes_alone}
use Rattle.replay_program.proofs.TextWrites.{whole, part, tells_read, wants_tells}
use Rattle.replay_program.specs.Shows.{text_of}
use Rattle.replay_program.proofs.showing.run_show.Goals as goal

pub returns-in_err-trace : goal.returns-in_err-trace
returns-in_err-trace g c =
    let e = c.in_err-trace.field-0.0 in
    let told = c.in_err-trace.ensures in
    let ended = c.from_residual.ensures.1 in
    record {
      done = gives_nothing _ e _ ended;
      part = not_by _ e _ ended (is_no_write e told.write);
      nothing = by _ _ e ended (λ no_write. Keeps-refl _);
      taken = told.taken;
      reading = by _ _ e ended told.err;
      read = reads _ e _ _ ended told.read;
      write = writes _ e _ _ ended (adds_none _ _ told.write);
    }

pub returns-in_err-text : goal.returns-in_err-text
returns-in_err-text g c =
    let e = c.in_err-text.field-0.0 in
    let wants = c.in_err-text.ensures.err in
    let ended = c.from_residual-in_err-text.ensures.1 in
    let read = c.in_ok-trace.ensures in
    record {
      done = gives_nothing _ e _ ended;
      part = not_by _ e _ ended (wants_no_write e (inl wants));
      nothing = by _ _ e ended (λ no_write. Keeps-refl _);
      taken = read.taken;
      reading = by _ _ e ended (wants_tells _ _ c.in_ok-trace.trace.value e (inl wants) read.ok);
      read = reads _ e _ _ ended (wants_reads _ _ e (inl wants) read.read);
      write = writes _ e _ _ ended (adds_none _ _ (wants_writes e (inl wants)));
    }

pub returns-clause-done : goal.returns-clause-done
returns-clause-done g c =
    let t = c.in_ok-trace.trace.value in
    let bytes = c.as_slice.ensures.value ∙ c.in_ok-text.ensures.ok ∙ ap (text_of c.args.look) c.deref.ensures in
    whole c.args.look _ _ _ _ t _ _ c.in_ok-trace.ensures.ok bytes c.written.ensures.ok

pub returns-clause-part : goal.returns-clause-part
returns-clause-part g c =
    let t = c.in_ok-trace.trace.value in
    let bytes = c.as_slice.ensures.value ∙ c.in_ok-text.ensures.ok ∙ ap (text_of c.args.look) c.deref.ensures in
    part c.args.look _ _ _ _ t _ _ c.in_ok-trace.ensures.ok bytes c.written.ensures.part

pub returns-clause-nothing : goal.returns-clause-nothing
returns-clause-nothing g c = writes_alone _ _ c.written.ensures.err

pub returns-clause-reading : goal.returns-clause-reading
returns-clause-reading g c = tells_read _ _ c.in_ok-trace.trace.value _ c.in_ok-trace.ensures.ok c.written.ensures.err

pub returns-clause-read : goal.returns-clause-read
returns-clause-read g c = reads_well _ _ _ c.written.ensures.err c.in_ok-trace.ensures.read
