use Rattle.std.proofs.Common.{inl, subst}
use Rattle.std.proofs.KnownBytes.{Keeps-refl}
use Rattle.replay_program.proofs.Faults.{gives_nothing, not_by, by, reads, writes, adds_none}
use Rattle.replay_program.proofs.Outputs.{is_no_write, wants_no_write, wants_tells, wants_reads, wants_writes, tells_read, reads_well, writes_alone, whole, part}
use Rattle.replay_program.specs.Runs.{IsOutputOf}
use Rattle.replay_program.proofs.session.run_alone.Goals as goal

pub returns-in_err-trace : goal.returns-in_err-trace
returns-in_err-trace g c =
    let e = c.in_err-trace.field-0.0 in
    let told = c.in_err-trace.ensures in
    let ended = c.from_residual.ensures.1 in
    record {
      done = gives_nothing _ e _ ended;
      part = not_by _ e _ ended (is_no_write e told.write);
      nothing = by _ _ e ended (λ no_write. Keeps-refl _);
      taken = told.taken;
      reading = by _ _ e ended told.err;
      read = reads _ e _ _ ended told.read;
      write = writes _ e _ _ ended (adds_none _ _ told.write);
    }

pub returns-in_err-output : goal.returns-in_err-output
returns-in_err-output g c =
    let e = c.in_err-output.field-0.0 in
    let wants = c.in_err-output.ensures.err in
    let ended = c.from_residual-in_err-output.ensures.1 in
    let read = c.in_ok-trace.ensures in
    record {
      done = gives_nothing _ e _ ended;
      part = not_by _ e _ ended (wants_no_write e (inl wants));
      nothing = by _ _ e ended (λ no_write. Keeps-refl _);
      taken = read.taken;
      reading = by _ _ e ended (wants_tells _ _ c.in_ok-trace.trace.value e (inl wants) read.ok);
      read = reads _ e _ _ ended (wants_reads _ _ e (inl wants) read.read);
      write = writes _ e _ _ ended (adds_none _ _ (wants_writes e (inl wants)));
    }

pub returns-clause-done : goal.returns-clause-done
returns-clause-done g c =
    let t = c.in_ok-trace.trace.value in
    let told = subst (λ trace. IsOutputOf c.args.options.now c.args.form trace c.in_ok-output.output) c.deref.ensures c.in_ok-output.ensures.ok in
    whole c.args.options.now c.args.form _ _ _ _ t _ _ c.in_ok-trace.ensures.ok told c.written_pieces.ensures.ok

pub returns-clause-part : goal.returns-clause-part
returns-clause-part g c =
    let t = c.in_ok-trace.trace.value in
    let told = subst (λ trace. IsOutputOf c.args.options.now c.args.form trace c.in_ok-output.output) c.deref.ensures c.in_ok-output.ensures.ok in
    part c.args.options.now c.args.form _ _ _ _ t _ _ c.in_ok-trace.ensures.ok told c.written_pieces.ensures.part

pub returns-clause-nothing : goal.returns-clause-nothing
returns-clause-nothing g c = writes_alone _ _ c.written_pieces.ensures.err

pub returns-clause-reading : goal.returns-clause-reading
returns-clause-reading g c = tells_read _ _ c.in_ok-trace.trace.value _ c.in_ok-trace.ensures.ok c.written_pieces.ensures.err

pub returns-clause-read : goal.returns-clause-read
returns-clause-read g c = reads_well _ _ _ c.written_pieces.ensures.err c.in_ok-trace.ensures.read
