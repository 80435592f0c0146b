use Rattle.std.proofs.Common.{subst}
use Rattle.std.proofs.KnownBytes.{Keeps-refl}
use Rattle.replay_program.specs.Runs.{IsOutputOf}
use Rattle.replay_program.proofs.Faults.{gives_nothing, not_by, by, reads, writes, adds_none}
use Rattle.replay_program.proofs.Outputs.{is_no_write, is_no_difference, wants_no_write, wants_no_difference, wants_tells, wants_reads, wants_writes, whole, part, tells_read, reads_well, writes_alone, writes_no_difference}
use Rattle.replay_program.proofs.SessionLemmas.{comparison_part}
use Rattle.replay_program.proofs.Verdicts.{told_whole, told_nothing, told_reading, told_reads}
use Rattle.replay_program.proofs.session.run.Goals as goal

pub returns-in-Compare : goal.returns-in-Compare
returns-in-Compare g c =
    let t = c.in_ok-trace.trace.value in
    let read = c.in_ok-trace.ensures in
    let verdict = c.in_ok-verdict.verdict in
    let equal = c.in_ok-verdict.ensures.ok in
    let told = c.told.ensures in
    record {
      done = told_whole c.args.options.now c.args.form _ _ _ _ t c.in-Compare.workers c.in-Compare.window c.in-Compare.eager verdict _ read.ok c.in-Compare.is equal told.whole;
      part = λ failed. comparison_part c.args.options.now c.args.form _ _ _ _ t c.in-Compare.workers c.in-Compare.window c.in-Compare.eager verdict read.ok c.in-Compare.is equal (told.part failed);
      nothing = told_nothing _ _ _ told.memory told.nothing;
      taken = read.taken;
      reading = told_reading _ _ t _ read.ok (told.equal equal) told.memory;
      read = told_reads _ _ _ (told.equal equal) told.memory read.read;
      write = told.write;
      same = told.equal equal;
    }

pub returns-in_err-trace : goal.returns-in_err-trace
returns-in_err-trace g c =
    let e = c.in_err-trace.field-0.0 in
    let told = c.in_err-trace.ensures in
    let ended = c.from_residual.ensures.1 in
    record {
      done = gives_nothing _ e _ ended;
      part = not_by _ e _ ended (is_no_write e told.write);
      nothing = by _ _ e ended (λ no_write same. Keeps-refl _);
      taken = told.taken;
      reading = by _ _ e ended told.err;
      read = reads _ e _ _ ended told.read;
      write = writes _ e _ _ ended (adds_none _ _ told.write);
      same = not_by _ e _ ended (is_no_difference _ _ e told.err);
    }

pub returns-in_err-verdict : goal.returns-in_err-verdict
returns-in_err-verdict g c =
    let e = c.in_err-verdict.field-0.0 in
    let wants = c.in_err-verdict.ensures.err in
    let ended = c.from_residual-in_err-verdict.ensures.1 in
    let read = c.in_ok-trace.ensures in
    record {
      done = gives_nothing _ e _ ended;
      part = not_by _ e _ ended (wants_no_write e wants);
      nothing = by _ _ e ended (λ no_write same. Keeps-refl _);
      taken = read.taken;
      reading = by _ _ e ended (wants_tells _ _ c.in_ok-trace.trace.value e wants read.ok);
      read = reads _ e _ _ ended (wants_reads _ _ e wants read.read);
      write = writes _ e _ _ ended (adds_none _ _ (wants_writes e wants));
      same = not_by _ e _ ended (wants_no_difference e wants);
    }

pub returns-in_err-output : goal.returns-in_err-output
returns-in_err-output g c =
    let e = c.in_err-output.field-0.0 in
    let wants = c.in_err-output.ensures.err in
    let ended = c.from_residual-in_err-output.ensures.1 in
    let read = c.in_ok-trace.ensures in
    record {
      done = gives_nothing _ e _ ended;
      part = not_by _ e _ ended (wants_no_write e wants);
      nothing = by _ _ e ended (λ no_write same. Keeps-refl _);
      taken = read.taken;
      reading = by _ _ e ended (wants_tells _ _ c.in_ok-trace.trace.value e wants read.ok);
      read = reads _ e _ _ ended (wants_reads _ _ e wants read.read);
      write = writes _ e _ _ ended (adds_none _ _ (wants_writes e wants));
      same = not_by _ e _ ended (wants_no_difference e wants);
    }

pub returns : goal.returns
returns g c =
    let t = c.in_ok-trace.trace.value in
    let read = c.in_ok-trace.ensures.ok in
    let told = subst (λ trace. IsOutputOf c.args.options.now c.args.form trace c.in_ok-output.output) c.deref-2.ensures c.in_ok-output.ensures.ok in
    record {
      done = whole c.args.options.now c.args.form _ _ _ _ t _ _ read told c.written_pieces.ensures.ok;
      part = part c.args.options.now c.args.form _ _ _ _ t _ _ read told c.written_pieces.ensures.part;
      nothing = writes_alone _ _ c.written_pieces.ensures.err;
      taken = c.in_ok-trace.ensures.taken;
      reading = tells_read _ _ t _ read c.written_pieces.ensures.err;
      read = reads_well _ _ _ c.written_pieces.ensures.err c.in_ok-trace.ensures.read;
      write = c.written_pieces.ensures.write;
      same = writes_no_difference _ c.written_pieces.ensures.err;
    }
